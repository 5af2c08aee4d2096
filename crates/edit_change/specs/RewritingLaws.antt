-- What the laws of places and of rewriting speak of.
--     StandsThere                   A path of a payload is the place of a target (`StandsFor`), but not `.` for an insert after the target
--                                   itself.
--     IsUntouched                   No change inserts into a node at this path or below it, and none replaces an element below it.
--     is_at_depth                   Every path of `surroundings` has fewer slots than a number, and every path of `region` has at least as
--                                   many.
--     brought_text                  The text of the payload of a change.
--     filled_text, filled_text_from  The old text, with a text for each change in its gap or in place of the range that it replaces; the
--                                   same of children from a slot on.
--     text_filled                   The same where the top itself may be replaced.
--     changed_text                  `text_filled` with the payloads of the undropped changes; it is used where none of them is owned.
--
-- Deleting `R/1` and replacing `R/3` are both at depth 1. An insert after `R/1` is at depth 2, since `R/1` is one of
-- its surroundings.
use Rattle.std.specs.Prelude.{◌≡◌, ◌≢◌, ℕ, suc, nat_lt, Bool, ◌&&◌, not, false, cond, List, [], ◌∷◌, ◌++◌, length, map, flat_map}
use Rattle.std.specs.List.{list_all}
use Rattle.cst_core.specs.Path.{Path}
use Rattle.cst_core.specs.Tree.{Forest, Token, Node, end, more, SyntaxTree}
use Rattle.cst_core.specs.Element.{address, subtree}
use Rattle.cst_core.specs.SyntaxElement.{element_of}
use Rattle.cst_core.specs.declared.element.SyntaxElement.{SyntaxElement}
use Rattle.cst_core.specs.Green.{texts}
use Rattle.edit_map.specs.Mapping.{Mapping, StandsFor}
use Rattle.edit_change.specs.Aim.{AfterElement}
use Rattle.edit_change.specs.Rewriting.{NumberedAim, inserts_at, replacements_at, is_replaced, gap_order}
use Rattle.edit_change.specs.ChangeAim.{aim}
use Rattle.edit_change.specs.Nesting.{region, surroundings, undropped}
use Rattle.edit_change.specs.NewTree.{payload_of, change_aims}
use Rattle.edit_change.specs.declared.change.Change.{Change}

-- ---- places
abbrev pub StandsThere : Mapping → SyntaxElement → SyntaxElement → Change → Path → Type 0
StandsThere m target payload c p = StandsFor m (address (element_of payload)) p (address (element_of target)) × (p ≡ [] → aim c ≢ AfterElement (element_of target).path)

-- ---- untouched elements
pub record IsUntouched (cs : List NumberedAim) (p : Path) : Type 0 where
  pub no_inserts : (q : Path) (i : ℕ) → inserts_at cs (p ++ q) i ≡ []
  pub not_replaced : (q : Path) (i : ℕ) → is_replaced cs (p ++ q ++ i ∷ []) ≡ false

-- ---- changes of one depth
abbrev pub is_at_depth : ℕ → Change → Bool
is_at_depth depth c = list_all (λ p. nat_lt (length p) depth) (surroundings c) && list_all (λ p. not (nat_lt (length p) depth)) (region c)

-- ---- texts
abbrev pub brought_text : List Change → ℕ → List ℕ
brought_text changes c = texts (map subtree (payload_of changes c))

module _ (brought : ℕ → List ℕ) (cs : List NumberedAim) where
  abbrev gap_text : Path → ℕ → List ℕ
  gap_text p i = flat_map brought (gap_order (inserts_at cs p i))

  abbrev slot_text : Path → List ℕ → List ℕ
  slot_text p kept = cond (is_replaced cs p) (flat_map brought (replacements_at cs p)) kept

  abbrev mutual
    pub filled_text : Path → SyntaxTree → List ℕ
    filled_text p (Token k s) = s
    filled_text p (Node k f) = filled_text_from p 0 f

    -- gap i, slot i, and so on to the last gap
    pub filled_text_from : Path → ℕ → Forest ℕ → List ℕ
    filled_text_from p i end = gap_text p i
    filled_text_from p i (more t f) = gap_text p i ++ slot_text (p ++ i ∷ []) (filled_text (p ++ i ∷ []) t) ++ filled_text_from p (suc i) f

  abbrev pub text_filled : SyntaxTree → List ℕ
  text_filled t = slot_text [] (filled_text [] t)

-- every change aims in the tree itself: none is owned
abbrev pub changed_text : List Change → SyntaxTree → List ℕ
changed_text changes t = text_filled (brought_text changes) (change_aims (undropped changes)) t
