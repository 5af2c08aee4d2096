-- Document order of aims: a gap before its slot, and what is inside an element after what replaces it.
--     on_the_way                    a path, in which each slot s counts as 2s + 1
--     site                          where an aim stands: the way to its parent, then a gap g as 2g, a run of slots as its first one; the top as nothing, and after it, where there is no gap, what stands first inside
--     is_before                     one list of numbers is less than another one: less where they first differ, or at its end before that
--     stands_before                 of numbered aims, by their sites, and at one site by their numbers
--     InDocumentOrder               each stands before all that come after it
--     FitsSome                      a change fits some tree
--     AreSorted                     the aims of all changes of a list, in document order
--     StartsThere                   the change with this number replaces from a path on; no change does
--     aims_at                       the aims of the changes with these numbers
--     IsDocumentOrder               an order of all changes, in which their aims are in document order
use Rattle.std.specs.Prelude.{◌≡◌, ℕ, suc, ◌+◌, Bool, ◌&&◌, ◌||◌, true, false, nat_eq, nat_lt, ⊤, List, [], ◌∷◌, ◌++◌, length, map, filter_map, slice_get, Option, Some, None, option_map, All}
use Rattle.std.specs.List.{enumerate_from}
use Rattle.std.specs.List.Sorted.{IsPermutation}
use Rattle.green_tree.specs.Path.{Path, parent_path, last_slot, same_path, counted_from}
use Rattle.edit_change.specs.Aim.{Aim, FirstIn, AfterElement, Over, starts_at}
use Rattle.cst_core.specs.Element.{Element}
use Rattle.edit_change.specs.ChangeAim.{aim}
use Rattle.edit_change.specs.Fits.{Fits}
use Rattle.edit_change.specs.NewTree.{change_aims}
use Rattle.edit_change.specs.Rewriting.{NumberedAim}
use Rattle.edit_change.specs.declared.change.Change.{Change}

abbrev pub on_the_way : Path → List ℕ
on_the_way p = map (λ s. suc (s + s)) p

abbrev pub site : Aim → List ℕ
site (FirstIn p) = on_the_way p ++ 0 ∷ []
site (AfterElement []) = 0 ∷ []
site (AfterElement (i ∷ p)) = let gap = suc (last_slot (i ∷ p)) in on_the_way (parent_path (i ∷ p)) ++ (gap + gap) ∷ []
site (Over []) = []
site (Over (p ∷ ps)) = on_the_way p

abbrev pub is_before : List ℕ → List ℕ → Bool
is_before xs [] = false
is_before [] (y ∷ ys) = true
is_before (x ∷ xs) (y ∷ ys) = nat_lt x y || nat_eq x y && is_before xs ys

abbrev pub stands_before : NumberedAim → NumberedAim → Bool
stands_before c d = is_before (site c.1) (site d.1) || same_path (site c.1) (site d.1) && nat_lt c.0 d.0

abbrev pub InDocumentOrder : List NumberedAim → Type 0
InDocumentOrder [] = ⊤
InDocumentOrder (c ∷ cs) = All (λ d. stands_before c d ≡ true) cs × InDocumentOrder cs

-- ---- of changes
abbrev pub FitsSome : Change → Type 0
FitsSome c = (root : Element) × Fits root c

pub record AreSorted (cs : List Change) (aims : List NumberedAim) : Type 0 where
  pub each_once : IsPermutation (change_aims (enumerate_from 0 cs)) aims
  pub in_order : InDocumentOrder aims

abbrev pub StartsThere : List Change → Path → Option ℕ → Type 0
StartsThere cs p (Some n) = (c : Change) × (slice_get cs n ≡ Some c) × (starts_at p (aim c) ≡ true)
StartsThere cs p None = (n : ℕ) (c : Change) → slice_get cs n ≡ Some c → starts_at p (aim c) ≡ false

abbrev pub aims_at : List Change → List ℕ → List NumberedAim
aims_at cs ns = filter_map (λ n. option_map (λ c. (n, aim c)) (slice_get cs n)) ns

pub record IsDocumentOrder (cs : List Change) (order : List ℕ) : Type 0 where
  pub each_once : IsPermutation (counted_from 0 (length cs)) order
  pub in_order : InDocumentOrder (aims_at cs order)
