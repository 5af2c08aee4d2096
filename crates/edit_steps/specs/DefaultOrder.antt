-- The order in which changes are carried out where none is asked for: from the last in the document to the first.
--     gap_path, document_path       The path of the slot after a gap; the path of the slot after an insert's gap, or of the first element
--                                   that a replacement replaces.
--     fills_gap                     The change is an insert.
--     stands_ahead                  One change comes before another by `document_path`, in document order; at one path an insert comes
--                                   before a replacement.
--     default_first                 The second change is ahead of the first; or neither is ahead of the other, and the first comes last in
--                                   their gap.
--     IsDefaultOrder                An order `ListsEachOnce`, and respects `default_first`.
--
-- Of an insert before `R/1` and one before `R/4`, recorded in this order, the default order is 1 0.
use Rattle.std.specs.Prelude.{ℕ, suc, Bool, true, false, not, ◌&&◌, ◌||◌, List, [], ◌∷◌, ◌++◌, IsTrue}
use Rattle.cst_core.specs.Path.{Path, same_path, precedes, parent_path, last_slot}
use Rattle.cst_core.specs.SyntaxElement.{element_of}
use Rattle.edit_change.specs.ChangeAim.{aim_path}
use Rattle.edit_change.specs.declared.position.Position.{Position}
use Rattle.edit_change.specs.PositionForm.{FirstChild, After}
use Rattle.edit_change.specs.declared.change.Change.{Change}
use Rattle.edit_change.specs.declared.change.Change.TheVariants.{Insert, InsertAll}
use Rattle.edit_change.specs.Nesting.{Numbered}
use Rattle.edit_steps.specs.Schedule.{ListsEachOnce, respects, stands_last}

-- the gap after an element is that before the next slot
abbrev pub gap_path : Position → Path
gap_path (FirstChild n) = n.path ++ 0 ∷ []
gap_path (After e) = parent_path (element_of e).path ++ suc (last_slot (element_of e).path) ∷ []

abbrev pub document_path : Change → Path
document_path (Insert at e) = gap_path at
document_path (InsertAll at es) = gap_path at
document_path c = aim_path c

abbrev pub fills_gap : Change → Bool
fills_gap (Insert at e) = true
fills_gap (InsertAll at es) = true
fills_gap _ = false

abbrev pub stands_ahead : Change → Change → Bool
stands_ahead c d =
    precedes (document_path c) (document_path d)
    || (same_path (document_path c) (document_path d) && (fills_gap c && not (fills_gap d)))

abbrev pub default_first : Numbered → Numbered → Bool
default_first c d = stands_ahead d.1 c.1 || (not (stands_ahead c.1 d.1) && stands_last c.0 d.0)

pub record IsDefaultOrder (cs : List Change) (order : List ℕ) : Type 0 where
  pub each_once : ListsEachOnce cs order
  pub last_first : IsTrue (respects default_first cs order)
