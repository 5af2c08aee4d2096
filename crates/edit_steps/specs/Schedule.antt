-- In which orders the changes may be carried out one at a time.
--     owned_first                   The first change must be carried out before the second, because the second owns it.
--     gap_first                     The first change must come before the second, because both insert into one gap and the first comes last
--                                   there. Each insert goes to the front of its gap.
--     token_first                   The first change must come before the second, because the first inserts after a token that the second
--                                   replaces.
--     last_in_gap, stands_last      Of two inserts into one gap, the one that comes last there by `gap_order`; the first of the two is that
--                                   one.
--     token_before, anchor_token    The path of the token that a position directly follows, if any; of the token that an insert directly
--                                   follows.
--     comes_first                   One of these three holds.
--     index_in, stands_before       The index of a number in an order, or the order's length if it is not there; the index of one number is
--                                   less than that of another.
--     ListsEachOnce                 An order has each undropped change once and nothing else.
--     respects                      Where a test puts one undropped change before another, the order does too.
--     IsAllowed                     An order `ListsEachOnce`, and respects `owned_first`, `gap_first` and `token_first`.
--     is_complete                   Every undropped change is done.
--     is_ready                      A change may be the next one: it is neither dropped nor done, and every change that comes first is
--                                   done.
--
-- Of two inserts into one gap, `x` recorded before `y`, the order 1 0 is allowed and 0 1 is not. An insert after a
-- deleted comma comes before the deletion.
use Rattle.edit_change.specs.Nesting.{Numbered, undropped, is_dropped, has_owner}
use Rattle.std.specs.Prelude.{◌≡◌, ℕ, Bool, false, not, ◌&&◌, ◌||◌, nat_eq, nat_lt, min, max, List, [], ◌∷◌, count_by, Option, Some, None, IsTrue}
use Rattle.std.specs.List.{list_all, position_or_len}
use Rattle.std.specs.Option.{option_map_or}
use Rattle.cst_core.specs.Path.{Path, last_item}
use Rattle.cst_core.specs.declared.element.SyntaxElement.TheVariants.{Token}
use Rattle.edit_change.specs.Aim.{same_gap, replaces}
use Rattle.edit_change.specs.ChangeAim.{aim}
use Rattle.edit_change.specs.Rewriting.{gap_order}
use Rattle.edit_change.specs.declared.position.Position.{Position}
use Rattle.edit_change.specs.PositionForm.{After}
use Rattle.edit_change.specs.declared.change.Change.{Change}
use Rattle.edit_change.specs.declared.change.Change.TheVariants.{Insert, InsertAll}

-- ---- what comes first
abbrev pub owned_first : List Change → Numbered → Numbered → Bool
owned_first cs c d = has_owner cs d.0 c.1

-- the change that stands last in a gap with these two inserts alone
abbrev pub last_in_gap : ℕ → ℕ → Option ℕ
last_in_gap c d = last_item (gap_order (min c d ∷ max c d ∷ []))

abbrev pub stands_last : ℕ → ℕ → Bool
stands_last c d = not (nat_eq c d) && option_map_or (nat_eq c) (last_in_gap c d) false

-- Each insert goes to the front of its gap, so the one that stands last there is carried out first.
abbrev pub gap_first : Numbered → Numbered → Bool
gap_first c d = same_gap (aim c.1) (aim d.1) && stands_last c.0 d.0

abbrev pub token_before : Position → Option Path
token_before (After (Token t)) = Some t.path
token_before _ = None

-- the token that an insert stands after
abbrev pub anchor_token : Change → Option Path
anchor_token (Insert at e) = token_before at
anchor_token (InsertAll at es) = token_before at
anchor_token _ = None

abbrev pub token_first : Numbered → Numbered → Bool
token_first c d = option_map_or (λ p. replaces p (aim d.1)) (anchor_token c.1) false

abbrev pub comes_first : List Change → Numbered → Numbered → Bool
comes_first cs c d = owned_first cs c d || gap_first c d || token_first c d

-- ---- orders
abbrev pub index_in : List ℕ → ℕ → ℕ
index_in order c = position_or_len (nat_eq c) order

abbrev pub stands_before : List ℕ → ℕ → ℕ → Bool
stands_before order c d = nat_lt (index_in order c) (index_in order d)

abbrev pub ListsEachOnce : List Change → List ℕ → Type 0
ListsEachOnce cs order = (n : ℕ) → count_by (nat_eq n) order ≡ count_by (λ c. nat_eq n c.0) (undropped cs)

abbrev pub respects : (Numbered → Numbered → Bool) → List Change → List ℕ → Bool
respects first cs order = list_all (λ c. list_all (λ d. not (first c d) || stands_before order c.0 d.0) (undropped cs)) (undropped cs)

pub record IsAllowed (cs : List Change) (order : List ℕ) : Type 0 where
  pub each_once : ListsEachOnce cs order
  pub owned_changes_first : IsTrue (respects (owned_first cs) cs order)
  pub gaps_in_order : IsTrue (respects gap_first cs order)
  pub tokens_last : IsTrue (respects token_first cs order)

-- ---- sets of changes that are done
abbrev pub is_complete : List Change → (ℕ → Bool) → Bool
is_complete cs done = list_all (λ c. done c.0) (undropped cs)

abbrev pub is_ready : List Change → (ℕ → Bool) → Numbered → Bool
is_ready cs done d = not (is_dropped cs d.1) && not (done d.0) && list_all (λ c. not (comes_first cs c d) || done c.0) (undropped cs)
