-- How the turns of the default order compare.
--     shown_cmp, shown-total        the order of turns, by what they show
--     compares-shown                it is that of the values in code
--     default-less                  a change comes first in the default order exactly if its turn is the greater one
use Rattle.std.specs.Prelude.{◌≡◌, ℕ, Bool, true, false, not, ◌&&◌, ◌||◌, ◌==◌, cond, nat_lt, refl}
use Rattle.std.specs.Cmp.{IsTotalOrder, nat_cmp_total, on_total, then_total}
use Rattle.std.specs.Cmp.Lexicographic.{slice_cmp}
use Rattle.std.specs.Ordering.{nat_cmp, is_lt, is_eq, ordering_then, ordering_reverse}
use Rattle.std.specs.declared.cmp.Ordering.TheVariants.{Less, Equal, Greater}
use Rattle.std.proofs.Common.{Ordering, ap, ap₂, sym, ◌∙◌}
use Rattle.std.proofs.lemmas.Cmp.{nat_list_cmp_total}
use Rattle.cst_core.specs.Path.{Path, same_path, precedes}
use Rattle.std.proofs.lemmas.Map.Text.{is_eq-slice_cmp}
use Rattle.edit_change.specs.declared.change.Change.{Change}
use Rattle.edit_change.specs.declared.change.Change.TheVariants.{Insert, InsertAll, Replace, ReplaceWithMany, ReplaceAll}
use Rattle.edit_change.proofs.Paths.{same_path-true, same_path_from}
use Rattle.edit_change.specs.Nesting.{Numbered}
use Rattle.edit_steps.specs.Schedule.{stands_last}
use Rattle.edit_steps.specs.DefaultOrder.{document_path, fills_gap, default_first}
use Rattle.edit_steps.proofs.Gaps.{stands_last-is}
use Rattle.edit_steps.proofs.PathOrder.{precedes-compared, precedes-self}
use Rattle.edit_steps.specs.inner.Turns.{ShownTurn, turn_of, turn_in, side_of}
use Rattle.edit_steps.specs.declared.order.document_order.Side.{Side}
use Rattle.edit_steps.specs.declared.order.document_order.Side.TheVariants.{Gap, Slot}
use Rattle.edit_steps.specs.declared.order.document_order.Turn.{Turn}
use Rattle.edit_steps.specs.contracts.order.document_order.TurnOrd.TheImpl as ord
use Rattle.edit_steps.specs.contracts.order.document_order.SideOrd.TheImpl as side

abbrev rank : Side → ℕ
rank Gap = 0
rank Slot = 1

abbrev pub shown_cmp : ShownTurn → ShownTurn → Ordering
shown_cmp a b = ordering_then (slice_cmp nat_cmp a.path b.path) (ordering_then (nat_cmp (rank a.side) (rank b.side)) (nat_cmp a.number b.number))

sides-compared : (s t : Side) → (side.ghosts).cmp s t ≡ nat_cmp (rank s) (rank t)
sides-compared Gap Gap = refl
sides-compared Gap Slot = refl
sides-compared Slot Gap = refl
sides-compared Slot Slot = refl

pub compares-shown : (a b : Turn) → (ord.ghosts).cmp a b ≡ shown_cmp (turn_in a) (turn_in b)
compares-shown a b =
    ap (λ o. ordering_then (slice_cmp nat_cmp a.path.items b.path.items) (ordering_then o (nat_cmp a.number b.number))) (sides-compared a.side b.side)

pub shown-total : IsTotalOrder shown_cmp
shown-total =
    then_total (on_total (λ (s : ShownTurn). s.path) nat_list_cmp_total) (then_total (on_total (λ (s : ShownTurn). rank s.side) nat_cmp_total) (on_total (λ (s : ShownTurn). s.number) nat_cmp_total))

-- ---- the default order
rank-is : (c : Change) → rank (side_of c) ≡ cond (fills_gap c) 0 1
rank-is (Insert at e) = refl
rank-is (InsertAll at es) = refl
rank-is (Replace t e) = refl
rank-is (ReplaceWithMany t es) = refl
rank-is (ReplaceAll first last es) = refl

less-compared : (n m : ℕ) → nat_lt n m ≡ is_lt (nat_cmp n m)
less-compared n m =
    elim (nat_lt n m) as (λ b. b ≡ is_lt (cond b Less (cond (n == m) Equal Greater))) [
      | true ↦ refl
      | false ↦ elim (n == m) as (λ b. false ≡ is_lt (cond b Equal Greater)) [ true ↦ refl | false ↦ refl ]
    ]

sides-decide : (a b : Bool) (n m : ℕ) → ((a && not b) || (not (b && not a) && nat_lt n m)) ≡ is_lt (ordering_then (nat_cmp (cond a 0 1) (cond b 0 1)) (nat_cmp n m))
sides-decide true true n m = less-compared n m
sides-decide true false n m = refl
sides-decide false true n m = refl
sides-decide false false n m = less-compared n m

module _ (c d : Numbered) where
  abbrev here : Path
  here = document_path c.1

  abbrev there : Path
  there = document_path d.1

  abbrev rest : Ordering
  rest = ordering_then (nat_cmp (rank (side_of d.1)) (rank (side_of c.1))) (nat_cmp d.0 c.0)

  -- whether the first comes first, by what is known of the two paths
  abbrev first_by : Bool → Bool → Bool → Bool → Bool
  first_by ahead same after turned =
      (ahead || (same && (fills_gap d.1 && not (fills_gap c.1)))) || (not (after || (turned && (fills_gap c.1 && not (fills_gap d.1)))) && stands_last c.0 d.0)

  pub default-less : default_first c d ≡ is_lt (shown_cmp (turn_of d) (turn_of c))
  default-less = go (slice_cmp nat_cmp there here) refl
    where
      go : (o : Ordering) → slice_cmp nat_cmp there here ≡ o → default_first c d ≡ is_lt (shown_cmp (turn_of d) (turn_of c))
      go Less is =
          let ahead : precedes there here ≡ true = sym (precedes-compared there here) ∙ ap is_lt is in
          ap (λ b. first_by b (same_path there here) (precedes here there) (same_path here there)) ahead ∙ sym (ap (λ o. is_lt (ordering_then o rest)) is)
      go Equal is =
          let equal : there ≡ here = same_path-true there here (sym (is_eq-slice_cmp there here) ∙ ap is_eq is) in
          let ahead : precedes there here ≡ false = sym (precedes-compared there here) ∙ ap is_lt is in
          let after : precedes here there ≡ false = ap (precedes here) equal ∙ precedes-self here in
          ap₂ (λ a b. first_by a (same_path there here) b (same_path here there)) ahead after ∙ ap₂ (λ a b. first_by false a false b) (same_path_from there here equal) (same_path_from here there (sym equal)) ∙ ap (λ b. (fills_gap d.1 && not (fills_gap c.1)) || (not (fills_gap c.1 && not (fills_gap d.1)) && b)) (stands_last-is c.0 d.0) ∙ sides-decide (fills_gap d.1) (fills_gap c.1) d.0 c.0 ∙ sym (ap (λ o. is_lt (ordering_then o rest)) is ∙ ap₂ (λ a b. is_lt (ordering_then (nat_cmp a b) (nat_cmp d.0 c.0))) (rank-is d.1) (rank-is c.1))
      go Greater is =
          let after : precedes here there ≡ true = sym (precedes-compared here there) ∙ ap is_lt (nat_list_cmp_total.antisymm here there ∙ ap ordering_reverse is) in
          let ahead : precedes there here ≡ false = sym (precedes-compared there here) ∙ ap is_lt is in
          let apart : same_path there here ≡ false = sym (is_eq-slice_cmp there here) ∙ ap is_eq is in
          ap₂ (λ a b. first_by a b (precedes here there) (same_path here there)) ahead apart ∙ ap (λ b. first_by false false b (same_path here there)) after ∙ sym (ap (λ o. is_lt (ordering_then o rest)) is)
