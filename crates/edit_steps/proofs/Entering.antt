-- The numbers of the nodes below one, by slot, as code has them.
--     below_pushed                   one slot more, with no node
--     below_read                     the number that was read
--     same_holds                     the same lists hold the same
--     entered_before, entered_next   a slot has its number already; it gets the next one
use Rattle.std.specs.Prelude.{◌≡◌, ◌≢◌, ℕ, zero, suc, ◌<◌, cond, nat_eq, List, [], ◌∷◌, ◌++◌, length, slice_set, Option, Some, None, unwrap_or, refl}
use Rattle.std.specs.Option.{option_flatten}
use Rattle.std.proofs.Common.{ap, ap₂, sym, ◌∙◌, arith, get_or}
use Rattle.std.proofs.lemmas.Bool.{cases_eq, eq-eqb, ne_eqb}
use Rattle.std.proofs.lemmas.Option.{slice_get-get_or}
use mathlib.Core.Logic.{inl, inr}
use Rattle.edit_steps.specs.inner.Widths.{Held, VisitedNode, held_of, width_in, gap_in}
use Rattle.edit_steps.specs.inner.Visited.{below_at, IsEntered}

pub below_pushed : (ls : List (Option ℕ)) (i : ℕ) → below_at (ls ++ None ∷ []) i ≡ below_at ls i
below_pushed [] zero = refl
below_pushed [] (suc i) = refl
below_pushed (l ∷ ls) zero = refl
below_pushed (l ∷ ls) (suc i) = below_pushed ls i

pub below_read : (ls : List (Option ℕ)) (s : ℕ) (o : Option ℕ) → s < length ls → o ≡ get_or ls s o → below_at ls s ≡ o
below_read ls s o within is = ap option_flatten (slice_get-get_or ls s o within) ∙ sym is

put_here : (ls : List (Option ℕ)) (s n : ℕ) → s < length ls → below_at (slice_set ls s (Some n)) s ≡ Some n
put_here [] s n within = absurd (omega (arith, within))
put_here (l ∷ ls) zero n within = refl
put_here (l ∷ ls) (suc s) n within = put_here ls s n (omega (arith, within))

put_other : (ls : List (Option ℕ)) (s n i : ℕ) → s ≢ i → below_at (slice_set ls s (Some n)) i ≡ below_at ls i
put_other [] s n i apart = refl
put_other (l ∷ ls) zero n zero apart = absurd (apart refl)
put_other (l ∷ ls) zero n (suc i) apart = refl
put_other (l ∷ ls) (suc s) n zero apart = refl
put_other (l ∷ ls) (suc s) n (suc i) apart = put_other ls s n i (λ e. apart (ap suc e))

below_put : (ls : List (Option ℕ)) (s n i : ℕ) → s < length ls → below_at (slice_set ls s (Some n)) i ≡ cond (nat_eq s i) (Some n) (below_at ls i)
below_put ls s n i within =
    elim (cases_eq s i) [
      | inl here ↦
          ap (below_at (slice_set ls s (Some n))) (sym here) ∙ put_here ls s n within
          ∙ sym (ap (λ b. cond b (Some n) (below_at ls i)) (eq-eqb s i here))
      | inr apart ↦ put_other ls s n i apart ∙ sym (ap (λ b. cond b (Some n) (below_at ls i)) (ne_eqb s i apart))
    ]

pub same_holds : (ws gs us hs : List ℕ) → ws ≡ us → gs ≡ hs
    → ◌≡◌ {A = Held} (record { widths = width_in ws; gaps = gap_in gs }) (record { widths = width_in us; gaps = gap_in hs })
same_holds ws gs us hs widths gaps = ap₂ (λ xs ys. record { widths = width_in xs; gaps = gap_in ys }) widths gaps

pub entered_before : (x y : VisitedNode) (s next n : ℕ) → ((i : ℕ) → below_at y.below i ≡ below_at x.below i) → held_of y ≡ held_of x
    → below_at y.below s ≡ Some n → IsEntered x y s next n
entered_before x y s next n same held there = record {
  number = sym (ap (λ o. unwrap_or o next) (sym (same s) ∙ there));
  held = held;
  below = λ i.
      (elim (cases_eq s i) [
        | inl here ↦ ap (below_at y.below) (sym here) ∙ there ∙ sym (ap (λ b. cond b (Some n) (below_at x.below i)) (eq-eqb s i here))
        | inr apart ↦ same i ∙ sym (ap (λ b. cond b (Some n) (below_at x.below i)) (ne_eqb s i apart))
      ]);
}

pub entered_next : (x y : VisitedNode) (ls : List (Option ℕ)) (s next : ℕ) → ((i : ℕ) → below_at ls i ≡ below_at x.below i)
    → held_of y ≡ held_of x → y.below ≡ slice_set ls s (Some next) → s < length ls → below_at ls s ≡ None → IsEntered x y s next next
entered_next x y ls s next same held put within none = record {
  number = sym (ap (λ o. unwrap_or o next) (sym (same s) ∙ none));
  held = held;
  below = λ i. ap (λ l. below_at l i) put ∙ below_put ls s next i within ∙ ap (λ o. cond (nat_eq s i) (Some next) o) (same i);
}
