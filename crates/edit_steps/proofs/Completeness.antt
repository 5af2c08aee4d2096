-- All changes are done exactly if no standing is undone.
--     complete-settled
use Rattle.std.specs.Prelude.{◌≡◌, ◌<◌, ℕ, zero, suc, Bool, true, false, cond, List, [], ◌∷◌, length, refl}
use Rattle.std.specs.List.{list_all}
use Rattle.std.proofs.Common.{ap, sym, ◌∙◌, arith, get_or}
use Rattle.std.proofs.lemmas.Bool.{cases_Bool, and_parts, and_from, false≢true}
use Rattle.std.proofs.lemmas.Option.{slice_get_within}
use mathlib.Core.Logic.{inl, inr}
use Rattle.edit_change.specs.Nesting.{is_dropped}
use Rattle.edit_change.specs.declared.change.Change.{Change}
use Rattle.edit_change.proofs.Positions.{same-test}
use Rattle.edit_steps.specs.Schedule.{is_complete}
use Rattle.edit_steps.specs.inner.Waiting.{IsWaiting}
use Rattle.edit_steps.specs.inner.Waits.{is_settled}
use Rattle.edit_steps.specs.declared.order.waiting.Waiting.{Waiting}
use Rattle.edit_steps.specs.declared.order.waiting.Standing.TheVariants.{Dropped, Undone, Done}
use Rattle.edit_steps.proofs.Tables.{has_at}
use Rattle.edit_steps.proofs.Undropped.{all-undropped, all_undropped_from}

all-at : {X : Type 0} (p : X → Bool) (xs : List X) (d : X) (i : ℕ) → i < length xs → list_all p xs ≡ true → p (get_or xs i d) ≡ true
all-at p [] d i l h = absurd (omega (arith, l))
all-at p (x ∷ xs) d zero l h = (and_parts (p x) (list_all p xs) h).0
all-at p (x ∷ xs) d (suc i) l h = all-at p xs d i (omega (arith, l)) (and_parts (p x) (list_all p xs) h).1

all_at_from : {X : Type 0} (p : X → Bool) (xs : List X) (d : X) → ((i : ℕ) → i < length xs → p (get_or xs i d) ≡ true) → list_all p xs ≡ true
all_at_from p [] d h = refl
all_at_from p (x ∷ xs) d h = and_from (p x) (list_all p xs) (h 0 (omega arith)) (all_at_from p xs d (λ i l. h (suc i) (omega (arith, l))))

settled-done : (b d : Bool) → b ≡ false → is_settled (cond b Dropped (cond d Done Undone)) ≡ true → d ≡ true
settled-done true d h k = absurd (false≢true (sym h))
settled-done false true h k = refl
settled-done false false h k = absurd (false≢true k)

dropped-settled : (b d : Bool) → b ≡ true → is_settled (cond b Dropped (cond d Done Undone)) ≡ true
dropped-settled true d h = refl
dropped-settled false d h = absurd (false≢true h)

done-settled : (b d : Bool) → d ≡ true → is_settled (cond b Dropped (cond d Done Undone)) ≡ true
done-settled true d h = refl
done-settled false true h = refl
done-settled false false h = absurd (false≢true h)

pub complete-settled : (cs : List Change) (done : ℕ → Bool) (w : Waiting) → IsWaiting cs done w → list_all is_settled w.standings.items ≡ is_complete cs done
complete-settled cs done w is =
    same-test (list_all is_settled w.standings.items) (is_complete cs done) (λ all. all_undropped_from (λ c. done c.0) cs (λ n c at stays.
    let here = all-at is_settled w.standings.items Dropped n (omega (arith, slice_get_within cs n c at, is.long)) all in
    settled-done (is_dropped cs c) (done n) stays (sym (ap is_settled (is.stands n c at)) ∙ here))) (λ all. all_at_from is_settled w.standings.items Dropped (λ n l.
    let at = has_at cs n (omega (arith, l, is.long)) in
    ap is_settled (is.stands n at.0 at.1) ∙ (elim (cases_Bool (is_dropped cs at.0)) [
      | inl gone ↦ dropped-settled (is_dropped cs at.0) (done n) gone
      | inr stays ↦ done-settled (is_dropped cs at.0) (done n) (all-undropped (λ c. done c.0) cs all n at.0 at.1 stays)
    ])))
