-- How many changes that are not done each one waits for.
--     counted-some, counted-past, counted-none      the links that lead to each number, one link more
--     count-bound                   they are no more than all links
--     none-done                     where nothing is done, all links count
--     zero-done, done-zero          where none counts, all that links lead from is done
--     waits-done                    one change more is done
use Rattle.std.specs.Prelude.{◌≡◌, ◌<◌, ◌≤◌, ◌+◌, ◌-◌, ℕ, zero, suc, Bool, true, false, not, ◌&&◌, ◌||◌, nat_eq, List, [], ◌∷◌, length, take, count_by, slice_index, Option, Some, None, refl}
use Rattle.std.specs.List.{enumerate_from}
use Rattle.std.proofs.Common.{ap, ap₂, sym, ◌∙◌, arith, get_or, get_or-set_same, get_or-set_other}
use Rattle.std.proofs.Math.ListN.{set}
use Rattle.std.proofs.lemmas.Bool.{cases_Bool, cases_eq, eq-eqb, ne_eqb, eqb-true, false≢true}
use Rattle.std.proofs.lemmas.List.{length-take-le}
use Rattle.std.proofs.lemmas.List.Sums.{sum_by-cons, count_by-le-length, count_by_more_yes, count_by_more_no}
use Rattle.std.proofs.lemmas.Option.{none-some}
use mathlib.Core.Logic.{inl, inr}
use Rattle.edit_steps.specs.inner.Followers.{link}
use Rattle.edit_steps.specs.inner.Waits.{one_if, points_at, waits_for}

points-here : (n : ℕ) (o : Option ℕ) → o ≡ Some n → points_at n o ≡ true
points-here n o is = ap (points_at n) is ∙ eq-eqb n n refl

points-from : (n : ℕ) (o : Option ℕ) → points_at n o ≡ true → o ≡ Some n
points-from n None h = absurd (false≢true h)
points-from n (Some m) h = ap (λ k. Some k) (sym (eqb-true n m h))

-- ---- counts of links
module _ (links : List (Option ℕ)) (i : ℕ) (l : i < length links) (counts : List ℕ) (long : length counts ≡ length links) (counted : (n : ℕ) → n < length links → slice_index counts n ≡ count_by (points_at n) (take i links)) where
  count-yes : (n : ℕ) → link links i ≡ Some n → count_by (points_at n) (take (i + 1) links) ≡ count_by (points_at n) (take i links) + 1
  count-yes n is = count_by_more_yes (points_at n) links i None l (points-here n (link links i) is)

  count-no : (n : ℕ) → points_at n (link links i) ≡ false → count_by (points_at n) (take (i + 1) links) ≡ count_by (points_at n) (take i links)
  count-no n other = count_by_more_no (points_at n) links i None l other

  pub count-bound : (n : ℕ) → n < length links → slice_index counts n + 1 ≤ length links
  count-bound n less =
      let few = count_by-le-length (points_at n) (take i links) in
      let taken = length-take-le i links (omega (arith, l)) in
      omega (arith, few, taken, l, counted n less)

  pub counted-none : link links i ≡ None → (n : ℕ) → n < length links → slice_index counts n ≡ count_by (points_at n) (take (i + 1) links)
  counted-none is n less = counted n less ∙ sym (count-no n (ap (points_at n) is))

  pub counted-past : (m : ℕ) → link links i ≡ Some m → length counts ≤ m → (n : ℕ) → n < length links → slice_index counts n ≡ count_by (points_at n) (take (i + 1) links)
  counted-past m is past n less =
      counted n less ∙ sym (count-no n (ap (points_at n) is ∙ ne_eqb n m (λ e. omega (arith, e, less, past, long))))

  pub counted-some : (m x : ℕ) (after : List ℕ) → link links i ≡ Some m → m < length counts → x ≡ get_or counts m 0 → after ≡ set counts m (x + 1) → (n : ℕ) → n < length links → slice_index after n ≡ count_by (points_at n) (take (i + 1) links)
  counted-some m x after is within read put n less =
      elim (cases_eq n m) [
        | inl same ↦
            let here : slice_index after m ≡ x + 1 = ap (λ xs. slice_index xs m) put ∙ get_or-set_same counts m (x + 1) 0 within in
            let was : get_or counts m 0 ≡ count_by (points_at m) (take i links) = counted m (omega (arith, within, long)) in
            ap (slice_index after) same ∙ here ∙ ap (λ k. k + 1) (read ∙ was) ∙ sym (ap (λ k. count_by (points_at k) (take (i + 1) links)) same ∙ count-yes m is)
        | inr apart ↦ ap (λ xs. slice_index xs n) put ∙ get_or-set_other counts m n (x + 1) 0 apart ∙ counted n less ∙ sym (count-no n (ap (points_at n) is ∙ ne_eqb n m apart))
      ]

-- ---- what counts while some are done
abbrev waits_from : (ℕ → Bool) → ℕ → List (Option ℕ) → ℕ → ℕ
waits_from done k table n = count_by (λ l. points_at n l.1 && not (done l.0)) (enumerate_from k table)

waits-cons : (done : ℕ → Bool) (k : ℕ) (o : Option ℕ) (table : List (Option ℕ)) (n : ℕ) → waits_from done k (o ∷ table) n ≡ one_if (points_at n o && not (done k)) + waits_from done (k + 1) table n
waits-cons done k o table n = sum_by-cons (λ l. one_if (points_at n l.1 && not (done l.0))) (k, o) (enumerate_from (k + 1) table)

no-not : (b : Bool) → (b && not true) ≡ false
no-not true = refl
no-not false = refl

and-not-false : (b : Bool) → (b && not false) ≡ b
and-not-false true = refl
and-not-false false = refl

none-done-from : (k : ℕ) (table : List (Option ℕ)) (n : ℕ) → waits_from (λ i. false) k table n ≡ count_by (points_at n) table
none-done-from k [] n = refl
none-done-from k (o ∷ table) n =
    waits-cons (λ i. false) k o table n ∙ ap₂ (λ x y. x + y) (ap (λ b. one_if b) (and-not-false (points_at n o))) (none-done-from (k + 1) table n) ∙ sym (sum_by-cons (λ l. one_if (points_at n l)) o table)

pub none-done : (table : List (Option ℕ)) (n : ℕ) → waits_for (λ i. false) table n ≡ count_by (points_at n) table
none-done table n = none-done-from 0 table n

zero-from : (done : ℕ → Bool) (k : ℕ) (table : List (Option ℕ)) (n : ℕ) → waits_from done k table n ≡ 0 → (i : ℕ) → link table i ≡ Some n → done (k + i) ≡ true
zero-from done k [] n none i is = absurd (none-some n is)
zero-from done k (o ∷ table) n none zero is =
    let e : k + 0 ≡ k = omega arith in
    let parts = waits-cons done k o table n in
    let first : one_if (points_at n o && not (done k)) ≡ 0 = omega (arith, none, parts) in
    ap done e ∙ settled (done k) (points_at n o) (points-here n o is) first
  where
    settled : (d p : Bool) → p ≡ true → one_if (p && not d) ≡ 0 → d ≡ true
    settled true p h z = refl
    settled false true h z = absurd (omega (arith, z))
    settled false false h z = absurd (false≢true h)
zero-from done k (o ∷ table) n none (suc i) is =
    let e : k + suc i ≡ k + 1 + i = omega arith in
    ap done e ∙ zero-from done (k + 1) table n (omega (arith, none, waits-cons done k o table n)) i is

pub zero-done : (done : ℕ → Bool) (table : List (Option ℕ)) (n : ℕ) → waits_for done table n ≡ 0 → (i : ℕ) → link table i ≡ Some n → done i ≡ true
zero-done done table n none i is = let e : i ≡ 0 + i = omega arith in ap done e ∙ zero-from done 0 table n none i is

done-zero-from : (done : ℕ → Bool) (k : ℕ) (table : List (Option ℕ)) (n : ℕ) → ((i : ℕ) → link table i ≡ Some n → done (k + i) ≡ true) → waits_from done k table n ≡ 0
done-zero-from done k [] n all = refl
done-zero-from done k (o ∷ table) n all =
    let e : k ≡ k + 0 = omega arith in
    let rest = done-zero-from done (k + 1) table n (λ i is. let next : k + 1 + i ≡ k + suc i = omega arith in ap done next ∙ all (suc i) is) in
    let first : one_if (points_at n o && not (done k)) ≡ 0 = elim (cases_Bool (points_at n o)) [
      | inl here ↦ ap (λ b. one_if (points_at n o && not b)) (ap done e ∙ all 0 (points-from n o here)) ∙ ap (λ b. one_if b) (no-not (points_at n o))
      | inr other ↦ ap (λ b. one_if (b && not (done k))) other
    ] in
    waits-cons done k o table n ∙ omega (arith, first, rest)

pub done-zero : (done : ℕ → Bool) (table : List (Option ℕ)) (n : ℕ) → ((i : ℕ) → link table i ≡ Some n → done i ≡ true) → waits_for done table n ≡ 0
done-zero done table n all = done-zero-from done 0 table n (λ i is. let e : 0 + i ≡ i = omega arith in ap done e ∙ all i is)

-- ---- one more is done
agree-from : (f g : ℕ → Bool) (k : ℕ) (table : List (Option ℕ)) (n : ℕ) → ((i : ℕ) → k ≤ i → f i ≡ g i) → waits_from f k table n ≡ waits_from g k table n
agree-from f g k [] n same = refl
agree-from f g k (o ∷ table) n same =
    waits-cons f k o table n ∙ ap₂ (λ x y. x + y) (ap (λ b. one_if (points_at n o && not b)) (same k (omega arith))) (agree-from f g (k + 1) table n (λ i l. same i (omega (arith, l)))) ∙ sym (waits-cons g k o table n)

one-fewer : (done : ℕ → Bool) (k : ℕ) (table : List (Option ℕ)) (n i at : ℕ) → at ≡ k + i → i < length table → done at ≡ false → waits_from (λ j. nat_eq at j || done j) k table n + one_if (points_at n (link table i)) ≡ waits_from done k table n
one-fewer done k [] n i at e l undone = absurd (omega (arith, l))
one-fewer done k (o ∷ table) n zero at e l undone =
    let same : at ≡ k = omega (arith, e) in
    let now : (nat_eq at k || done k) ≡ true = ap (λ b. b || done k) (eq-eqb at k same) in
    let first : one_if (points_at n o && not (nat_eq at k || done k)) ≡ 0 = ap (λ b. one_if (points_at n o && not b)) now ∙ ap (λ b. one_if b) (no-not (points_at n o)) in
    let was : one_if (points_at n o && not (done k)) ≡ one_if (points_at n o) = ap (λ b. one_if (points_at n o && not b)) (ap done (sym same) ∙ undone) ∙ ap (λ b. one_if b) (and-not-false (points_at n o)) in
    let rest = agree-from (λ j. nat_eq at j || done j) done (k + 1) table n (λ j less. ap (λ b. b || done j) (ne_eqb at j (λ x. omega (arith, x, less, same)))) in
    let new = waits-cons (λ j. nat_eq at j || done j) k o table n in
    let old = waits-cons done k o table n in
    omega (arith, new, old, first, was, rest)
one-fewer done k (o ∷ table) n (suc i) at e l undone =
    let other : (nat_eq at k || done k) ≡ done k = ap (λ b. b || done k) (ne_eqb at k (λ x. omega (arith, x, e))) in
    let first : one_if (points_at n o && not (nat_eq at k || done k)) ≡ one_if (points_at n o && not (done k)) = ap (λ b. one_if (points_at n o && not b)) other in
    let rest = one-fewer done (k + 1) table n i at (omega (arith, e)) (omega (arith, l)) undone in
    let new = waits-cons (λ j. nat_eq at j || done j) k o table n in
    let old = waits-cons done k o table n in
    omega (arith, new, old, first, rest)

pub waits-done : (done : ℕ → Bool) (table : List (Option ℕ)) (n i : ℕ) → i < length table → done i ≡ false → waits_for done table n - one_if (points_at n (link table i)) ≡ waits_for (λ j. nat_eq i j || done j) table n
waits-done done table n i l undone = let fewer = one-fewer done 0 table n i i (omega arith) l undone in omega (arith, fewer)
