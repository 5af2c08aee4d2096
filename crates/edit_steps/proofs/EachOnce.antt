-- Whether an order has each undropped change once.
--     IsMet                         so many numbers of the order are met, or need not be
--     met-at-first, met-length      before the first
--     met-more                      a number that was not met before
--     met-twice, met-past           a number that is met twice, or is no change's
--     all-met                       all are met exactly if the order has each once
use Rattle.std.specs.Prelude.{◌≡◌, ◌↔◌, ◌<◌, ◌≤◌, ◌+◌, ℕ, zero, suc, Bool, true, false, not, nat_eq, List, [], ◌∷◌, map, length, take, count_by, slice_get, IsTrue, ◌⊎◌, refl}
use Rattle.std.specs.List.{list_all}
use Rattle.std.specs.Option.{option_map_or}
use Rattle.std.proofs.Common.{ap, sym, subst, ◌∙◌, arith, get_or, set, get_or-set_same, get_or-set_other}
use Rattle.std.proofs.lemmas.Bool.{cases_lt, cases_eq, cases_Bool, and_parts, and_from, eq-eqb, ne_eqb}
use Rattle.std.proofs.lemmas.List.{take_all, length-map}
use Rattle.std.proofs.lemmas.List.Sums.{sum_by_more_le, count_by_more_yes, count_by_more_no}
use Rattle.std.proofs.lemmas.Option.{slice_get_past}
use mathlib.Core.Logic.{inl, inr}
use Rattle.edit_change.specs.Nesting.{is_dropped, undropped}
use Rattle.edit_change.specs.inner.Fate.{fate, is_dropped_in}
use Rattle.edit_change.specs.declared.change.Change.{Change}
use Rattle.edit_change.specs.declared.fate.Fate.{Fate}
use Rattle.edit_steps.specs.Schedule.{ListsEachOnce}
use Rattle.edit_steps.proofs.Tables.{has_at, get-past}
use Rattle.edit_steps.specs.inner.Waits.{one_if}
use Rattle.edit_steps.proofs.Undropped.{count-undropped, count-past, told-dropped}

-- whether the change with this number is dropped
abbrev pub dropped_at : List Change → ℕ → Bool
dropped_at cs n = option_map_or (is_dropped cs) (slice_get cs n) false

abbrev pub IsMet : List Change → List ℕ → ℕ → List Bool → Type 0
IsMet cs order k met = (n : ℕ) → one_if (get_or met n false) ≡ count_by (nat_eq n) (take k order) + one_if (dropped_at cs n)

-- before the first number
met-mapped : (cs xs : List Change) (n : ℕ) → get_or (map is_dropped_in (map (fate cs) xs)) n false ≡ option_map_or (is_dropped cs) (slice_get xs n) false
met-mapped cs [] n = refl
met-mapped cs (x ∷ xs) zero = told-dropped cs x
met-mapped cs (x ∷ xs) (suc n) = met-mapped cs xs n

pub met-at-first : (cs : List Change) (fates : List Fate) (order : List ℕ) (met : List Bool) → fates ≡ map (fate cs) cs → met ≡ map is_dropped_in fates → IsMet cs order 0 met
met-at-first cs fates order met are is n =
    let same : one_if (get_or met n false) ≡ one_if (dropped_at cs n) = ap (λ b. one_if b) (ap (λ bs. get_or bs n false) (is ∙ ap (map is_dropped_in) are) ∙ met-mapped cs cs n) in
    omega (arith, same)

pub met-length : (cs : List Change) (fates : List Fate) (met : List Bool) → fates ≡ map (fate cs) cs → met ≡ map is_dropped_in fates → length met ≡ length cs
met-length cs fates met are is = ap length (is ∙ ap (map is_dropped_in) are) ∙ length-map (map (fate cs) cs) is_dropped_in ∙ length-map cs (fate cs)

-- how often a number is wanted
wanted : (cs : List Change) (n : ℕ) → n < length cs → count_by (λ c. nat_eq n c.0) (undropped cs) + one_if (dropped_at cs n) ≡ 1
wanted cs n l =
    let at = has_at cs n l in
    let count = count-undropped cs n at.0 at.1 in
    let here : one_if (dropped_at cs n) ≡ one_if (is_dropped cs at.0) = ap (λ o. one_if (option_map_or (is_dropped cs) o false)) at.1 in
    let whole = both (is_dropped cs at.0) in
    omega (arith, count, here, whole)
  where
    both : (b : Bool) → one_if (not b) + one_if b ≡ 1
    both true = omega arith
    both false = omega arith

none-past : (cs : List Change) (n : ℕ) → length cs ≤ n → one_if (dropped_at cs n) ≡ 0
none-past cs n l = ap (λ o. one_if (option_map_or (is_dropped cs) o false)) (slice_get_past cs n l)

module _ (cs : List Change) (order : List ℕ) (k : ℕ) (met : List Bool) (is_met : IsMet cs order k met) where
  -- one number more
  module _ (l : k < length order) where
    counted : count_by (nat_eq (get_or order k 0)) (take k order) + 1 ≤ count_by (nat_eq (get_or order k 0)) order
    counted =
        let x = get_or order k 0 in
        let more = sum_by_more_le (λ y. one_if (nat_eq x y)) order k 0 l in
        let one : one_if (nat_eq x x) ≡ 1 = ap (λ b. one_if b) (eq-eqb x x refl) in
        omega (arith, more, one)

    pub met-twice : get_or order k 0 < length cs → get_or met (get_or order k 0) false ≡ true → ListsEachOnce cs order → ⊥
    met-twice within seen each =
        let x = get_or order k 0 in
        let one : one_if (get_or met x false) ≡ 1 = ap (λ b. one_if b) seen in
        omega (arith, counted, is_met x, one, each x, wanted cs x within)

    pub met-past : length cs ≤ get_or order k 0 → ListsEachOnce cs order → ⊥
    met-past past each = let x = get_or order k 0 in omega (arith, counted, each x, count-past cs x past)

  -- one number more that was not met
  pub met-more : k < length order → get_or order k 0 < length met → get_or met (get_or order k 0) false ≡ false
      → IsMet cs order (k + 1) (set met (get_or order k 0) true)
  met-more l within unseen n =
      let x = get_or order k 0 in
      elim (cases_eq n x) [
        | inl same ↦
            let here : one_if (get_or (set met x true) x false) ≡ 1 = ap (λ b. one_if b) (get_or-set_same met x true false within) in
            let none : one_if (get_or met x false) ≡ 0 = ap (λ b. one_if b) unseen in
            let more = count_by_more_yes (nat_eq x) order k 0 l (eq-eqb x x refl) in
            subst (λ m. one_if (get_or (set met x true) m false) ≡ count_by (nat_eq m) (take (k + 1) order) + one_if (dropped_at cs m)) (sym same)
            (omega (arith, here, none, more, is_met x))
        | inr apart ↦
            ap (λ b. one_if b) (get_or-set_other met x n true false apart) ∙ is_met n
            ∙ ap (λ m. m + one_if (dropped_at cs n)) (sym (count_by_more_no (nat_eq n) order k 0 l (ne_eqb n x apart)))
      ]

  -- the whole order
  module _ (l : length order ≤ k) (long : length met ≡ length cs) where
    all-counted : (n : ℕ) → one_if (get_or met n false) ≡ count_by (nat_eq n) order + one_if (dropped_at cs n)
    all-counted n = is_met n ∙ ap (λ ns. count_by (nat_eq n) ns + one_if (dropped_at cs n)) (take_all k order l)

    each-once : list_all (λ b. b) met ≡ true → ListsEachOnce cs order
    each-once all n =
        elim (cases_lt n (length cs)) [
          | inl within ↦
              let one : one_if (get_or met n false) ≡ 1 = ap (λ b. one_if b) (passes met n (omega (arith, within, long)) all) in
              omega (arith, all-counted n, one, wanted cs n within)
          | inr past ↦
              let none : one_if (get_or met n false) ≡ 0 = ap (λ b. one_if b) (get-past met n false (omega (arith, past, long))) in
              omega (arith, all-counted n, none, none-past cs n past, count-past cs n past)
        ]
      where
        passes : (bs : List Bool) (i : ℕ) → i < length bs → list_all (λ b. b) bs ≡ true → get_or bs i false ≡ true
        passes [] i less h = absurd (omega (arith, less))
        passes (b ∷ bs) zero less h = (and_parts b (list_all (λ x. x) bs) h).0
        passes (b ∷ bs) (suc i) less h = passes bs i (omega (arith, less)) (and_parts b (list_all (λ x. x) bs) h).1

    once-all : ListsEachOnce cs order → list_all (λ b. b) met ≡ true
    once-all each = passes met (λ n less. found n (omega (arith, less, long)) (cases_Bool (get_or met n false)))
      where
        found : (n : ℕ) → n < length cs → (get_or met n false ≡ true) ⊎ (get_or met n false ≡ false) → get_or met n false ≡ true
        found n within (inl seen) = seen
        found n within (inr unseen) =
            let none : one_if (get_or met n false) ≡ 0 = ap (λ b. one_if b) unseen in
            absurd (omega (arith, all-counted n, none, each n, wanted cs n within))

        passes : (bs : List Bool) → ((i : ℕ) → i < length bs → get_or bs i false ≡ true) → list_all (λ b. b) bs ≡ true
        passes [] h = refl
        passes (b ∷ bs) h = and_from b (list_all (λ x. x) bs) (h 0 (omega arith)) (passes bs (λ i less. h (suc i) (omega (arith, less))))

    pub all-met : (b : Bool) → b ≡ list_all (λ b. b) met → IsTrue b ↔ ListsEachOnce cs order
    all-met b is = (λ h. each-once (sym is ∙ h), λ each. is ∙ once-all each)
