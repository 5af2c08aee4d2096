-- The inserts of one gap, and the links between them.
--     stands_last-is                all that proofs use of the gap rule: of two inserts of one gap the one that was recorded last stands last
--     gap_first-later, gap_first_from     so it comes first
--     same_gap-sym, same_gap-trans  two aims fill one gap
--     next-here, next-past          the next insert before a number, by the change with the number below it
--     seen-kept, seen-passed        a table of the next inserts, once one more change is met
use Rattle.std.specs.Prelude.{◌≡◌, ℕ, suc, ◌+◌, ◌<◌, Bool, true, false, not, cond, nat_eq, nat_lt, max, List, [], ◌∷◌, ◌++◌, reverse, find, slice_get, Some, option_map, refl}
use Rattle.std.proofs.Common.{ap, sym, subst, ◌∙◌, arith}
use Rattle.std.proofs.lemmas.Bool.{and_parts, and_from, false≢true, eqb-true, eqb-false, eq-eqb, ne_eqb, not-true, not_from_false, lt-ltb, ltb-true}
use Rattle.std.proofs.lemmas.List.{append-nil, reverse-append}
use Rattle.std.proofs.lemmas.Option.{slice_get_within, get_or_from_slice_get}
use Rattle.edit_change.specs.Aim.{Aim, FirstIn, AfterElement, Over, same_gap}
use Rattle.edit_change.specs.ChangeAim.{aim}
use Rattle.edit_change.specs.Nesting.{is_dropped, Numbered}
use Rattle.edit_change.specs.declared.change.Change.{Change}
use Rattle.edit_change.proofs.Paths.{same_path-true, same_path_from}
use Rattle.edit_change.proofs.Positions.{same-test}
use Rattle.edit_steps.specs.Schedule.{stands_last, gap_first}
use Rattle.edit_steps.specs.inner.Followers.{earlier, next_in_gap}
use Rattle.edit_steps.specs.inner.GapTable.{gap_entry, IsPut}
use Rattle.edit_steps.specs.declared.order.gap_table.GapTable.{GapTable}
use Rattle.edit_steps.proofs.Turns.{kept_of, kept-more}

-- ---- the gap rule

pub stands_last-is : (m n : ℕ) → stands_last m n ≡ nat_lt n m
stands_last-is m n = same-test (stands_last m n) (nat_lt n m) to from
  where
    greater : (m ≡ n → ⊥) → m ≡ max m n → n < m
    greater apart greatest = omega (arith, apart, greatest)

    to : stands_last m n ≡ true → nat_lt n m ≡ true
    to h =
        let parts = and_parts (not (nat_eq m n)) (nat_eq m (max m n)) h in
        lt-ltb n m (greater (eqb-false m n (not-true (nat_eq m n) parts.0)) (eqb-true m (max m n) parts.1))

    from : nat_lt n m ≡ true → stands_last m n ≡ true
    from h =
        let l = ltb-true n m h in
        let greatest : m ≡ max m n = omega (arith, l) in
        and_from (not (nat_eq m n)) (nat_eq m (max m n)) (not_from_false (nat_eq m n) (ne_eqb m n (λ e. omega (arith, e, l)))) (eq-eqb m (max m n) greatest)

pub gap_first-later : (c d : Numbered) → gap_first c d ≡ true → (same_gap (aim c.1) (aim d.1) ≡ true) × (d.0 < c.0)
gap_first-later c d h =
    let parts = and_parts (same_gap (aim c.1) (aim d.1)) (stands_last c.0 d.0) h in
    (parts.0, ltb-true d.0 c.0 (sym (stands_last-is c.0 d.0) ∙ parts.1))

pub gap_first_from : (c d : Numbered) → same_gap (aim c.1) (aim d.1) ≡ true → d.0 < c.0 → gap_first c d ≡ true
gap_first_from c d gap l =
    and_from (same_gap (aim c.1) (aim d.1)) (stands_last c.0 d.0) gap (stands_last-is c.0 d.0 ∙ lt-ltb d.0 c.0 l)

-- ---- one gap
pub same_gap-sym : (a b : Aim) → same_gap a b ≡ true → same_gap b a ≡ true
same_gap-sym (FirstIn p) (FirstIn q) h = same_path_from q p (sym (same_path-true p q h))
same_gap-sym (FirstIn p) (AfterElement q) h = absurd (false≢true h)
same_gap-sym (FirstIn p) (Over qs) h = absurd (false≢true h)
same_gap-sym (AfterElement p) (FirstIn q) h = absurd (false≢true h)
same_gap-sym (AfterElement p) (AfterElement q) h = same_path_from q p (sym (same_path-true p q h))
same_gap-sym (AfterElement p) (Over qs) h = absurd (false≢true h)
same_gap-sym (Over ps) b h = absurd (false≢true h)

pub same_gap-trans : (a b c : Aim) → same_gap a b ≡ true → same_gap b c ≡ true → same_gap a c ≡ true
same_gap-trans (FirstIn p) (FirstIn q) c h k = subst (λ x. same_gap (FirstIn x) c ≡ true) (sym (same_path-true p q h)) k
same_gap-trans (FirstIn p) (AfterElement q) c h k = absurd (false≢true h)
same_gap-trans (FirstIn p) (Over qs) c h k = absurd (false≢true h)
same_gap-trans (AfterElement p) (FirstIn q) c h k = absurd (false≢true h)
same_gap-trans (AfterElement p) (AfterElement q) c h k = subst (λ x. same_gap (AfterElement x) c ≡ true) (sym (same_path-true p q h)) k
same_gap-trans (AfterElement p) (Over qs) c h k = absurd (false≢true h)
same_gap-trans (Over ps) b c h k = absurd (false≢true h)

-- ---- the next insert of a gap
module _ (cs : List Change) (n : ℕ) (c : Change) (is : slice_get cs n ≡ Some c) where
  earlier-is : earlier cs (suc n) ≡ cond (not (is_dropped cs c)) ((n, c) ∷ earlier cs n) (earlier cs n)
  earlier-is =
      let within = slice_get_within cs n c is in
      let here = sym (get_or_from_slice_get cs n c c is) in
      let e : suc n ≡ n + 1 = omega arith in
      ap (earlier cs) e ∙ ap reverse (kept-more cs n c within here) ∙ turned (kept_of cs n c within here n) (not (is_dropped cs c))
    where
      turned : (xs : List Numbered) (b : Bool) → reverse (xs ++ cond b ((n, c) ∷ []) []) ≡ cond b ((n, c) ∷ reverse xs) (reverse xs)
      turned xs true = reverse-append xs ((n, c) ∷ [])
      turned xs false = ap reverse (append-nil xs)

  pub next-here : (a : Aim) → is_dropped cs c ≡ false → next_in_gap cs (suc n) a ≡ cond (same_gap (aim c) a) (Some n) (next_in_gap cs n a)
  next-here a f =
      ap (λ ds. option_map (λ d. d.0) (find (λ d. same_gap (aim d.1) a) ds)) (earlier-is ∙ ap (λ b. cond (not b) ((n, c) ∷ earlier cs n) (earlier cs n)) f) ∙ go (same_gap (aim c) a)
    where
      go : (b : Bool) → option_map (λ (d : Numbered). d.0) (cond b (Some (n, c)) (find (λ d. same_gap (aim d.1) a) (earlier cs n))) ≡ cond b (Some n) (next_in_gap cs n a)
      go true = refl
      go false = refl

  pub next-past : (a : Aim) → is_dropped cs c ≡ true → next_in_gap cs (suc n) a ≡ next_in_gap cs n a
  next-past a t =
      ap (λ ds. option_map (λ d. d.0) (find (λ d. same_gap (aim d.1) a) ds)) (earlier-is ∙ ap (λ b. cond (not b) ((n, c) ∷ earlier cs n) (earlier cs n)) t)

  -- ---- a table of these
  module _ (m : ℕ) (next : m ≡ suc n) (before : GapTable) (has : (a : Aim) → gap_entry before a ≡ next_in_gap cs n a) where
    pub seen-kept : (after : GapTable) → is_dropped cs c ≡ false → IsPut before after (aim c) n → (a : Aim) → gap_entry after a ≡ next_in_gap cs m a
    seen-kept after f put a =
        put a ∙ ap (λ o. cond (same_gap (aim c) a) (Some n) o) (has a) ∙ sym (ap (λ k. next_in_gap cs k a) next ∙ next-here a f)

    pub seen-passed : is_dropped cs c ≡ true → (a : Aim) → gap_entry before a ≡ next_in_gap cs m a
    seen-passed t a = has a ∙ sym (ap (λ k. next_in_gap cs k a) next ∙ next-past a t)
