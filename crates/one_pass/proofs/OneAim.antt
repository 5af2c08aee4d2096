-- What one aim puts, by where it stands as it is seen from a node.
--     gap-gaps, gap-slots           of an insert: no other gap, and no child
--     run-gaps, run-start, run-over, run-inside    of a replacement
--     below-gaps, below-slots, below-inside    of one inside a child
--     idle-gaps, idle-slots         of one that alters nothing
--     key-gap, key-slot             it says nothing of other gaps and of children before
use Rattle.std.specs.Prelude.{◌≡◌, ℕ, zero, suc, ◌+◌, ◌-◌, ◌<◌, ◌≤◌, Bool, true, false, cond, ◌||◌, ◌&&◌, nat_eq, nat_lt, List, [], ◌∷◌, length, get_or, Some, None, refl}
use Rattle.std.proofs.Common.{ap, ap₂, sym, ◌∙◌, arith}
use Rattle.std.proofs.lemmas.Bool.{cases_eq, eq-eqb, ne_eqb, lt-ltb, le-ltb, ltb-false, or_parts}
use mathlib.Core.Logic.{inl, inr}
use Rattle.green_tree.specs.Path.{Path}
use Rattle.edit_change.specs.Aim.{starts_at, replaces}
use Rattle.edit_change.specs.declared.aimed.AimForm.{AimForm}
use Rattle.edit_change.specs.declared.aimed.AimForm.TheVariants.{FirstIn, AfterElement, Over}
use Rattle.edit_change.specs.inner.Aimed.{FormedAim, aim_in, of_formed, has_parent}
use Rattle.edit_change.specs.inner.DocumentOrder.{site, is_before}
use Rattle.edit_change.proofs.AimsHere.{range_before, range_here, start_deeper, replaces_deeper, parent_over}
use Rattle.edit_change.proofs.Untouched.{quiet_gap, quiet_slot, quiet_start}
use Rattle.one_pass.specs.inner.Sweep.{parted, inside_one, gap_test, start_test, over_test, first_of, key, IsGap, IsRun, IsBelow, QuietSlot, PassesAll}

abbrev pub as_formed : ℕ → Path → AimForm → FormedAim
as_formed c p w = record { change = c; path = p; form = w }

abbrev pub alters : ℕ → Path → AimForm → Bool
alters c p w = has_parent (c, aim_in p w)

-- ---- inside a child
shut-if : (b : Bool) (c : ℕ) (p : Path) (w : AimForm) → alters c p w ≡ false → parted (cond b (Some (as_formed c p w)) None) ≡ []
shut-if true c p w h = ap (λ x. cond x (as_formed c p w ∷ []) []) h
shut-if false c p w h = refl

other-slot : (i s c : ℕ) (p : Path) (w : AimForm) → (i ≡ s → ⊥) → parted (cond (nat_eq i s) (Some (as_formed c p w)) None) ≡ []
other-slot i s c p w h = ap (λ b. parted (cond b (Some (as_formed c p w)) None)) (ne_eqb i s h)

-- ---- an insert
pub gap-gaps : (g c : ℕ) (p : Path) (w : AimForm) → IsGap g p w → (j : ℕ) → gap_test j (as_formed c p w) ≡ nat_eq j g
gap-gaps g c [] FirstIn h j = ap (λ k. nat_eq j k) (sym h)
gap-gaps g c [] AfterElement h j = absurd h
gap-gaps g c [] (Over n) h j = absurd h
gap-gaps g c (s ∷ []) FirstIn h j = absurd h
gap-gaps g c (s ∷ []) AfterElement h j = ap (λ k. nat_eq j k) (sym h)
gap-gaps g c (s ∷ []) (Over n) h j = absurd h
gap-gaps g c (s ∷ t ∷ p) w h j = absurd h

pub gap-slots : (g c : ℕ) (p : Path) (w : AimForm) → IsGap g p w → (j : ℕ) → QuietSlot (as_formed c p w) j
gap-slots g c [] FirstIn h j = record { start = refl; over = refl; inside = refl }
gap-slots g c [] AfterElement h j = absurd h
gap-slots g c [] (Over n) h j = absurd h
gap-slots g c (s ∷ []) FirstIn h j = absurd h
gap-slots g c (s ∷ []) AfterElement h j = record { start = refl; over = refl; inside = shut-if (nat_eq j s) c [] AfterElement refl }
gap-slots g c (s ∷ []) (Over n) h j = absurd h
gap-slots g c (s ∷ t ∷ p) w h j = absurd h

-- ---- a replacement
pub run-gaps : (f n c : ℕ) (p : Path) (w : AimForm) → IsRun f n p w → (j : ℕ) → gap_test j (as_formed c p w) ≡ false
run-gaps f n c [] w h j = absurd h
run-gaps f n c (s ∷ []) FirstIn h j = absurd h
run-gaps f n c (s ∷ []) AfterElement h j = absurd h
run-gaps f n c (s ∷ []) (Over k) h j = refl
run-gaps f n c (s ∷ t ∷ p) w h j = absurd h

starts : (n s j : ℕ) → 0 < n → starts_at (j ∷ []) (aim_in (s ∷ []) (Over n)) ≡ nat_eq j s
starts zero s j h = absurd (omega (arith, h))
starts (suc n) s j h = elim (nat_eq j s) as (λ b. (b && true) ≡ b) [ true ↦ refl | false ↦ refl ]

pub run-start : (f n c : ℕ) (p : Path) (w : AimForm) → IsRun f n p w → (j : ℕ) → start_test j (as_formed c p w) ≡ nat_eq j f
run-start f n c [] w h j = absurd h
run-start f n c (s ∷ []) FirstIn h j = absurd h
run-start f n c (s ∷ []) AfterElement h j = absurd h
run-start f n c (s ∷ []) (Over k) h j = ap₂ (λ t m. starts_at (j ∷ []) (aim_in (t ∷ []) (Over m))) h.0 h.1 ∙ starts n f j h.2
run-start f n c (s ∷ t ∷ p) w h j = absurd h

pub run-over : (f n c : ℕ) (p : Path) (w : AimForm) → IsRun f n p w → (j : ℕ) → f ≤ j → over_test j (as_formed c p w) ≡ nat_lt (j - f) n
run-over f n c [] w h j l = absurd h
run-over f n c (s ∷ []) FirstIn h j l = absurd h
run-over f n c (s ∷ []) AfterElement h j l = absurd h
run-over f n c (s ∷ []) (Over k) h j l = ap₂ (λ t m. replaces (j ∷ []) (aim_in (t ∷ []) (Over m))) h.0 h.1 ∙ range_here f n j l
run-over f n c (s ∷ t ∷ p) w h j l = absurd h

no-slot-above : (c n : ℕ) → alters c [] (Over n) ≡ false
no-slot-above c zero = refl
no-slot-above c (suc n) = refl

pub run-inside : (f n c : ℕ) (p : Path) (w : AimForm) → IsRun f n p w → (j : ℕ) → inside_one j (as_formed c p w) ≡ []
run-inside f n c [] w h j = absurd h
run-inside f n c (s ∷ []) FirstIn h j = absurd h
run-inside f n c (s ∷ []) AfterElement h j = absurd h
run-inside f n c (s ∷ []) (Over k) h j = shut-if (nat_eq j s) c [] (Over k) (no-slot-above c k)
run-inside f n c (s ∷ t ∷ p) w h j = absurd h

-- ---- one inside a child
below-gap : (i c : ℕ) (q : Path) (w : AimForm) → alters c q w ≡ true → (j : ℕ) → gap_test j (as_formed c (i ∷ q) w) ≡ false
below-gap i c q FirstIn h j = refl
below-gap i c [] AfterElement h j = absurd (cc)
below-gap i c (t ∷ q) AfterElement h j = refl
below-gap i c q (Over n) h j = refl

below-start : (i c : ℕ) (q : Path) (w : AimForm) → alters c q w ≡ true → (j : ℕ) → start_test j (as_formed c (i ∷ q) w) ≡ false
below-start i c q FirstIn h j = refl
below-start i c q AfterElement h j = refl
below-start i c [] (Over n) h j = let wrong = sym (no-slot-above c n) ∙ h in absurd (cc)
below-start i c (t ∷ q) (Over n) h j = start_deeper (i ∷ t ∷ q) n j (omega arith)

below-over : (i c : ℕ) (q : Path) (w : AimForm) → alters c q w ≡ true → (j : ℕ) → over_test j (as_formed c (i ∷ q) w) ≡ false
below-over i c q FirstIn h j = refl
below-over i c q AfterElement h j = refl
below-over i c [] (Over n) h j = let wrong = sym (no-slot-above c n) ∙ h in absurd (cc)
below-over i c (t ∷ q) (Over n) h j = replaces_deeper (i ∷ t ∷ q) n j (omega arith)

module _ (i : ℕ) (a : FormedAim) (below : IsBelow i a) where
  as-below : a ≡ as_formed a.change (i ∷ below.0) a.form
  as-below = ap (λ p. as_formed a.change p a.form) below.1

  pub below-gaps : (j : ℕ) → gap_test j a ≡ false
  below-gaps j = ap (gap_test j) as-below ∙ below-gap i a.change below.0 a.form below.2 j

  pub below-starts : (j : ℕ) → start_test j a ≡ false
  below-starts j = ap (start_test j) as-below ∙ below-start i a.change below.0 a.form below.2 j

  pub below-overs : (j : ℕ) → over_test j a ≡ false
  below-overs j = ap (over_test j) as-below ∙ below-over i a.change below.0 a.form below.2 j

  pub below-inside : inside_one i a ≡ as_formed a.change below.0 a.form ∷ []
  below-inside =
      ap (inside_one i) as-below ∙ ap (λ b. parted (cond b (Some (as_formed a.change below.0 a.form)) None)) (eq-eqb i i refl) ∙ ap (λ b. cond b (as_formed a.change below.0 a.form ∷ []) []) below.2

  pub below-slots : (j : ℕ) → (j ≡ i → ⊥) → QuietSlot a j
  below-slots j other = record {
    start = below-starts j;
    over = below-overs j;
    inside = ap (inside_one j) as-below ∙ other-slot j i a.change below.0 a.form other;
  }

-- ---- one that alters nothing
shut : (c i : ℕ) (p : Path) (w : AimForm) → alters c p w ≡ false → inside_one i (as_formed c p w) ≡ []
shut c i [] w h = refl
shut c i (s ∷ p) FirstIn h = absurd (cc)
shut c i (s ∷ p) AfterElement h = absurd (cc)
shut c i (s ∷ p) (Over zero) h = shut-if (nat_eq i s) c p (Over zero) (none p)
  where
    none : (q : Path) → alters c q (Over zero) ≡ false
    none [] = refl
    none (t ∷ q) = refl
shut c i (s ∷ p) (Over (suc n)) h =
    let wrong = sym (parent_over c (s ∷ p) (suc n) (omega arith) ∙ lt-ltb 0 (suc n) (omega arith)) ∙ h in
    absurd (cc)

pub idle-gaps : (a : FormedAim) → has_parent (of_formed a) ≡ false → (j : ℕ) → gap_test j a ≡ false
idle-gaps a h j = quiet_gap a.change a.path a.form [] j h

pub idle-slots : (a : FormedAim) → has_parent (of_formed a) ≡ false → (j : ℕ) → QuietSlot a j
idle-slots a h j = record {
  start = quiet_start a.change a.path a.form [] j h;
  over = quiet_slot a.change a.path a.form [] j h;
  inside = shut a.change j a.path a.form h;
}

-- ---- how far on
ahead-gap : (c : ℕ) (p : Path) (w : AimForm) (j : ℕ) → j + j < key (as_formed c p w) → gap_test j (as_formed c p w) ≡ false
ahead-gap c [] FirstIn j l = absurd (omega (arith, l))
ahead-gap c [] AfterElement j l = refl
ahead-gap c [] (Over n) j l = refl
ahead-gap c (s ∷ p) FirstIn j l = refl
ahead-gap c (s ∷ []) AfterElement j l = ne_eqb j (suc s) (λ e. absurd (omega (arith, l, e)))
ahead-gap c (s ∷ t ∷ p) AfterElement j l = refl
ahead-gap c (s ∷ p) (Over n) j l = refl

ahead-slot : (c : ℕ) (p : Path) (w : AimForm) (j : ℕ) → suc (j + j) < key (as_formed c p w) → QuietSlot (as_formed c p w) j
ahead-slot c [] FirstIn j l = absurd (omega (arith, l))
ahead-slot c [] AfterElement j l = absurd (omega (arith, l))
ahead-slot c [] (Over zero) j l = absurd (omega (arith, l))
ahead-slot c [] (Over (suc n)) j l = absurd (omega (arith, l))
ahead-slot c (s ∷ p) FirstIn j l = record { start = refl; over = refl; inside = other-slot j s c p FirstIn (λ e. absurd (omega (arith, l, e))) }
ahead-slot c (s ∷ []) AfterElement j l = record { start = refl; over = refl; inside = shut-if (nat_eq j s) c [] AfterElement refl }
ahead-slot c (s ∷ t ∷ p) AfterElement j l = record { start = refl; over = refl; inside = other-slot j s c (t ∷ p) AfterElement (λ e. absurd (omega (arith, l, e))) }
ahead-slot c (s ∷ p) (Over zero) j l = absurd (omega (arith, l))
ahead-slot c (s ∷ []) (Over (suc n)) j l = record {
  start = starts (suc n) s j (omega arith) ∙ ne_eqb j s (λ e. absurd (omega (arith, l, e)));
  over = range_before s (suc n) j (omega (arith, l));
  inside = other-slot j s c [] (Over (suc n)) (λ e. absurd (omega (arith, l, e)));
}
ahead-slot c (s ∷ t ∷ p) (Over (suc n)) j l = record {
  start = start_deeper (s ∷ t ∷ p) (suc n) j (omega arith);
  over = replaces_deeper (s ∷ t ∷ p) (suc n) j (omega arith);
  inside = other-slot j s c (t ∷ p) (Over (suc n)) (λ e. absurd (omega (arith, l, e)));
}

pub key-gap : (a : FormedAim) (j : ℕ) → j + j < key a → gap_test j a ≡ false
key-gap a j l = ahead-gap a.change a.path a.form j l

pub key-slot : (a : FormedAim) (j : ℕ) → suc (j + j) < key a → QuietSlot a j
key-slot a j l = ahead-slot a.change a.path a.form j l

-- the key of one that has a parent
pub parent-key : (c s : ℕ) (p : Path) (w : AimForm) → alters c (s ∷ p) w ≡ true → suc (s + s) ≤ key (as_formed c (s ∷ p) w)
parent-key c s p FirstIn h = omega arith
parent-key c s [] AfterElement h = omega arith
parent-key c s (t ∷ p) AfterElement h = omega arith
parent-key c s p (Over zero) h = absurd (cc)
parent-key c s [] (Over (suc n)) h = omega arith
parent-key c s (t ∷ p) (Over (suc n)) h = omega arith

pub gap-key : (g c : ℕ) (p : Path) (w : AimForm) → IsGap g p w → g + g ≡ key (as_formed c p w)
gap-key g c [] FirstIn h = omega (arith, h)
gap-key g c [] AfterElement h = absurd h
gap-key g c [] (Over n) h = absurd h
gap-key g c (s ∷ []) FirstIn h = absurd h
gap-key g c (s ∷ []) AfterElement h = omega (arith, h)
gap-key g c (s ∷ []) (Over n) h = absurd h
gap-key g c (s ∷ t ∷ p) w h = absurd h

pub run-key : (f n c : ℕ) (p : Path) (w : AimForm) → IsRun f n p w → suc (f + f) ≡ key (as_formed c p w)
run-key f n c [] w h = absurd h
run-key f n c (s ∷ []) FirstIn h = absurd h
run-key f n c (s ∷ []) AfterElement h = absurd h
run-key f n c (s ∷ []) (Over zero) h = absurd (omega (arith, h))
run-key f n c (s ∷ []) (Over (suc k)) h = omega (arith, h)
run-key f n c (s ∷ t ∷ p) w h = absurd h

-- ---- one inside a child, among others
inner-site : (i c : ℕ) (q : Path) (w : AimForm) → alters c q w ≡ true → site (aim_in (i ∷ q) w) ≡ suc (i + i) ∷ site (aim_in q w)
inner-site i c q FirstIn h = refl
inner-site i c [] AfterElement h = absurd (cc)
inner-site i c (t ∷ q) AfterElement h = refl
inner-site i c [] (Over n) h = let wrong = sym (no-slot-above c n) ∙ h in absurd (cc)
inner-site i c (t ∷ q) (Over zero) h = absurd (cc)
inner-site i c (t ∷ q) (Over (suc n)) h = refl

some-site : (c : ℕ) (q : Path) (w : AimForm) → alters c q w ≡ true → 1 ≤ length (site (aim_in q w))
some-site c [] FirstIn h = omega arith
some-site c (t ∷ q) FirstIn h = omega arith
some-site c [] AfterElement h = absurd (cc)
some-site c (t ∷ []) AfterElement h = omega arith
some-site c (t ∷ u ∷ q) AfterElement h = omega arith
some-site c [] (Over n) h = let wrong = sym (no-slot-above c n) ∙ h in absurd (cc)
some-site c (t ∷ q) (Over zero) h = absurd (cc)
some-site c (t ∷ []) (Over (suc n)) h = omega arith
some-site c (t ∷ u ∷ q) (Over (suc n)) h = omega arith

pub below-site : (i : ℕ) (a : FormedAim) (below : IsBelow i a) → site (aim_in a.path a.form) ≡ suc (i + i) ∷ site (aim_in below.0 a.form)
below-site i a below = ap (λ p. site (aim_in p a.form)) below.1 ∙ inner-site i a.change below.0 a.form below.2

pub below-key : (i : ℕ) (a : FormedAim) → IsBelow i a → suc (i + i) ≡ key a
below-key i a below = sym (ap first_of (below-site i a below))

-- ---- the order
pub order-key : (ys xs : List ℕ) → is_before ys xs ≡ false → first_of xs ≤ first_of ys
order-key ys [] h = omega arith
order-key [] (x ∷ xs) h = absurd (cc)
order-key (y ∷ ys) (x ∷ xs) h = ltb-false y x (or_parts (nat_lt y x) (nat_eq y x && is_before ys xs) h).0

pub order-inside : (x : ℕ) (ys xs : List ℕ) → is_before (x ∷ ys) (x ∷ xs) ≡ is_before ys xs
order-inside x ys xs = ap₂ (λ a b. a || (b && is_before ys xs)) (le-ltb x x (omega arith)) (eq-eqb x x refl)

longer : (x : ℕ) (xs : List ℕ) → 1 ≤ length xs → is_before (x ∷ []) (x ∷ xs) ≡ true
longer x [] l = absurd (omega (arith, l))
longer x (y ∷ xs) l = order-inside x [] (y ∷ xs)

-- what comes after one inside a child, and is not inside it, is behind the child
module _ (i : ℕ) (xs : List ℕ) (some : 1 ≤ length xs) where
  behind : (c : ℕ) (p : Path) (w : AimForm) → (IsBelow i (as_formed c p w) → ⊥) → is_before (site (aim_in p w)) (suc (i + i) ∷ xs) ≡ false → suc (i + i) < key (as_formed c p w)
  behind c [] FirstIn away h = absurd (omega (arith, order-key (0 ∷ []) (suc (i + i) ∷ xs) h))
  behind c [] AfterElement away h = absurd (omega (arith, order-key (0 ∷ []) (suc (i + i) ∷ xs) h))
  behind c [] (Over zero) away h = absurd (cc)
  behind c [] (Over (suc n)) away h = absurd (cc)
  behind c (s ∷ p) FirstIn away h =
      let from = order-key (site (aim_in (s ∷ p) FirstIn)) (suc (i + i) ∷ xs) h in
      elim (cases_eq s i) [
        | inl same ↦ absurd (away (p, ap (λ k. k ∷ p) same, refl))
        | inr other ↦ omega (arith, from, other)
      ]
  behind c (s ∷ []) AfterElement away h = omega (arith, order-key (site (aim_in (s ∷ []) AfterElement)) (suc (i + i) ∷ xs) h)
  behind c (s ∷ t ∷ p) AfterElement away h =
      let from = order-key (site (aim_in (s ∷ t ∷ p) AfterElement)) (suc (i + i) ∷ xs) h in
      elim (cases_eq s i) [
        | inl same ↦ absurd (away (t ∷ p, ap (λ k. k ∷ t ∷ p) same, refl))
        | inr other ↦ omega (arith, from, other)
      ]
  behind c (s ∷ p) (Over zero) away h = absurd (cc)
  behind c (s ∷ []) (Over (suc n)) away h =
      let from = order-key (site (aim_in (s ∷ []) (Over (suc n)))) (suc (i + i) ∷ xs) h in
      elim (cases_eq s i) [
        | inl same ↦
            let wrong : is_before (suc (i + i) ∷ []) (suc (i + i) ∷ xs) ≡ false = ap (λ k. is_before (suc (k + k) ∷ []) (suc (i + i) ∷ xs)) (sym same) ∙ h in
            let right = longer (suc (i + i)) xs some in
            absurd (cc)
        | inr other ↦ omega (arith, from, other)
      ]
  behind c (s ∷ t ∷ p) (Over (suc n)) away h =
      let from = order-key (site (aim_in (s ∷ t ∷ p) (Over (suc n)))) (suc (i + i) ∷ xs) h in
      elim (cases_eq s i) [
        | inl same ↦ absurd (away (t ∷ p, ap (λ k. k ∷ t ∷ p) same, over-parent t p n))
        | inr other ↦ omega (arith, from, other)
      ]
    where
      over-parent : (t : ℕ) (p : Path) (n : ℕ) → alters c (t ∷ p) (Over (suc n)) ≡ true
      over-parent t p n = parent_over c (t ∷ p) (suc n) (omega arith) ∙ lt-ltb 0 (suc n) (omega arith)

pub behind-below : (i : ℕ) (a b : FormedAim) → IsBelow i a → (IsBelow i b → ⊥) → is_before (site (aim_in b.path b.form)) (site (aim_in a.path a.form)) ≡ false → suc (i + i) < key b
behind-below i a b below away h =
    behind i (site (aim_in below.0 a.form)) (some-site a.change below.0 a.form below.2) b.change b.path b.form away (ap (is_before (site (aim_in b.path b.form))) (sym (below-site i a below)) ∙ h)

-- ---- among so many children
pub idle-passes : (n : ℕ) (a : FormedAim) → has_parent (of_formed a) ≡ false → PassesAll n a
idle-passes n a h = record { gaps = λ j l. idle-gaps a h j; slots = λ j l. idle-slots a h j }

past-end : (n c : ℕ) (p : Path) (w : AimForm) → alters c p w ≡ true → 1 ≤ length p → n ≤ get_or p 0 0 → PassesAll n (as_formed c p w)
past-end n c [] w h some l = absurd (omega arith)
past-end n c (s ∷ p) w h some l =
    let least = parent-key c s p w h in
    record {
      gaps = λ j m. key-gap (as_formed c (s ∷ p) w) j (omega (arith, least, l, m));
      slots = λ j m. key-slot (as_formed c (s ∷ p) w) j (omega (arith, least, l, m));
    }

pub beyond-passes : (n : ℕ) (a : FormedAim) → has_parent (of_formed a) ≡ true → 1 ≤ length a.path → n ≤ get_or a.path 0 0 → PassesAll n a
beyond-passes n a h some l = past-end n a.change a.path a.form h some l

inner-alters : (c s t : ℕ) (q : Path) (w : AimForm) → alters c (s ∷ t ∷ q) w ≡ true → alters c (t ∷ q) w ≡ true
inner-alters c s t q FirstIn h = refl
inner-alters c s t q AfterElement h = refl
inner-alters c s t q (Over zero) h = absurd (cc)
inner-alters c s t q (Over (suc n)) h = parent_over c (t ∷ q) (suc n) (omega arith) ∙ lt-ltb 0 (suc n) (omega arith)

deeper : (c : ℕ) (p : Path) (w : AimForm) → alters c p w ≡ true → 2 ≤ length p → IsBelow (get_or p 0 0) (as_formed c p w)
deeper c [] w h l = absurd (omega arith)
deeper c (s ∷ []) w h l = absurd (omega arith)
deeper c (s ∷ t ∷ q) w h l = (t ∷ q, refl, inner-alters c s t q w h)

pub is-below : (a : FormedAim) → has_parent (of_formed a) ≡ true → 2 ≤ length a.path → IsBelow (get_or a.path 0 0) a
is-below a h l = deeper a.change a.path a.form h l

run-here : (n c : ℕ) (p : Path) (w : AimForm) → w ≡ Over n → alters c p w ≡ true → 1 ≤ length p → length p < 2 → IsRun (get_or p 0 0) n p w
run-here n c [] w is h some l = absurd (omega arith)
run-here n c (s ∷ t ∷ p) w is h some l = absurd (omega arith)
run-here n c (s ∷ []) FirstIn is h some l = absurd (cc)
run-here n c (s ∷ []) AfterElement is h some l = absurd (cc)
run-here n c (s ∷ []) (Over zero) is h some l = absurd (cc)
run-here n c (s ∷ []) (Over (suc k)) is h some l =
    let same : ◌≡◌ {A = ℕ} (suc k) n = cc in
    (refl, same, omega (arith, same))

pub is-run : (n : ℕ) (a : FormedAim) → a.form ≡ Over n → has_parent (of_formed a) ≡ true → 1 ≤ length a.path → length a.path < 2 → IsRun (get_or a.path 0 0) n a.path a.form
is-run n a is h some l = run-here n a.change a.path a.form is h some l
