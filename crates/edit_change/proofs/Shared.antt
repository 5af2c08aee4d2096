-- When two aims share a target, in document order.
--     same-parent                   two paths that are one have one parent and one slot
--     shared-run, run-shared        runs of siblings share one exactly if they are of one parent, and share a slot
--     slot-replaced                 a slot of a run
--     shares-turned                 either way round
--     RunAt, over-run               an aim over the top or over a run of siblings, from this path on
--     shares-reaches                what shares a target with a later one reaches it
--     reaches-between               what reaches one reaches those between
--     over-some, over-runs          an aim over something
--     shares-none, shares-there, shares-back     what code tests: nothing is replaced; one aims from what the other replaces, and the other way round
--     last-shares                   what reaches an aim that is between two that share a target shares it
use Rattle.std.specs.Prelude.{◌≡◌, ◌≢◌, ◌<◌, ◌≤◌, ◌+◌, ℕ, zero, suc, Bool, true, false, ◌||◌, nat_lt, List, [], ◌∷◌, ◌++◌, length, refl}
use Rattle.std.specs.List.{list_any}
use Rattle.std.proofs.Common.{ap, ap₂, sym, subst, ◌∙◌, arith, append_assoc}
use Rattle.std.proofs.lemmas.Bool.{cases_Bool, cases_lt, or_left, lt-ltb, true_from_ne_false, false≢true, true≢false}
use Rattle.std.proofs.lemmas.List.{length-append}
use mathlib.Core.Logic.{inl, inr}
use Rattle.cst_core.specs.Path.{Path, same_path, has_path, parent_path, last_slot, up_to}
use Rattle.cst_core.proofs.LastSlot.{parent-and-slot}
use Rattle.edit_change.specs.Aim.{Aim, FirstIn, AfterElement, Over, replaces}
use Rattle.edit_change.specs.inner.Aimed.{siblings_from, aim_in, some_path}
use Rattle.edit_change.specs.inner.Clash.{shares}
use Rattle.edit_change.specs.inner.DocumentOrder.{on_the_way, site, is_before}
use Rattle.edit_change.specs.inner.Open.{replaced, surrounds}
use Rattle.edit_change.specs.declared.aimed.AimForm.{AimForm}
use Rattle.edit_change.specs.declared.aimed.AimForm.TheVariants as form
use Rattle.edit_change.proofs.Around.{around-turned}
use Rattle.edit_change.proofs.Paths.{same_path-true, same_path_from, meets}
use Rattle.edit_change.proofs.Positions.{same-test}
use Rattle.edit_change.proofs.Sites.{later, sooner, run, any-sibling, sibling-any, way-push, way-to, LeadsInto, up_to-leads, leads-up_to, LiesIn, between, split-back, ends-or-goes-on}

-- ---- runs of siblings
abbrev pub IsShared : ℕ → ℕ → ℕ → ℕ → Type 0
IsShared f n g m = (s : ℕ) × (f ≤ s) × (s < f + n) × (g ≤ s) × (s < g + m)

pub same-parent : (p q : Path) (s t : ℕ) → q ++ t ∷ [] ≡ p ++ s ∷ [] → (q ≡ p) × (t ≡ s)
same-parent p q s t e =
    elim (ends-or-goes-on q p t s [] e) [
      | inl ends ↦ ends
      | inr on ↦
          let l = ap length e in
          let k = ap length on.1 in
          absurd (omega (arith, l, k, length-append q (t ∷ []), length-append p (s ∷ []), length-append p (s ∷ on.0)))
    ]

pub shared-run : (p : Path) (f n : ℕ) (q : Path) (g m : ℕ) → list_any (has_path (run p f n)) (run q g m) ≡ true → (q ≡ p) × IsShared f n g m
shared-run p f n q g m h =
    let one = any-sibling (has_path (run p f n)) q g m h in
    let two = any-sibling (same_path (q ++ one.0 ∷ [])) p f n one.3 in
    let same = same-parent p q two.0 one.0 (same_path-true (q ++ one.0 ∷ []) (p ++ two.0 ∷ []) two.3) in
    let e = same.1 in
    (same.0, (one.0, omega (arith, e, two.1), omega (arith, e, two.2), one.1, one.2))

pub slot-replaced : (p : Path) (f n s : ℕ) → f ≤ s → s < f + n → has_path (run p f n) (p ++ s ∷ []) ≡ true
slot-replaced p f n s l m = sibling-any (same_path (p ++ s ∷ [])) p f n s l m (same_path_from (p ++ s ∷ []) (p ++ s ∷ []) refl)

pub run-shared : (p : Path) (f n g m : ℕ) → IsShared f n g m → list_any (has_path (run p f n)) (run p g m) ≡ true
run-shared p f n g m is = sibling-any (has_path (run p f n)) p g m is.0 is.3 is.4 (slot-replaced p f n is.0 is.1 is.2)

pub shares-turned : (a b : Aim) → shares a b ≡ shares b a
shares-turned a b = around-turned (replaced a) (replaced b)

-- ---- aims over something
pub data RunAt (a : Aim) (q : Path) : Type 0 where
  Top : a ≡ Over ([] ∷ []) → q ≡ [] → RunAt a q
  Siblings : (p : Path) (f k : ℕ) → a ≡ Over (run p f (suc k)) → q ≡ p ++ f ∷ [] → RunAt a q

pub over-run : (q : Path) (n : ℕ) → n ≢ 0 → RunAt (Over (siblings_from q n)) q
over-run q zero some = absurd (some refl)
over-run [] (suc n) some = Top refl refl
over-run (i ∷ q) (suc n) some = Siblings (parent_path (i ∷ q)) (last_slot (i ∷ q)) n refl (parent-and-slot i q)

-- what a run reaches, by sites
path-lies : (p : Path) (f n : ℕ) (q : Path) → LeadsInto p f n q → LiesIn p (suc (f + f)) (f + n + (f + n)) (on_the_way q)
path-lies p f n q into =
    let s = into.slot in
    record { key = suc (s + s); more = on_the_way into.rest; is = ap on_the_way into.is ∙ way-over p s into.rest; from = omega (arith, into.from); upto = omega (arith, into.below) }
  where
    way-over : (p : Path) (s : ℕ) (rest : Path) → on_the_way (p ++ s ∷ rest) ≡ on_the_way p ++ suc (s + s) ∷ on_the_way rest
    way-over [] s rest = refl
    way-over (i ∷ p) s rest = ap (λ xs. suc (i + i) ∷ xs) (way-over p s rest)

lies-path : (p : Path) (f n : ℕ) (q : Path) (g : ℕ) → LiesIn p (suc (f + f)) (f + n + (f + n)) (on_the_way (q ++ g ∷ [])) → LeadsInto p f n (q ++ g ∷ [])
lies-path p f n q g lies =
    elim (split-back q p (suc (g + g)) lies.key lies.more (sym (way-push q g) ∙ lies.is)) [
      | inl through ↦
          let e = through.3 in
          record { slot = through.0; rest = through.1 ++ g ∷ []; is = ap (λ r. r ++ g ∷ []) through.2 ∙ append_assoc p (through.0 ∷ through.1) (g ∷ []); from = omega (arith, e, lies.from); below = omega (arith, e, lies.upto) }
      | inr ends ↦
          let e = ends.1 in
          record { slot = g; rest = []; is = ap (λ r. r ++ g ∷ []) ends.0; from = omega (arith, e, lies.from); below = omega (arith, e, lies.upto) }
    ]

no-lead : (p : Path) (f n : ℕ) → LeadsInto p f n [] → ⊥
no-lead p f n into = let l = ap length into.is in omega (arith, l, length-append p (into.slot ∷ into.rest))

reach-run : (p : Path) (f n : ℕ) (a : Aim) (q : Path) → a ≡ Over (run p f n) → surrounds (up_to q) a ≡ true → LeadsInto p f n q
reach-run p f n a q is h = up_to-leads p f n q (ap (surrounds (up_to q)) (sym is) ∙ h)

run-reach : (p : Path) (f n : ℕ) (a : Aim) (q : Path) → a ≡ Over (run p f n) → LeadsInto p f n q → surrounds (up_to q) a ≡ true
run-reach p f n a q is into = ap (surrounds (up_to q)) is ∙ leads-up_to p f n q into

top-reach : (a : Aim) (q : Path) → a ≡ Over ([] ∷ []) → surrounds (up_to q) a ≡ true
top-reach a q is = ap (surrounds (up_to q)) is ∙ or_left (has_path (up_to q) []) false (way-to [] q)

-- a run and the top share nothing
run-top : (p : Path) (f n : ℕ) → list_any (has_path (run p f n)) ([] ∷ []) ≡ true → ⊥
run-top p f n h =
    let found = any-sibling (same_path []) p f n (only (has_path (run p f n) []) h) in
    let l = ap length (same_path-true [] (p ++ found.0 ∷ []) found.3) in
    omega (arith, l, length-append p (found.0 ∷ []))
  where
    only : (b : Bool) → (b || false) ≡ true → b ≡ true
    only true h = refl
    only false h = h

-- in document order, by the slots of one parent
first-before : (p : Path) (f g : ℕ) → is_before (on_the_way (p ++ g ∷ [])) (on_the_way (p ++ f ∷ [])) ≡ false → f ≤ g
first-before p f g h =
    elim (cases_lt g f) [
      | inl less ↦ absurd (true≢false (sym (ahead p less) ∙ h))
      | inr more ↦ more
    ]
  where
    ahead : (p : Path) → g < f → is_before (on_the_way (p ++ g ∷ [])) (on_the_way (p ++ f ∷ [])) ≡ true
    ahead [] less = sooner (suc (g + g)) (suc (f + f)) [] [] (omega (arith, less))
    ahead (i ∷ p) less = later (suc (i + i)) (suc (i + i)) (on_the_way (p ++ g ∷ [])) (on_the_way (p ++ f ∷ [])) refl ∙ ahead p less

pub shares-reaches : (a b : Aim) (w q : Path) → RunAt a w → RunAt b q → is_before (site b) (site a) ≡ false → shares a b ≡ true → surrounds (up_to q) a ≡ true
shares-reaches a b w q (Top is at) run_b order h = top-reach a q is
shares-reaches a b w q (Siblings p f k is at) (Top is_b at_b) order h = absurd (run-top p f (suc k) (sym (ap₂ shares is is_b) ∙ h))
shares-reaches a b w q (Siblings p f k is at) (Siblings r g m is_b at_b) order h =
    let both = shared-run p f (suc k) r g (suc m) (sym (ap₂ shares is is_b) ∙ h) in
    let first : f ≤ g = first-before p f g (ap₂ is_before (sym (ap site is_b ∙ ap (λ u. on_the_way (u ++ g ∷ [])) both.0)) (sym (ap site is)) ∙ order) in
    let s = both.1 in
    run-reach p f (suc k) a q is (record { slot = g; rest = []; is = at_b ∙ ap (λ u. u ++ g ∷ []) both.0; from = first; below = omega (arith, s.2, s.3) })

pub reaches-between : (a o x : Aim) (v w q : Path) → RunAt a v → RunAt o w → RunAt x q → is_before (site o) (site a) ≡ false → is_before (site x) (site o) ≡ false → surrounds (up_to q) a ≡ true → surrounds (up_to w) a ≡ true
reaches-between a o x v w q (Top is at) run_o run_x first last h = top-reach a w is
reaches-between a o x v w q (Siblings p f k is at) run_o (Top is_x at_x) first last h =
    absurd (no-lead p f (suc k) (subst (LeadsInto p f (suc k)) at_x (reach-run p f (suc k) a q is h)))
reaches-between a o x v w q (Siblings p f k is at) run_o (Siblings r g m is_x at_x) first last h =
    let lies : LiesIn p (suc (f + f)) (f + suc k + (f + suc k)) (site x) = subst (LiesIn p (suc (f + f)) (f + suc k + (f + suc k))) (ap on_the_way at_x ∙ sym (ap site is_x)) (path-lies p f (suc k) q (reach-run p f (suc k) a q is h)) in
    let start : is_before (site o) (on_the_way p ++ suc (f + f) ∷ []) ≡ false = ap (is_before (site o)) (sym (ap site is ∙ way-push p f)) ∙ first in
    let there = between p (suc (f + f)) (f + suc k + (f + suc k)) (site o) (site x) start last lies in
    go run_o there
  where
    go : RunAt o w → LiesIn p (suc (f + f)) (f + suc k + (f + suc k)) (site o) → surrounds (up_to w) a ≡ true
    go (Top is_o at_o) there =
        let l = ap length (sym (ap site is_o) ∙ there.is) in
        absurd (omega (arith, l, length-append (on_the_way p) (there.key ∷ there.more)))
    go (Siblings u h j is_o at_o) there =
        run-reach p f (suc k) a w is (subst (LeadsInto p f (suc k)) (sym at_o) (lies-path p f (suc k) u h (subst (LiesIn p (suc (f + f)) (f + suc k + (f + suc k))) (ap site is_o) there)))

-- the last that is open
pub last-shares : (a o x : Aim) (v w q : Path) → RunAt a v → RunAt o w → RunAt x q → surrounds (up_to w) a ≡ true → surrounds (up_to q) o ≡ true → shares a x ≡ true → shares o x ≡ true
last-shares a o x v w q (Top is at) (Top is_o at_o) run_x h k s = ap (λ b. shares b x) (is_o ∙ sym is) ∙ s
last-shares a o x v w q (Top is at) (Siblings u g j is_o at_o) (Top is_x at_x) h k s =
    absurd (no-lead u g (suc j) (subst (LeadsInto u g (suc j)) at_x (reach-run u g (suc j) o q is_o k)))
last-shares a o x v w q (Top is at) (Siblings u g j is_o at_o) (Siblings r e m is_x at_x) h k s =
    absurd (run-top r e (suc m) (sym (ap₂ shares is_x is) ∙ shares-turned x a ∙ s))
last-shares a o x v w q (Siblings p f n is at) (Top is_o at_o) run_x h k s =
    absurd (no-lead p f (suc n) (subst (LeadsInto p f (suc n)) at_o (reach-run p f (suc n) a w is h)))
last-shares a o x v w q (Siblings p f n is at) (Siblings u g j is_o at_o) (Top is_x at_x) h k s =
    absurd (run-top p f (suc n) (sym (ap₂ shares is is_x) ∙ s))
last-shares a o x v w q (Siblings p f n is at) (Siblings u g j is_o at_o) (Siblings r e m is_x at_x) h k s =
    let alike = (shared-run p f (suc n) r e (suc m) (sym (ap₂ shares is is_x) ∙ s)).0 in
    let outer = reach-run p f (suc n) a w is h in
    let inner = reach-run u g (suc j) o q is_o k in
    let long_o : length u + 1 ≡ length p + length (outer.slot ∷ outer.rest) = sym (length-append u (g ∷ [])) ∙ ap length (sym at_o ∙ outer.is) ∙ length-append p (outer.slot ∷ outer.rest) in
    let long_x : length r + 1 ≡ length u + length (inner.slot ∷ inner.rest) = sym (length-append r (e ∷ [])) ∙ ap length (sym at_x ∙ inner.is) ∙ length-append u (inner.slot ∷ inner.rest) in
    let same_long = ap length alike in
    let ends : r ++ e ∷ [] ≡ u ++ inner.slot ∷ inner.rest = sym at_x ∙ inner.is in
    elim (ends-or-goes-on r u e inner.slot inner.rest ends) [
      | inl here ↦
          let slot = here.1 in
          ap₂ shares is_o (is_x ∙ ap (λ y. Over (run y e (suc m))) here.0) ∙ run-shared u g (suc j) e (suc m) (e, omega (arith, slot, inner.from), omega (arith, slot, inner.below), omega arith, omega arith)
      | inr on ↦
          let more = ap length on.1 in
          absurd (omega (arith, long_o, same_long, more, length-append u (inner.slot ∷ on.0)))
    ]

-- ---- what code tests
none-over : (ps : List Path) → some_path ps ≡ false → ps ≡ []
none-over [] h = refl
none-over (p ∷ ps) h = absurd (true≢false h)

shares-nothing : (ps : List Path) → list_any (has_path []) ps ≡ false
shares-nothing [] = refl
shares-nothing (p ∷ ps) = shares-nothing ps

pub over-some : (p : Path) (n : ℕ) → nat_lt 0 n ≡ some_path (siblings_from p n)
over-some [] zero = refl
over-some (i ∷ p) zero = refl
over-some [] (suc n) = lt-ltb 0 (suc n) (omega arith)
over-some (i ∷ p) (suc n) = lt-ltb 0 (suc n) (omega arith)

pub over-runs : (p : Path) (w : AimForm) → some_path (replaced (aim_in p w)) ≡ true → RunAt (aim_in p w) p
over-runs p form.FirstIn h = absurd (false≢true h)
over-runs p form.AfterElement h = absurd (false≢true h)
over-runs p (form.Over n) h =
    over-run p n (λ e. false≢true (sym (ap (λ k. some_path (siblings_from p k)) e ∙ none p) ∙ h))
  where
    none : (p : Path) → some_path (siblings_from p 0) ≡ false
    none [] = refl
    none (i ∷ p) = refl

-- what replaces something replaces the element from which it aims
own-path : (a : Aim) (p : Path) → RunAt a p → has_path (replaced a) p ≡ true
own-path a p (Top is at) = ap₂ (λ b q. has_path (replaced b) q) is at
own-path a p (Siblings r f k is at) = ap₂ (λ b q. has_path (replaced b) q) is at ∙ slot-replaced r f (suc k) f (omega arith) (omega arith)

as-replaced : (a : Aim) (p : Path) → replaces p a ≡ has_path (replaced a) p
as-replaced (FirstIn q) p = refl
as-replaced (AfterElement q) p = refl
as-replaced (Over qs) p = refl

module _ (v : Path) (w : AimForm) (q : Path) (x : AimForm) where
  abbrev one : Aim
  one = aim_in v w

  abbrev two : Aim
  two = aim_in q x

  pub shares-none : some_path (replaced one) ≡ false → false ≡ shares one two
  shares-none h = sym (ap (λ ps. list_any (has_path ps) (replaced two)) (none-over (replaced one) h) ∙ shares-nothing (replaced two))

  pub shares-there : replaces q one ≡ true → some_path (replaced two) ≡ shares one two
  shares-there h =
      elim (cases_Bool (some_path (replaced two))) [
        | inl some ↦ some ∙ sym (meets (replaced one) (replaced two) q (sym (as-replaced one q) ∙ h) (own-path two q (over-runs q x some)))
        | inr none ↦ none ∙ sym (ap (λ ps. list_any (has_path (replaced one)) ps) (none-over (replaced two) none))
      ]

  pub shares-back : replaces q one ≡ false → some_path (replaced one) ≡ true → replaces v two ≡ shares one two
  shares-back other some =
      same-test (replaces v two) (shares one two) (λ h. meets (replaced one) (replaced two) v (own-path one v (over-runs v w some)) (sym (as-replaced two v) ∙ h)) (λ h. back (over-runs v w some) (over-runs q x (some-two h)) h)
    where
      some-two : shares one two ≡ true → some_path (replaced two) ≡ true
      some-two h = true_from_ne_false (some_path (replaced two)) (λ none. false≢true (sym (ap (λ ps. list_any (has_path (replaced one)) ps) (none-over (replaced two) none)) ∙ h))

      back : RunAt one v → RunAt two q → shares one two ≡ true → replaces v two ≡ true
      back (Top is at) (Top is_b at_b) h = absurd (false≢true (sym other ∙ ap₂ replaces at_b is))
      back (Top is at) (Siblings r g m is_b at_b) h = absurd (run-top r g (suc m) (sym (ap₂ shares is_b is) ∙ shares-turned two one ∙ h))
      back (Siblings p f k is at) (Top is_b at_b) h = absurd (run-top p f (suc k) (sym (ap₂ shares is is_b) ∙ h))
      back (Siblings p f k is at) (Siblings r g m is_b at_b) h =
          let both = shared-run p f (suc k) r g (suc m) (sym (ap₂ shares is is_b) ∙ h) in
          let s = both.1 in
          let before : g < f = elim (cases_lt g f) [
            | inl less ↦ less
            | inr more ↦ absurd (false≢true (sym other ∙ ap₂ replaces (at_b ∙ ap (λ u. u ++ g ∷ []) both.0) is ∙ slot-replaced p f (suc k) g more (omega (arith, s.2, s.3))))
          ] in
          ap₂ replaces (at ∙ ap (λ u. u ++ f ∷ []) (sym both.0)) is_b ∙ slot-replaced r g (suc m) f (omega (arith, before)) (omega (arith, s.1, s.4))
