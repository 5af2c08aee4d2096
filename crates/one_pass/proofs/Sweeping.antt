-- A sweep over aims in document order puts what all of them put.
--     at-any                        an item that is there, whatever stands in for one that is not
--     quiet-gap, quiet-slot         aims that are behind a gap, a slot
--     share-on                      a child before all aims stays
--     pass-on, pass-slot            an aim that says nothing of what is left
--     put-gap, put-run              an insert at this gap; a replacement from this slot on
--     open-on                       the aims inside a child, and then those behind it
--     inside-lowered                as they are seen from the child
use Rattle.std.specs.Prelude.{◌≡◌, ℕ, zero, suc, ◌+◌, ◌-◌, ◌<◌, ◌≤◌, max, Bool, true, false, cond, ◌||◌, nat_eq, nat_lt, List, [], ◌∷◌, ◌++◌, length, get_or, refl}
use Rattle.std.specs.List.{AllByRecursion}
use Rattle.std.proofs.Common.{ap, ap₂, sym, ◌∙◌, arith}
use Rattle.std.proofs.lemmas.Bool.{cases_lt, eq-eqb, ne_eqb, lt-ltb, le-ltb}
use Rattle.std.proofs.lemmas.List.{append_assoc}
use mathlib.Core.Logic.{◌⊎◌, inl, inr}
use Rattle.green_tree.specs.declared.green.GreenElement.{GreenElement}
use Rattle.green_tree.specs.Path.{Path}
use Rattle.edit_change.specs.declared.aimed.AimForm.{AimForm}
use Rattle.edit_change.specs.declared.aimed.AimForm.TheVariants.{FirstIn, AfterElement, Over}
use Rattle.edit_change.specs.inner.Aimed.{FormedAim}
use Rattle.one_pass.specs.inner.Sweep.{From, IsGap, IsRun, IsBelow, QuietSlot, inside_one, inside_child, gap_test, covered, in_gap, from_slot, in_slot, left}
use Rattle.one_pass.proofs.OneAim.{key-gap, key-slot, gap-gaps, gap-slots, run-gaps, run-start, run-over, run-inside, below-gaps, below-slots, below-overs}

pub at-any : {X : Type 0} (xs : List X) (i : ℕ) (a d : X) → i < length xs → get_or xs i a ≡ get_or xs i d
at-any [] i a d l = absurd (omega (arith, l))
at-any (x ∷ xs) zero a d l = refl
at-any (x ∷ xs) (suc i) a d l = at-any xs i a d (omega (arith, l))

pub from-less : (m n : ℕ) (xs : List FormedAim) → m ≤ n → From n xs → From m xs
from-less m n [] l h = tt
from-less m n (a ∷ xs) l h = (omega (arith, l, h.0), from-less m n xs l h.1)

module _ {X : Type 0} (given : ℕ → List X) where
  pub quiet-gap : (j : ℕ) (xs : List FormedAim) → From (suc (j + j)) xs → in_gap given j xs ≡ []
  quiet-gap j [] h = refl
  quiet-gap j (a ∷ xs) h = ap (λ b. cond b (given a.change) [] ++ in_gap given j xs) (key-gap a j (omega (arith, h.0))) ∙ quiet-gap j xs h.1

  pub quiet-start : (j : ℕ) (xs : List FormedAim) → From (suc (suc (j + j))) xs → from_slot given j xs ≡ []
  quiet-start j [] h = refl
  quiet-start j (a ∷ xs) h = ap (λ b. cond b (given a.change) [] ++ from_slot given j xs) (key-slot a j (omega (arith, h.0))).start ∙ quiet-start j xs h.1

pub quiet-covered : (j : ℕ) (xs : List FormedAim) → From (suc (suc (j + j))) xs → covered j xs ≡ false
quiet-covered j [] h = refl
quiet-covered j (a ∷ xs) h = ap (λ b. b || covered j xs) (key-slot a j (omega (arith, h.0))).over ∙ quiet-covered j xs h.1

pub quiet-inside : (j : ℕ) (xs : List FormedAim) → From (suc (suc (j + j))) xs → inside_child j xs ≡ []
quiet-inside j [] h = refl
quiet-inside j (a ∷ xs) h = ap (λ ys. ys ++ inside_child j xs) (key-slot a j (omega (arith, h.0))).inside ∙ quiet-inside j xs h.1

-- ---- turns
module _ {X : Type 0} (given : ℕ → List X) (made : ℕ → List FormedAim → GreenElement → X) where
  -- a child that is before all aims, and then what is left
  pub share-on : (p : ℕ) (xs : List FormedAim) (i : ℕ) (e : GreenElement) (es : List GreenElement) → From (suc (suc (i + i))) xs → left given made p xs i (e ∷ es) ≡ cond (nat_lt i p) [] (made i [] e ∷ []) ++ left given made p xs (suc i) es
  share-on p xs i e es h =
      let rest = left given made p xs (suc i) es in
      let later = from-less (suc (i + i)) (suc (suc (i + i))) xs (omega arith) h in
      ap (λ us. us ++ (in_slot given made p xs i e ++ rest)) (quiet-gap given i xs later) ∙ ap (λ b. cond (b || nat_lt i p) (from_slot given i xs) (made i (inside_child i xs) e ∷ []) ++ rest) (quiet-covered i xs h) ∙ ap₂ (λ us ys. cond (nat_lt i p) us (made i ys e ∷ []) ++ rest) (quiet-start given i xs h) (quiet-inside i xs h)

  -- an aim that says nothing of a child
  pub pass-slot : (p : ℕ) (a : FormedAim) (xs : List FormedAim) (j : ℕ) (e : GreenElement) → QuietSlot a j → in_slot given made p (a ∷ xs) j e ≡ in_slot given made p xs j e
  pass-slot p a xs j e q =
      ap (λ b. cond ((b || covered j xs) || nat_lt j p) (from_slot given j (a ∷ xs)) (made j (inside_child j (a ∷ xs)) e ∷ [])) q.over ∙ ap₂ (λ b ys. cond (covered j xs || nat_lt j p) (cond b (given a.change) [] ++ from_slot given j xs) (made j (ys ++ inside_child j xs) e ∷ [])) q.start q.inside

  pub pass-on : (p : ℕ) (a : FormedAim) (xs : List FormedAim) (i : ℕ) (es : List GreenElement) → ((j : ℕ) → i ≤ j → j ≤ i + length es → gap_test j a ≡ false) → ((j : ℕ) → i ≤ j → j < i + length es → QuietSlot a j) → left given made p (a ∷ xs) i es ≡ left given made p xs i es
  pass-on p a xs i [] gaps slots = ap (λ b. cond b (given a.change) [] ++ in_gap given i xs) (gaps i (omega arith) (omega arith))
  pass-on p a xs i (e ∷ es) gaps slots =
      let later = pass-on p a xs (suc i) es (λ j l m. gaps j (omega (arith, l)) (omega (arith, m))) (λ j l m. slots j (omega (arith, l)) (omega (arith, m))) in
      ap₂ (λ us vs. us ++ vs) (ap (λ b. cond b (given a.change) [] ++ in_gap given i xs) (gaps i (omega arith) (omega arith))) (ap₂ (λ us vs. us ++ vs) (pass-slot p a xs i e (slots i (omega arith) (omega arith))) later)

  -- what an aim puts before all the rest
  next-gap : (j g : ℕ) → g < j → nat_eq j g ≡ false
  next-gap j g l = ne_eqb j g (λ e. absurd (omega (arith, l, e)))

  pub put-gap : (p : ℕ) (a : FormedAim) (xs : List FormedAim) (i : ℕ) (es : List GreenElement) → IsGap i a.path a.form → left given made p (a ∷ xs) i es ≡ given a.change ++ left given made p xs i es
  put-gap p a xs i [] is =
      ap (λ b. cond b (given a.change) [] ++ in_gap given i xs) (gap-gaps i a.change a.path a.form is i ∙ eq-eqb i i refl)
  put-gap p a xs i (e ∷ es) is =
      let own = given a.change in
      let slots : (j : ℕ) → QuietSlot a j = gap-slots i a.change a.path a.form is in
      let here : in_gap given i (a ∷ xs) ≡ own ++ in_gap given i xs = ap (λ b. cond b own [] ++ in_gap given i xs) (gap-gaps i a.change a.path a.form is i ∙ eq-eqb i i refl) in
      let later = pass-on p a xs (suc i) es (λ j l m. gap-gaps i a.change a.path a.form is j ∙ next-gap j i (omega (arith, l))) (λ j l m. slots j) in
      ap₂ (λ us vs. us ++ vs) here (ap₂ (λ us vs. us ++ vs) (pass-slot p a xs i e (slots i)) later) ∙ append_assoc own (in_gap given i xs) (in_slot given made p xs i e ++ left given made p xs (suc i) es)

  -- a replacement goes on to the greater end
  both-ends : (i n p j : ℕ) (c : Bool) → i ≤ j → ((nat_lt (j - i) n || c) || nat_lt j p) ≡ (c || nat_lt j (max p (i + n)))
  both-ends i n p j c l =
      elim (cases_lt (j - i) n) [
        | inl inside ↦ ap (λ b. (b || c) || nat_lt j p) (lt-ltb (j - i) n inside) ∙ sym (ap (λ b. c || b) (lt-ltb j (max p (i + n)) (omega (arith, inside, l))) ∙ always c)
        | inr outside ↦ ap (λ b. (b || c) || nat_lt j p) (le-ltb (j - i) n outside) ∙ ap (λ b. c || b) (same (omega (arith, outside, l)) (cases_lt j p))
      ]
    where
      always : (b : Bool) → (b || true) ≡ true
      always true = refl
      always false = refl

      same : i + n ≤ j → (j < p) ⊎ (p ≤ j) → nat_lt j p ≡ nat_lt j (max p (i + n))
      same past (inl under) = lt-ltb j p under ∙ sym (lt-ltb j (max p (i + n)) (omega (arith, under)))
      same past (inr over) = le-ltb j p over ∙ sym (le-ltb j (max p (i + n)) (omega (arith, past, over)))

  run-slot : (p n : ℕ) (a : FormedAim) (xs : List FormedAim) (i j : ℕ) (e : GreenElement) → IsRun i n a.path a.form → i < j → in_slot given made p (a ∷ xs) j e ≡ in_slot given made (max p (i + n)) xs j e
  run-slot p n a xs i j e is l =
      ap (λ b. cond ((b || covered j xs) || nat_lt j p) (from_slot given j (a ∷ xs)) (made j (inside_child j (a ∷ xs)) e ∷ [])) (run-over i n a.change a.path a.form is j (omega (arith, l))) ∙ ap (λ b. cond b (from_slot given j (a ∷ xs)) (made j (inside_child j (a ∷ xs)) e ∷ [])) (both-ends i n p j (covered j xs) (omega (arith, l))) ∙ ap₂ (λ b ys. cond (covered j xs || nat_lt j (max p (i + n))) (cond b (given a.change) [] ++ from_slot given j xs) (made j (ys ++ inside_child j xs) e ∷ [])) (run-start i n a.change a.path a.form is j ∙ next-gap j i l) (run-inside i n a.change a.path a.form is j)

  run-on : (p n : ℕ) (a : FormedAim) (xs : List FormedAim) (i j : ℕ) (es : List GreenElement) → IsRun i n a.path a.form → i < j → left given made p (a ∷ xs) j es ≡ left given made (max p (i + n)) xs j es
  run-on p n a xs i j [] is l = ap (λ b. cond b (given a.change) [] ++ in_gap given j xs) (run-gaps i n a.change a.path a.form is j)
  run-on p n a xs i j (e ∷ es) is l =
      ap₂ (λ us vs. us ++ vs) (ap (λ b. cond b (given a.change) [] ++ in_gap given j xs) (run-gaps i n a.change a.path a.form is j)) (ap₂ (λ us vs. us ++ vs) (run-slot p n a xs i j e is l) (run-on p n a xs i (suc j) es is (omega (arith, l))))

  some-run : (f n : ℕ) (a : FormedAim) → IsRun f n a.path a.form → 0 < n
  some-run f n a is = go a.path a.form is
    where
      go : (q : Path) (w : AimForm) → IsRun f n q w → 0 < n
      go [] w h = absurd h
      go (s ∷ []) FirstIn h = absurd h
      go (s ∷ []) AfterElement h = absurd h
      go (s ∷ []) (Over k) h = h.2
      go (s ∷ t ∷ q) w h = absurd h

  pub put-run : (p n : ℕ) (a : FormedAim) (xs : List FormedAim) (i : ℕ) (e : GreenElement) (es : List GreenElement) → IsRun i n a.path a.form → From (suc (i + i)) xs → left given made p (a ∷ xs) i (e ∷ es) ≡ given a.change ++ left given made (max p (i + n)) xs i (e ∷ es)
  put-run p n a xs i e es is later =
      let own = given a.change in
      let q = max p (i + n) in
      let some = some-run i n a is in
      let rest = left given made q xs (suc i) es in
      let none = quiet-gap given i xs later in
      let no_gap : in_gap given i (a ∷ xs) ≡ [] = ap (λ b. cond b own [] ++ in_gap given i xs) (run-gaps i n a.change a.path a.form is i) ∙ none in
      let put : in_slot given made p (a ∷ xs) i e ≡ own ++ from_slot given i xs = ap (λ b. cond ((b || covered i xs) || nat_lt i p) (from_slot given i (a ∷ xs)) (made i (inside_child i (a ∷ xs)) e ∷ [])) (run-over i n a.change a.path a.form is i (omega arith) ∙ lt-ltb (i - i) n (omega (arith, some))) ∙ ap (λ b. cond b own [] ++ from_slot given i xs) (run-start i n a.change a.path a.form is i ∙ eq-eqb i i refl) in
      let next : in_slot given made q xs i e ≡ from_slot given i xs = ap (λ b. cond (covered i xs || b) (from_slot given i xs) (made i (inside_child i xs) e ∷ [])) (lt-ltb i q (omega (arith, some))) ∙ either (covered i xs) (from_slot given i xs) (made i (inside_child i xs) e ∷ []) in
      ap₂ (λ us vs. us ++ vs) no_gap (ap₂ (λ us vs. us ++ vs) put (run-on p n a xs i (suc i) es is (omega arith))) ∙ append_assoc own (from_slot given i xs) rest ∙ ap (λ us. own ++ us) (sym (ap₂ (λ us vs. us ++ (vs ++ rest)) none next))
    where
      either : (b : Bool) (us vs : List X) → cond (b || true) us vs ≡ us
      either true us vs = refl
      either false us vs = refl

  -- ---- the aims inside a child, and those behind it
  pub past-inside : (p : ℕ) (run xs : List FormedAim) (i j : ℕ) (es : List GreenElement) → AllByRecursion (IsBelow i) run → i < j → left given made p (run ++ xs) j es ≡ left given made p xs j es
  past-inside p [] xs i j es all l = refl
  past-inside p (a ∷ run) xs i j es all l =
      pass-on p a (run ++ xs) j es (λ k m n. below-gaps i a all.0 k) (λ k m n. below-slots i a all.0 k (λ e. absurd (omega (arith, l, m, e)))) ∙ past-inside p run xs i j es all.1 l

  no-inside-gap : (run xs : List FormedAim) (i : ℕ) → AllByRecursion (IsBelow i) run → From (suc (i + i)) xs → in_gap given i (run ++ xs) ≡ []
  no-inside-gap [] xs i all later = quiet-gap given i xs later
  no-inside-gap (a ∷ run) xs i all later = ap (λ b. cond b (given a.change) [] ++ in_gap given i (run ++ xs)) (below-gaps i a all.0 i) ∙ no-inside-gap run xs i all.1 later

  not-covered : (run xs : List FormedAim) (i : ℕ) → AllByRecursion (IsBelow i) run → From (suc (suc (i + i))) xs → covered i (run ++ xs) ≡ false
  not-covered [] xs i all later = quiet-covered i xs later
  not-covered (a ∷ run) xs i all later = ap (λ b. b || covered i (run ++ xs)) (below-overs i a all.0 i) ∙ not-covered run xs i all.1 later

  all-inside : (run xs : List FormedAim) (i : ℕ) → From (suc (suc (i + i))) xs → inside_child i (run ++ xs) ≡ inside_child i run
  all-inside [] xs i later = quiet-inside i xs later
  all-inside (a ∷ run) xs i later = ap (λ ys. inside_one i a ++ ys) (all-inside run xs i later)

  pub open-on : (p : ℕ) (run xs : List FormedAim) (i : ℕ) (e : GreenElement) (es : List GreenElement) → p ≤ i → AllByRecursion (IsBelow i) run → From (suc (suc (i + i))) xs → left given made p (run ++ xs) i (e ∷ es) ≡ made i (inside_child i run) e ∷ left given made p xs (suc i) es
  open-on p run xs i e es kept all later =
      let rest = left given made p (run ++ xs) (suc i) es in
      let slots = in_slot given made p (run ++ xs) i e in
      ap (λ us. us ++ (slots ++ rest)) (no-inside-gap run xs i all (from-less (suc (i + i)) (suc (suc (i + i))) xs (omega arith) later)) ∙ ap₂ (λ b d. cond (b || d) (from_slot given i (run ++ xs)) (made i (inside_child i (run ++ xs)) e ∷ []) ++ rest) (not-covered run xs i all later) (le-ltb i p kept) ∙ ap₂ (λ ys us. made i ys e ∷ us) (all-inside run xs i later) (past-inside p run xs i (suc i) es all (omega arith))
