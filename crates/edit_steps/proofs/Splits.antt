-- A list of numbered aims before and after one of them, and what of it is done.
--     all_left, all_map, all_both   facts of all elements of two lists, of a list's images; two facts of one list
--     all_done                      facts of all that is done
--     none_any, none_filter         where no aim of a list passes a test
--     SplitAt, split_from           the aims of a list before and after one of them, by their numbers
--     only-before, only-after       those that are done, before and after that one is
use Rattle.std.specs.Prelude.{◌≡◌, ℕ, zero, suc, ◌+◌, ◌<◌, ◌≤◌, Bool, true, false, cond, ◌||◌, nat_eq, List, [], ◌∷◌, ◌++◌, map, filter, slice_get, Some, refl}
use Rattle.std.specs.List.{AllByRecursion, list_any, enumerate_from}
use Rattle.std.proofs.Common.{ap, ap₂, sym, ◌∙◌, arith}
use Rattle.std.proofs.lemmas.Bool.{or_left, or_from, eq-eqb, ne_eqb}
use Rattle.std.proofs.lemmas.List.Elements.{filter-append}
use Rattle.std.proofs.lemmas.Option.{none-some, same_Some}
use Rattle.edit_change.specs.Aim.{Aim}
use Rattle.edit_change.specs.Rewriting.{NumberedAim}
use Rattle.edit_change.specs.declared.change.Change.{Change}
use Rattle.edit_change.proofs.Lists.{all_filter, all_weaker}
use Rattle.edit_change.specs.NewTree.{only}

-- ---- facts of all
pub all_left : {X : Type 0} (P : X → Type 0) (xs ys : List X) → AllByRecursion P (xs ++ ys) → AllByRecursion P xs × AllByRecursion P ys
all_left P [] ys a = (tt, a)
all_left P (x ∷ xs) ys a = let rest = all_left P xs ys a.1 in ((a.0, rest.0), rest.1)

pub all_map : {X Y : Type 0} (P : Y → Type 0) (h : X → Y) (xs : List X) → AllByRecursion (λ x. P (h x)) xs → AllByRecursion P (map h xs)
all_map P h [] a = tt
all_map P h (x ∷ xs) a = (a.0, all_map P h xs a.1)

pub all_both : {X : Type 0} (P Q : X → Type 0) (xs : List X) → AllByRecursion P xs → AllByRecursion Q xs → AllByRecursion (λ x. P x × Q x) xs
all_both P Q [] a b = tt
all_both P Q (x ∷ xs) a b = ((a.0, b.0), all_both P Q xs a.1 b.1)

pub all_done : (P : NumberedAim → Type 0) (done : ℕ → Bool) (cs : List NumberedAim) → AllByRecursion P cs → AllByRecursion (λ d. P d × (done d.0 ≡ true)) (only done cs)
all_done P done cs a = all_filter P (λ d. done d.0) cs a

-- ---- where no aim passes a test
module _ (test : Aim → Bool) where
  pub none_any : (cs : List NumberedAim) → AllByRecursion (λ d. test d.1 ≡ false) cs → list_any (λ d. test d.1) cs ≡ false
  none_any [] a = refl
  none_any (d ∷ cs) a = or_from (test d.1) (list_any (λ d. test d.1) cs) a.0 (none_any cs a.1)

  pub none_filter : (cs : List NumberedAim) → AllByRecursion (λ d. test d.1 ≡ false) cs → filter (λ d. test d.1) cs ≡ []
  none_filter [] a = refl
  none_filter (d ∷ cs) a = ap₂ (λ b ds. cond b (d ∷ ds) ds) a.0 (none_filter cs a.1)

-- ---- before and after one of them
pub record SplitAt (cs : List NumberedAim) (n : ℕ) (a : Aim) : Type 0 where
  pub front : List NumberedAim
  pub back : List NumberedAim
  pub is : cs ≡ front ++ (n, a) ∷ back
  pub lower : AllByRecursion (λ d. d.0 < n) front
  pub upper : AllByRecursion (λ d. n < d.0) back

module _ (h : ℕ × Change → NumberedAim) (same : (d : ℕ × Change) → (h d).0 ≡ d.0) (test : ℕ × Change → Bool) where
  -- the aims of those changes from a number on that pass the test
  abbrev pub aims_from : ℕ → List Change → List NumberedAim
  aims_from k xs = map h (filter test (enumerate_from k xs))

  all_upper : (m k : ℕ) (xs : List Change) → m ≤ k → AllByRecursion (λ d. m ≤ d.0) (aims_from k xs)
  all_upper m k [] l = tt
  all_upper m k (x ∷ xs) l =
      let rest = all_upper m (k + 1) xs (omega (arith, l)) in
      elim (test (k, x)) as (λ b. AllByRecursion (λ d. m ≤ d.0) (map h (cond b ((k, x) ∷ filter test (enumerate_from (k + 1) xs)) (filter test (enumerate_from (k + 1) xs))))) [
        | true ↦ (omega (arith, l, same (k, x)), rest)
        | false ↦ rest
      ]

  pub split_from : (k : ℕ) (xs : List Change) (n m : ℕ) (c : Change) (a : Aim) → slice_get xs n ≡ Some c → k + n ≡ m → test (m, c) ≡ true → h (m, c) ≡ (m, a) → SplitAt (aims_from k xs) m a
  split_from k [] n m c a s e t w = absurd (none-some c s)
  split_from k (x ∷ xs) zero m c a s e t w =
      let number : k ≡ m = omega (arith, e) in
      let here : (λ (d : ℕ × Change). d) (k, x) ≡ (m, c) = ap₂ (λ j y. (j, y)) number (same_Some x c s) in
      record {
        front = [];
        back = aims_from (k + 1) xs;
        is = ap (λ b. map h (cond b ((k, x) ∷ filter test (enumerate_from (k + 1) xs)) (filter test (enumerate_from (k + 1) xs)))) (ap test here ∙ t) ∙ ap (λ d. d ∷ aims_from (k + 1) xs) (ap h here ∙ w);
        lower = tt;
        upper = all_upper (suc m) (k + 1) xs (omega (arith, number));
      }
  split_from k (x ∷ xs) (suc n) m c a s e t w =
      let rest = split_from (k + 1) xs n m c a s (omega (arith, e)) t w in
      elim (test (k, x)) as (λ b. SplitAt (map h (cond b ((k, x) ∷ filter test (enumerate_from (k + 1) xs)) (filter test (enumerate_from (k + 1) xs)))) m a) [
        | true ↦ record { front = h (k, x) ∷ rest.front; back = rest.back; is = ap (λ ds. h (k, x) ∷ ds) rest.is; lower = (omega (arith, e, same (k, x)), rest.lower); upper = rest.upper }
        | false ↦ rest
      ]

-- ---- one more is done
module _ (done : ℕ → Bool) (n : ℕ) where
  abbrev more : ℕ → Bool
  more m = nat_eq n m || done m

  pub only-other : (cs : List NumberedAim) → AllByRecursion (λ d. d.0 ≡ n → ⊥) cs → only more cs ≡ only done cs
  only-other [] a = refl
  only-other (d ∷ cs) a =
      let same : more d.0 ≡ done d.0 = ap (λ b. b || done d.0) (ne_eqb n d.0 (λ e. a.0 (sym e))) in
      ap₂ (λ b ds. cond b (d ∷ ds) ds) same (only-other cs a.1)

  is_more : more n ≡ true
  is_more = or_left (nat_eq n n) (done n) (eq-eqb n n refl)

  module _ (cs : List NumberedAim) (a : Aim) (s : SplitAt cs n a) (fresh : done n ≡ false) where
    pub only-before : only done cs ≡ only done s.front ++ only done s.back
    only-before =
        ap (λ ds. only done ds) s.is ∙ filter-append (λ d. done d.0) s.front ((n, a) ∷ s.back) ∙ ap (λ b. only done s.front ++ cond b ((n, a) ∷ only done s.back) (only done s.back)) fresh

    pub only-after : only (λ m. nat_eq n m || done m) cs ≡ only done s.front ++ (n, a) ∷ only done s.back
    only-after =
        ap (λ ds. only more ds) s.is ∙ filter-append (λ d. more d.0) s.front ((n, a) ∷ s.back) ∙ ap₂ (λ xs ys. xs ++ ys) (only-other s.front (all_weaker (λ d. d.0 < n) (λ d. d.0 ≡ n → ⊥) s.front (λ d l e. absurd (omega (arith, l, e))) s.lower)) (ap₂ (λ b ys. cond b ((n, a) ∷ ys) ys) is_more (only-other s.back (all_weaker (λ d. n < d.0) (λ d. d.0 ≡ n → ⊥) s.back (λ d l e. absurd (omega (arith, l, e))) s.upper)))
