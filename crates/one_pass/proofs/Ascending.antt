-- Lists in order, by keys that are lists of numbers.
--     all-taken, all-dropped, all-part, all-map    a fact of each of the first so many, of the others, of both parts, of what a function gives
--     filter-between                a filter that passes those from one place up to another one
--     before-itself                 no list is before itself
--     ascending-far, ascending-part, ascending-map, ascending-under      two places of a list; its parts; what a function gives
--     less_by, keys-ordered         a test by keys; it is an order
--     ascending-sorted, stable-at   what is sorted so is in order; those of one key are as they were
use Rattle.std.specs.Prelude.{◌≡◌, ℕ, zero, suc, ◌<◌, ◌≤◌, not, Bool, true, false, cond, ◌&&◌, ◌||◌, nat_eq, List, [], ◌∷◌, ◌++◌, map, filter, take, drop, length, get_or, refl}
use Rattle.std.specs.List.{AllByRecursion, AllWithin}
use Rattle.std.specs.List.Sorted.{IsSortedBy, IsStableBy, ties}
use Rattle.std.specs.Cmp.{IsStrictWeakOrder}
use Rattle.std.specs.Cmp.Lexicographic.{slice_cmp}
use Rattle.std.specs.Ordering.{nat_cmp, is_lt}
use Rattle.std.proofs.lemmas.Cmp.{nat_list_cmp_total}
use Rattle.std.proofs.Common.{ap, ap₂, sym, ◌∙◌, arith}
use Rattle.std.proofs.lemmas.Bool.{cases_order, eq-eqb, ne_eqb, lt-ltb, le-ltb}
use Rattle.std.proofs.lemmas.List.{append-nil, take-append-drop}
use Rattle.std.proofs.lemmas.List.Elements.{All-from_recursion, recursion_from_All, filter-append, filter_agree}
use Rattle.std.proofs.lemmas.List.Sorted.{ranks_by, sorted_far}
use mathlib.Core.Logic.{inl, inr}
use Rattle.green_tree.specs.Path.{same_path}
use Rattle.edit_change.specs.inner.DocumentOrder.{is_before}
use Rattle.edit_change.proofs.DocumentOrder.{before-compared}
use Rattle.edit_change.proofs.Paths.{same_path-true}
use Rattle.one_pass.specs.inner.Sweep.{Ascending}

-- ---- parts of a list
pub all-taken : {X : Type 0} (P : X → Type 0) (n : ℕ) (xs : List X) → n ≤ length xs → AllWithin P xs 0 n → AllByRecursion P (take n xs)
all-taken P zero xs l h = tt
all-taken P (suc n) [] l h = tt
all-taken P (suc n) (x ∷ xs) l h = (h 0 x (omega arith) (omega arith), all-taken P n xs (omega (arith, l)) (λ k d m o. h (suc k) d (omega arith) (omega (arith, o))))

pub all-dropped : {X : Type 0} (P : X → Type 0) (n : ℕ) (xs : List X) → AllWithin P xs n (length xs) → AllByRecursion P (drop n xs)
all-dropped P zero [] h = tt
all-dropped P zero (x ∷ xs) h = (h 0 x (omega arith) (omega arith), all-dropped P 0 xs (λ k d m o. h (suc k) d (omega arith) (omega (arith, o))))
all-dropped P (suc n) [] h = tt
all-dropped P (suc n) (x ∷ xs) h = all-dropped P n xs (λ k d m o. h (suc k) d (omega (arith, m)) (omega (arith, o)))

pub all-part : {X : Type 0} (P : X → Type 0) (xs ys : List X) → AllByRecursion P (xs ++ ys) → AllByRecursion P xs × AllByRecursion P ys
all-part P [] ys h = (tt, h)
all-part P (x ∷ xs) ys h =
    let later = all-part P xs ys h.1 in
    ((h.0, later.0), later.1)

pub all-map : {X Y : Type 0} (P : Y → Type 0) (f : X → Y) (xs : List X) → AllByRecursion (λ x. P (f x)) xs → AllByRecursion P (map f xs)
all-map P f [] h = tt
all-map P f (x ∷ xs) h = (h.0, all-map P f xs h.1)

all-under : {X Y : Type 0} (P : Y → Type 0) (f : X → Y) (xs : List X) → AllByRecursion P (map f xs) → AllByRecursion (λ x. P (f x)) xs
all-under P f [] h = tt
all-under P f (x ∷ xs) h = (h.0, all-under P f xs h.1)

filter-none : {X : Type 0} (p : X → Bool) (xs : List X) → AllByRecursion (λ x. p x ≡ false) xs → filter p xs ≡ []
filter-none p [] h = refl
filter-none p (x ∷ xs) h = ap (λ b. cond b (x ∷ filter p xs) (filter p xs)) h.0 ∙ filter-none p xs h.1

filter-all : {X : Type 0} (p : X → Bool) (xs : List X) → AllByRecursion (λ x. p x ≡ true) xs → filter p xs ≡ xs
filter-all p [] h = refl
filter-all p (x ∷ xs) h = ap (λ b. cond b (x ∷ filter p xs) (filter p xs)) h.0 ∙ ap (λ ys. x ∷ ys) (filter-all p xs h.1)

pub filter-between : {X : Type 0} (p : X → Bool) (xs : List X) (start end : ℕ) → AllByRecursion (λ x. p x ≡ false) (take start xs) → AllByRecursion (λ x. p x ≡ true) (take end (drop start xs)) → AllByRecursion (λ x. p x ≡ false) (drop end (drop start xs)) → filter p xs ≡ take end (drop start xs)
filter-between p xs start end before within behind =
    let rest = drop start xs in
    ap (filter p) (sym (take-append-drop start xs)) ∙ filter-append p (take start xs) rest ∙ ap (λ ys. ys ++ filter p rest) (filter-none p (take start xs) before) ∙ ap (filter p) (sym (take-append-drop end rest)) ∙ filter-append p (take end rest) (drop end rest) ∙ ap₂ (λ ys zs. ys ++ zs) (filter-all p (take end rest) within) (filter-none p (drop end rest) behind) ∙ append-nil (take end rest)

-- ---- in order
pub before-itself : (s : List ℕ) → is_before s s ≡ false
before-itself [] = refl
before-itself (x ∷ s) = ap₂ (λ a b. a || (b && is_before s s)) (le-ltb x x (omega arith)) (eq-eqb x x refl) ∙ before-itself s

pub ascending-far : {X : Type 0} (key : X → List ℕ) (xs : List X) → Ascending key xs → (i j : ℕ) (d : X) → i ≤ j → j < length xs → is_before (key (get_or xs j d)) (key (get_or xs i d)) ≡ false
ascending-far key [] h i j d l m = absurd (omega (arith, m))
ascending-far key (x ∷ xs) h zero zero d l m = before-itself (key x)
ascending-far key (x ∷ xs) h zero (suc j) d l m = All-from_recursion (λ y. is_before (key y) (key x) ≡ false) xs h.0 j d (omega (arith, m))
ascending-far key (x ∷ xs) h (suc i) zero d l m = absurd (omega (arith, l))
ascending-far key (x ∷ xs) h (suc i) (suc j) d l m = ascending-far key xs h.1 i j d (omega (arith, l)) (omega (arith, m))

ascending-pairs : {X : Type 0} (key : X → List ℕ) (xs : List X) → ((i j : ℕ) (d : X) → i ≤ j → j < length xs → is_before (key (get_or xs j d)) (key (get_or xs i d)) ≡ false) → Ascending key xs
ascending-pairs key [] h = tt
ascending-pairs key (x ∷ xs) h =
    (recursion_from_All (λ y. is_before (key y) (key x) ≡ false) xs (λ k d l. h 0 (suc k) d (omega arith) (omega (arith, l))), ascending-pairs key xs (λ i j d l m. h (suc i) (suc j) d (omega (arith, l)) (omega (arith, m))))

pub ascending-part : {X : Type 0} (key : X → List ℕ) (run xs : List X) → Ascending key (run ++ xs) → Ascending key run × Ascending key xs
ascending-part key [] xs h = (tt, h)
ascending-part key (a ∷ run) xs h =
    let later = ascending-part key run xs h.1 in
    (((all-part (λ b. is_before (key b) (key a) ≡ false) run xs h.0).0, later.0), later.1)

pub ascending-map : {X Y : Type 0} (key : Y → List ℕ) (f : X → Y) (xs : List X) → Ascending (λ x. key (f x)) xs → Ascending key (map f xs)
ascending-map key f [] h = tt
ascending-map key f (x ∷ xs) h = (all-map (λ y. is_before (key y) (key (f x)) ≡ false) f xs h.0, ascending-map key f xs h.1)

pub ascending-under : {X Y : Type 0} (key : Y → List ℕ) (f : X → Y) (xs : List X) → Ascending key (map f xs) → Ascending (λ x. key (f x)) xs
ascending-under key f [] h = tt
ascending-under key f (x ∷ xs) h = (all-under (λ y. is_before (key y) (key (f x)) ≡ false) f xs h.0, ascending-under key f xs h.1)

-- ---- sorted
-- two keys of which neither is before the other are one
tie : (s t : List ℕ) → (not (is_before s t) && not (is_before t s)) ≡ same_path s t
tie [] [] = refl
tie [] (y ∷ t) = refl
tie (x ∷ s) [] = refl
tie (x ∷ s) (y ∷ t) =
    elim (cases_order x y) [
      | inl same ↦ ap₂ (λ a b. not (a || (nat_eq x y && is_before s t)) && not (b || (nat_eq y x && is_before t s))) (le-ltb x y (omega (arith, same))) (le-ltb y x (omega (arith, same))) ∙ ap₂ (λ a b. not (a && is_before s t) && not (b && is_before t s)) (eq-eqb x y same) (eq-eqb y x (sym same)) ∙ tie s t ∙ ap (λ b. b && same_path s t) (sym (eq-eqb x y same))
      | inr other ↦ elim other [
        | inl less ↦ ap (λ a. not (a || (nat_eq x y && is_before s t)) && not (is_before (y ∷ t) (x ∷ s))) (lt-ltb x y less) ∙ ap (λ b. b && same_path s t) (sym (ne_eqb x y (λ e. absurd (omega (arith, e, less)))))
        | inr over ↦ ap (λ b. not (is_before (x ∷ s) (y ∷ t)) && not (b || (nat_eq y x && is_before t s))) (lt-ltb y x over) ∙ none (not (is_before (x ∷ s) (y ∷ t))) ∙ ap (λ b. b && same_path s t) (sym (ne_eqb x y (λ e. absurd (omega (arith, e, over)))))
      ]
    ]
  where
    none : (b : Bool) → (b && false) ≡ false
    none true = refl
    none false = refl

passes-first : {X : Type 0} (p : X → Bool) (zs : List X) (x : X) (us : List X) → filter p zs ≡ x ∷ us → p x ≡ true
passes-first p [] x us is = absurd (cc)
passes-first {X} p (z ∷ zs) x us is = go (p z) refl is (passes-first p zs x us)
  where
    go : (b : Bool) → p z ≡ b → cond (p z) (z ∷ filter p zs) (filter p zs) ≡ x ∷ us → (filter p zs ≡ x ∷ us → p x ≡ true) → p x ≡ true
    go true h e further =
        let whole : z ∷ filter p zs ≡ x ∷ us = sym (ap (λ b. cond b (z ∷ filter p zs) (filter p zs)) h) ∙ e in
        let same : z ≡ x = cc in
        ap p (sym same) ∙ h
    go false h e further = further (sym (ap (λ b. cond b (z ∷ filter p zs) (filter p zs)) h) ∙ e)

module _ {X : Type 0} (key : X → List ℕ) where
  abbrev pub less_by : X → X → Bool
  less_by a b = is_lt (slice_cmp nat_cmp (key a) (key b))

  pub keys-ordered : IsStrictWeakOrder less_by
  keys-ordered = ranks_by nat_list_cmp_total key

  pub ascending-sorted : (xs : List X) → IsSortedBy less_by xs → Ascending key xs
  ascending-sorted xs up =
      ascending-pairs key xs (λ i j d l m. sym (before-compared (key (get_or xs j d)) (key (get_or xs i d))) ∙ sorted_far less_by keys-ordered xs up i j d l m)

  module _ (xs ys : List X) (stable : IsStableBy less_by xs ys) (s : List ℕ) where
    by-one : (x : X) → same_path s (key x) ≡ true → filter (λ a. same_path s (key a)) ys ≡ filter (λ a. same_path s (key a)) xs
    by-one x is =
        let same : s ≡ key x = same_path-true s (key x) is in
        let ties_here : (a : X) → same_path s (key a) ≡ ties less_by x a = λ a. ap (λ t. same_path t (key a)) same ∙ sym (tie (key x) (key a)) ∙ sym (ap₂ (λ b d. not b && not d) (before-compared (key x) (key a)) (before-compared (key a) (key x))) in
        filter_agree (λ a. same_path s (key a)) (ties less_by x) ties_here ys ∙ stable x ∙ sym (filter_agree (λ a. same_path s (key a)) (ties less_by x) ties_here xs)

    pub stable-at : filter (λ a. same_path s (key a)) ys ≡ filter (λ a. same_path s (key a)) xs
    stable-at = go (filter (λ a. same_path s (key a)) ys) refl (filter (λ a. same_path s (key a)) xs) refl
      where
        go : (us : List X) → filter (λ a. same_path s (key a)) ys ≡ us → (vs : List X) → filter (λ a. same_path s (key a)) xs ≡ vs → filter (λ a. same_path s (key a)) ys ≡ filter (λ a. same_path s (key a)) xs
        go (u ∷ us) is vs e = by-one u (passes-first (λ a. same_path s (key a)) ys u us is)
        go [] is (v ∷ vs) e = by-one v (passes-first (λ a. same_path s (key a)) xs v vs e)
        go [] is [] e = is ∙ sym e
