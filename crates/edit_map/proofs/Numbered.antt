-- Pairs whose numbers a table has.
--     find-only                      what a search finds is the only item that passes
--     unnumbered                     what has no number has no copy
--     copy-at, copy-of-number        the copy of a pair's first element is its second one; so is that of an address, by its number
--     numbered-within, copy-indexed  such a number is an index; what stands there
--     numbered-mapping               such pairs, if they rise, are a mapping
--     made-one                       what they are made of after one is put in
--     numbered-nothing               no pairs, of which nothing has a number
--     numbered-alike                 the same pairs with a table of the same numbers
--     exchanged, made-exchanged      a pair in the place of another one
--     added, made-added              a pair at the end
use Rattle.std.specs.Prelude.{◌≡◌, ℕ, zero, suc, ◌<◌, Bool, true, false, cond, List, [], ◌∷◌, ◌++◌, length, find, slice_get, slice_index_or, Option, Some, None, option_map, IsSomeAnd, Contains, ◌⊎◌, refl}
use Rattle.std.proofs.Common.{ap, sym, subst, ◌∙◌, arith, inl, inr, set}
use Rattle.std.proofs.lemmas.Bool.{cases_Bool, cond-true, cond-false, true≢false}
use Rattle.std.proofs.lemmas.Option.{none-some, same_Some, slice_get-get_or, slice_get_within, get_or_from_slice_get}
use Rattle.std.proofs.lemmas.List.Elements.{All-contains_itself, Contains-append_right}
use Rattle.cst_core.specs.Path.{same_path}
use Rattle.cst_core.specs.Element.{Address, Element, address, same_address}
use Rattle.cst_core.specs.inner.InTree.{address_path}
use Rattle.path_table.specs.inner.PathTable.{value_by_path, SameValues, IsPut, IsTree}
use Rattle.edit_map.specs.Mapping.{Mapping, copy}
use Rattle.edit_map.specs.Builder.{IsMadeOf, ArePairs, AreDistinct, IsMapping}
use Rattle.path_table.specs.declared.table.PathTable.{PathTable}
use Rattle.edit_map.specs.inner.Climbing.{number_at, IsFree, HasNoCopy, IsNumbered}
use Rattle.edit_map.proofs.Copies.{same_addresses, same_path-true, same_path-from, same_address-true, same_address-itself, pair_of_copy}

-- ---- lists by number
some-and : {X : Type 0} (P : X → Type 0) (o : Option X) → IsSomeAnd o P → (x : X) × (o ≡ Some x) × P x
some-and P None is = absurd is
some-and P (Some x) is = (x, refl, is)

and-some : {X : Type 0} (P : X → Type 0) (o : Option X) (x : X) → o ≡ Some x → P x → IsSomeAnd o P
and-some P None x is p = absurd (none-some x is)
and-some P (Some y) x is p = subst P (sym (same_Some y x is)) p

pub find-only : {X : Type 0} (f : X → Bool) (xs : List X) (i : ℕ) (x : X) → slice_get xs i ≡ Some x → f x ≡ true → ((j : ℕ) (y : X) → slice_get xs j ≡ Some y → f y ≡ true → j ≡ i) → find f xs ≡ Some x
find-only f [] i x at passes only = absurd (none-some x at)
find-only f (y ∷ ys) zero x at passes only = cond-true (f y) (Some y) (find f ys) (ap f (same_Some y x at) ∙ passes) ∙ at
find-only f (y ∷ ys) (suc i) x at passes only =
    elim (cases_Bool (f y)) [
      | inl hit ↦ absurd (omega (arith, only 0 y refl hit))
      | inr miss ↦ cond-false (f y) (Some y) (find f ys) miss ∙ find-only f ys i x at passes (λ j z there also. omega (arith, only (suc j) z there also))
    ]

set-cases : {X : Type 0} (xs : List X) (i j : ℕ) (x q : X) → slice_get (set xs i x) j ≡ Some q → ((j ≡ i) × (x ≡ q)) ⊎ (slice_get xs j ≡ Some q)
set-cases [] i j x q at = absurd (none-some q at)
set-cases (y ∷ ys) zero zero x q at = inl (refl, same_Some x q at)
set-cases (y ∷ ys) zero (suc j) x q at = inr at
set-cases (y ∷ ys) (suc i) zero x q at = inr at
set-cases (y ∷ ys) (suc i) (suc j) x q at =
    elim (set-cases ys i j x q at) [
      | inl here ↦ inl (ap suc here.0, here.1)
      | inr there ↦ inr there
    ]

set-stays : {X : Type 0} (xs : List X) (i j : ℕ) (x q : X) → slice_get xs j ≡ Some q → (j ≡ i → ⊥) → slice_get (set xs i x) j ≡ Some q
set-stays [] i j x q at other = absurd (none-some q at)
set-stays (y ∷ ys) zero zero x q at other = absurd (other refl)
set-stays (y ∷ ys) zero (suc j) x q at other = at
set-stays (y ∷ ys) (suc i) zero x q at other = at
set-stays (y ∷ ys) (suc i) (suc j) x q at other = set-stays ys i j x q at (λ e. other (ap suc e))

set-and : {X : Type 0} (P : X → Type 0) (xs : List X) (i : ℕ) (x : X) (j : ℕ) → IsSomeAnd (slice_get xs j) P → (j ≡ i → P x) → IsSomeAnd (slice_get (set xs i x) j) P
set-and P [] i x j is here = is
set-and P (y ∷ ys) zero x zero is here = here refl
set-and P (y ∷ ys) zero x (suc j) is here = is
set-and P (y ∷ ys) (suc i) x zero is here = is
set-and P (y ∷ ys) (suc i) x (suc j) is here = set-and P ys i x j is (λ e. here (ap suc e))

set-here : {X : Type 0} (xs : List X) (i : ℕ) (x q : X) → slice_get xs i ≡ Some q → slice_get (set xs i x) i ≡ Some x
set-here [] i x q at = absurd (none-some q at)
set-here (y ∷ ys) zero x q at = refl
set-here (y ∷ ys) (suc i) x q at = set-here ys i x q at

added-stays : {X : Type 0} (xs : List X) (j : ℕ) (x q : X) → slice_get xs j ≡ Some q → slice_get (xs ++ x ∷ []) j ≡ Some q
added-stays [] j x q at = absurd (none-some q at)
added-stays (y ∷ ys) zero x q at = at
added-stays (y ∷ ys) (suc j) x q at = added-stays ys j x q at

added-here : {X : Type 0} (xs : List X) (x : X) → slice_get (xs ++ x ∷ []) (length xs) ≡ Some x
added-here [] x = refl
added-here (y ∷ ys) x = added-here ys x

added-cases : {X : Type 0} (xs : List X) (j : ℕ) (x q : X) → slice_get (xs ++ x ∷ []) j ≡ Some q → ((j ≡ length xs) × (x ≡ q)) ⊎ (slice_get xs j ≡ Some q)
added-cases [] zero x q at = inl (refl, same_Some x q at)
added-cases [] (suc j) x q at = absurd (none-some q at)
added-cases (y ∷ ys) zero x q at = inr at
added-cases (y ∷ ys) (suc j) x q at =
    elim (added-cases ys j x q at) [
      | inl here ↦ inl (ap suc here.0, here.1)
      | inr there ↦ inr there
    ]

contained-at : (m : Mapping) (pair : Element × Element) → Contains m pair → (i : ℕ) × (slice_get m i ≡ Some pair)
contained-at m pair (k, within, is) = (k, slice_get-get_or m k pair within ∙ ap (λ d. Some d) is)

-- ---- pairs by number
same-place : (x y : Address) → address_path x ≡ address_path y → x ≡ y
same-place x y same =
    let number : x.number ≡ y.number = cc in
    let path : x.path ≡ y.path = cc in
    same_addresses x y number path

module _ (m : Mapping) (s : PathTable ℕ) (numbered : IsNumbered m s) where
  only-at : (i j : ℕ) (p q : Element × Element) → slice_get m i ≡ Some p → slice_get m j ≡ Some q → address q.0 ≡ address p.0 → j ≡ i
  only-at i j p q at there same = same_Some j i (sym (numbered.told j q there) ∙ ap (number_at s) same ∙ numbered.told i p at)

  pub copy-at : (i : ℕ) (pair : Element × Element) → slice_get m i ≡ Some pair → copy m (address pair.0) ≡ Some pair.1
  copy-at i pair at =
      ap (option_map (λ (d : Element × Element). d.1)) (find-only (λ d. same_address (address d.0) (address pair.0)) m i pair at (same_address-itself (address pair.0))
      (λ j q there also. only-at i j pair q at there (same_address-true (address q.0) (address pair.0) also)))

  copied-at : (x : Address) (c : Element) → copy m x ≡ Some c → (i : ℕ) × (pair : Element × Element) × (slice_get m i ≡ Some pair) × (address pair.0 ≡ x) × (pair.1 ≡ c)
  copied-at x c is =
      let found = pair_of_copy (Contains m) m x c (All-contains_itself m) is in
      let at = contained-at m found.0 found.1 in
      (at.0, found.0, at.1, found.2, found.3)

  pub unnumbered : (x : Address) → IsFree s x → HasNoCopy m x
  unnumbered x free = go (copy m x) refl
    where
      go : (o : Option Element) → copy m x ≡ o → copy m x ≡ None
      go None is = is
      go (Some c) is =
          let found = copied-at x c is in
          absurd (none-some found.0 (sym free ∙ ap (number_at s) (sym found.3) ∙ numbered.told found.0 found.1 found.2))

  pub copy-of-number : (x : Address) (i : ℕ) → number_at s x ≡ Some i → (pair : Element × Element) × (slice_get m i ≡ Some pair) × (copy m x ≡ Some pair.1)
  copy-of-number x i is =
      let found = some-and (λ pair. address pair.0 ≡ x) (slice_get m i) (numbered.leads x i is) in
      (found.0, found.1, ap (copy m) (sym found.2) ∙ copy-at i found.0 found.1)

  pub numbered-within : (x : Address) (i : ℕ) → number_at s x ≡ Some i → i < length m
  numbered-within x i is = let found = copy-of-number x i is in slice_get_within m i found.0 found.1

  -- what an index gives
  pub copy-indexed : (x : Address) (i : ℕ) (pair : Element × Element) → number_at s x ≡ Some i → pair ≡ slice_index_or m i pair → Some pair.1 ≡ copy m x
  copy-indexed x i pair is at =
      let found = copy-of-number x i is in
      let same : pair ≡ found.0 = at ∙ same_Some (slice_index_or m i pair) found.0 (sym (slice_get-get_or m i pair (numbered-within x i is)) ∙ found.1) in
      ap (λ (d : Element × Element). Some d.1) same ∙ sym found.2

  pub numbered-distinct : AreDistinct m
  numbered-distinct i j d below within = λ same.
      let first : i ≡ j = only-at j i (slice_index_or m j d) (slice_index_or m i d) (slice_get-get_or m j d within) (slice_get-get_or m i d (omega (arith, below, within))) same in
      omega (arith, below, first)

pub numbered-mapping : (m : Mapping) (s : PathTable ℕ) → IsNumbered m s → ArePairs m → IsMapping m
numbered-mapping m s numbered pairs = record { pairs = pairs; distinct = numbered-distinct m s numbered }

-- ---- one pair more
module _ (m n : Mapping) (s t : PathTable ℕ) (before : IsNumbered m s) (after : IsNumbered n t) (pair : Element × Element) (i : ℕ) (here : slice_get n i ≡ Some pair)
    (stays : (j : ℕ) (q : Element × Element) → slice_get m j ≡ Some q → (address q.0 ≡ address pair.0 → ⊥) → slice_get n j ≡ Some q)
    (comes : (j : ℕ) (q : Element × Element) → slice_get n j ≡ Some q → (pair ≡ q) ⊎ (slice_get m j ≡ Some q)) where
  elsewhere : (x : Address) → (address pair.0 ≡ x → ⊥) → (o : Option Element) → copy m x ≡ o → copy n x ≡ o
  elsewhere x other (Some c) is =
      let found = copied-at m s before x c is in
      let there = stays found.0 found.1 found.2 (λ same. other (sym same ∙ found.3)) in
      ap (copy n) (sym found.3) ∙ copy-at n t after found.0 found.1 there ∙ ap (λ d. Some d) found.4
  elsewhere x other None is = go (copy n x) refl
    where
      go : (o : Option Element) → copy n x ≡ o → copy n x ≡ None
      go None none = none
      go (Some c) some =
          let found = copied-at n t after x c some in
          elim (comes found.0 found.1 found.2) [
            | inl new ↦ absurd (other (ap (λ (d : Element × Element). address d.0) new ∙ found.3))
            | inr old ↦ absurd (none-some found.1.1 (sym is ∙ ap (copy m) (sym found.3) ∙ copy-at m s before found.0 found.1 old))
          ]

  held : (j : ℕ) (q : Element × Element) → slice_get n j ≡ Some q → Contains (pair ∷ m) q
  held j q at =
      elim (comes j q at) [
        | inl new ↦ subst (Contains (pair ∷ m)) new (0, omega arith, refl)
        | inr old ↦ Contains-append_right (pair ∷ []) m q (j, slice_get_within m j q old, get_or_from_slice_get m j q q old)
      ]

  pub made-one : IsMadeOf (pair ∷ m) n
  made-one = record {
    copies = λ x. by_test x;
    among = λ k d within. held k (slice_index_or n k d) (slice_get-get_or n k d within);
  }
    where
      by_test : (x : Address) → copy n x ≡ copy (pair ∷ m) x
      by_test x =
          (elim (same_address (address pair.0) x) as (λ b. same_address (address pair.0) x ≡ b → copy n x ≡ option_map (λ (d : Element × Element). d.1) (cond b (Some pair) (find (λ d. same_address (address d.0) x) m))) [
            | true ↦ λ hit. ap (copy n) (sym (same_address-true (address pair.0) x hit)) ∙ copy-at n t after i pair here
            | false ↦ λ miss. elsewhere x (λ same. true≢false (sym (subst (λ y. same_address (address pair.0) y ≡ true) same (same_address-itself (address pair.0))) ∙ miss)) (copy m x) refl
          ]) refl

-- ---- nothing, and the same in another table
pub numbered-nothing : (s : PathTable ℕ) → IsTree s → ((x : Address) → IsFree s x) → IsNumbered [] s
numbered-nothing s tree free = record {
  tree = tree;
  told = λ i pair at. absurd (none-some pair at);
  leads = λ x i is. absurd (none-some i (sym (free x) ∙ is));
}

pub numbered-alike : (m : Mapping) (s t : PathTable ℕ) → IsNumbered m s → IsTree t → SameValues s t → IsNumbered m t
numbered-alike m s t numbered tree same = record {
  tree = tree;
  told = λ i pair at. same (address_path (address pair.0)) ∙ numbered.told i pair at;
  leads = λ x i is. numbered.leads x i (sym (same (address_path x)) ∙ is);
}

-- ---- in the place of another pair
module _ (m : Mapping) (s : PathTable ℕ) (numbered : IsNumbered m s) (pair : Element × Element) (i : ℕ) (known : number_at s (address pair.0) ≡ Some i) where
  exchanged-here : (x : Address) → number_at s x ≡ Some i → address pair.0 ≡ x
  exchanged-here x is =
      let own = some-and (λ q. address q.0 ≡ address pair.0) (slice_get m i) (numbered.leads (address pair.0) i known) in
      let other = some-and (λ q. address q.0 ≡ x) (slice_get m i) (numbered.leads x i is) in
      let same : own.0 ≡ other.0 = same_Some own.0 other.0 (sym own.1 ∙ other.1) in
      sym own.2 ∙ ap (λ (q : Element × Element). address q.0) same ∙ other.2

  old-pair : (q : Element × Element) × (slice_get m i ≡ Some q)
  old-pair =
      let own = some-and (λ q. address q.0 ≡ address pair.0) (slice_get m i) (numbered.leads (address pair.0) i known) in
      (own.0, own.1)

  pub exchanged : IsNumbered (set m i pair) s
  exchanged = record {
    tree = numbered.tree;
    told = λ j q at. told-of j q (set-cases m i j pair q at);
    leads = λ x j is. set-and (λ q. address q.0 ≡ x) m i pair j (numbered.leads x j is) (λ e. exchanged-here x (is ∙ ap (λ k. Some k) e));
  }
    where
      told-of : (j : ℕ) (q : Element × Element) → ((j ≡ i) × (pair ≡ q)) ⊎ (slice_get m j ≡ Some q) → number_at s (address q.0) ≡ Some j
      told-of j q (inl new) = ap (λ (d : Element × Element). number_at s (address d.0)) (sym new.1) ∙ known ∙ ap (λ k. Some k) (sym new.0)
      told-of j q (inr old) = numbered.told j q old

  pub made-exchanged : IsMadeOf (pair ∷ m) (set m i pair)
  made-exchanged =
      made-one m (set m i pair) s s numbered exchanged pair i (set-here m i pair old-pair.0 old-pair.1)
      (λ j q at other. set-stays m i j pair q at (λ e. other (sym (exchanged-here (address q.0) (numbered.told j q at ∙ ap (λ k. Some k) e)))))
      (λ j q at. from j q (set-cases m i j pair q at))
    where
      from : (j : ℕ) (q : Element × Element) → ((j ≡ i) × (pair ≡ q)) ⊎ (slice_get m j ≡ Some q) → (pair ≡ q) ⊎ (slice_get m j ≡ Some q)
      from j q (inl new) = inl new.1
      from j q (inr old) = inr old

-- ---- at the end
module _ (m : Mapping) (s t : PathTable ℕ) (numbered : IsNumbered m s) (pair : Element × Element) (unknown : number_at s (address pair.0) ≡ None)
    (tree : IsTree t) (put : IsPut s t (address_path (address pair.0)) (length m)) where
  put-elsewhere : (x : Address) (j : ℕ) → number_at s x ≡ Some j → number_at t x ≡ Some j
  put-elsewhere x j is =
      elim (cases_Bool (same_path (address_path (address pair.0)) (address_path x))) [
        | inl same ↦ absurd (none-some j (sym unknown ∙ ap (value_by_path s) (same_path-true (address_path (address pair.0)) (address_path x) same) ∙ is))
        | inr other ↦ put (address_path x) ∙ cond-false _ _ _ other ∙ is
      ]

  put-here : (x : Address) (j : ℕ) → number_at t x ≡ Some j → ((address pair.0 ≡ x) × (j ≡ length m)) ⊎ (number_at s x ≡ Some j)
  put-here x j is =
      elim (cases_Bool (same_path (address_path (address pair.0)) (address_path x))) [
        | inl same ↦ inl (same-place (address pair.0) x (same_path-true (address_path (address pair.0)) (address_path x) same), same_Some j (length m) (sym is ∙ put (address_path x) ∙ cond-true _ _ _ same))
        | inr other ↦ inr (sym (cond-false _ _ _ other) ∙ sym (put (address_path x)) ∙ is)
      ]

  pub added : IsNumbered (m ++ pair ∷ []) t
  added = record {
    tree = tree;
    told = λ j q at. told-of j q (added-cases m j pair q at);
    leads = λ x j is. leads-to x j (put-here x j is);
  }
    where
      told-of : (j : ℕ) (q : Element × Element) → ((j ≡ length m) × (pair ≡ q)) ⊎ (slice_get m j ≡ Some q) → number_at t (address q.0) ≡ Some j
      told-of j q (inl new) =
          ap (λ (d : Element × Element). number_at t (address d.0)) (sym new.1) ∙ put (address_path (address pair.0)) ∙ cond-true _ _ _ (same_path-from (address_path (address pair.0)) (address_path (address pair.0)) refl) ∙ ap (λ k. Some k) (sym new.0)
      told-of j q (inr old) = put-elsewhere (address q.0) j (numbered.told j q old)

      leads-to : (x : Address) (j : ℕ) → ((address pair.0 ≡ x) × (j ≡ length m)) ⊎ (number_at s x ≡ Some j) → IsSomeAnd (slice_get (m ++ pair ∷ []) j) (λ q. address q.0 ≡ x)
      leads-to x j (inl new) = and-some (λ q. address q.0 ≡ x) (slice_get (m ++ pair ∷ []) j) pair (ap (slice_get (m ++ pair ∷ [])) new.1 ∙ added-here m pair) new.0
      leads-to x j (inr old) =
          let found = some-and (λ q. address q.0 ≡ x) (slice_get m j) (numbered.leads x j old) in
          and-some (λ q. address q.0 ≡ x) (slice_get (m ++ pair ∷ []) j) found.0 (added-stays m j pair found.0 found.1) found.2

  pub made-added : IsMadeOf (pair ∷ m) (m ++ pair ∷ [])
  made-added =
      made-one m (m ++ pair ∷ []) s t numbered added pair (length m) (added-here m pair)
      (λ j q at other. added-stays m j pair q at)
      (λ j q at. from j q (added-cases m j pair q at))
    where
      from : (j : ℕ) (q : Element × Element) → ((j ≡ length m) × (pair ≡ q)) ⊎ (slice_get m j ≡ Some q) → (pair ≡ q) ⊎ (slice_get m j ≡ Some q)
      from j q (inl new) = inl new.1
      from j q (inr old) = inr old
