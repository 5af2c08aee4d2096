-- Mappings in which no address has two pairs.
--     distinct-nothing               nothing is such a mapping
--     distinct-stands                each pair of such a mapping stands
--     made-reverse                   such a mapping is made of its pairs in the other direction
use Rattle.std.specs.Prelude.{◌≡◌, ◌≢◌, ℕ, zero, suc, ◌<◌, true, false, cond, [], ◌∷◌, length, reverse, find, Option, Some, None, option_map, All, Contains, slice_index_or, refl}
use Rattle.std.proofs.Common.{ap, sym, subst, ◌∙◌, arith}
use Rattle.std.proofs.lemmas.Bool.{true≢false}
use Rattle.std.proofs.lemmas.Option.{none-some}
use Rattle.std.proofs.lemmas.List.Elements.{All-nil, All-cons, All-contains, All-contains_itself}
use Rattle.std.proofs.lemmas.List.Sorted.{All-permutation, Contains-permutation, IsPermutation-reverse, IsPermutation-sym}
use Rattle.cst_core.specs.Element.{Address, Element, address, same_address}
use Rattle.edit_map.specs.Mapping.{Mapping, copy}
use Rattle.edit_map.specs.Builder.{IsMadeOf, AreDistinct}
use Rattle.edit_map.proofs.Copies.{same_address-true, same_address-itself, pair_of_copy}

abbrev IsApart : Element × Element → Element × Element → Type 0
IsApart p q = address p.0 ≢ address q.0

pub distinct-nothing : AreDistinct []
distinct-nothing i j d below within = absurd (omega (arith, within))

-- ---- pairs that stand
abbrev Stands : Mapping → Element × Element → Type 0
Stands m pair = copy m (address pair.0) ≡ Some pair.1

stands-first : (pair : Element × Element) (m : Mapping) → Stands (pair ∷ m) pair
stands-first pair m = ap (λ b. option_map (λ (d : Element × Element). d.1) (cond b (Some pair) (find (λ d. same_address (address d.0) (address pair.0)) m))) (same_address-itself (address pair.0))

stands-cons : (pair q : Element × Element) (m : Mapping) → IsApart pair q → Stands m q → Stands (pair ∷ m) q
stands-cons pair q m other stands =
    (elim (same_address (address pair.0) (address q.0)) as (λ b. same_address (address pair.0) (address q.0) ≡ b → option_map (λ (d : Element × Element). d.1) (cond b (Some pair) (find (λ d. same_address (address d.0) (address q.0)) m)) ≡ Some q.1) [
      | true ↦ λ same. absurd (other (same_address-true (address pair.0) (address q.0) same))
      | false ↦ λ _. stands
    ]) refl

pub distinct-stands : (m : Mapping) → AreDistinct m → All (Stands m) m
distinct-stands [] distinct = All-nil (Stands [])
distinct-stands (pair ∷ m) distinct =
    let rest : All (Stands m) m = distinct-stands m (λ i j d below within. distinct (suc i) (suc j) d (omega (arith, below)) (omega (arith, within))) in
    let others : All (IsApart pair) m = λ k d within. distinct zero (suc k) d (omega arith) (omega (arith, within)) in
    All-cons (Stands (pair ∷ m)) pair m (stands-first pair m) (λ k d within. stands-cons pair (slice_index_or m k d) m (others k d within) (rest k d within))

-- ---- in the other direction
none-first : (q : Element × Element) (m : Mapping) (x : Address) → copy (q ∷ m) x ≡ None → (same_address (address q.0) x ≡ false) × (copy m x ≡ None)
none-first q m x none =
    (elim (same_address (address q.0) x) as (λ b. option_map (λ (d : Element × Element). d.1) (cond b (Some q) (find (λ d. same_address (address d.0) x) m)) ≡ None → (b ≡ false) × (copy m x ≡ None)) [
      | true ↦ λ some. absurd (none-some q.1 (sym some))
      | false ↦ λ rest. (refl, rest)
    ]) none

none-of : (m : Mapping) (x : Address) → copy m x ≡ None → (k : ℕ) (d : Element × Element) → k < length m → address (slice_index_or m k d).0 ≡ x → ⊥
none-of [] x none k d within same = omega (arith, within)
none-of (q ∷ m) x none zero d within same =
    true≢false (sym (subst (λ y. same_address y x ≡ true) (sym same) (same_address-itself x)) ∙ (none-first q m x none).0)
none-of (q ∷ m) x none (suc k) d within same = none-of m x (none-first q m x none).1 k d (omega (arith, within)) same

module _ (m : Mapping) (distinct : AreDistinct m) where
  same-reverse : (x : Address) → copy (reverse m) x ≡ copy m x
  same-reverse x = go (copy (reverse m) x) refl
    where
      of_none : (o : Option Element) → copy m x ≡ o → copy (reverse m) x ≡ None → copy m x ≡ None
      of_none None none is = none
      of_none (Some c) some is =
          let found = pair_of_copy (Contains m) m x c (All-contains_itself m) some in
          let there = Contains-permutation m (reverse m) found.0 (IsPermutation-reverse m) found.1 in
          absurd (none-of (reverse m) x is there.0 found.0 there.1 (ap (λ (d : Element × Element). address d.0) there.2 ∙ found.2))

      go : (o : Option Element) → copy (reverse m) x ≡ o → copy (reverse m) x ≡ copy m x
      go (Some c) is =
          let found = pair_of_copy (Contains (reverse m)) (reverse m) x c (All-contains_itself (reverse m)) is in
          let there : Contains m found.0 = Contains-permutation (reverse m) m found.0 (IsPermutation-sym m (reverse m) (IsPermutation-reverse m)) found.1 in
          is ∙ ap (λ d. Some d) (sym found.3) ∙ sym (All-contains (Stands m) m found.0 (distinct-stands m distinct) there) ∙ ap (copy m) found.2
      go None is = is ∙ sym (of_none (copy m x) refl is)

  pub made-reverse : IsMadeOf m (reverse m)
  made-reverse = record {
    copies = λ x. same-reverse x;
    among = All-permutation (Contains m) m (reverse m) (IsPermutation-reverse m) (All-contains_itself m);
  }
