-- Worked examples of places and of following.
use Rattle.std.specs.Prelude.{◌≡◌, ℕ, List, [], ◌∷◌, ◌++◌, Some, None, refl}
use Rattle.std.proofs.Common.{ap, sym, ◌∙◌, ◌⊎◌, inl, inr, subst, arith}
use Rattle.std.proofs.lemmas.List.{same_from_push}
use Rattle.cst_core.specs.Path.{Path}
use Rattle.cst_core.specs.Tree.{SyntaxTree}
use Rattle.cst_core.specs.Element.{Address, Element, address}
use Rattle.edit_map.specs.Mapping.{Mapping, copied, child_address, StandsFor, IsPlace, followed}
use Rattle.edit_map.proofs.Places.{StandsFor-push, last_view}
use Rattle.edit_map.proofs.RowTrees.{tree_L, tree_A3, tree_B, tree_BB, tree_BBB, tree_M, tree_NM, tree_NR, tree_W, tree_N7}

-- the element at a path of the tree with this number
abbrev pub element_of_tree : ℕ → SyntaxTree → Path → Element
element_of_tree n t p = record { number = n; root = t; path = p }

abbrev pub R : Path → Element
R p = element_of_tree 1 tree_L p

-- ---- places, where each step is given by the address that stands there
abbrev pub BB : Path → Element
BB p = element_of_tree 1 tree_BB p

abbrev pub N : Path → Element
N p = element_of_tree 4 tree_BB p

abbrev pub O : Path → Element
O p = element_of_tree 5 tree_BBB p

abbrev pub mapping_of_wrapping : Mapping
mapping_of_wrapping = (BB (0 ∷ 2 ∷ []), N (0 ∷ 2 ∷ [])) ∷ []

pub place_in_a_wrapping_block : IsPlace mapping_of_wrapping (address (BB (0 ∷ 2 ∷ []))) (address (N [])) (Some (0 ∷ 2 ∷ []))
place_in_a_wrapping_block = (address (N (0 ∷ [])), refl, (address (BB (0 ∷ 2 ∷ [])), refl, refl))

abbrev mapping_of_wrapping_twice : Mapping
mapping_of_wrapping_twice = (BB [], O (0 ∷ 2 ∷ [])) ∷ (BB (0 ∷ 2 ∷ []), N (0 ∷ 2 ∷ [])) ∷ []

place_of_the_inner_of_two_wrapped : IsPlace mapping_of_wrapping_twice (address (BB (0 ∷ 2 ∷ []))) (address (N [])) (Some (0 ∷ 2 ∷ []))
place_of_the_inner_of_two_wrapped = (address (N (0 ∷ [])), refl, (address (BB (0 ∷ 2 ∷ [])), refl, refl))

place_of_the_outer_of_two_wrapped : IsPlace mapping_of_wrapping_twice (address (BB [])) (address (O [])) (Some (0 ∷ 2 ∷ []))
place_of_the_outer_of_two_wrapped = (address (O (0 ∷ [])), refl, (address (BB []), refl, refl))

abbrev pub B : Path → Element
B p = element_of_tree 1 tree_B p

abbrev mapping_of_wrapping_the_root : Mapping
mapping_of_wrapping_the_root = (B [], N (0 ∷ 2 ∷ [])) ∷ []

place_of_a_wrapped_root : IsPlace mapping_of_wrapping_the_root (address (B [])) (address (N [])) (Some (0 ∷ 2 ∷ []))
place_of_a_wrapped_root = (address (N (0 ∷ [])), refl, (address (B []), refl, refl))

abbrev pub M : Path → Element
M p = element_of_tree 1 tree_M p

abbrev pub NM : Element
NM = element_of_tree 2 tree_NM []

abbrev pub NR : Element
NR = element_of_tree 3 tree_NR []

abbrev pub W : Path → Element
W p = element_of_tree 4 tree_W p

abbrev pub mapping_of_extracting : Mapping
mapping_of_extracting = (M (4 ∷ []), W (0 ∷ 4 ∷ [])) ∷ (M (4 ∷ 1 ∷ []), W (0 ∷ 2 ∷ 6 ∷ [])) ∷ (NM, W (0 ∷ 2 ∷ 2 ∷ 0 ∷ [])) ∷ []

pub place_in_the_block_of_an_extracted_variable : IsPlace mapping_of_extracting (address (M (4 ∷ []))) (address (W [])) (Some (0 ∷ 4 ∷ []))
place_in_the_block_of_an_extracted_variable = (address (W (0 ∷ [])), refl, (address (M (4 ∷ [])), refl, refl))

-- a payload that holds the target
place_in_a_payload_that_holds_the_target : IsPlace [] (address (R (1 ∷ []))) (address (R [])) (Some (1 ∷ []))
place_in_a_payload_that_holds_the_target = (address (R (1 ∷ [])), refl, refl)

-- a target that is replaced by itself
place_in_itself : IsPlace [] (address (R (1 ∷ []))) (address (R (1 ∷ []))) (Some [])
place_in_itself = refl

abbrev pub N7 : Path → Element
N7 p = element_of_tree 7 tree_N7 p

-- two targets with one copy have one place
abbrev pub mapping_shared : Mapping
mapping_shared = (R (4 ∷ []), N7 (1 ∷ [])) ∷ (R (1 ∷ []), N7 (1 ∷ [])) ∷ []

place_of_the_first_copied_to_a_shared_one : IsPlace mapping_shared (address (R (1 ∷ []))) (address (N7 [])) (Some (1 ∷ []))
place_of_the_first_copied_to_a_shared_one = (address (R (1 ∷ [])), refl, refl)

place_of_the_second_copied_to_a_shared_one : IsPlace mapping_shared (address (R (4 ∷ []))) (address (N7 [])) (Some (1 ∷ []))
place_of_the_second_copied_to_a_shared_one = (address (R (4 ∷ [])), refl, refl)

-- through two copies in a row: R/1 is copied to N7/1, and N7 to the child 0 of the other tree
abbrev other : Path → Element
other p = element_of_tree 9 tree_L p

abbrev mapping_chain : Mapping
mapping_chain = (N7 [], other (0 ∷ [])) ∷ (R (1 ∷ []), N7 (1 ∷ [])) ∷ []

place_through_two_copies : IsPlace mapping_chain (address (R (1 ∷ []))) (address (other [])) (Some (0 ∷ 1 ∷ []))
place_through_two_copies = (address (N7 []), refl, (address (R (1 ∷ [])), refl, refl))

-- ---- no place
module _ (m : Mapping) (r : Address) where
  -- what stands in r is r, or stands one step below what stands in r
  one_up : (p : Path) (x q : Address) (i : ℕ) → copied m x ≡ child_address q i → StandsFor m r p x → (x ≡ r) ⊎ ((s : Path) × StandsFor m r s q)
  one_up p x q i is stands =
      elim (last_view p) [
        | inl e ↦ inl (subst (λ s. StandsFor m r s x) e stands)
        | inr v ↦
            let up : (y : Address) × StandsFor m r v.0 y × (copied m x ≡ child_address y v.1) = StandsFor-push m r v.0 v.1 x (subst (λ s. StandsFor m r s x) v.2 stands) in
            let same : child_address q i ≡ child_address up.0 v.1 = sym is ∙ up.2 in
            let path : q.path ≡ up.0.path = (same_from_push q.path up.0.path i v.1 (ap (λ (a : Address). a.path) same)).0 in
            let parent : up.0 ≡ q = λ j. record { number = sym (ap (λ (a : Address). a.number) same) j; path = sym path j } in
            inr (v.0, subst (StandsFor m r v.0) parent up.1)
      ]

  -- a root without a copy stands nowhere but in itself
  at_root : (p : Path) (n : ℕ) → copied m (record { number = n; path = [] }) ≡ record { number = n; path = [] } → StandsFor m r p (record { number = n; path = [] }) → record { number = n; path = [] } ≡ r
  at_root p n is stands =
      elim (last_view p) [
        | inl e ↦ subst (λ s. StandsFor m r s (record { number = n; path = [] })) e stands
        | inr v ↦
            let up : (y : Address) × StandsFor m r v.0 y × (copied m (record { number = n; path = [] }) ≡ child_address y v.1) = StandsFor-push m r v.0 v.1 (record { number = n; path = [] }) (subst (λ s. StandsFor m r s (record { number = n; path = [] })) v.2 stands) in
            absurd (no_push up.0.path v.1 (ap (λ (a : Address). a.path) (sym is ∙ up.2)))
      ]
    where
      no_push : (p : Path) (i : ℕ) → [] ≡ p ++ i ∷ [] → ⊥
      no_push [] i e = cc
      no_push (j ∷ p) i e = cc

-- where nothing is mapped, only elements of the payload's tree stand in it
unmapped-number : (r : Address) (p : Path) (x : Address) → StandsFor [] r p x → x.number ≡ r.number
unmapped-number r [] x same = ap (λ a. a.number) same
unmapped-number r (i ∷ p) x below = unmapped-number below.0 p x below.2 ∙ ap (λ a. a.number) below.1

pub unmapped : (r x : Address) → (x.number ≡ r.number → ⊥) → IsPlace [] x r None
unmapped r x apart p stands = apart (unmapped-number r p x stands)

abbrev pub A3 : Element
A3 = element_of_tree 5 tree_A3 []

one_not_five : ◌≡◌ {A = ℕ} 1 5 → ⊥
one_not_five e = omega (arith, e)

no_place_in_an_unmapped_payload : IsPlace [] (address (R (1 ∷ []))) (address A3) None
no_place_in_an_unmapped_payload = unmapped (address A3) (address (R (1 ∷ []))) one_not_five

-- a copy that is the payload itself is not found
pub no_place_where_the_copy_is_the_payload : IsPlace mapping_shared (address (R (1 ∷ []))) (address (N7 (1 ∷ []))) None
no_place_where_the_copy_is_the_payload p stands =
    elim (one_up mapping_shared (address (N7 (1 ∷ []))) p (address (R (1 ∷ []))) (address (N7 [])) 1 refl stands) [
      | inl same ↦ one_not_seven (ap (λ a. a.number) same)
      | inr up ↦ root_is_no_child (ap (λ a. a.path) (at_root mapping_shared (address (N7 (1 ∷ []))) up.0 7 refl up.1))
    ]
  where
    one_not_seven : ◌≡◌ {A = ℕ} 1 7 → ⊥
    one_not_seven e = omega (arith, e)

    root_is_no_child : ◌≡◌ {A = Path} [] (1 ∷ []) → ⊥
    root_is_no_child e = cc

-- ---- following
-- NM is mapped, NR is not
followed_only_if_mapped : ◌≡◌ {A = List Element} (followed mapping_of_extracting NM ∷ followed mapping_of_extracting NR ∷ []) (W (0 ∷ 2 ∷ 2 ∷ 0 ∷ []) ∷ NR ∷ [])
followed_only_if_mapped = refl

-- the nearest of the mapped elements above counts: below M/4 is M/4/1
nearest_mapped_element_counts : followed mapping_of_extracting (M (4 ∷ 1 ∷ 0 ∷ [])) ≡ W (0 ∷ 2 ∷ 6 ∷ 0 ∷ [])
nearest_mapped_element_counts = refl

-- in two steps
followed_through_two_copies : followed mapping_chain (R (1 ∷ 0 ∷ [])) ≡ other (0 ∷ 1 ∷ 0 ∷ [])
followed_through_two_copies = refl

-- the later pair of an address stands
later_pair_stands : followed ((R (1 ∷ []), other (4 ∷ [])) ∷ (R (1 ∷ []), N7 (1 ∷ [])) ∷ []) (R (1 ∷ [])) ≡ other (4 ∷ [])
later_pair_stands = refl
