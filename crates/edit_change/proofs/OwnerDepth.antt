-- An owner is less deep than what it owns, so the chain of owners ends.
--     owner_is_above                an owner is less deep than what it owns
--     surroundings_are_above        the paths around a change are not as long as it is deep
--     region_is_below               those of its region are as long
--     rank                          how many changes are deeper
--     rank_less                     fewer are deeper than a deeper one
use Rattle.std.specs.Prelude.{◌≡◌, ℕ, zero, suc, ◌-◌, ◌<◌, ◌≤◌, true, false, cond, nat_lt, List, [], ◌∷◌, ◌++◌, length, map, slice_get, Some}
use Rattle.std.specs.List.{AllByRecursion}
use Rattle.std.specs.Option.{option_map_or}
use Rattle.std.proofs.Common.{ap, sym, subst, arith}
use Rattle.std.proofs.lemmas.Bool.{cases_lt, false≢true, or_cases, lt-ltb, le-ltb}
use Rattle.std.proofs.lemmas.List.{length-append}
use Rattle.std.proofs.lemmas.Option.{same_Some}
use mathlib.Core.Logic.{inl, inr}
use Rattle.cst_core.specs.Path.{Path, same_path, has_path, parent_path, above, up_to, counted_from, last_slot}
use Rattle.cst_core.specs.SyntaxElement.{element_of}
use Rattle.cst_core.specs.declared.element.SyntaxElement.{SyntaxElement}
use Rattle.cst_core.specs.declared.element.SyntaxElement.TheVariants.{Node, Token}
use Rattle.edit_change.specs.Position.{anchor}
use Rattle.edit_change.specs.inner.AimFrom.{depth}
use Rattle.edit_change.specs.inner.OwnerPlaces.{depth_of}
use Rattle.edit_change.specs.Nesting.{region, region_of_one, surroundings, owner}
use Rattle.edit_change.specs.declared.change.Change.{Change}
use Rattle.edit_change.specs.declared.change.Change.TheVariants.{Insert, InsertAll, Replace, ReplaceWithMany, ReplaceAll}
use Rattle.edit_change.proofs.Lists.{all-append, all_weaker}
use Rattle.edit_change.proofs.Owners.{HasRegion, owner_region}
use Rattle.edit_change.proofs.Paths.{same_path-true}

all_map_cons : (i n : ℕ) (ps : List Path) → AllByRecursion (λ q. length q < n) ps → AllByRecursion (λ q. length q < suc n) (map (λ q. i ∷ q) ps)
all_map_cons i n [] a = tt
all_map_cons i n (p ∷ ps) a = (omega (arith, a.0), all_map_cons i n ps a.1)

all_above : (p : Path) → AllByRecursion (λ q. length q < length p) (above p)
all_above [] = tt
all_above (i ∷ p) = (omega arith, all_map_cons i (length p) (above p) (all_above p))

all_up_to : (p : Path) → AllByRecursion (λ q. length q < suc (length p)) (up_to p)
all_up_to p =
    all-append (λ q. length q < suc (length p)) (above p) (p ∷ []) (all_weaker (λ q. length q < length p) (λ q. length q < suc (length p)) (above p) (λ q l. omega arith) (all_above p)) (omega arith, tt)

pub surroundings_are_above : (c : Change) → AllByRecursion (λ q. length q < depth c) (surroundings c)
surroundings_are_above (Insert at e) = all_up_to (anchor at).path
surroundings_are_above (InsertAll at es) = all_up_to (anchor at).path
surroundings_are_above (Replace t e) = all_above (element_of t).path
surroundings_are_above (ReplaceWithMany t es) = all_above (element_of t).path
surroundings_are_above (ReplaceAll first last es) = all_above (element_of first).path

length-parent : (p : Path) → length p ≤ suc (length (parent_path p))
length-parent [] = omega arith
length-parent (i ∷ []) = omega arith
length-parent (i ∷ j ∷ p) = omega (arith, length-parent (j ∷ p))

siblings_are_below : (p : Path) (is : List ℕ) (q : Path) → has_path (map (λ i. parent_path p ++ i ∷ []) is) q ≡ true → length p ≤ length q
siblings_are_below p [] q h = cc
siblings_are_below p (i ∷ is) q h =
    elim (or_cases (same_path q (parent_path p ++ i ∷ [])) (has_path (map (λ i. parent_path p ++ i ∷ []) is) q) h) [
      | inl here ↦
          let long = ap length (same_path-true q (parent_path p ++ i ∷ []) here) in
          let sum = length-append (parent_path p) (i ∷ []) in
          omega (arith, length-parent p)
      | inr there ↦ siblings_are_below p is q there
    ]

one_is_below : (t : SyntaxElement) (q : Path) → has_path (region_of_one t) q ≡ true → length (element_of t).path ≤ length q
one_is_below (Token t) q h = cc
one_is_below (Node n) q h =
    elim (or_cases (same_path q n.path) false h) [
      | inl here ↦ let long = ap length (same_path-true q n.path here) in omega arith
      | inr none ↦ absurd (false≢true none)
    ]

pub region_is_below : (r : Change) (q : Path) → has_path (region r) q ≡ true → depth r ≤ length q
region_is_below (Insert at e) q h = cc
region_is_below (InsertAll at es) q h = cc
region_is_below (Replace t e) q h = one_is_below t q h
region_is_below (ReplaceWithMany t es) q h = one_is_below t q h
region_is_below (ReplaceAll first last es) q h =
    siblings_are_below (element_of first).path (counted_from (last_slot (element_of first).path) (suc (last_slot (element_of last).path) - last_slot (element_of first).path)) q h

pub owner_is_above : (cs : List Change) (d : Change) (c : ℕ) → owner cs d ≡ Some c → (r : Change) × (slice_get cs c ≡ Some r) × (depth r < depth d)
owner_is_above cs d c h =
    let found : HasRegion (λ q. length q < depth d) cs c = owner_region (λ q. length q < depth d) cs d c (surroundings_are_above d) h in
    (found.0, found.2, omega (arith, region_is_below found.0 found.1 found.3, found.4))

-- ---- how many changes are deeper
abbrev rank_in : ℕ → List Change → ℕ
rank_in n [] = 0
rank_in n (r ∷ rs) = cond (nat_lt n (depth r)) (suc (rank_in n rs)) (rank_in n rs)

rank_yes : (n : ℕ) (r : Change) (rs : List Change) → n < depth r → rank_in n (r ∷ rs) ≡ suc (rank_in n rs)
rank_yes n r rs l = ap (λ b. cond b (suc (rank_in n rs)) (rank_in n rs)) (lt-ltb n (depth r) l)

rank_no : (n : ℕ) (r : Change) (rs : List Change) → depth r ≤ n → rank_in n (r ∷ rs) ≡ rank_in n rs
rank_no n r rs l = ap (λ b. cond b (suc (rank_in n rs)) (rank_in n rs)) (le-ltb n (depth r) l)

rank-le-length : (n : ℕ) (rs : List Change) → rank_in n rs ≤ length rs
rank-le-length n [] = omega arith
rank-le-length n (r ∷ rs) =
    elim (cases_lt n (depth r)) [
      | inl l ↦ omega (arith, rank_yes n r rs l, rank-le-length n rs)
      | inr l ↦ omega (arith, rank_no n r rs l, rank-le-length n rs)
    ]

rank_mono : (m n : ℕ) (rs : List Change) → m ≤ n → rank_in n rs ≤ rank_in m rs
rank_mono m n [] h = omega arith
rank_mono m n (r ∷ rs) h =
    elim (cases_lt n (depth r)) [
      | inl l ↦ omega (arith, rank_yes n r rs l, rank_yes m r rs (omega arith), rank_mono m n rs h)
      | inr l ↦ elim (cases_lt m (depth r)) [
        | inl k ↦ omega (arith, rank_no n r rs l, rank_yes m r rs k, rank_mono m n rs h)
        | inr k ↦ omega (arith, rank_no n r rs l, rank_no m r rs k, rank_mono m n rs h)
      ]
    ]

rank_in_less : (m : ℕ) (rs : List Change) (j : ℕ) (d : Change) → slice_get rs j ≡ Some d → m < depth d → rank_in (depth d) rs < rank_in m rs
rank_in_less m [] j d h l = cc
rank_in_less m (r ∷ rs) zero d h l =
    let same : depth r ≡ depth d = ap depth (same_Some r d h) in
    omega (arith, rank_no (depth d) r rs (omega arith), rank_yes m r rs (omega arith), rank_mono m (depth d) rs (omega arith))
rank_in_less m (r ∷ rs) (suc j) d h l =
    elim (cases_lt (depth d) (depth r)) [
      | inl k ↦ omega (arith, rank_yes (depth d) r rs k, rank_yes m r rs (omega arith), rank_in_less m rs j d h l)
      | inr k ↦ elim (cases_lt m (depth r)) [
        | inl k' ↦ omega (arith, rank_no (depth d) r rs k, rank_yes m r rs k', rank_in_less m rs j d h l)
        | inr k' ↦ omega (arith, rank_no (depth d) r rs k, rank_no m r rs k', rank_in_less m rs j d h l)
      ]
    ]

abbrev pub rank : List Change → ℕ → ℕ
rank changes c = rank_in (depth_of changes c) changes

pub rank-le : (changes : List Change) (c : ℕ) → rank changes c ≤ length changes
rank-le changes c = rank-le-length (depth_of changes c) changes

pub rank_less : (changes : List Change) (c i : ℕ) (d : Change) → slice_get changes i ≡ Some d → owner changes d ≡ Some c → rank changes i < rank changes c
rank_less changes c i d is by =
    let up : (r : Change) × (slice_get changes c ≡ Some r) × (depth r < depth d) = owner_is_above changes d c by in
    let own : depth_of changes i ≡ depth d = ap (λ o. option_map_or depth o 0) is in
    let its : depth_of changes c ≡ depth up.0 = ap (λ o. option_map_or depth o 0) up.1 in
    let less : rank_in (depth d) changes < rank_in (depth up.0) changes = rank_in_less (depth up.0) changes i d is up.2 in
    subst (λ n. n < rank changes c) (ap (λ n. rank_in n changes) (sym own)) (subst (λ n. rank_in (depth d) changes < n) (ap (λ n. rank_in n changes) (sym its)) less)
