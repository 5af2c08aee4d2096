-- Registered elements in document order.
--     same-turned                   two paths are equal from either side
--     starts-later, goes-on         what is before a path does not begin with it; no gap in those that do
--     before-on                     what is no later than one before a path is before it
--     earlier-parted, inside-parted, within-run      those at an address or below it are one after another
--     sought-none                   where there are none
--     sought-order                  their marks are in order
--     cut-same                      a path that begins with another one, and then goes on with a third
--     table-of                      sorted, they have what is registered
use Rattle.std.specs.Prelude.{◌≡◌, ℕ, ◌≤◌, Bool, true, false, cond, ◌&&◌, ◌||◌, nat_eq, List, [], ◌∷◌, ◌++◌, map, filter, take, drop, length, get_or, refl}
use Rattle.std.specs.List.{AllByRecursion, enumerate_from}
use Rattle.std.specs.List.Sorted.{IsStableBy, IsPartitionedBy, IsPartitionPoint}
use Rattle.std.specs.Cmp.Lexicographic.{slice_cmp}
use Rattle.std.specs.Ordering.{nat_cmp, is_lt}
use Rattle.std.proofs.Common.{ap, ap₂, sym, subst, ◌∙◌, arith}
use Rattle.std.proofs.lemmas.Bool.{cases_Bool, cases_eq, cases_lt, eq-eqb, ne_eqb, eqb-true, lt-ltb, le-ltb, and_parts, and_from, true≢false}
use Rattle.std.proofs.lemmas.List.{take-append-drop}
use Rattle.std.proofs.lemmas.List.Elements.{All-from_recursion}
use mathlib.Core.List.{map-map}
use mathlib.Core.Logic.{inl, inr}
use Rattle.cst_core.specs.Path.{Path, same_path}
use Rattle.cst_core.specs.Element.{Address, same_address}
use Rattle.cst_core.specs.inner.InTree.{address_path}
use Rattle.green_tree.proofs.Parts.{filter-map}
use Rattle.edit_change.specs.inner.DocumentOrder.{is_before}
use Rattle.edit_change.proofs.Paths.{same_path-true, same_path_from}
use Rattle.one_pass.specs.declared.sought.Registered.{Registered}
use Rattle.one_pass.specs.inner.Marked.{Marking, marks_at, InPathOrder}
use Rattle.one_pass.specs.inner.Sought.{as_registered, place_of, begins_with, within, sought_at, below, AreInOrder, IsTableOf}
use Rattle.edit_change.proofs.DocumentOrder.{before-compared}
use Rattle.edit_change.proofs.Lists.{all_weaker}
use Rattle.one_pass.proofs.Ascending.{all-taken, all-dropped, filter-between, ascending-far, ascending-part, less_by, stable-at}
use Rattle.one_pass.proofs.OneAim.{order-key, order-inside}

pub same-turned : (p q : Path) → same_path p q ≡ same_path q p
same-turned p q =
    elim (cases_Bool (same_path p q)) [
      | inl same ↦ same ∙ sym (same_path_from q p (sym (same_path-true p q same)))
      | inr differs ↦ differs ∙ (elim (cases_Bool (same_path q p)) [
        | inl same ↦ absurd (true≢false (sym (same_path_from p q (sym (same_path-true q p same))) ∙ differs))
        | inr neither ↦ sym neither
      ])
    ]

turned : (i j : ℕ) → nat_eq j i ≡ nat_eq i j
turned i j =
    elim (cases_eq j i) [
      | inl same ↦ eq-eqb j i same ∙ sym (eq-eqb i j (sym same))
      | inr other ↦ ne_eqb j i other ∙ sym (ne_eqb i j (λ e. other (sym e)))
    ]

not-both : (b : Bool) → (b && false) ≡ false
not-both true = refl
not-both false = refl

-- ---- one after another
pub starts-later : (q p : Path) → is_before p q ≡ true → begins_with q p ≡ false
starts-later [] p h = absurd (cc)
starts-later (i ∷ q) [] h = refl
starts-later (i ∷ q) (j ∷ p) h =
    elim (cases_eq j i) [
      | inl same ↦ ap (λ b. nat_eq j i && b) (starts-later q p (sym (order-inside i p q) ∙ ap (λ k. is_before (k ∷ p) (i ∷ q)) (sym same) ∙ h)) ∙ not-both (nat_eq j i)
      | inr other ↦ ap (λ b. b && begins_with q p) (ne_eqb j i other)
    ]

pub goes-on : (q x y : Path) → is_before x q ≡ false → is_before y x ≡ false → begins_with q y ≡ true → begins_with q x ≡ true
goes-on [] x y h k b = refl
goes-on (i ∷ q) [] y h k b = absurd (cc)
goes-on (i ∷ q) (j ∷ x) [] h k b = absurd (cc)
goes-on (i ∷ q) (j ∷ x) (l ∷ y) h k b =
    let both = and_parts (nat_eq l i) (begins_with q y) b in
    let at : l ≡ i = eqb-true l i both.0 in
    let low = order-key (j ∷ x) (i ∷ q) h in
    let high = order-key (l ∷ y) (j ∷ x) k in
    let here : j ≡ i = omega (arith, at, low, high) in
    let same : l ≡ j = omega (arith, at, here) in
    let first : is_before x q ≡ false = sym (order-inside i x q) ∙ ap (λ m. is_before (m ∷ x) (i ∷ q)) (sym here) ∙ h in
    let next : is_before y x ≡ false = sym (order-inside j y x) ∙ ap (λ m. is_before (m ∷ y) (j ∷ x)) (sym same) ∙ k in
    and_from (nat_eq j i) (begins_with q x) (eq-eqb j i here) (goes-on q x y first next both.1)

before-on : (x y t : Path) → is_before y x ≡ false → is_before y t ≡ true → is_before x t ≡ true
before-on x y [] h k = absurd (cc)
before-on [] y (l ∷ t) h k = refl
before-on (i ∷ x) [] (l ∷ t) h k = absurd (cc)
before-on (i ∷ x) (j ∷ y) (l ∷ t) h k =
    let low = order-key (j ∷ y) (i ∷ x) h in
    elim (cases_lt i l) [
      | inl less ↦ ap (λ b. b || (nat_eq i l && is_before x t)) (lt-ltb i l less)
      | inr past ↦
          let far = no-later j l y t k in
          let same : i ≡ j = omega (arith, low, far, past) in
          let there : j ≡ l = omega (arith, same, far, past) in
          let first : is_before y x ≡ false = sym (order-inside i y x) ∙ ap (λ m. is_before (m ∷ y) (i ∷ x)) same ∙ h in
          let next : is_before y t ≡ true = sym (order-inside l y t) ∙ ap (λ m. is_before (m ∷ y) (l ∷ t)) (sym there) ∙ k in
          ap (λ m. is_before (m ∷ x) (l ∷ t)) (same ∙ there) ∙ order-inside l x t ∙ before-on x y t first next
    ]
  where
    no-later : (j l : ℕ) (y t : Path) → is_before (j ∷ y) (l ∷ t) ≡ true → j ≤ l
    no-later j l y t k =
        elim (cases_lt l j) [
          | inl over ↦
              let wrong = ap₂ (λ a b. a || (b && is_before y t)) (le-ltb j l (omega (arith, over))) (ne_eqb j l (λ e. absurd (omega (arith, e, over)))) in
              let no : true ≡ false = sym k ∙ wrong in
              absurd (true≢false no)
          | inr under ↦ under
        ]

module _ (xs : List Registered) (order : AreInOrder xs) (t : Path) where
  abbrev pub is_earlier : Registered → Bool
  is_earlier r = is_lt (slice_cmp nat_cmp (place_of r) t)

  abbrev pub is_inside : Registered → Bool
  is_inside r = begins_with t (place_of r)

  pub earlier-parted : IsPartitionedBy is_earlier xs
  earlier-parted i j d l k h =
      before-compared (place_of (get_or xs i d)) t ∙ before-on (place_of (get_or xs i d)) (place_of (get_or xs j d)) t (ascending-far place_of xs order i j d l k) (sym (before-compared (place_of (get_or xs j d)) t) ∙ h)

  module _ (start : ℕ) (l : start ≤ length xs) (point : IsPartitionPoint (λ r. is_earlier r ≡ true) (λ r. is_earlier r ≡ false) xs start) where
    later : AreInOrder (drop start xs)
    later = (ascending-part place_of (take start xs) (drop start xs) (subst AreInOrder (sym (take-append-drop start xs)) order)).1

    pub inside-parted : IsPartitionedBy is_inside (drop start xs)
    inside-parted i j d m k h =
        let rest = drop start xs in
        let no_less = All-from_recursion (λ r. is_earlier r ≡ false) rest (all-dropped (λ r. is_earlier r ≡ false) start xs point.1) i d (omega (arith, m, k)) in
        goes-on t (place_of (get_or rest i d)) (place_of (get_or rest j d)) (sym (before-compared (place_of (get_or rest i d)) t) ∙ no_less) (ascending-far place_of rest later i j d m k) h

    pub within-run : (end : ℕ) → end ≤ length (drop start xs) → IsPartitionPoint (λ r. is_inside r ≡ true) (λ r. is_inside r ≡ false) (drop start xs) end → filter is_inside xs ≡ take end (drop start xs)
    within-run end m inner =
        filter-between is_inside xs start end (all_weaker (λ r. is_earlier r ≡ true) (λ r. is_inside r ≡ false) (take start xs) (λ r h. starts-later t (place_of r) (sym (before-compared (place_of r) t) ∙ h)) (all-taken (λ r. is_earlier r ≡ true) start xs l point.0)) (all-taken (λ r. is_inside r ≡ true) end (drop start xs) m inner.0) (all-dropped (λ r. is_inside r ≡ false) end (drop start xs) inner.1)

pub sought-none : (xs : List Registered) (a : Address) → length (within xs a) ≡ 0 → sought_at xs a ≡ []
sought-none xs a none = go (within xs a) none
  where
    go : (ys : List Registered) → length ys ≡ 0 → map {B = Marking} (λ (r : Registered). (r.mark.number, drop (length a.path) r.mark.path.now)) ys ≡ []
    go [] h = refl
    go (y ∷ ys) h = absurd (omega (arith, h))

-- ---- the order of what is left of their paths
cut-order : (q x y : Path) → begins_with q x ≡ true → begins_with q y ≡ true → is_before (drop (length q) y) (drop (length q) x) ≡ is_before y x
cut-order [] x y a b = refl
cut-order (i ∷ q) [] y a b = absurd (cc)
cut-order (i ∷ q) (j ∷ x) [] a b = absurd (cc)
cut-order (i ∷ q) (j ∷ x) (l ∷ y) a b =
    let first = and_parts (nat_eq j i) (begins_with q x) a in
    let second = and_parts (nat_eq l i) (begins_with q y) b in
    let same : j ≡ l = eqb-true j i first.0 ∙ sym (eqb-true l i second.0) in
    cut-order q x y first.1 second.1 ∙ sym (order-inside j y x) ∙ ap (λ k. is_before (k ∷ y) (j ∷ x)) same

module _ (a : Address) where
  abbrev passes : Registered → Bool
  passes r = begins_with (address_path a) (place_of r)

  abbrev from_there : Registered → Marking
  from_there r = (r.mark.number, drop (length a.path) r.mark.path.now)

  abbrev Later : Registered → List Marking → Type 0
  Later r ms = AllByRecursion (λ (m : Marking). is_before m.1 (drop (length a.path) r.mark.path.now) ≡ false) ms

  later-one : (r s : Registered) (ys : List Registered) (b : Bool) → passes r ≡ true → passes s ≡ b → is_before (place_of s) (place_of r) ≡ false → Later r (map from_there ys) → Later r (map from_there (cond b (s ∷ ys) ys))
  later-one r s ys true here is h rest = (cut-order (address_path a) (place_of r) (place_of s) here is ∙ h, rest)
  later-one r s ys false here is h rest = rest

  each-later : (r : Registered) (xs : List Registered) → passes r ≡ true → AllByRecursion (λ s. is_before (place_of s) (place_of r) ≡ false) xs → Later r (map from_there (filter passes xs))
  each-later r [] here h = tt
  each-later r (s ∷ xs) here h = later-one r s (filter passes xs) (passes s) here refl h.0 (each-later r xs here h.1)

  order-one : (r : Registered) (ys : List Registered) (b : Bool) → passes r ≡ b → (passes r ≡ true → Later r (map from_there ys)) → InPathOrder (map from_there ys) → InPathOrder (map from_there (cond b (r ∷ ys) ys))
  order-one r ys true is later rest = (later is, rest)
  order-one r ys false is later rest = rest

  pub sought-order : (xs : List Registered) → AreInOrder xs → InPathOrder (sought_at xs a)
  sought-order [] h = tt
  sought-order (r ∷ xs) h = order-one r (filter passes xs) (passes r) refl (λ here. each-later r xs here h.0) (sought-order xs h.1)

-- ---- what is registered
cut-same : (q p x : Path) → (begins_with q x && same_path p (drop (length q) x)) ≡ same_path (q ++ p) x
cut-same [] p x = refl
cut-same (i ∷ q) p [] = refl
cut-same (i ∷ q) p (j ∷ x) =
    joined (nat_eq j i) (begins_with q x) (same_path p (drop (length q) x)) ∙ ap₂ (λ b c. b && c) (turned i j) (cut-same q p x)
  where
    joined : (b c d : Bool) → ((b && c) && d) ≡ (b && (c && d))
    joined true c d = refl
    joined false c d = refl

module _ (a : Address) (p : Path) where
  abbrev stands : Registered → Bool
  stands r = same_path (address_path (below a p)) (place_of r)

  -- one of them, at the address or below it, and then there
  exact-one : (r : Registered) (b : Bool) (ms : List Marking) → marks_at (map (from_there a) (cond b (r ∷ []) []) ++ ms) p ≡ map (λ r. r.mark.number) (cond (b && same_path p (drop (length a.path) r.mark.path.now)) (r ∷ []) []) ++ marks_at ms p
  exact-one r false ms = refl
  exact-one r true ms = elim (same_path p (drop (length a.path) r.mark.path.now)) as (λ d. map (λ (m : Marking). m.0) (cond d (from_there a r ∷ filter (λ (m : Marking). same_path p m.1) ms) (filter (λ (m : Marking). same_path p m.1) ms)) ≡ map (λ (s : Registered). s.mark.number) (cond d (r ∷ []) []) ++ marks_at ms p) [ true ↦ refl | false ↦ refl ]

  exact : (xs : List Registered) → marks_at (sought_at xs a) p ≡ map (λ r. r.mark.number) (filter stands xs)
  exact [] = refl
  exact (r ∷ xs) =
      ap (λ ms. marks_at ms p) (cut (passes a r)) ∙ exact-one r (passes a r) (sought_at xs a) ∙ ap₂ (λ b ns. map (λ (s : Registered). s.mark.number) (cond b (r ∷ []) []) ++ ns) (cut-same (address_path a) p (place_of r)) (exact xs) ∙ back (stands r)
    where
      cut : (b : Bool) → map (from_there a) (cond b (r ∷ filter (passes a) xs) (filter (passes a) xs)) ≡ map (from_there a) (cond b (r ∷ []) []) ++ sought_at xs a
      cut true = refl
      cut false = refl

      back : (b : Bool) → map (λ (s : Registered). s.mark.number) (cond b (r ∷ []) []) ++ map (λ (s : Registered). s.mark.number) (filter stands xs) ≡ map (λ (s : Registered). s.mark.number) (cond b (r ∷ filter stands xs) (filter stands xs))
      back true = refl
      back false = refl

pub table-of : (rs : List Address) (ys xs : List Registered) → map as_registered ys ≡ enumerate_from 0 rs → IsStableBy (less_by place_of) ys xs → IsTableOf rs xs
table-of rs ys xs told stable a p =
    let s = address_path (below a p) in
    exact a p xs ∙ ap (map (λ r. r.mark.number)) (stable-at place_of ys xs stable s) ∙ sym (ap (λ es. map (λ (e : ℕ × Address). e.0) (filter (λ (e : ℕ × Address). same_address e.1 (below a p)) es)) (sym told) ∙ ap (map (λ (e : ℕ × Address). e.0)) (filter-map (λ (e : ℕ × Address). same_address e.1 (below a p)) (stands a p) as_registered ys (λ r. same-turned (place_of r) s)) ∙ map-map (λ (e : ℕ × Address). e.0) as_registered (filter (stands a p) ys))
