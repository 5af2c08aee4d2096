-- The change that replaces from a path on, found in document order.
--     place                         the site of an aim
--     start-found, start-missing    what is at the place where it is, and where none is
use Rattle.std.specs.Prelude.{◌≡◌, ◌<◌, ◌+◌, ℕ, zero, suc, true, nat_eq, List, [], ◌∷◌, ◌++◌, length, slice_get, Option, Some, None, option_map, All, refl}
use Rattle.std.specs.List.Sorted.{IsSortedBy, IsNonDecreasingBy, IsPartitionPoint}
use Rattle.std.specs.Cmp.Lexicographic.{slice_cmp}
use Rattle.std.specs.Ordering.{nat_cmp, is_lt, is_eq, ordering_index}
use Rattle.std.specs.declared.cmp.Ordering.TheVariants.{Less, Equal, Greater}
use Rattle.std.proofs.Common.{ap, ap₂, sym, subst, ◌∙◌, arith, get_or, Ordering}
use Rattle.std.proofs.lemmas.Bool.{cases_lt, eqb-true, false_from_ne_true, false≢true, true≢false}
use Rattle.std.proofs.lemmas.Cmp.{nat_list_cmp_total}
use Rattle.std.proofs.lemmas.List.Elements.{recursion_from_All}
use Rattle.std.proofs.lemmas.List.Sorted.{searchable_from_sorted}
use Rattle.std.proofs.lemmas.Map.Text.{is_eq-slice_cmp}
use Rattle.std.proofs.lemmas.Option.{none-some, same_Some, slice_get-map, slice_get_within, slice_get-get_or, get_or_from_slice_get}
use mathlib.Core.Logic.{inl, inr}
use Rattle.cst_core.specs.Path.{Path, parent_path, last_slot}
use Rattle.edit_change.specs.Aim.{Aim, FirstIn, AfterElement, Over, starts_at}
use Rattle.edit_change.specs.ChangeAim.{aim}
use Rattle.edit_change.specs.Rewriting.{NumberedAim}
use Rattle.edit_change.specs.inner.Aimed.{numbered, aims_of}
use Rattle.edit_change.specs.inner.DocumentOrder.{on_the_way, site, stands_before, InDocumentOrder, FitsSome, AreSorted, StartsThere}
use Rattle.edit_change.specs.declared.aimed.Aimed.{Aimed}
use Rattle.edit_change.specs.declared.change.Change.{Change}
use Rattle.edit_change.proofs.DocumentOrder.{OfChange, all-there, before-compared}
use Rattle.edit_change.proofs.Innermost.{any-place}
use Rattle.edit_change.proofs.Lists.{all_at}
use Rattle.edit_change.proofs.OpenAims.{before-after}
use Rattle.edit_change.proofs.Paths.{same_path-true, same_path_from}
use Rattle.edit_change.proofs.Sites.{Stands, First, Behind, Whole, Run, stands}
use Rattle.edit_change.proofs.Sweeping.{has-each}

in-order-at : (xs : List NumberedAim) (i j : ℕ) (a b : NumberedAim) → InDocumentOrder xs → i < j → slice_get xs i ≡ Some a → slice_get xs j ≡ Some b → stands_before a b ≡ true
in-order-at [] i j a b order l is_a is_b = absurd (none-some a is_a)
in-order-at (x ∷ xs) zero zero a b order l is_a is_b = absurd (omega (arith, l))
in-order-at (x ∷ xs) zero (suc j) a b order l is_a is_b =
    let same = same_Some x a is_a in
    ap (λ y. stands_before y b) (sym same) ∙ all_at (λ d. stands_before x d ≡ true) xs j b (recursion_from_All (λ d. stands_before x d ≡ true) xs order.0) is_b
in-order-at (x ∷ xs) (suc i) zero a b order l is_a is_b = absurd (omega (arith, l))
in-order-at (x ∷ xs) (suc i) (suc j) a b order l is_a is_b = in-order-at xs i j a b order.1 (omega (arith, l)) is_a is_b

abbrev pub place : Aimed → List ℕ
place a = site (numbered a).1

sites-rise : (aims : List Aimed) → InDocumentOrder (aims_of aims) → IsSortedBy (λ a b. is_lt (slice_cmp nat_cmp (place a) (place b))) aims
sites-rise aims order k d low l =
    let at : (i : ℕ) → i < length aims → slice_get (aims_of aims) i ≡ Some (numbered (get_or aims i d)) = λ i m. slice_get-map numbered aims i ∙ ap (option_map numbered) (slice_get-get_or aims i d m) in
    before-compared (place (get_or aims (k + 1) d)) (place (get_or aims k d)) ∙ before-after (numbered (get_or aims k d)) (numbered (get_or aims (k + 1) d)) (in-order-at (aims_of aims) k (k + 1) (numbered (get_or aims k d)) (numbered (get_or aims (k + 1) d)) order (omega arith) (at k (omega (arith, l))) (at (k + 1) l))

-- ---- what stands at the site of an element
no-even-end : (q p : Path) (t : ℕ) → ((s : ℕ) → t ≡ suc (s + s) → ⊥) → on_the_way q ++ t ∷ [] ≡ on_the_way p → ⊥
no-even-end [] [] t even e = let l = ap length e in omega (arith, l)
no-even-end [] (s ∷ p) t even e = let same : t ≡ suc (s + s) = cc in even s same
no-even-end (i ∷ q) [] t even e = let l = ap length e in omega (arith, l)
no-even-end (i ∷ q) (j ∷ p) t even e = let rest : on_the_way q ++ t ∷ [] ≡ on_the_way p = cc in no-even-end q p t even rest

same-way : (p q : Path) → on_the_way p ≡ on_the_way q → p ≡ q
same-way [] [] e = refl
same-way [] (j ∷ q) e = let l = ap length e in absurd (omega (arith, l))
same-way (i ∷ p) [] e = let l = ap length e in absurd (omega (arith, l))
same-way (i ∷ p) (j ∷ q) e =
    let heads : suc (i + i) ≡ suc (j + j) = cc in
    let tails : on_the_way p ≡ on_the_way q = cc in
    ap₂ (λ k r. k ∷ r) (omega (arith, heads)) (same-way p q tails)

not-after : (q p : Path) → site (AfterElement q) ≡ on_the_way p → ⊥
not-after [] p e = no-even-end [] p 0 (λ s h. omega (arith, h)) e
not-after (i ∷ q) p e =
    no-even-end (parent_path (i ∷ q)) p (suc (last_slot (i ∷ q)) + suc (last_slot (i ∷ q))) (λ s h. omega (arith, h)) e

starts-by-site : (c : Change) → Stands c → (p : Path) → site (aim c) ≡ on_the_way p → starts_at p (aim c) ≡ true
starts-by-site c (First q a s) p e = absurd (no-even-end q p 0 (λ s h. omega (arith, h)) (sym (ap site a) ∙ e))
starts-by-site c (Behind q a s) p e = absurd (not-after q p (sym (ap site a) ∙ e))
starts-by-site c (Whole a s) p e = ap (starts_at p) a ∙ same_path_from p [] (sym (same-way [] p (sym (ap site a) ∙ e)))
starts-by-site c (Run q f k a s) p e =
    ap (starts_at p) a ∙ same_path_from p (q ++ f ∷ []) (sym (same-way (q ++ f ∷ []) p (sym (ap site a) ∙ e)))

site-by-start : (p : Path) (a : Aim) → starts_at p a ≡ true → site a ≡ on_the_way p
site-by-start p (FirstIn q) h = absurd (false≢true h)
site-by-start p (AfterElement q) h = absurd (false≢true h)
site-by-start p (Over []) h = absurd (false≢true h)
site-by-start p (Over (q ∷ qs)) h = ap on_the_way (sym (same_path-true p q h))

equal-lists : (xs ys : List ℕ) → slice_cmp nat_cmp xs ys ≡ Equal → xs ≡ ys
equal-lists xs ys e = same_path-true xs ys (sym (is_eq-slice_cmp xs ys) ∙ ap is_eq e)

equal-compared : (xs ys : List ℕ) → xs ≡ ys → slice_cmp nat_cmp xs ys ≡ Equal
equal-compared xs ys e = equal-is (slice_cmp nat_cmp xs ys) (is_eq-slice_cmp xs ys ∙ same_path_from xs ys e)
  where
    equal-is : (o : Ordering) → is_eq o ≡ true → o ≡ Equal
    equal-is Less h = absurd (false≢true h)
    equal-is Equal h = refl
    equal-is Greater h = absurd (false≢true h)

module _ (cs : List Change) (aims : List Aimed) (p : Path) (sorted : AreSorted cs (aims_of aims)) (fit : All FitsSome cs) where
  abbrev order : Aimed → Ordering
  order a = slice_cmp nat_cmp (place a) (on_the_way p)

  stands-there : (n : ℕ) (c : Change) → slice_get cs n ≡ Some c → Stands c
  stands-there n c is =
      let fits = subst FitsSome (get_or_from_slice_get cs n c c is) (fit n c (slice_get_within cs n c is)) in
      stands fits.0 c fits.1

  pub start-found : (i : ℕ) (a : Aimed) → slice_get aims i ≡ Some a → order a ≡ Equal → StartsThere cs p (Some a.change)
  start-found i a is equal =
      let of = all_at (OfChange cs) (aims_of aims) i (numbered a) (all-there cs (aims_of aims) sorted.each_once) (slice_get-map numbered aims i ∙ ap (option_map numbered) is) in
      let c = of.0 in
      let a-is : (numbered a).1 ≡ aim c = ap (λ (b : NumberedAim). b.1) of.2 in
      (c, of.1, starts-by-site c (stands-there a.change c of.1) p (ap site (sym a-is) ∙ equal-lists (place a) (on_the_way p) equal))

  rises : IsNonDecreasingBy (λ a. ordering_index (order a)) aims
  rises = searchable_from_sorted nat_list_cmp_total place aims (on_the_way p) (sites-rise aims sorted.in_order)

  pub start-missing : (i : ℕ) → (IsNonDecreasingBy (λ a. ordering_index (order a)) aims → IsPartitionPoint (λ a. order a ≡ Less) (λ a. order a ≡ Greater) aims i) → StartsThere cs p None
  start-missing i parted = λ n c is. false_from_ne_true (starts_at p (aim c)) (λ h.
      let found = any-place (λ (b : NumberedAim). nat_eq n b.0) (aims_of aims) (has-each cs (aims_of aims) n c sorted is) in
      let k = found.0 in
      let b = found.1 in
      let of = all_at (OfChange cs) (aims_of aims) k b (all-there cs (aims_of aims) sorted.each_once) found.2 in
      let same : of.0 ≡ c = same_Some of.0 c (sym of.1 ∙ ap (slice_get cs) (sym (eqb-true n b.0 found.3)) ∙ is) in
      let b-is : b.1 ≡ aim c = ap (λ (e : NumberedAim). e.1) of.2 ∙ ap aim same in
      let at = read k b found.2 in
      let equal : order at.0 ≡ Equal = equal-compared (place at.0) (on_the_way p) (ap (λ (e : NumberedAim). site e.1) at.2 ∙ ap site b-is ∙ site-by-start p (aim c) h) in
      let within = slice_get_within aims k at.0 at.1 in
      let here : get_or aims k at.0 ≡ at.0 = get_or_from_slice_get aims k at.0 at.0 at.1 in
      let parts = parted rises in
      elim (cases_lt k i) [
        | inl before ↦ let less = parts.0 k at.0 (omega arith) before in less-equal (sym less ∙ ap order here ∙ equal)
        | inr after ↦ let more = parts.1 k at.0 after within in greater-equal (sym more ∙ ap order here ∙ equal)
      ])
    where
      less-equal : Less ≡ Equal → ⊥
      less-equal e = true≢false (ap is_lt e)

      greater-equal : Greater ≡ Equal → ⊥
      greater-equal e = false≢true (ap is_eq e)

      read : (k : ℕ) (b : NumberedAim) → slice_get (aims_of aims) k ≡ Some b → (a : Aimed) × (slice_get aims k ≡ Some a) × (numbered a ≡ b)
      read k b is = go (slice_get aims k) refl (sym (slice_get-map numbered aims k) ∙ is)
        where
          go : (o : Option Aimed) → slice_get aims k ≡ o → option_map numbered o ≡ Some b → (a : Aimed) × (slice_get aims k ≡ Some a) × (numbered a ≡ b)
          go None at e = absurd (none-some b e)
          go (Some a) at e = (a, at, same_Some (numbered a) b e)
