-- In document order an owner stands before what it owns.
--     owner-around                  an owner replaces something that is around what it owns
--     stands-in-order               of two changes in a document order, the one at the earlier place stands before the other
--     owner-first                   the place of an owner is before that of what it owns
use Rattle.std.specs.Prelude.{◌≡◌, ℕ, zero, suc, ◌<◌, true, List, [], ◌∷◌, length, get_or, slice_get, option_map, Option, Some, None, All, refl}
use Rattle.std.specs.List.{AllByRecursion, cons_option}
use Rattle.std.proofs.Common.{ap, sym, subst, ◌∙◌, arith}
use Rattle.std.proofs.lemmas.Bool.{cases_eq, cases_lt, or_left, or_right, false≢true, true≢false}
use Rattle.std.proofs.lemmas.List.Elements.{recursion_from_All}
use Rattle.std.proofs.lemmas.Option.{same_Some, none-some, slice_get_within, get_or_from_slice_get}
use mathlib.Core.Logic.{inl, inr}
use Rattle.cst_core.specs.Path.{Path, same_path, has_path}
use Rattle.cst_core.specs.Element.{Element}
use Rattle.edit_change.specs.ChangeAim.{aim}
use Rattle.edit_change.specs.Change.{targets}
use Rattle.edit_change.specs.Fits.{Fits}
use Rattle.edit_change.specs.Nesting.{region, surroundings, owner}
use Rattle.edit_change.specs.Rewriting.{NumberedAim}
use Rattle.edit_change.specs.inner.AimFrom.{depth}
use Rattle.edit_change.specs.inner.DocumentOrder.{stands_before, InDocumentOrder, aims_at, IsDocumentOrder}
use Rattle.edit_change.specs.inner.Open.{surrounds}
use Rattle.edit_change.specs.declared.change.Change.{Change}
use Rattle.edit_change.proofs.Innermost.{region_cases}
use Rattle.edit_change.proofs.Lists.{all_weaker}
use Rattle.edit_change.proofs.OpenAims.{before-after, around-first}
use Rattle.edit_change.proofs.OwnerDepth.{owner_is_above}
use Rattle.edit_change.proofs.Owners.{owner_region}
use Rattle.edit_change.proofs.Paths.{meets, same_path_from}
use Rattle.edit_change.proofs.Sites.{replaced-aim, stands}

all-in : (ps : List Path) → AllByRecursion (λ q. has_path ps q ≡ true) ps
all-in [] = tt
all-in (p ∷ ps) =
    (or_left (same_path p p) (has_path ps p) (same_path_from p p refl), all_weaker (λ q. has_path ps q ≡ true) (λ q. has_path (p ∷ ps) q ≡ true) ps (λ q h. or_right (same_path q p) (has_path ps q) h) (all-in ps))

owner-around : (cs : List Change) (o : ℕ) (r d : Change) → slice_get cs o ≡ Some r → owner cs d ≡ Some o → surrounds (surroundings d) (aim r) ≡ true
owner-around cs o r d is by =
    let found = owner_region (λ q. has_path (surroundings d) q ≡ true) cs d o (all-in (surroundings d)) by in
    let alike : found.0 ≡ r = same_Some found.0 r (sym found.2 ∙ is) in
    let in_region : has_path (region r) found.1 ≡ true = ap (λ x. has_path (region x) found.1) (sym alike) ∙ found.3 in
    elim (region_cases r) [
      | inl whole ↦ meets (surroundings d) _ found.1 found.4 (ap (λ ps. has_path ps found.1) (replaced-aim r ∙ sym whole) ∙ in_region)
      | inr none ↦ absurd (false≢true (sym (ap (λ ps. has_path ps found.1) none) ∙ in_region))
    ]

-- ---- places in an order
module _ (cs : List Change) where
  aim-there : (P : NumberedAim → Type 0) (ns : List ℕ) (k o : ℕ) (r : Change) → k < length ns → get_or ns k 0 ≡ o → slice_get cs o ≡ Some r → AllByRecursion P (aims_at cs ns) → P (o, aim r)
  aim-there P [] k o r l at is all = absurd (omega (arith, l))
  aim-there P (n ∷ ns) zero o r l at is all =
      let here : option_map (λ c. (n, aim c)) (slice_get cs n) ≡ Some (o, aim r) = ap (λ m. option_map (λ c. (m, aim c)) (slice_get cs m)) at ∙ ap (option_map (λ c. (o, aim c))) is in
      (subst (λ x. AllByRecursion P (cons_option x (aims_at cs ns))) here all).0
  aim-there P (n ∷ ns) (suc k) o r l at is all = go (aim-there P ns k o r (omega (arith, l)) at is) (slice_get cs n) all
    where
      go : (AllByRecursion P (aims_at cs ns) → P (o, aim r)) → (x : Option Change) → AllByRecursion P (cons_option (option_map (λ c. (n, aim c)) x) (aims_at cs ns)) → P (o, aim r)
      go later None rest = later rest
      go later (Some c) rest = later rest.1

  stands-in-order : (ns : List ℕ) (i k n o : ℕ) (d r : Change) → i < k → k < length ns → get_or ns i 0 ≡ n → get_or ns k 0 ≡ o → slice_get cs n ≡ Some d → slice_get cs o ≡ Some r → InDocumentOrder (aims_at cs ns) → stands_before (n, aim d) (o, aim r) ≡ true
  stands-in-order [] i k n o d r l m at_i at_k is_d is_r order = absurd (omega (arith, m))
  stands-in-order (x ∷ ns) i zero n o d r l m at_i at_k is_d is_r order = absurd (omega (arith, l))
  stands-in-order (x ∷ ns) zero (suc k) n o d r l m at_i at_k is_d is_r order =
      let here : option_map (λ c. (x, aim c)) (slice_get cs x) ≡ Some (n, aim d) = ap (λ y. option_map (λ c. (y, aim c)) (slice_get cs y)) at_i ∙ ap (option_map (λ c. (n, aim c))) is_d in
      let first = (subst (λ y. InDocumentOrder (cons_option y (aims_at cs ns))) here order).0 in
      aim-there (λ e. stands_before (n, aim d) e ≡ true) ns k o r (omega (arith, m)) at_k is_r (recursion_from_All (λ e. stands_before (n, aim d) e ≡ true) (aims_at cs ns) first)
  stands-in-order (x ∷ ns) (suc i) (suc k) n o d r l m at_i at_k is_d is_r order = go (stands-in-order ns i k n o d r (omega (arith, l)) (omega (arith, m)) at_i at_k is_d is_r) (slice_get cs x) order
    where
      go : (InDocumentOrder (aims_at cs ns) → stands_before (n, aim d) (o, aim r) ≡ true) → (y : Option Change) → InDocumentOrder (cons_option (option_map (λ c. (x, aim c)) y) (aims_at cs ns)) → stands_before (n, aim d) (o, aim r) ≡ true
      go later None rest = later rest
      go later (Some c) rest = later rest.1

  module _ (root : Element) (fit : All (Fits root) cs) where
    fits-at : (n : ℕ) (c : Change) → slice_get cs n ≡ Some c → Fits root c
    fits-at n c is = subst (Fits root) (get_or_from_slice_get cs n c c is) (fit n c (slice_get_within cs n c is))

    pub owner-first : (order : List ℕ) (i k n o : ℕ) (d : Change) → IsDocumentOrder cs order → i < length order → k < length order → get_or order i 0 ≡ n → get_or order k 0 ≡ o → slice_get cs n ≡ Some d → owner cs d ≡ Some o → k < i
    owner-first order i k n o d are in_i in_k at_i at_k is_d by =
        let up = owner_is_above cs d o by in
        let r = up.0 in
        elim (cases_lt k i) [
          | inl first ↦ first
          | inr not_first ↦
              elim (cases_eq i k) [
                | inl same ↦
                    let one : n ≡ o = sym at_i ∙ ap (λ j. get_or order j 0) same ∙ at_k in
                    let alike : d ≡ r = same_Some d r (sym is_d ∙ ap (slice_get cs) one ∙ up.1) in
                    let deep : depth d ≡ depth r = ap depth alike in
                    absurd (omega (arith, deep, up.2))
                | inr other ↦
                    let before = stands-in-order order i k n o d r (omega (arith, not_first, other)) in_k at_i at_k is_d up.1 are.in_order in
                    let around = around-first r d (stands root r (fits-at o r up.1)) (stands root d (fits-at n d is_d)) (owner-around cs o r d up.1 by) in
                    absurd (false≢true (sym (before-after (n, aim d) (o, aim r) before) ∙ around))
              ]
        ]
