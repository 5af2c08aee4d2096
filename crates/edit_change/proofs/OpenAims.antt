-- Which changes lie in which, in document order, where no two clash.
--     stands-through                one before another one, and that before a third
--     no-share                      no two of them share a target
--     before-after                  what stands before another one is not after it
--     around-between                what is around a change is around all that stands between
--     around-first                  it stands before the change
--     around-through                what is around something that is around a change is around the change
use Rattle.std.specs.Prelude.{◌≡◌, ◌≢◌, ◌<◌, ◌≤◌, ◌+◌, ℕ, suc, true, false, ◌&&◌, nat_lt, List, [], ◌∷◌, ◌++◌, slice_get, Some, None, All, refl}
use Rattle.std.specs.List.{list_any}
use Rattle.std.specs.Cmp.Lexicographic.{slice_cmp}
use Rattle.std.specs.Ordering.{nat_cmp, is_lt, ordering_reverse}
use Rattle.std.specs.declared.cmp.Ordering.TheVariants.{Less, Equal, Greater}
use Rattle.std.proofs.Common.{Ordering, ap, ap₂, sym, subst, ◌∙◌, arith, append_assoc}
use Rattle.std.proofs.lemmas.Bool.{cases_Bool, cases_lt, or_cases, or_left, or_right, and_parts, ltb-true, false≢true, true≢false}
use Rattle.std.proofs.lemmas.Cmp.{nat_list_cmp_total}
use Rattle.std.proofs.lemmas.Option.{same_Some, slice_get_within, get_or_from_slice_get}
use mathlib.Core.Logic.{inl, inr}
use Rattle.cst_core.specs.Path.{Path, same_path, has_path, parent_path, last_slot, up_to}
use Rattle.cst_core.specs.Element.{Element}
use Rattle.edit_change.specs.Aim.{Aim, FirstIn, AfterElement, Over}
use Rattle.edit_change.specs.Change.{targets}
use Rattle.edit_change.specs.ChangeAim.{aim}
use Rattle.edit_change.specs.Fits.{Fits}
use Rattle.edit_change.specs.Nesting.{surroundings, first_clash}
use Rattle.edit_change.specs.Rewriting.{NumberedAim}
use Rattle.edit_change.specs.inner.DocumentOrder.{on_the_way, site, is_before, stands_before}
use Rattle.edit_change.specs.inner.Open.{replaced, surrounds}
use Rattle.edit_change.specs.declared.change.Change.{Change}
use Rattle.edit_change.proofs.DocumentOrder.{OfChange, before-compared, aim_cmp, aims-total, stands-compared}
use Rattle.edit_change.proofs.Paths.{meets, same_path-true, same_path_from}
use Rattle.edit_change.proofs.RootAlone.{unclashed}
use Rattle.edit_change.proofs.Sites.{run, sibling-any, way-push, on-the-way, way-to, up_to-leads, between, replaced-aim, Stands, First, Behind, Whole, Run, stands, lies-strictly, lies-back}

-- ---- one before another
less-is : (o : Ordering) → is_lt o ≡ true → o ≡ Less
less-is Less h = refl
less-is Equal h = absurd (false≢true h)
less-is Greater h = absurd (false≢true h)

turned : (xs ys : List ℕ) → is_before xs ys ≡ true → is_before ys xs ≡ false
turned xs ys h =
    sym (before-compared ys xs) ∙ ap is_lt (nat_list_cmp_total.antisymm ys xs ∙ ap ordering_reverse (less-is (slice_cmp nat_cmp xs ys) (before-compared xs ys ∙ h)))

pub not-self : (xs : List ℕ) → is_before xs xs ≡ false
not-self xs =
    elim (cases_Bool (is_before xs xs)) [
      | inl before ↦ absurd (true≢false (sym before ∙ turned xs xs before))
      | inr never ↦ never
    ]

pub before-after : (a b : NumberedAim) → stands_before a b ≡ true → is_before (site b.1) (site a.1) ≡ false
before-after a b h =
    elim (or_cases (is_before (site a.1) (site b.1)) (same_path (site a.1) (site b.1) && nat_lt a.0 b.0) h) [
      | inl less ↦ turned (site a.1) (site b.1) less
      | inr alike ↦
          let same = same_path-true (site a.1) (site b.1) (and_parts (same_path (site a.1) (site b.1)) (nat_lt a.0 b.0) alike).0 in
          ap (λ xs. is_before xs (site a.1)) (sym same) ∙ not-self (site a.1)
    ]

pub never-itself : (a : NumberedAim) → stands_before a a ≡ true → ⊥
never-itself a h =
    elim (or_cases (is_before (site a.1) (site a.1)) (same_path (site a.1) (site a.1) && nat_lt a.0 a.0) h) [
      | inl less ↦ true≢false (sym less ∙ not-self (site a.1))
      | inr alike ↦
          let l = ltb-true a.0 a.0 (and_parts (same_path (site a.1) (site a.1)) (nat_lt a.0 a.0) alike).1 in
          absurd (omega (arith, l))
    ]

-- one before another one, and that before a third
pub stands-through : (a b c : NumberedAim) → stands_before a b ≡ true → stands_before b c ≡ true → stands_before a c ≡ true
stands-through a b c h k =
    let less : (x y : NumberedAim) → stands_before x y ≡ true → aim_cmp x y ≡ Less = λ x y m. less-is (aim_cmp x y) (stands-compared x y ∙ m) in
    sym (stands-compared a c) ∙ ap is_lt (aims-total.trans a b c (less a b h) (less b c k))

-- ---- what is around a change
surrounds-run : (ps : List Path) (r : Change) (p : Path) (f n : ℕ) → aim r ≡ Over (run p f n) → surrounds ps (aim r) ≡ list_any (has_path ps) (run p f n)
surrounds-run ps r p f n a = ap (surrounds ps) a

none-none : (ps : List Path) (r : Change) (w : Aim) → replaced w ≡ [] → aim r ≡ w → surrounds ps (aim r) ≡ false
none-none ps r w none a = ap (λ x. list_any (has_path ps) (replaced x)) a ∙ ap (list_any (has_path ps)) none

-- what is around a change stands before it
some-way : (q : Path) (t : ℕ) → is_before [] (on_the_way q ++ t ∷ []) ≡ true
some-way [] t = refl
some-way (i ∷ q) t = refl

some-after : (q : Path) → is_before [] (site (AfterElement q)) ≡ true
some-after [] = refl
some-after (i ∷ q) = some-way (parent_path (i ∷ q)) (suc (last_slot (i ∷ q)) + suc (last_slot (i ∷ q)))

top-first : (r c : Change) → aim r ≡ Over ([] ∷ []) → Stands c → surrounds (surroundings c) (aim r) ≡ true → is_before (site (aim r)) (site (aim c)) ≡ true
top-first r c a (First q b s) h = ap₂ is_before (ap site a) (ap site b) ∙ some-way q 0
top-first r c a (Behind q b s) h = ap₂ is_before (ap site a) (ap site b) ∙ some-after q
top-first r c a (Run q f k b s) h = ap₂ is_before (ap site a) (ap site b ∙ way-push q f) ∙ some-way q (suc (f + f))
top-first r c a (Whole b s) h = absurd (false≢true (sym (ap₂ surrounds s a) ∙ h))

pub around-first : (r c : Change) → Stands r → Stands c → surrounds (surroundings c) (aim r) ≡ true → is_before (site (aim r)) (site (aim c)) ≡ true
around-first r c (First q a s) at_c h = absurd (false≢true (sym (none-none (surroundings c) r (FirstIn q) refl a) ∙ h))
around-first r c (Behind q a s) at_c h = absurd (false≢true (sym (none-none (surroundings c) r (AfterElement q) refl a) ∙ h))
around-first r c (Whole a s) at_c h = top-first r c a at_c h
around-first r c (Run p f k a s) at_c h =
    ap (λ xs. is_before xs (site (aim c))) (ap site a ∙ way-push p f) ∙ (lies-strictly c at_c p f (suc k) (sym (surrounds-run (surroundings c) r p f (suc k) a) ∙ h)).1

module _ (cs : List Change) (root : Element) (fit : All (Fits root) cs) (apart : first_clash cs ≡ None) where
  pub stands-at : (n : ℕ) (c : Change) → slice_get cs n ≡ Some c → Stands c
  stands-at n c is = stands root c (subst (Fits root) (get_or_from_slice_get cs n c c is) (fit n c (slice_get_within cs n c is)))

  -- no two changes share a target
  pub no-share : (n m : ℕ) (c d : Change) (p : Path) → n ≢ m → slice_get cs n ≡ Some c → slice_get cs m ≡ Some d → has_path (targets c) p ≡ true → has_path (targets d) p ≡ true → ⊥
  no-share n m c d p other is_c is_d at_c at_d =
      elim (cases_lt n m) [
        | inl less ↦ true≢false (sym (meets (targets c) (targets d) p at_c at_d) ∙ unclashed cs n m c d apart less is_c is_d)
        | inr more ↦
            let less : m < n = omega (arith, more, other) in
            true≢false (sym (meets (targets d) (targets c) p at_d at_c) ∙ unclashed cs m n d c apart less is_d is_c)
      ]

  -- what stands before another one is another one
  pub numbers-apart : (a b : NumberedAim) → OfChange cs a → OfChange cs b → stands_before a b ≡ true → a.0 ≢ b.0
  numbers-apart a b of_a of_b before same =
      let alike : of_a.0 ≡ of_b.0 = same_Some of_a.0 of_b.0 (sym of_a.1 ∙ ap (slice_get cs) same ∙ of_b.1) in
      let equal : a ≡ b = of_a.2 ∙ ap₂ {A = ℕ} {B = Change} {C = NumberedAim} (λ n c. (n, aim c)) same alike ∙ sym of_b.2 in
      never-itself a (ap (stands_before a) equal ∙ before)

  -- ---- what is around two of them
  first-target : (r : Change) (p : Path) (f n g : ℕ) → aim r ≡ Over (run p f n) → f ≤ g → g < f + n → has_path (targets r) (p ++ g ∷ []) ≡ true
  first-target r p f n g a l m =
      let q = p ++ g ∷ [] in
      ap (λ ps. has_path ps q) (sym (replaced-aim r) ∙ ap replaced a) ∙ sibling-any (same_path q) p f n g l m (same_path_from q q refl)

  top-in : (n m : ℕ) (r c : Change) → n ≢ m → slice_get cs n ≡ Some r → slice_get cs m ≡ Some c → aim r ≡ Over ([] ∷ []) → Stands c → surrounds (surroundings c) (aim r) ≡ true
  top-in n m r c other is_r is_c a (First q b s) = ap₂ surrounds s a ∙ or_left (has_path (up_to q) []) false (way-to [] q)
  top-in n m r c other is_r is_c a (Behind q b s) = ap₂ surrounds s a ∙ or_left (has_path (up_to q) []) false (way-to [] q)
  top-in n m r c other is_r is_c a (Run q f k b s) = ap₂ surrounds s a ∙ or_left (has_path (up_to q) []) false (way-to [] q)
  top-in n m r c other is_r is_c a (Whole b s) =
      absurd (no-share n m r c [] other is_r is_c (ap (λ ps. has_path ps []) (sym (replaced-aim r) ∙ ap replaced a)) (ap (λ ps. has_path ps []) (sym (replaced-aim c) ∙ ap replaced b)))

  -- what is around a change is around all that stands between
  pub around-between : (n m : ℕ) (r c d : Change) → n ≢ m → slice_get cs n ≡ Some r → slice_get cs m ≡ Some c → Stands r → Stands c → Stands d → is_before (site (aim c)) (site (aim r)) ≡ false → is_before (site (aim d)) (site (aim c)) ≡ false → surrounds (surroundings d) (aim r) ≡ true → surrounds (surroundings c) (aim r) ≡ true
  around-between n m r c d other is_r is_c (First q a s) at_c at_d first last h = absurd (false≢true (sym (none-none (surroundings d) r (FirstIn q) refl a) ∙ h))
  around-between n m r c d other is_r is_c (Behind q a s) at_c at_d first last h = absurd (false≢true (sym (none-none (surroundings d) r (AfterElement q) refl a) ∙ h))
  around-between n m r c d other is_r is_c (Whole a s) at_c at_d first last h = top-in n m r c other is_r is_c a at_c
  around-between n m r c d other is_r is_c (Run p f k a s) at_c at_d first last h =
      let lies = (lies-strictly d at_d p f (suc k) (sym (surrounds-run (surroundings d) r p f (suc k) a) ∙ h)).0 in
      let start : is_before (site (aim c)) (on_the_way p ++ suc (f + f) ∷ []) ≡ false = ap (is_before (site (aim c))) (sym (ap site a ∙ way-push p f)) ∙ first in
      elim (lies-back c at_c p f (suc k) (between p (suc (f + f)) (f + suc k + (f + suc k)) (site (aim c)) (site (aim d)) start last lies)) [
        | inl around ↦ surrounds-run (surroundings c) r p f (suc k) a ∙ around
        | inr target ↦ absurd (no-share n m r c (p ++ target.0 ∷ []) other is_r is_c (first-target r p f (suc k) target.0 a target.1 target.2) target.3)
      ]

  -- what is around something that is around a change
  any-more : (q rest : Path) (ws : List Path) → list_any (has_path (up_to q)) ws ≡ true → list_any (has_path (up_to (q ++ rest))) ws ≡ true
  any-more q rest [] h = absurd (false≢true h)
  any-more q rest (w ∷ ws) h =
      elim (or_cases (has_path (up_to q) w) (list_any (has_path (up_to q)) ws) h) [
        | inl here ↦
            let way = on-the-way q w here in
            or_left (has_path (up_to (q ++ rest)) w) (list_any (has_path (up_to (q ++ rest))) ws) (ap (λ v. has_path (up_to v) w) (ap (λ v. v ++ rest) way.1 ∙ append_assoc w way.0 rest) ∙ way-to w (way.0 ++ rest))
        | inr there ↦ or_right (has_path (up_to (q ++ rest)) w) (list_any (has_path (up_to (q ++ rest))) ws) (any-more q rest ws there)
      ]

  no-paths : (ws : List Path) → list_any (has_path []) ws ≡ false
  no-paths [] = refl
  no-paths (w ∷ ws) = no-paths ws

  through-way : (r d c : Change) (q : Path) (g n : ℕ) (v : Path) → aim d ≡ Over (run q g n) → surroundings d ≡ up_to q → surroundings c ≡ up_to v → surrounds (surroundings d) (aim r) ≡ true → surrounds (surroundings c) (aim d) ≡ true → surrounds (surroundings c) (aim r) ≡ true
  through-way r d c q g n v b t u h k =
      let into = up_to-leads q g n v (sym (ap₂ surrounds u b) ∙ k) in
      ap (λ ps. surrounds ps (aim r)) (u ∙ ap up_to into.is) ∙ any-more q (into.slot ∷ into.rest) (replaced (aim r)) (ap (λ ps. surrounds ps (aim r)) (sym t) ∙ h)

  pub around-through : (r d c : Change) → Stands d → Stands c → surrounds (surroundings d) (aim r) ≡ true → surrounds (surroundings c) (aim d) ≡ true → surrounds (surroundings c) (aim r) ≡ true
  around-through r d c (First q b t) at_c h k = absurd (false≢true (sym (none-none (surroundings c) d (FirstIn q) refl b) ∙ k))
  around-through r d c (Behind q b t) at_c h k = absurd (false≢true (sym (none-none (surroundings c) d (AfterElement q) refl b) ∙ k))
  around-through r d c (Whole b t) at_c h k = absurd (false≢true (sym (no-paths (replaced (aim r))) ∙ ap (λ ps. surrounds ps (aim r)) (sym t) ∙ h))
  around-through r d c (Run q g j b t) (Whole e u) h k = absurd (false≢true (sym (no-paths (replaced (aim d))) ∙ ap (λ ps. surrounds ps (aim d)) (sym u) ∙ k))
  around-through r d c (Run q g j b t) (First v e u) h k = through-way r d c q g (suc j) v b t u h k
  around-through r d c (Run q g j b t) (Behind v e u) h k = through-way r d c q g (suc j) v b t u h k
  around-through r d c (Run q g j b t) (Run v f i e u) h k = through-way r d c q g (suc j) v b t u h k
