-- The comparison of aims is document order, and sorted aims of changes are in it.
--     way-within                    what stands on a way is not past its end
--     first-here, first-on, over-key, after-top, below-top, after-none, after-last, after-on      what stands at a depth of a site, by its form
--     ends-less, ends-greater, ends-equal, goes-on      two lists of numbers compared at a depth
--     before-compared               lists of numbers compare as their order says
--     stands-compared               one aim stands before another one exactly if it is less by site and number
--     aims-total                    that is an order
--     OfChange, all-there           an aim is that of the change with its number; each of sorted aims is
--     numbers-in-order, are-sorted  the numbers of sorted aims are a document order; aims are sorted by the comparison
--     aims-further                  one aim more of those of all changes
use Rattle.std.specs.Prelude.{◌≡◌, ◌≢◌, ◌<◌, ◌+◌, ◌-◌, ℕ, zero, suc, Bool, true, false, ◌&&◌, ◌||◌, ◌==◌, cond, nat_eq, nat_lt, List, [], ◌∷◌, ◌++◌, map, drop, take, length, slice_get, Option, Some, None, option_map, refl}
use Rattle.std.specs.List.{AllByRecursion, IsDistinct, cons_option, enumerate_from}
use Rattle.std.specs.List.Sorted.{IsPermutation, IsSortedBy}
use Rattle.std.specs.Cmp.{IsTotalOrder, nat_cmp_total, on_total, then_total}
use Rattle.std.specs.Cmp.Lexicographic.{slice_cmp}
use Rattle.std.specs.Ordering.{nat_cmp, is_lt, is_eq, ordering_then, ordering_reverse}
use Rattle.std.specs.declared.cmp.Ordering.TheVariants.{Less, Equal, Greater}
use Rattle.std.proofs.Common.{Ordering, ap, ap₂, sym, subst, ◌∙◌, arith, get_or}
use Rattle.std.proofs.lemmas.Bool.{eq-eqb, ne_eqb, false≢true, cases_eq}
use Rattle.std.proofs.lemmas.Bool.Decides.{nat_tests}
use Rattle.std.proofs.lemmas.Cmp.{same_from_slice_cmp, nat_list_cmp_total, nat_eq_equiv, ranked}
use Rattle.std.proofs.lemmas.List.{length-map, length-take-le, map-append}
use Rattle.std.proofs.lemmas.List.Sorted.{ranks_by, sorted_far, IsPermutation-map, All-permutation}
use Rattle.std.proofs.lemmas.List.Elements.{All-from_recursion, recursion_from_All}
use Rattle.std.proofs.lemmas.Map.Keys.{IsDistinct-IsPermutation, apart_from_distinct}
use Rattle.std.proofs.lemmas.Map.Text.{is_eq-slice_cmp}
use Rattle.std.proofs.lemmas.Option.{none-some, same_Some, slice_get-map, slice_get_within, slice_get-get_or, get_or_from_slice_get}
use mathlib.Core.Logic.{inl, inr}
use Rattle.cst_core.specs.Path.{Path, parent_path, last_slot, counted_from}
use Rattle.cst_core.proofs.LastSlot.{parent-and-slot}
use Rattle.edit_change.specs.Aim.{FirstIn, AfterElement, Over}
use Rattle.edit_change.specs.ChangeAim.{aim}
use Rattle.edit_change.specs.NewTree.{change_aims}
use Rattle.edit_change.specs.Rewriting.{NumberedAim}
use Rattle.edit_change.specs.inner.Aimed.{siblings_from, numbered, aims_of}
use Rattle.edit_change.specs.inner.DocumentOrder.{on_the_way, site, is_before, stands_before, InDocumentOrder, AreSorted, aims_at, IsDocumentOrder}
use Rattle.edit_change.specs.declared.aimed.Aimed.{Aimed}
use Rattle.edit_change.specs.declared.change.Change.{Change}
use Rattle.edit_change.proofs.Independents.{enumerate-push}
use Rattle.edit_change.proofs.Lists.{all_enumerated}
use Rattle.edit_change.proofs.Positions.{push-of-take}

-- ---- what stands at a depth
at-end : (w : List ℕ) (x d : ℕ) → d ≡ length w → slice_get (w ++ x ∷ []) d ≡ Some x
at-end [] x zero e = refl
at-end [] x (suc d) e = absurd (omega (arith, e))
at-end (y ∷ w) x zero e = absurd (omega (arith, e))
at-end (y ∷ w) x (suc d) e = at-end w x d (omega (arith, e))

not-end : (w : List ℕ) (x d : ℕ) → d ≢ length w → slice_get (w ++ x ∷ []) d ≡ slice_get w d
not-end [] x zero ne = absurd (ne refl)
not-end [] x (suc d) ne = refl
not-end (y ∷ w) x zero ne = refl
not-end (y ∷ w) x (suc d) ne = not-end w x d (λ e. ne (ap suc e))

long-way : (p : Path) → length (on_the_way p) ≡ length p
long-way p = length-map p (λ s. suc (s + s))

pub way-within : (p : Path) (d k : ℕ) → Some k ≡ slice_get (on_the_way p) d → d < length p
way-within p d k is = let l = slice_get_within (on_the_way p) d k (sym is) in omega (arith, l, long-way p)

pub first-here : (p : Path) (d : ℕ) → d ≡ length p → Some 0 ≡ slice_get (site (FirstIn p)) d
first-here p d e = sym (at-end (on_the_way p) 0 d (e ∙ sym (long-way p)))

pub first-on : (p : Path) (d : ℕ) (o : Option ℕ) → d ≢ length p → o ≡ slice_get (on_the_way p) d → o ≡ slice_get (site (FirstIn p)) d
first-on p d o ne is = is ∙ sym (not-end (on_the_way p) 0 d (λ e. ne (e ∙ long-way p)))

way-parts : (i : ℕ) (p : Path) → on_the_way (i ∷ p) ≡ on_the_way (parent_path (i ∷ p)) ++ suc (last_slot (i ∷ p) + last_slot (i ∷ p)) ∷ []
way-parts i p =
    ap on_the_way (parent-and-slot i p) ∙ map-append (λ s. suc (s + s)) (parent_path (i ∷ p)) (last_slot (i ∷ p) ∷ [])

pub over-key : (p : Path) (n d : ℕ) (o : Option ℕ) → n ≢ 0 → o ≡ slice_get (on_the_way p) d → o ≡ slice_get (site (Over (siblings_from p n))) d
over-key p zero d o ne is = absurd (ne refl)
over-key [] (suc n) d o ne is = is
over-key (i ∷ p) (suc n) d o ne is = is ∙ ap (λ q. slice_get (on_the_way q) d) (parent-and-slot i p)

pub after-top : (p : Path) (d : ℕ) → d ≡ 0 → length p ≡ 0 → Some 0 ≡ slice_get (site (AfterElement p)) d
after-top [] zero e none = refl
after-top [] (suc d) e none = absurd (omega (arith, e))
after-top (i ∷ p) d e none = absurd (omega (arith, none))

pub below-top : (p : Path) (d : ℕ) → d ≢ 0 → length p ≡ 0 → None ≡ slice_get (site (AfterElement p)) d
below-top [] zero e none = absurd (e refl)
below-top [] (suc d) e none = refl
below-top (i ∷ p) d e none = absurd (omega (arith, none))

pub after-none : (p : Path) (d : ℕ) → length p ≢ 0 → None ≡ slice_get (on_the_way p) d → None ≡ slice_get (site (AfterElement p)) d
after-none [] d some is = absurd (some refl)
after-none (i ∷ p) d some is =
    elim (cases_eq d (length (on_the_way (parent_path (i ∷ p))))) [
      | inl e ↦ absurd (none-some _ (is ∙ ap (λ w. slice_get w d) (way-parts i p) ∙ at-end _ _ d e))
      | inr ne ↦ is ∙ ap (λ w. slice_get w d) (way-parts i p) ∙ not-end _ _ d ne ∙ sym (not-end _ _ d ne)
    ]

long-parent : (i : ℕ) (p : Path) → length (i ∷ p) ≡ suc (length (on_the_way (parent_path (i ∷ p))))
long-parent i p =
    let e = ap length (parent-and-slot i p) in
    sym (long-way (i ∷ p)) ∙ ap length (way-parts i p) ∙ more (on_the_way (parent_path (i ∷ p))) _
  where
    more : (w : List ℕ) (x : ℕ) → length (w ++ x ∷ []) ≡ suc (length w)
    more [] x = refl
    more (y ∷ w) x = ap suc (more w x)

pub after-last : (p : Path) (d k m : ℕ) → Some k ≡ slice_get (on_the_way p) d → length p - d ≡ 1 → m ≡ k + 1 → Some m ≡ slice_get (site (AfterElement p)) d
after-last [] d k m is e last = absurd (none-some k (sym is))
after-last (i ∷ p) d k m is e next =
    let l = way-within (i ∷ p) d k is in
    let here : d ≡ length (on_the_way (parent_path (i ∷ p))) = omega (arith, long-parent i p, e, l) in
    let slot = last_slot (i ∷ p) in
    let same : k ≡ suc (slot + slot) = same_Some k (suc (slot + slot)) (is ∙ ap (λ w. slice_get w d) (way-parts i p) ∙ at-end _ _ d here) in
    let value : m ≡ suc slot + suc slot = omega (arith, same, next) in
    ap Some value ∙ sym (at-end _ _ d here)

pub after-on : (p : Path) (d k : ℕ) → Some k ≡ slice_get (on_the_way p) d → length p - d ≢ 1 → Some k ≡ slice_get (site (AfterElement p)) d
after-on [] d k is ne = absurd (none-some k (sym is))
after-on (i ∷ p) d k is ne =
    let l = long-parent i p in
    let other : d ≢ length (on_the_way (parent_path (i ∷ p))) = λ e. ne (omega (arith, l, e)) in
    is ∙ ap (λ w. slice_get w d) (way-parts i p) ∙ not-end _ _ d other ∙ sym (not-end _ _ d other)

-- ---- two lists of numbers, compared at a depth
drop-at : (xs : List ℕ) (i x : ℕ) → slice_get xs i ≡ Some x → drop i xs ≡ x ∷ drop (suc i) xs
drop-at [] i x is = absurd (none-some x is)
drop-at (y ∷ xs) zero x is = ap (λ z. z ∷ xs) (same_Some y x is)
drop-at (y ∷ xs) (suc i) x is = drop-at xs i x is

drop-past : (xs : List ℕ) (i : ℕ) → slice_get xs i ≡ None → drop i xs ≡ []
drop-past [] zero is = refl
drop-past [] (suc i) is = refl
drop-past (y ∷ xs) zero is = absurd (none-some y (sym is))
drop-past (y ∷ xs) (suc i) is = drop-past xs i is

module _ (xs ys : List ℕ) (d : ℕ) where
  abbrev from : ℕ → Ordering
  from i = slice_cmp nat_cmp (drop i xs) (drop i ys)

  pub ends-equal : None ≡ slice_get xs d → None ≡ slice_get ys d → from d ≡ Equal
  ends-equal x y = ap₂ (slice_cmp nat_cmp) (drop-past xs d (sym x)) (drop-past ys d (sym y))

  pub ends-less : (b : ℕ) → None ≡ slice_get xs d → Some b ≡ slice_get ys d → from d ≡ Less
  ends-less b x y = ap₂ (slice_cmp nat_cmp) (drop-past xs d (sym x)) (drop-at ys d b (sym y))

  pub ends-greater : (a : ℕ) → Some a ≡ slice_get xs d → None ≡ slice_get ys d → from d ≡ Greater
  ends-greater a x y = ap₂ (slice_cmp nat_cmp) (drop-at xs d a (sym x)) (drop-past ys d (sym y))

  pub goes-on : (a b : ℕ) → Some a ≡ slice_get xs d → Some b ≡ slice_get ys d → from d ≡ ordering_then (nat_cmp a b) (from (d + 1))
  goes-on a b x y =
      let e : suc d ≡ d + 1 = omega arith in
      ap₂ (slice_cmp nat_cmp) (drop-at xs d a (sym x)) (drop-at ys d b (sym y)) ∙ ap (λ i. ordering_then (nat_cmp a b) (from i)) e

-- ---- the order of aims
pub before-compared : (xs ys : List ℕ) → is_lt (slice_cmp nat_cmp xs ys) ≡ is_before xs ys
before-compared xs ys =
    same_from_slice_cmp nat_cmp is_lt is_before refl (λ _ _. refl) (λ _ _. refl) (λ x y ps qs o h. grind (arith, nat_tests)) xs ys (slice_cmp nat_cmp xs ys) refl

abbrev pub aim_cmp : NumberedAim → NumberedAim → Ordering
aim_cmp c d = ordering_then (slice_cmp nat_cmp (site c.1) (site d.1)) (nat_cmp c.0 d.0)

pub aims-total : IsTotalOrder aim_cmp
aims-total = then_total (on_total (λ (c : NumberedAim). site c.1) nat_list_cmp_total) (on_total (λ (c : NumberedAim). c.0) nat_cmp_total)

less-compared : (n m : ℕ) → is_lt (nat_cmp n m) ≡ nat_lt n m
less-compared n m =
    elim (nat_lt n m) as (λ b. is_lt (cond b Less (cond (n == m) Equal Greater)) ≡ b) [
      | true ↦ refl
      | false ↦ elim (n == m) as (λ b. is_lt (cond b Equal Greater) ≡ false) [ true ↦ refl | false ↦ refl ]
    ]

pub stands-compared : (c d : NumberedAim) → is_lt (aim_cmp c d) ≡ stands_before c d
stands-compared c d = go (slice_cmp nat_cmp (site c.1) (site d.1)) refl
  where
    decides : (o : Ordering) → is_lt (ordering_then o (nat_cmp c.0 d.0)) ≡ (is_lt o || is_eq o && nat_lt c.0 d.0)
    decides Less = refl
    decides Equal = less-compared c.0 d.0
    decides Greater = refl

    go : (o : Ordering) → slice_cmp nat_cmp (site c.1) (site d.1) ≡ o → is_lt (aim_cmp c d) ≡ stands_before c d
    go o is =
        decides (slice_cmp nat_cmp (site c.1) (site d.1)) ∙ ap₂ (λ a b. a || b && nat_lt c.0 d.0) (before-compared (site c.1) (site d.1)) (is_eq-slice_cmp (site c.1) (site d.1))

-- ---- sorted aims
abbrev pub OfChange : List Change → NumberedAim → Type 0
OfChange cs a = (c : Change) × (slice_get cs a.0 ≡ Some c) × (a ≡ (a.0, aim c))

-- the aims at the numbers of aims of changes are these aims
aims-back : (cs : List Change) (xs : List NumberedAim) → AllByRecursion (OfChange cs) xs → aims_at cs (map (λ a. a.0) xs) ≡ xs
aims-back cs [] all = refl
aims-back cs (a ∷ rest) all =
    let here : option_map (λ c. (a.0, aim c)) (slice_get cs a.0) ≡ Some a = ap (option_map (λ c. (a.0, aim c))) all.0.1 ∙ ap Some (sym all.0.2) in
    ap (λ o. cons_option o (aims_at cs (map (λ x. x.0) rest))) here ∙ ap (λ xs. a ∷ xs) (aims-back cs rest all.1)

all-of-changes : (cs : List Change) (ds : List (ℕ × Change)) → AllByRecursion (λ d. slice_get cs d.0 ≡ Some d.1) ds → AllByRecursion (OfChange cs) (change_aims ds)
all-of-changes cs [] all = tt
all-of-changes cs (d ∷ ds) all = ((d.1, all.0, refl), all-of-changes cs ds all.1)

numbers-counted : (k : ℕ) (cs : List Change) → map (λ a. a.0) (change_aims (enumerate_from k cs)) ≡ counted_from k (length cs)
numbers-counted k [] = refl
numbers-counted k (c ∷ cs) = let e : k + 1 ≡ suc k = omega arith in ap (λ xs. k ∷ xs) (numbers-counted (k + 1) cs ∙ ap (λ j. counted_from j (length cs)) e)

above-all : (i k n : ℕ) → i < k → AllByRecursion (λ j. nat_eq i j ≡ false) (counted_from k n)
above-all i k zero l = tt
above-all i k (suc n) l = (ne_eqb i k (λ e. absurd (omega (arith, l, e))), above-all i (suc k) n (omega (arith, l)))

counted-distinct : (k n : ℕ) → IsDistinct nat_eq (counted_from k n)
unfolding IsDistinct
counted-distinct k zero = tt
counted-distinct k (suc n) = (above-all k (suc k) n (omega arith), counted-distinct (suc k) n)

in-order-from : (xs : List NumberedAim) → ((i j : ℕ) (a b : NumberedAim) → i < j → slice_get xs i ≡ Some a → slice_get xs j ≡ Some b → stands_before a b ≡ true) → InDocumentOrder xs
in-order-from [] h = tt
in-order-from (a ∷ xs) h =
    (λ k d l. h 0 (suc k) a (get_or xs k d) (omega arith) refl (slice_get-get_or xs k d l), in-order-from xs (λ i j b c l is_b is_c. h (suc i) (suc j) b c (omega (arith, l)) is_b is_c))

-- of two that differ by number, one stands before the other
one-first : (a b : NumberedAim) → nat_eq a.0 b.0 ≡ false → is_lt (aim_cmp b a) ≡ false → is_lt (aim_cmp a b) ≡ true
one-first a b ne not_less = go (aim_cmp a b) refl
  where
    parts : (o p : Ordering) → ordering_then o p ≡ Equal → p ≡ Equal
    parts Less p e = absurd (false≢true (ap is_eq e))
    parts Equal p e = e
    parts Greater p e = absurd (false≢true (ap is_eq e))

    go : (o : Ordering) → aim_cmp a b ≡ o → is_lt (aim_cmp a b) ≡ true
    go Less is = ap is_lt is
    go Equal is = absurd (false≢true (sym ne ∙ eq-eqb a.0 b.0 (ranked a.0 b.0 Equal (sym (parts (slice_cmp nat_cmp (site a.1) (site b.1)) (nat_cmp a.0 b.0) is)))))
    go Greater is = absurd (false≢true (sym not_less ∙ ap is_lt (aims-total.antisymm b a ∙ ap ordering_reverse is)))

module _ (cs : List Change) (xs : List NumberedAim) where
  counted-once : IsPermutation (change_aims (enumerate_from 0 cs)) xs → IsPermutation (counted_from 0 (length cs)) (map (λ a. a.0) xs)
  counted-once moved =
      subst (λ ns. IsPermutation ns (map (λ (a : NumberedAim). a.0) xs)) (numbers-counted 0 cs) (IsPermutation-map (λ (a : NumberedAim). a.0) (change_aims (enumerate_from 0 cs)) xs moved)

  pub all-there : IsPermutation (change_aims (enumerate_from 0 cs)) xs → AllByRecursion (OfChange cs) xs
  all-there moved =
      recursion_from_All (OfChange cs) xs (All-permutation (OfChange cs) (change_aims (enumerate_from 0 cs)) xs moved (All-from_recursion (OfChange cs) (change_aims (enumerate_from 0 cs)) (all-of-changes cs (enumerate_from 0 cs) (all_enumerated cs))))

  distinct : IsPermutation (change_aims (enumerate_from 0 cs)) xs → IsDistinct nat_eq (map (λ a. a.0) xs)
  distinct moved = IsDistinct-IsPermutation nat_eq nat_eq_equiv.symm (counted_from 0 (length cs)) (map (λ a. a.0) xs) (counted-once moved) (counted-distinct 0 (length cs))

  pub numbers-in-order : (ns : List ℕ) → AreSorted cs xs → ns ≡ map (λ a. a.0) xs → IsDocumentOrder cs ns
  numbers-in-order ns sorted is =
      subst (IsDocumentOrder cs) (sym is) (record { each_once = counted-once sorted.each_once; in_order = subst InDocumentOrder (sym (aims-back cs xs (all-there sorted.each_once))) sorted.in_order })

-- sorted aims are in document order
module _ (cs : List Change) (aims sorted : List Aimed) (told : aims_of aims ≡ change_aims (enumerate_from 0 cs)) (moved : IsPermutation aims sorted) (up : IsSortedBy (λ x y. is_lt (aim_cmp (numbered x) (numbered y))) sorted) where
  each-once : IsPermutation (change_aims (enumerate_from 0 cs)) (aims_of sorted)
  each-once = subst (λ xs. IsPermutation xs (aims_of sorted)) told (IsPermutation-map numbered aims sorted moved)

  stands : (i j : ℕ) (x y : Aimed) → i < j → slice_get sorted i ≡ Some x → slice_get sorted j ≡ Some y → stands_before (numbered x) (numbered y) ≡ true
  stands i j x y l is_x is_y =
      let j_in = slice_get_within sorted j y is_y in
      let first : get_or sorted i x ≡ x = get_or_from_slice_get sorted i x x is_x in
      let second : get_or sorted j x ≡ y = get_or_from_slice_get sorted j y x is_y in
      let below : Aimed → Aimed → Bool = λ x y. is_lt (aim_cmp (numbered x) (numbered y)) in
      let far : below y x ≡ false = sym (ap₂ below second first) ∙ sorted_far below (ranks_by aims-total numbered) sorted up i j x (omega (arith, l)) j_in in
      let numbers = map (λ (a : NumberedAim). a.0) (aims_of sorted) in
      let long : length numbers ≡ length sorted = length-map (aims_of sorted) (λ (a : NumberedAim). a.0) ∙ length-map sorted numbered in
      let at : (k : ℕ) (z : Aimed) → slice_get sorted k ≡ Some z → get_or numbers k 0 ≡ z.change = λ k z is. get_or_from_slice_get numbers k z.change 0 (slice_get-map (λ (a : NumberedAim). a.0) (aims_of sorted) k ∙ ap (option_map (λ (a : NumberedAim). a.0)) (slice_get-map numbered sorted k ∙ ap (option_map numbered) is)) in
      let apart : nat_eq x.change y.change ≡ false = sym (ap₂ nat_eq (at i x is_x) (at j y is_y)) ∙ apart_from_distinct nat_eq numbers i j 0 (distinct cs (aims_of sorted) each-once) l (omega (arith, j_in, long)) in
      sym (stands-compared (numbered x) (numbered y)) ∙ one-first (numbered x) (numbered y) apart far

  in-order : InDocumentOrder (aims_of sorted)
  in-order =
      in-order-from (aims_of sorted) (λ i j a b l is_a is_b.
      let x = read i a is_a in
      let y = read j b is_b in
      ap₂ stands_before (sym x.2) (sym y.2) ∙ stands i j x.0 y.0 l x.1 y.1)
    where
      read : (i : ℕ) (a : NumberedAim) → slice_get (aims_of sorted) i ≡ Some a → (x : Aimed) × (slice_get sorted i ≡ Some x) × (numbered x ≡ a)
      read i a is = go (slice_get sorted i) refl (sym (slice_get-map numbered sorted i) ∙ is)
        where
          go : (o : Option Aimed) → slice_get sorted i ≡ o → option_map numbered o ≡ Some a → (x : Aimed) × (slice_get sorted i ≡ Some x) × (numbered x ≡ a)
          go None at e = absurd (none-some a e)
          go (Some x) at e = (x, at, same_Some (numbered x) a e)

  pub are-sorted : AreSorted cs (aims_of sorted)
  are-sorted = record { each_once = each-once; in_order = in-order }

-- one aim more of those of all changes
pub aims-further : (cs : List Change) (n : ℕ) (c : Change) (before after : List Aimed) (a : Aimed) → n < length cs → c ≡ get_or cs n c → aims_of before ≡ change_aims (enumerate_from 0 (take n cs)) → after ≡ before ++ a ∷ [] → numbered a ≡ (n, aim c) → aims_of after ≡ change_aims (enumerate_from 0 (take (n + 1) cs))
aims-further cs n c before after a l is_c told push is =
    let long : 0 + length (take n cs) ≡ n = omega (arith, length-take-le n cs (omega (arith, l))) in
    let listed : enumerate_from 0 (take (n + 1) cs) ≡ enumerate_from 0 (take n cs) ++ (n, c) ∷ [] = ap (enumerate_from 0) (push-of-take n cs c l is_c) ∙ enumerate-push 0 (take n cs) c ∙ ap (λ k. enumerate_from 0 (take n cs) ++ (k, c) ∷ []) long in
    ap aims_of push ∙ map-append numbered before (a ∷ []) ∙ ap₂ (λ xs y. xs ++ y ∷ []) told is ∙ sym (ap change_aims listed ∙ map-append (λ (d : ℕ × Change). (d.0, aim d.1)) (enumerate_from 0 (take n cs)) ((n, c) ∷ []))
