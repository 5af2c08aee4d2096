-- A sweep over the aims of all changes in document order, with what is open before each and the fates so far.
--     all-parts, all-both, neither  what holds of all of two lists; two facts of all; neither of two tests
--     order-without, order-last, order-before     an order without some, its last one, those before one
--     has_number, has-append, all-numbered, never-numbered, has-each     whether one of some aims has a number
--     Swept                         what is true before some aims are swept
--     swept-none, swept-end          before the first one, behind the last
--     swept-closed, swept-fate, swept-pushed, swept-passed     where what is over is taken off; the fate of the next one; what is true after it, if it is open, and if it has no region
--     swept-there, swept-here, swept-with, swept-without     the same over a list in code
--     last-is, last-there           the last that is open
use Rattle.std.specs.Prelude.{◌≡◌, ◌≢◌, ◌<◌, ◌+◌, ◌-◌, ◌⊎◌, ℕ, zero, suc, Bool, true, false, ◌||◌, nat_eq, List, [], ◌∷◌, ◌++◌, map, drop, length, slice_get, Option, Some, None, option_map, IfSome, All, refl}
use Rattle.std.specs.List.{AllByRecursion, list_any, enumerate_from}
use Rattle.std.specs.Option.{option_map_or, option_copied}
use Rattle.std.proofs.Common.{ap, ap₂, sym, subst, ◌∙◌, arith, append_assoc, get_or}
use Rattle.std.proofs.Math.ListN.{set, length-set}
use Rattle.std.proofs.lemmas.Bool.{cases_Bool, cases_eq, or_cases, or_from, eqb-true, eq-eqb, ne_eqb, true_from_ne_false, false_from_ne_true, false≢true, true≢false}
use Rattle.std.proofs.lemmas.List.Folds.{list_any-append}
use Rattle.std.proofs.lemmas.List.Elements.{All-from_recursion, recursion_from_All}
use Rattle.std.proofs.lemmas.List.Sorted.{list_any-IsPermutation}
use Rattle.std.proofs.lemmas.Map.Keys.{any_passes_from_place}
use Rattle.std.proofs.lemmas.Option.{none-some, same_Some, slice_get-map, slice_get_within, slice_get-get_or}
use Rattle.std.proofs.lemmas.List.{map-append}
use denote.Ref.{Bor}
use mathlib.Core.Logic.{inl, inr}
use Rattle.cst_core.specs.Path.{Path, has_path, last_item}
use Rattle.cst_core.specs.Element.{Element}
use Rattle.edit_change.specs.Change.{targets}
use Rattle.edit_change.specs.ChangeAim.{aim}
use Rattle.edit_change.specs.Fits.{Fits}
use Rattle.edit_change.specs.Nesting.{region, surroundings, is_around, first_clash}
use Rattle.edit_change.specs.NewTree.{change_aims}
use Rattle.edit_change.specs.Rewriting.{NumberedAim}
use Rattle.edit_change.specs.inner.Aimed.{numbered, aims_of}
use Rattle.edit_change.specs.inner.DocumentOrder.{site, is_before, stands_before, InDocumentOrder, AreSorted}
use Rattle.edit_change.specs.inner.Fate.{fate}
use Rattle.edit_change.specs.inner.Open.{surrounds, Closes, inside, inside_last}
use Rattle.edit_change.specs.declared.aimed.Aimed.{Aimed}
use Rattle.edit_change.specs.declared.change.Change.{Change}
use Rattle.edit_change.specs.declared.fate.Fate.{Fate}
use Rattle.edit_change.specs.declared.fate.Fate.TheVariants.{Independent}
use Rattle.edit_change.proofs.Closing.{mapped-last}
use Rattle.edit_change.proofs.DocumentOrder.{OfChange, all-there}
use Rattle.edit_change.proofs.Innermost.{region_cases, fate-inside, fate-free}
use Rattle.edit_change.proofs.Lists.{all-append, all_last, all_weaker, slice_get-set_same, slice_get-set_other}
use Rattle.edit_change.proofs.OpenAims.{before-after, not-self, stands-at, numbers-apart, around-between, around-first, around-through}
use Rattle.edit_change.proofs.Sites.{replaced-aim, Stands}

-- ---- lists
pub all-parts : {X : Type 0} (P : X → Type 0) (xs ys : List X) → AllByRecursion P (xs ++ ys) → AllByRecursion P xs × AllByRecursion P ys
all-parts P [] ys a = (tt, a)
all-parts P (x ∷ xs) ys a = let rest = all-parts P xs ys a.1 in ((a.0, rest.0), rest.1)

ahead : (a : NumberedAim) (xs : List NumberedAim) → All (λ d. stands_before a d ≡ true) xs → AllByRecursion (λ d. stands_before a d ≡ true) xs
ahead a xs all = recursion_from_All (λ d. stands_before a d ≡ true) xs all

order-tail : (gone rest : List NumberedAim) → InDocumentOrder (gone ++ rest) → InDocumentOrder rest
order-tail [] rest o = o
order-tail (g ∷ gone) rest o = order-tail gone rest o.1

pub order-without : (ks gone rest : List NumberedAim) → InDocumentOrder (ks ++ (gone ++ rest)) → InDocumentOrder (ks ++ rest)
order-without [] gone rest o = order-tail gone rest o
order-without (k ∷ ks) gone rest o =
    let P : NumberedAim → Type 0 = λ d. stands_before k d ≡ true in
    let both = all-parts P ks (gone ++ rest) (ahead k (ks ++ (gone ++ rest)) o.0) in
    (All-from_recursion P (ks ++ rest) (all-append P ks rest both.0 (all-parts P gone rest both.1).1), order-without ks gone rest o.1)

-- the last of some stands after the others, and each before what comes after them
pub order-last : (ks rest : List NumberedAim) (o : NumberedAim) → InDocumentOrder (ks ++ rest) → last_item ks ≡ Some o → AllByRecursion (λ d. stands_before o d ≡ true) rest × AllByRecursion (λ a. (a ≡ o) ⊎ (stands_before a o ≡ true)) ks
order-last [] rest o order is = absurd (none-some o is)
order-last (k ∷ []) rest o order is =
    let same = same_Some k o is in
    (subst (λ a. AllByRecursion (λ d. stands_before a d ≡ true) rest) same (ahead k rest order.0), (inl same, tt))
order-last (k ∷ j ∷ ks) rest o order is =
    let rec = order-last (j ∷ ks) rest o order.1 is in
    let last = all_last (λ d. stands_before k d ≡ true) (j ∷ ks) o (all-parts (λ d. stands_before k d ≡ true) (j ∷ ks) rest (ahead k ((j ∷ ks) ++ rest) order.0)).0 is in
    (rec.0, (inr last, rec.1))

pub order-before : (ks : List NumberedAim) (x : NumberedAim) (rest : List NumberedAim) → InDocumentOrder (ks ++ x ∷ rest) → AllByRecursion (λ a. stands_before a x ≡ true) ks × AllByRecursion (λ d. stands_before x d ≡ true) rest
order-before [] x rest order = (tt, ahead x rest order.0)
order-before (k ∷ ks) x rest order =
    let both = all-parts (λ d. stands_before k d ≡ true) ks (x ∷ rest) (ahead k (ks ++ x ∷ rest) order.0) in
    let rec = order-before ks x rest order.1 in
    ((both.1.0, rec.0), rec.1)

-- ---- numbers
abbrev pub has_number : List NumberedAim → ℕ → Bool
has_number xs n = list_any (λ a. nat_eq n a.0) xs

pub has-append : (xs ys : List NumberedAim) (n : ℕ) → has_number (xs ++ ys) n ≡ (has_number xs n || has_number ys n)
has-append xs ys n = list_any-append (λ a. nat_eq n a.0) xs ys

pub all-numbered : (P : NumberedAim → Type 0) (xs : List NumberedAim) (n : ℕ) → AllByRecursion P xs → has_number xs n ≡ true → (a : NumberedAim) × (a.0 ≡ n) × P a
all-numbered P [] n all h = absurd (false≢true h)
all-numbered P (x ∷ xs) n all h =
    elim (or_cases (nat_eq n x.0) (has_number xs n) h) [
      | inl here ↦ (x, sym (eqb-true n x.0 here), all.0)
      | inr there ↦ all-numbered P xs n all.1 there
    ]

pub never-numbered : (xs : List NumberedAim) (n : ℕ) → AllByRecursion (λ a. n ≢ a.0) xs → has_number xs n ≡ false
never-numbered [] n all = refl
never-numbered (x ∷ xs) n all = or_from (nat_eq n x.0) (has_number xs n) (ne_eqb n x.0 all.0) (never-numbered xs n all.1)

-- ---- regions
around-surrounds : (r c : Change) → is_around r c ≡ true → surrounds (surroundings c) (aim r) ≡ true
around-surrounds r c h =
    elim (region_cases r) [
      | inl whole ↦ ap (list_any (has_path (surroundings c))) (replaced-aim r ∙ sym whole) ∙ h
      | inr none ↦ absurd (false≢true (sym (ap (list_any (has_path (surroundings c))) none) ∙ h))
    ]

surrounds-around : (r c : Change) → region r ≡ targets r → surrounds (surroundings c) (aim r) ≡ true → is_around r c ≡ true
surrounds-around r c whole h = ap (list_any (has_path (surroundings c))) (whole ∙ sym (replaced-aim r)) ∙ h

region-whole : (r c : Change) → is_around r c ≡ true → region r ≡ targets r
region-whole r c h =
    elim (region_cases r) [
      | inl whole ↦ whole
      | inr none ↦ absurd (false≢true (sym (ap (list_any (has_path (surroundings c))) none) ∙ h))
    ]

abbrev pub OfRegion : List Change → NumberedAim → Type 0
OfRegion cs a = (c : Change) × (slice_get cs a.0 ≡ Some c) × (a ≡ (a.0, aim c)) × (region c ≡ targets c)

abbrev IsFree : List Change → Change → NumberedAim → Type 0
IsFree cs r a = (c : Change) → slice_get cs a.0 ≡ Some c → is_around r c ≡ false

-- before the aims that are left, where these are open and these fates are found
pub record Swept (cs : List Change) (fates : List Fate) (os rest : List NumberedAim) : Type 0 where
  pub long : length fates ≡ length cs
  pub of_open : AllByRecursion (OfRegion cs) os
  pub of_rest : AllByRecursion (OfChange cs) rest
  pub in_order : InDocumentOrder (os ++ rest)
  -- a change that is neither open nor left is around none that are left
  pub complete : (n : ℕ) (r : Change) → slice_get cs n ≡ Some r → has_number (os ++ rest) n ≡ false → AllByRecursion (IsFree cs r) rest
  pub told : (n : ℕ) (c : Change) → slice_get cs n ≡ Some c → has_number rest n ≡ false → slice_get fates n ≡ Some (fate cs c)

-- ---- before the first
enumerated-at : (k : ℕ) (cs : List Change) (n : ℕ) (c : Change) → slice_get cs n ≡ Some c → slice_get (enumerate_from k cs) n ≡ Some (k + n, c)
enumerated-at k [] n c is = absurd (none-some c is)
enumerated-at k (d ∷ cs) zero c is = let e : k ≡ k + 0 = omega arith in ap₂ {A = ℕ} {B = Change} {C = Option (ℕ × Change)} (λ i e. Some (i, e)) e (same_Some d c is)
enumerated-at k (d ∷ cs) (suc n) c is = let e : k + 1 + n ≡ k + suc n = omega arith in enumerated-at (k + 1) cs n c is ∙ ap (λ i. Some (i, c)) e

pub has-each : (cs : List Change) (xs : List NumberedAim) (n : ℕ) (c : Change) → AreSorted cs xs → slice_get cs n ≡ Some c → has_number xs n ≡ true
has-each cs xs n c sorted is =
    let at : slice_get (change_aims (enumerate_from 0 cs)) n ≡ Some (0 + n, aim c) = slice_get-map (λ (d : ℕ × Change). (d.0, aim d.1)) (enumerate_from 0 cs) n ∙ ap (option_map (λ (d : ℕ × Change). (d.0, aim d.1))) (enumerated-at 0 cs n c is) in
    let first = any_passes_from_place (λ (a : NumberedAim). nat_eq n a.0) (change_aims (enumerate_from 0 cs)) n (0 + n, aim c) at (eq-eqb n (0 + n) (omega arith)) in
    sym (list_any-IsPermutation (λ (a : NumberedAim). nat_eq n a.0) (change_aims (enumerate_from 0 cs)) xs sorted.each_once) ∙ first

pub swept-none : (cs : List Change) (fates : List Fate) (xs : List NumberedAim) → AreSorted cs xs → length fates ≡ length cs → Swept cs fates [] xs
swept-none cs fates xs sorted long = record {
  long = long;
  of_open = tt;
  of_rest = all-there cs xs sorted.each_once;
  in_order = sorted.in_order;
  complete = λ n r is none. absurd (false≢true (sym none ∙ has-each cs xs n r sorted is));
  told = λ n c is none. absurd (false≢true (sym none ∙ has-each cs xs n c sorted is));
}

-- ---- more on lists
pub all-both : {X : Type 0} (P Q : X → Type 0) (xs : List X) → AllByRecursion P xs → AllByRecursion Q xs → AllByRecursion (λ x. P x × Q x) xs
all-both P Q [] a b = tt
all-both P Q (x ∷ xs) a b = ((a.0, b.0), all-both P Q xs a.1 b.1)

pub neither : (a b : Bool) → (a || b) ≡ false → (a ≡ false) × (b ≡ false)
neither false b h = (refl, h)
neither true b h = absurd (true≢false h)

pub none-last : {X : Type 0} (xs : List X) → last_item xs ≡ None → xs ≡ []
none-last [] h = refl
none-last (x ∷ []) h = absurd (none-some x (sym h))
none-last (x ∷ y ∷ xs) h = let rest : y ∷ xs ≡ [] = none-last (y ∷ xs) h in absurd (cc)

lists-agree : {X Y : Type 0} (f : X → Y) (xs : List X) (ys : List Y) → length ys ≡ length xs → ((n : ℕ) (x : X) → slice_get xs n ≡ Some x → slice_get ys n ≡ Some (f x)) → ys ≡ map f xs
lists-agree f [] [] l h = refl
lists-agree f [] (y ∷ ys) l h = absurd (omega (arith, l))
lists-agree f (x ∷ xs) [] l h = absurd (omega (arith, l))
lists-agree f (x ∷ xs) (y ∷ ys) l h = ap₂ (λ z zs. z ∷ zs) (same_Some y (f x) (h 0 x refl)) (lists-agree f xs ys (omega (arith, l)) (λ n z is. h (suc n) z is))

free-all : (cs : List Change) (r : Change) (xs : List NumberedAim) → ((c : Change) → is_around r c ≡ false) → AllByRecursion (IsFree cs r) xs
free-all cs r [] never = tt
free-all cs r (x ∷ xs) never = (λ c is. never c, free-all cs r xs never)

pub swept-end : (cs : List Change) (fates : List Fate) (os : List NumberedAim) → Swept cs fates os [] → fates ≡ map (fate cs) cs
swept-end cs fates os swept = lists-agree (fate cs) cs fates swept.long (λ n c is. swept.told n c is refl)

module _ (cs : List Change) (root : Element) (fit : All (Fits root) cs) (apart : first_clash cs ≡ None) where
  at : (n : ℕ) (c : Change) → slice_get cs n ≡ Some c → Stands c
  at n c is = stands-at cs root fit apart n c is

  module _ (fates : List Fate) (x : NumberedAim) (rest : List NumberedAim) (c : Change) (is_c : slice_get cs x.0 ≡ Some c) where
    x-is : OfChange cs x → x.1 ≡ aim c
    x-is of = ap (λ (a : NumberedAim). a.1) of.2 ∙ ap aim (same_Some of.0 c (sym of.1 ∙ is_c))

    -- where what is over is taken off
    module _ (os ks : List NumberedAim) (swept : Swept cs fates os (x ∷ rest)) (closes : Closes (surroundings c) os ks) where
      open_parts : AllByRecursion (OfRegion cs) ks × AllByRecursion (OfRegion cs) closes.gone
      open_parts = all-parts (OfRegion cs) ks closes.gone (subst (AllByRecursion (OfRegion cs)) closes.is swept.of_open)

      orders : AllByRecursion (λ a. stands_before a x ≡ true) os × AllByRecursion (λ d. stands_before x d ≡ true) rest
      orders = order-before os x rest swept.in_order

      gone_before : AllByRecursion (λ a. stands_before a x ≡ true) closes.gone
      gone_before = (all-parts (λ a. stands_before a x ≡ true) ks closes.gone (subst (AllByRecursion (λ a. stands_before a x ≡ true)) closes.is orders.0)).1

      -- what is taken off is around nothing that is left
      over : (n : ℕ) (r : Change) → slice_get cs n ≡ Some r → has_number closes.gone n ≡ true → AllByRecursion (IsFree cs r) (x ∷ rest)
      over n r is_r h =
          let found = all-numbered (λ a. OfRegion cs a × ((surrounds (surroundings c) a.1 ≡ false) × (stands_before a x ≡ true))) closes.gone n (all-both (OfRegion cs) (λ a. (surrounds (surroundings c) a.1 ≡ false) × (stands_before a x ≡ true)) closes.gone open_parts.1 (all-both (λ a. surrounds (surroundings c) a.1 ≡ false) (λ a. stands_before a x ≡ true) closes.gone closes.past gone_before)) h in
          let g = found.0 in
          let of = found.2.0 in
          let alike : of.0 ≡ r = same_Some of.0 r (sym of.1 ∙ ap (slice_get cs) found.1 ∙ is_r) in
          let g-is : g.1 ≡ aim r = ap (λ (a : NumberedAim). a.1) of.2 ∙ ap aim alike in
          let past : surrounds (surroundings c) (aim r) ≡ false = ap (surrounds (surroundings c)) (sym g-is) ∙ found.2.1.0 in
          let x_is = x-is swept.of_rest.0 in
          let other : n ≢ x.0 = λ e. numbers-apart cs root fit apart g x (of.0, of.1, of.2) swept.of_rest.0 found.2.1.1 (found.1 ∙ e) in
          let first : is_before (site (aim c)) (site (aim r)) ≡ false = sym (ap₂ (λ v w. is_before (site v) (site w)) x_is g-is) ∙ before-after g x found.2.1.1 in
          let head : IsFree cs r x = λ d is_d. false_from_ne_true (is_around r d) (λ around.
          let same : d ≡ c = same_Some d c (sym is_d ∙ is_c) in
          false≢true (sym past ∙ ap (λ e. surrounds (surroundings e) (aim r)) (sym same) ∙ around-surrounds r d around)) in
          let later : (y : NumberedAim) → OfChange cs y × (stands_before x y ≡ true) → IsFree cs r y = λ y both d is_d. false_from_ne_true (is_around r d) (λ around.
          let y-is : y.1 ≡ aim d = ap (λ (a : NumberedAim). a.1) both.0.2 ∙ ap aim (same_Some both.0.0 d (sym both.0.1 ∙ is_d)) in
          let last : is_before (site (aim d)) (site (aim c)) ≡ false = sym (ap₂ (λ v w. is_before (site v) (site w)) y-is x_is) ∙ before-after x y both.1 in
          false≢true (sym past ∙ around-between cs root fit apart n x.0 r c d other is_r is_c (at n r is_r) (at x.0 c is_c) (at y.0 d is_d) first last (around-surrounds r d around))) in
          (head, all_weaker (λ y. OfChange cs y × (stands_before x y ≡ true)) (IsFree cs r) rest later (all-both (OfChange cs) (λ y. stands_before x y ≡ true) rest swept.of_rest.1 orders.1))

      pub swept-closed : Swept cs fates ks (x ∷ rest)
      swept-closed = record {
        long = swept.long;
        of_open = open_parts.0;
        of_rest = swept.of_rest;
        in_order = order-without ks closes.gone (x ∷ rest) (subst InDocumentOrder (ap (λ ys. ys ++ x ∷ rest) closes.is ∙ append_assoc ks closes.gone (x ∷ rest)) swept.in_order);
        complete = λ n r is_r none.
            let parts = neither (has_number ks n) (has_number (x ∷ rest) n) (sym (has-append ks (x ∷ rest) n) ∙ none) in
            elim (cases_Bool (has_number closes.gone n)) [
              | inl taken ↦ over n r is_r taken
              | inr never ↦ swept.complete n r is_r (has-append os (x ∷ rest) n ∙ or_from (has_number os n) (has_number (x ∷ rest) n) (ap (λ ys. has_number ys n) closes.is ∙ has-append ks closes.gone n ∙ or_from (has_number ks n) (has_number closes.gone n) parts.0 never) parts.1)
            ];
        told = swept.told;
      }

    -- the fate of the next one
    module _ (ks : List NumberedAim) (swept : Swept cs fates ks (x ∷ rest)) (last : (o : NumberedAim) → last_item ks ≡ Some o → surrounds (surroundings c) o.1 ≡ true) where
      later-free : (n : ℕ) (r : Change) → slice_get cs n ≡ Some r → has_number (x ∷ rest) n ≡ true → is_around r c ≡ false
      later-free n r is_r h =
          let orders = order-before ks x rest swept.in_order in
          let behind : AllByRecursion (λ y. is_before (site y.1) (site x.1) ≡ false) (x ∷ rest) = (not-self (site x.1), all_weaker (λ y. stands_before x y ≡ true) (λ y. is_before (site y.1) (site x.1) ≡ false) rest (λ y before. before-after x y before) orders.1) in
          let found = all-numbered (λ y. OfChange cs y × (is_before (site y.1) (site x.1) ≡ false)) (x ∷ rest) n (all-both (OfChange cs) (λ y. is_before (site y.1) (site x.1) ≡ false) (x ∷ rest) swept.of_rest behind) h in
          let of = found.2.0 in
          let y-is : found.0.1 ≡ aim r = ap (λ (a : NumberedAim). a.1) of.2 ∙ ap aim (same_Some of.0 r (sym of.1 ∙ ap (slice_get cs) found.1 ∙ is_r)) in
          false_from_ne_true (is_around r c) (λ around.
          true≢false (sym (around-first r c (at n r is_r) (at x.0 c is_c) (around-surrounds r c around)) ∙ sym (ap₂ (λ v w. is_before (site v) (site w)) y-is (x-is swept.of_rest.0)) ∙ found.2.1))

      all-open : (n : ℕ) (r : Change) → slice_get cs n ≡ Some r → is_around r c ≡ true → has_number ks n ≡ true
      all-open n r is_r around =
          true_from_ne_false (has_number ks n) (λ never. elim (cases_Bool (has_number (x ∷ rest) n)) [
            | inl left ↦ false≢true (sym (later-free n r is_r left) ∙ around)
            | inr gone ↦ false≢true (sym ((swept.complete n r is_r (has-append ks (x ∷ rest) n ∙ or_from (has_number ks n) (has_number (x ∷ rest) n) never gone)).0 c is_c) ∙ around)
          ])

      none-open : last_item ks ≡ None → fate cs c ≡ Independent
      none-open none =
          fate-free cs c (λ n d is_d. false_from_ne_true (is_around d c) (λ around. false≢true (ap (λ ys. has_number ys n) (sym (none-last ks none)) ∙ all-open n d is_d around)))

      some-open : (o : NumberedAim) → last_item ks ≡ Some o → fate cs c ≡ inside_last cs fates (Some o)
      some-open o is_o =
          let of : OfRegion cs o = all_last (OfRegion cs) ks o swept.of_open is_o in
          let r = of.0 in
          let is_r = of.1 in
          let o-is : o.1 ≡ aim r = ap (λ (a : NumberedAim). a.1) of.2 in
          let orders = order-last ks (x ∷ rest) o swept.in_order is_o in
          let around : is_around r c ≡ true = surrounds-around r c of.3 (ap (surrounds (surroundings c)) (sym o-is) ∙ last o is_o) in
          let behind : is_before (site (aim c)) (site (aim r)) ≡ false = sym (ap₂ (λ v w. is_before (site v) (site w)) (x-is swept.of_rest.0) o-is) ∙ before-after o x orders.0.0 in
          let others : (k : ℕ) (d : Change) → slice_get cs k ≡ Some d → is_around d c ≡ true → (k ≡ o.0) ⊎ (is_around d r ≡ true) = λ k d is_d h.
          let found = all-numbered (λ a. OfRegion cs a × ((a ≡ o) ⊎ (stands_before a o ≡ true))) ks k (all-both (OfRegion cs) (λ a. (a ≡ o) ⊎ (stands_before a o ≡ true)) ks swept.of_open orders.1) (all-open k d is_d h) in
          elim found.2.1 [
            | inl same ↦ inl (sym found.1 ∙ ap (λ (a : NumberedAim). a.0) same)
            | inr before ↦
                let its = found.2.0 in
                let alike : its.0 ≡ d = same_Some its.0 d (sym its.1 ∙ ap (slice_get cs) found.1 ∙ is_d) in
                let a-is : found.0.1 ≡ aim d = ap (λ (a : NumberedAim). a.1) its.2 ∙ ap aim alike in
                let other : k ≢ o.0 = λ e. numbers-apart cs root fit apart found.0 o (its.0, its.1, its.2) (of.0, of.1, of.2) before (found.1 ∙ e) in
                let first : is_before (site (aim r)) (site (aim d)) ≡ false = sym (ap₂ (λ v w. is_before (site v) (site w)) o-is a-is) ∙ before-after found.0 o before in
                inr (surrounds-around d r (ap (λ e. region e) (sym alike) ∙ its.3 ∙ ap targets alike) (around-between cs root fit apart k o.0 d r c other is_d is_r (at k d is_d) (at o.0 r is_r) (at x.0 c is_c) first behind (around-surrounds d c h)))
          ] in
          let through : (k : ℕ) (d : Change) → slice_get cs k ≡ Some d → is_around d r ≡ true → is_around d c ≡ true = λ k d is_d h. surrounds-around d c (region-whole d r h) (around-through cs root fit apart d r c (at o.0 r is_r) (at x.0 c is_c) (around-surrounds d r h) (around-surrounds r c around)) in
          let away : has_number (x ∷ rest) o.0 ≡ false = never-numbered (x ∷ rest) o.0 (all_weaker (λ a. OfChange cs a × (stands_before o a ≡ true)) (λ a. o.0 ≢ a.0) (x ∷ rest) (λ a both. numbers-apart cs root fit apart o a (of.0, of.1, of.2) both.0 both.1) (all-both (OfChange cs) (λ a. stands_before o a ≡ true) (x ∷ rest) swept.of_rest orders.0)) in
          let told = swept.told o.0 r is_r away in
          fate-inside cs root fit apart x.0 o.0 c r is_c is_r around others through ∙ sym (ap₂ (λ a b. option_map_or (λ e. option_map_or (inside e o.0) b Independent) a Independent) is_r told)

      pub swept-fate : fate cs c ≡ inside_last cs fates (last_item ks)
      swept-fate = go (last_item ks) refl
        where
          go : (i : Option NumberedAim) → last_item ks ≡ i → fate cs c ≡ inside_last cs fates (last_item ks)
          go None is = none-open is ∙ sym (ap (inside_last cs fates) is)
          go (Some o) is = some-open o is ∙ sym (ap (inside_last cs fates) is)

      -- what is true after it
      set-told : (n : ℕ) (d : Change) → slice_get cs n ≡ Some d → has_number rest n ≡ false → slice_get (set fates x.0 (fate cs c)) n ≡ Some (fate cs d)
      set-told n d is_d none =
          elim (cases_eq n x.0) [
            | inl same ↦
                let alike : c ≡ d = same_Some c d (sym is_c ∙ ap (slice_get cs) (sym same) ∙ is_d) in
                let l = slice_get_within cs x.0 c is_c in
                ap (slice_get (set fates x.0 (fate cs c))) same ∙ slice_get-set_same fates x.0 (fate cs c) (omega (arith, l, swept.long)) ∙ ap (λ e. Some (fate cs e)) alike
            | inr other ↦ slice_get-set_other fates x.0 n (fate cs c) other ∙ swept.told n d is_d (or_from (nat_eq n x.0) (has_number rest n) (ne_eqb n x.0 other) none)
          ]

      pub swept-pushed : (js : List NumberedAim) → js ≡ ks ++ x ∷ [] → region c ≡ targets c → Swept cs (set fates x.0 (fate cs c)) js rest
      swept-pushed js is whole =
          let moved : js ++ rest ≡ ks ++ x ∷ rest = ap (λ ys. ys ++ rest) is ∙ append_assoc ks (x ∷ []) rest in
          record {
            long = length-set fates x.0 (fate cs c) ∙ swept.long;
            of_open = subst (AllByRecursion (OfRegion cs)) (sym is) (all-append (OfRegion cs) ks (x ∷ []) swept.of_open ((c, is_c, ap (λ a. (x.0, a)) (x-is swept.of_rest.0), whole), tt));
            of_rest = swept.of_rest.1;
            in_order = subst InDocumentOrder (sym moved) swept.in_order;
            complete = λ n r is_r none. (swept.complete n r is_r (ap (λ ys. has_number ys n) (sym moved) ∙ none)).1;
            told = set-told;
          }

      pub swept-passed : (js : List NumberedAim) → js ≡ ks → region c ≡ [] → Swept cs (set fates x.0 (fate cs c)) js rest
      swept-passed js is none = record {
        long = length-set fates x.0 (fate cs c) ∙ swept.long;
        of_open = subst (AllByRecursion (OfRegion cs)) (sym is) swept.of_open;
        of_rest = swept.of_rest.1;
        in_order = subst (λ ys. InDocumentOrder (ys ++ rest)) (sym is) (order-without ks (x ∷ []) rest swept.in_order);
        complete = λ n r is_r away.
            let parts = neither (has_number ks n) (has_number rest n) (sym (has-append ks rest n) ∙ ap (λ ys. has_number (ys ++ rest) n) (sym is) ∙ away) in
            elim (cases_eq n x.0) [
              | inl same ↦
                  let alike : r ≡ c = same_Some r c (sym is_r ∙ ap (slice_get cs) same ∙ is_c) in
                  free-all cs r rest (λ d. ap (λ e. is_around e d) alike ∙ ap (list_any (has_path (surroundings d))) none)
              | inr other ↦ (swept.complete n r is_r (has-append ks (x ∷ rest) n ∙ or_from (has_number ks n) (has_number (x ∷ rest) n) parts.0 (or_from (nat_eq n x.0) (has_number rest n) (ne_eqb n x.0 other) parts.1))).1
            ];
        told = set-told;
      }

-- ---- over a list in code
module _ (aims : List Aimed) (k : ℕ) (d : Aimed) (l : k < length aims) where
  pub next-aim : aims_of (drop k aims) ≡ numbered (get_or aims k d) ∷ aims_of (drop (k + 1) aims)
  next-aim = go aims k l
    where
      go : (xs : List Aimed) (k : ℕ) → k < length xs → aims_of (drop k xs) ≡ numbered (get_or xs k d) ∷ aims_of (drop (k + 1) xs)
      go [] k l = absurd (omega (arith, l))
      go (x ∷ xs) zero l = let e : 0 + 1 ≡ 1 = omega arith in ap (λ n. numbered x ∷ aims_of (drop n (x ∷ xs))) (sym e)
      go (x ∷ xs) (suc k) l = let e : suc k + 1 ≡ suc (k + 1) = omega arith in go xs k (omega (arith, l)) ∙ ap (λ n. numbered (get_or xs k d) ∷ aims_of (drop n (x ∷ xs))) (sym e)

  pub swept-there : (cs : List Change) (fates : List Fate) (os : List NumberedAim) → Swept cs fates os (aims_of (drop k aims)) → (get_or aims k d).change < length cs
  swept-there cs fates os swept =
      let of : OfChange cs (numbered (get_or aims k d)) = (subst (AllByRecursion (OfChange cs)) next-aim swept.of_rest).0 in
      slice_get_within cs (get_or aims k d).change of.0 of.1

  module _ (cs : List Change) (root : Element) (fit : All (Fits root) cs) (apart : first_clash cs ≡ None) (fates : List Fate) (c : Change) (is_c : slice_get cs (get_or aims k d).change ≡ Some c) (before closed : List Aimed) (ps : List Path) (swept : Swept cs fates (aims_of before) (aims_of (drop k aims))) (around : ps ≡ surroundings c) (closes : Closes ps (aims_of before) (aims_of closed)) where
    abbrev x : Aimed
    x = get_or aims k d

    abbrev rest : List NumberedAim
    rest = aims_of (drop (k + 1) aims)

    closed_here : Closes (surroundings c) (aims_of before) (aims_of closed)
    closed_here = subst (λ qs. Closes qs (aims_of before) (aims_of closed)) around closes

    pub swept-here : Swept cs fates (aims_of closed) (numbered x ∷ rest)
    swept-here =
        swept-closed cs root fit apart fates (numbered x) rest c is_c (aims_of before) (aims_of closed) (subst (Swept cs fates (aims_of before)) next-aim swept) closed_here

    fate-here : (f : Fate) → f ≡ inside_last cs fates (last_item (aims_of closed)) → f ≡ fate cs c
    fate-here f told = told ∙ sym (swept-fate cs root fit apart fates (numbered x) rest c is_c (aims_of closed) swept-here closed_here.last)

    pub swept-with : (f : Fate) (after : List Aimed) → f ≡ inside_last cs fates (last_item (aims_of closed)) → after ≡ closed ++ x ∷ [] → region c ≡ targets c → Swept cs (set fates x.change f) (aims_of after) rest
    swept-with f after told push whole =
        subst (λ g. Swept cs (set fates x.change g) (aims_of after) rest) (sym (fate-here f told)) (swept-pushed cs root fit apart fates (numbered x) rest c is_c (aims_of closed) swept-here closed_here.last (aims_of after) (ap aims_of push ∙ map-append numbered closed (x ∷ [])) whole)

    pub swept-without : (f : Fate) (after : List Aimed) → f ≡ inside_last cs fates (last_item (aims_of closed)) → after ≡ closed → region c ≡ [] → Swept cs (set fates x.change f) (aims_of after) rest
    swept-without f after told same none =
        subst (λ g. Swept cs (set fates x.change g) (aims_of after) rest) (sym (fate-here f told)) (swept-passed cs root fit apart fates (numbered x) rest c is_c (aims_of closed) swept-here closed_here.last (aims_of after) (ap aims_of same) none)

-- the last that is open
pub last-is : (xs : List Aimed) (r : Option (Bor Aimed)) → option_copied r ≡ slice_get xs (length xs - 1) → option_map (λ a. numbered a.now) r ≡ last_item (aims_of xs)
last-is [] None is = refl
last-is (x ∷ xs) None is =
    let there = slice_get-get_or (x ∷ xs) (length (x ∷ xs) - 1) x (omega arith) in
    absurd (none-some (get_or (x ∷ xs) (length (x ∷ xs) - 1) x) (is ∙ there))
last-is xs (Some a) is = sym (mapped-last numbered xs a.now (sym is))

pub last-there : (cs : List Change) (xs : List Aimed) (r : Option (Bor Aimed)) → AllByRecursion (OfRegion cs) (aims_of xs) → option_copied r ≡ slice_get xs (length xs - 1) → IfSome r (λ a. a.now.change < length cs)
last-there cs xs None all is = tt
last-there cs xs (Some a) all is =
    let of = all_last (OfRegion cs) (aims_of xs) (numbered a.now) all (mapped-last numbered xs a.now (sym is)) in
    slice_get_within cs a.now.change of.0 of.1
