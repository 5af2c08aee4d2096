-- Counting the nodes that are made.
use Rattle.std.specs.Prelude.{◌≡◌, ℕ, zero, suc, ◌-◌, true, false, cond, ◌||◌, nat_eq, List, [], ◌∷◌, ◌++◌, map, length, take, refl, Option, Some, None, OnOk, IfOk, Result, Ok, Err}
use Rattle.std.specs.List.{list_any}
use Rattle.std.proofs.Common.{ap, ap₂, sym, arith, ◌∙◌}
use Rattle.std.proofs.lemmas.List.{append-nil, length-append, take-append-le, take_all}
use Rattle.std.proofs.lemmas.Bool.{cases_eq, eq-eqb, ne_eqb}
use mathlib.Core.Logic.{inl, inr}
use Rattle.green_tree.specs.Path.{Path, parent_path, last_slot, counted_from}
use Rattle.edit_change.specs.Aim as aim
use Rattle.edit_change.specs.Aim.{parents}
use Rattle.edit_change.specs.Rewriting.{NumberedAim}
use Rattle.edit_change.specs.declared.aimed.Aimed.{Aimed}
use Rattle.edit_change.specs.declared.aimed.AimForm.{AimForm}
use Rattle.edit_change.specs.declared.aimed.AimForm.TheVariants.{FirstIn, AfterElement, Over}
use Rattle.edit_change.specs.inner.Aimed.{FormedAim, formed, aim_in, of_formed, aims_of, some_path, has_parent, seen_from, and_those, formed_below}
use Rattle.edit_change.specs.Effort.{inside, parents_of}

-- ---- the parents of aims that are seen from a child
other_way : (i j : ℕ) → nat_eq j i ≡ nat_eq i j
other_way i j =
    elim (cases_eq j i) [
      | inl same ↦ eq-eqb j i same ∙ sym (eq-eqb i j (sym same))
      | inr other ↦ ne_eqb j i other ∙ sym (ne_eqb i j (λ e. other (sym e)))
    ]

abbrev pub above : List FormedAim → List Path
above xs = parents_of (map of_formed xs)

parent-end : (p : Path) (m : ℕ) → parent_path (p ++ m ∷ []) ≡ p
parent-end [] m = refl
parent-end (i ∷ []) m = refl
parent-end (i ∷ j ∷ p) m = ap (λ q. i ∷ q) (parent-end (j ∷ p) m)

over-parents : (p : Path) (m : ℕ) (ps : List Path) → parents (aim.Over ((p ++ m ∷ []) ∷ ps)) ≡ p ∷ []
over-parents [] m ps = refl
over-parents (i ∷ p) m ps = ap (λ q. q ∷ []) (parent-end (i ∷ p) m)

inside-append : (i : ℕ) (ps qs : List Path) → inside i (ps ++ qs) ≡ inside i ps ++ inside i qs
inside-append i [] qs = refl
inside-append i ([] ∷ ps) qs = inside-append i ps qs
inside-append i ((j ∷ p) ∷ ps) qs =
    ap (λ rs. cond (nat_eq j i) (p ∷ rs) rs) (inside-append i ps qs) ∙ elim (nat_eq j i) as (λ b. cond b (p ∷ (inside i ps ++ inside i qs)) (inside i ps ++ inside i qs) ≡ cond b (p ∷ inside i ps) (inside i ps) ++ inside i qs) [ true ↦ refl | false ↦ refl ]

-- one path, of an aim that is seen where its first slot is this one
one : (i c k : ℕ) (q r : Path) (w : AimForm) → parents (aim_in q w) ≡ r ∷ [] → inside i ((k ∷ r) ∷ []) ≡ above (and_those (cond (nat_eq i k) (Some (record { change = c; path = q; form = w })) None) [])
one i c k q r w h =
    ap (λ b. cond b (r ∷ []) []) (other_way i k) ∙ elim (nat_eq i k) as (λ b. cond b (r ∷ []) [] ≡ above (and_those (cond b (Some (record { change = c; path = q; form = w })) None) [])) [
      | true ↦ ap (λ ps. ps ++ []) (sym h)
      | false ↦ refl
    ]

-- no path, whether or not the aim is seen
no_one : (i c k : ℕ) (q : Path) (w : AimForm) → parents (aim_in q w) ≡ [] → [] ≡ above (and_those (cond (nat_eq i k) (Some (record { change = c; path = q; form = w })) None) [])
no_one i c k q w h =
    elim (nat_eq i k) as (λ b. [] ≡ above (and_those (cond b (Some (record { change = c; path = q; form = w })) None) [])) [
      | true ↦ ap (λ ps. ps ++ []) (sym h)
      | false ↦ refl
    ]

own : (i c : ℕ) (q : Path) (w : AimForm) → inside i (parents (aim_in q w)) ≡ above (and_those (seen_from i (record { change = c; path = q; form = w })) [])
own i c [] FirstIn = refl
own i c [] AfterElement = refl
own i c [] (Over zero) = refl
own i c [] (Over (suc n)) = refl
own i c (k ∷ q) FirstIn = one i c k q q FirstIn refl
own i c (k ∷ []) AfterElement = no_one i c k [] AfterElement refl
own i c (k ∷ l ∷ q) AfterElement = one i c k (l ∷ q) (parent_path (l ∷ q)) AfterElement refl
own i c (k ∷ []) (Over zero) = no_one i c k [] (Over zero) refl
own i c (k ∷ l ∷ q) (Over zero) = no_one i c k (l ∷ q) (Over zero) refl
own i c (k ∷ []) (Over (suc n)) = no_one i c k [] (Over (suc n)) refl
own i c (k ∷ l ∷ q) (Over (suc n)) =
    let p = parent_path (l ∷ q) in
    let m = last_slot (l ∷ q) in
    ap (inside i) (over-parents (k ∷ p) m (map (λ s. (k ∷ p) ++ s ∷ []) (counted_from (suc m) n))) ∙ one i c k (l ∷ q) p (Over (suc n)) (over-parents p m (map (λ s. p ++ s ∷ []) (counted_from (suc m) n)))

and_those-above : (a : Option FormedAim) (xs : List FormedAim) → above (and_those a []) ++ above xs ≡ above (and_those a xs)
and_those-above None xs = refl
and_those-above (Some a) xs = ap (λ ps. ps ++ above xs) (append-nil (parents (aim_in a.path a.form)))

pub above-below : (i : ℕ) (xs : List FormedAim) → inside i (above xs) ≡ above (formed_below i xs)
above-below i [] = refl
above-below i (x ∷ xs) =
    inside-append i (parents (aim_in x.path x.form)) (above xs) ∙ ap₂ (λ ps qs. ps ++ qs) (own i x.change x.path x.form) (above-below i xs) ∙ and_those-above (seen_from i x) (formed_below i xs)

pub above-formed : (xs : List Aimed) → above (map formed xs) ≡ parents_of (aims_of xs)
above-formed [] = refl
above-formed (x ∷ xs) = ap (λ ps. parents (aim_in x.path.now x.form) ++ ps) (above-formed xs)

-- ---- whether there is any
some-append : (ps qs : List Path) → some_path (ps ++ qs) ≡ (some_path ps || some_path qs)
some-append [] qs = refl
some-append (p ∷ ps) qs = refl

pub some-parents : (cs : List NumberedAim) → some_path (parents_of cs) ≡ list_any has_parent cs
some-parents [] = refl
some-parents (c ∷ cs) = some-append (parents c.1) (parents_of cs) ∙ ap (λ b. has_parent c || b) (some-parents cs)

-- ---- a fact that holds anyway holds where there is a result
pub on_ok : {T E P : Type 0} (r : Result T E) → P → OnOk r P
on_ok (Ok x) h = h
on_ok (Err e) h = tt

pub on_ok-map : {T E P Q : Type 0} (r : Result T E) → (P → Q) → OnOk r P → OnOk r Q
on_ok-map (Ok x) f h = f h
on_ok-map (Err e) f h = tt

pub if_ok-map : {T E : Type 0} (P Q : T → Type 0) (r : Result T E) → ((x : T) → P x → Q x) → IfOk r P → IfOk r Q
if_ok-map P Q (Ok x) f h = f x h
if_ok-map P Q (Err e) f h = tt

-- ---- a path, after its last slot is taken off
pub without_last : (p q : Path) (m n : ℕ) → m ≡ length p → p ≡ q ++ n ∷ [] → take (m - 1) p ≡ q
without_last p q m n long e =
    let shorter : m - 1 ≡ length q = omega (arith, long, ap length e ∙ length-append q (n ∷ [])) in
    ap₂ take shorter e ∙ take-append-le (length q) q (n ∷ []) (omega arith) ∙ take_all (length q) q (omega arith)
