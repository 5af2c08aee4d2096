-- Steps one after the other.
--     root_after-append             the root after two lists of steps
--     steps-append, steps-from      two lists of steps are one; steps from a root are steps from one with its number and path
--     step-at, before-at            the step at an index is one from the root after those before it; the root after the steps up to one
--     last-of, item-at              the last item of a list is the one at its greatest index; the item at an index, where code has it
--     root_after-item               the root after steps of which the last is known
--     take-next, drop-at, at-end, drop-end  lists up to an item and from it on
--     appended                      what a list has that took another one up
--     steps-of, roots-of            the same of the parts of a chain
use Rattle.std.specs.Prelude.{◌≡◌, ℕ, zero, suc, ◌-◌, ◌<◌, List, [], ◌∷◌, ◌++◌, take, drop, length, slice_get, get_or, Some, Result, Ok, Err, is_ok, is_err, false, if◌then◌else◌, refl}
use Rattle.std.proofs.Common.{ap, sym, subst, ◌∙◌, arith}
use Rattle.std.proofs.lemmas.Bool.{true≢false}
use Rattle.std.proofs.lemmas.Option.{none-some, same_Some}
use Rattle.cst_core.specs.Path.{last_item}
use Rattle.cst_core.specs.Element.{Element, address}
use Rattle.edit_chain.specs.Chain.{Chain, root_after, IsStep, AreSteps}
use Rattle.edit_chain.specs.declared.step.Step.{Step}

pub root_after-append : (root : Element) (ss ts : List Step) → root_after root (ss ++ ts) ≡ root_after (root_after root ss) ts
root_after-append root [] ts = refl
root_after-append root (s ∷ ss) ts = root_after-append s.edit.new_root ss ts

pub steps-append : (root : Element) (ss ts : List Step) → AreSteps root ss → AreSteps (root_after root ss) ts → AreSteps root (ss ++ ts)
steps-append root [] ts own others = others
steps-append root (s ∷ ss) ts own others = (own.0, steps-append s.edit.new_root ss ts own.1 others)

pub steps-from : (root other : Element) (ts : List Step) → address root ≡ address other → AreSteps root ts → AreSteps other ts
steps-from root other [] same are = tt
steps-from root other (s ∷ ss) same are = (record { begins = are.0.begins ∙ same; planned = are.0.planned; makes = are.0.makes; short = are.0.short }, are.1)

pub step-at : (root : Element) (ss : List Step) (i : ℕ) (s : Step) → AreSteps root ss → slice_get ss i ≡ Some s → IsStep (root_after root (take i ss)) s
step-at root [] i s are is = absurd (none-some s is)
step-at root (x ∷ ss) zero s are is = subst (IsStep root) (same_Some x s is) are.0
step-at root (x ∷ ss) (suc i) s are is = step-at x.edit.new_root ss i s are.1 is

pub before-at : (root : Element) (ss : List Step) (i : ℕ) (s : Step) → slice_get ss i ≡ Some s → root_after root (take (suc i) ss) ≡ s.edit.new_root
before-at root [] i s is = absurd (none-some s is)
before-at root (x ∷ ss) zero s is = ap (λ (t : Step). t.edit.new_root) (same_Some x s is)
before-at root (x ∷ ss) (suc i) s is = before-at x.edit.new_root ss i s is

last-but : {X : Type 0} (x y : X) (xs : List X) → slice_get (y ∷ xs) (length (y ∷ xs) - 1) ≡ slice_get (x ∷ y ∷ xs) (length (x ∷ y ∷ xs) - 1)
last-but x y xs = let e : suc (length (y ∷ xs) - 1) ≡ length (x ∷ y ∷ xs) - 1 = omega arith in ap (slice_get (x ∷ y ∷ xs)) e

last-item : {X : Type 0} (xs : List X) → last_item xs ≡ slice_get xs (length xs - 1)
last-item [] = refl
last-item (x ∷ []) = refl
last-item (x ∷ y ∷ xs) = last-item (y ∷ xs) ∙ last-but x y xs

-- the last of a list, where code has the list
pub last-of : {X : Type 0} (xs ys : List X) (x : X) → ys ≡ xs → slice_get ys (length ys - 1) ≡ Some x → last_item xs ≡ Some x
last-of xs ys x same is = last-item xs ∙ ap (λ zs. slice_get zs (length zs - 1)) (sym same) ∙ is

pub root_after-item : (root : Element) (ss : List Step) (s : Step) → last_item ss ≡ Some s → root_after root ss ≡ s.edit.new_root
root_after-item root [] s is = absurd (none-some s is)
root_after-item root (x ∷ []) s is = ap (λ (t : Step). t.edit.new_root) (same_Some x s is)
root_after-item root (x ∷ y ∷ ss) s is = root_after-item x.edit.new_root (y ∷ ss) s is

pub item-at : {X : Type 0} (xs : List X) (i : ℕ) (x : X) → i < length xs → x ≡ get_or xs i x → slice_get xs i ≡ Some x
item-at [] i x within is = absurd (omega (arith, within))
item-at (y ∷ xs) zero x within is = ap (λ z. Some z) (sym is)
item-at (y ∷ xs) (suc i) x within is = item-at xs i x (omega (arith, within)) is

pub take-next : {X : Type 0} (xs : List X) (i : ℕ) (x : X) → slice_get xs i ≡ Some x → take (suc i) xs ≡ take i xs ++ x ∷ []
take-next [] i x is = absurd (none-some x is)
take-next (y ∷ xs) zero x is = ap (λ z. z ∷ []) (same_Some y x is)
take-next (y ∷ xs) (suc i) x is = ap (λ zs. y ∷ zs) (take-next xs i x is)

pub drop-at : {X : Type 0} (xs : List X) (i : ℕ) (x : X) → slice_get xs i ≡ Some x → drop i xs ≡ x ∷ drop (suc i) xs
drop-at [] i x is = absurd (none-some x is)
drop-at (y ∷ xs) zero x is = ap (λ z. z ∷ xs) (same_Some y x is)
drop-at (y ∷ xs) (suc i) x is = drop-at xs i x is

-- ---- a list and its last item
pub at-end : {X : Type 0} (before : List X) (x : X) → slice_get (before ++ x ∷ []) (length before) ≡ Some x
at-end [] x = refl
at-end (y ∷ before) x = at-end before x

pub drop-end : {X : Type 0} (before : List X) (x : X) → drop (length before) (before ++ x ∷ []) ≡ x ∷ []
drop-end [] x = refl
drop-end (y ∷ before) x = drop-end before x

-- ---- what was put behind
pub appended : {X E : Type 0} (r : Result (Unit {0}) E) (xs ys zs : List X) → zs ≡ (if is_ok r then xs ++ ys else xs) → is_err r ≡ false → zs ≡ xs ++ ys
appended (Ok a) xs ys zs is none = is
appended (Err e) xs ys zs is none = absurd (true≢false none)

-- ---- of a chain, where code has its parts
pub steps-of : (c : Chain) (root : Element) (steps : List Step) → root ≡ c.first → steps ≡ c.steps → AreSteps c.first c.steps → AreSteps root steps
steps-of c root steps root_is steps_are are = subst (λ r. AreSteps r steps) (sym root_is) (subst (AreSteps c.first) (sym steps_are) are)

pub roots-of : (c : Chain) (root : Element) (steps : List Step) (n : ℕ) → root ≡ c.first → steps ≡ c.steps → root_after root (take n steps) ≡ root_after c.first (take n c.steps)
roots-of c root steps n root_is steps_are = ap (λ r. root_after r (take n steps)) root_is ∙ ap (λ ss. root_after c.first (take n ss)) steps_are
