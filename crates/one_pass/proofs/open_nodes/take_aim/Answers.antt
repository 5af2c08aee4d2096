use Rattle.std.proofs.Common.{◌≡◌, ◌≤◌, ◌<◌, ◌+◌, ℕ, suc, Option, Some, None, min, max, nat_lt, length, get_or, arith, ap, sym, refl, subst, ◌∙◌}
use Rattle.std.proofs.lemmas.Bool.{cases_lt, lt-ltb, le-ltb}
use Rattle.std.proofs.lemmas.Option.{none-some, same_Some}
use mathlib.Core.Logic.{inl, inr}
use Rattle.std.specs.Prelude.{◌⊎◌}
use Rattle.green_tree.specs.Green.{Branch}
use Rattle.green_tree.specs.declared.green.GreenElement.{GreenElement}
use Rattle.green_tree.specs.declared.green.GreenElement.TheVariants.{Node, Token}
use Rattle.edit_change.specs.inner.Aimed.{FormedAim}
use Rattle.one_pass.specs.declared.mark.Walk.{Walk}
use Rattle.one_pass.specs.declared.marked_element.GivenTable.{GivenTable}
use Rattle.one_pass.specs.declared.open_node.OpenNode.{OpenNode}
use Rattle.one_pass.specs.inner.OpenNodes.{InOrder, IsFurther, IsShared, IsSameNode, IsPassed, PutsNext}
use Rattle.one_pass.specs.inner.Sweep.{key, IsGap, IsRun, IsBelow}
use Rattle.one_pass.proofs.NextAim.{seen_first, passing, ahead-of, slot-before, put-next, take-gap, take-run, take-passed, take-nowhere, next-child, shared-next, part-rest}
use Rattle.one_pass.proofs.OneAim.{gap-key, run-key, below-key}
use Rattle.one_pass.proofs.Sweeping.{at-any}
use Rattle.one_pass.proofs.open_nodes.take_aim.Goals as goal
use Rattle.one_pass.proofs.open_nodes.take_aim.Goals.{in-Gap, in-Slots, in-Below, then-slot-top+in_default-elements, else-slot-top}

-- a sum that stops at the greatest number
far-alike : (p i n j long far q : ℕ) → j < long → long ≤ 18446744073709551615 → far ≡ min (i + n) 18446744073709551615 → q ≡ max p far → nat_lt j (max p (i + n)) ≡ nat_lt j q
far-alike p i n j long far q l fits a b =
    elim (cases_lt j q) [
      | inl under ↦ lt-ltb j (max p (i + n)) (omega (arith, under, a, b)) ∙ sym (lt-ltb j q under)
      | inr over ↦ le-ltb j (max p (i + n)) (omega (arith, over, a, b, l, fits)) ∙ sym (le-ltb j q over)
    ]

-- ---- the child in the slot
inside-shared : (f g : OpenNode) (i : ℕ) → i < length f.elements.now → IsSameNode f g → i < length g.elements.now
inside-shared f g i l same = omega (arith, l, ap (λ es. length es.now) same.elements)

at-slot : (g : OpenNode) (i : ℕ) (e : GreenElement) → g.slot ≡ i → i < length g.elements.now → e ≡ get_or g.elements.now i e → (d : GreenElement) → get_or g.elements.now g.slot d ≡ e
at-slot g i e slot l is d = ap (λ n. get_or g.elements.now n d) slot ∙ at-any g.elements.now i d e l ∙ sym is

passed-by : (g : OpenNode) (i : ℕ) (e : GreenElement) → g.slot ≡ i → i < length g.elements.now → e ≡ get_or g.elements.now i e → ((b : Branch) → e ≡ Node b → ⊥) → IsPassed g
passed-by g i (Node b) slot l is other = absurd (other b refl)
passed-by g i (Token t) slot l is other = inr (t, at-slot g i (Token t) slot l is)

-- ---- where the aim stands, and before which slot children are replaced then
abbrev Placed : ℕ → FormedAim → ℕ → ℕ × Option ℕ → Type 0
Placed n a p x =
    ((x.1 ≡ Some p) × (x.0 ≤ n) × IsGap x.0 a.path a.form) ⊎ (((k : ℕ) × (x.1 ≡ Some (max p (min (x.0 + k) 18446744073709551615))) × (x.0 < n) × IsRun x.0 k a.path a.form) ⊎ ((x.1 ≡ None) × (x.0 < n) × IsBelow x.0 a))

placed-gap : (n : ℕ) (a : FormedAim) (p : ℕ) (x : ℕ × Option ℕ) (g : ℕ) → x ≡ (g, Some p) → g ≤ n → IsGap g a.path a.form → Placed n a p x
placed-gap n a p x g is l h = subst (Placed n a p) (sym is) (inl (refl, l, h))

placed-run : (n : ℕ) (a : FormedAim) (p : ℕ) (x : ℕ × Option ℕ) (i k far q : ℕ) → x ≡ (i, Some q) → far ≡ min (i + k) 18446744073709551615 → q ≡ max p far → i < n → IsRun i k a.path a.form → Placed n a p x
placed-run n a p x i k far q is sum most l h =
    subst (Placed n a p) (sym is) (inr (inl (k, ap Some (most ∙ ap (max p) sum), l, h)))

placed-below : (n : ℕ) (a : FormedAim) (p : ℕ) (x : ℕ × Option ℕ) (i : ℕ) → x ≡ (i, None) → i < n → IsBelow i a → Placed n a p x
placed-below n a p x i is l h = subst (Placed n a p) (sym is) (inr (inr (refl, l, h)))

placed-least : (n : ℕ) (a : FormedAim) (p : ℕ) (x : ℕ × Option ℕ) → Placed n a p x → x.0 + x.0 ≤ key a
placed-least n a p x (inl h) = omega (arith, gap-key x.0 a.change a.path a.form h.2)
placed-least n a p x (inr (inl h)) = omega (arith, run-key x.0 h.0 a.change a.path a.form h.3)
placed-least n a p x (inr (inr h)) = omega (arith, below-key x.0 a h.2)

placed-most : (n : ℕ) (a : FormedAim) (p : ℕ) (x : ℕ × Option ℕ) → Placed n a p x → key a ≤ suc (x.0 + x.0)
placed-most n a p x (inl h) = omega (arith, gap-key x.0 a.change a.path a.form h.2)
placed-most n a p x (inr (inl h)) = omega (arith, run-key x.0 h.0 a.change a.path a.form h.3)
placed-most n a p x (inr (inr h)) = omega (arith, below-key x.0 a h.2)

placed-within : (n : ℕ) (a : FormedAim) (p : ℕ) (x : ℕ × Option ℕ) → Placed n a p x → x.0 ≤ n
placed-within n a p x (inl h) = h.1
placed-within n a p x (inr (inl h)) = omega (arith, h.2)
placed-within n a p x (inr (inr h)) = omega (arith, h.1)

inside : (n : ℕ) (a : FormedAim) (p : ℕ) (x : ℕ × Option ℕ) → Placed n a p x → x.1 ≡ None → (x.0 < n) × IsBelow x.0 a
inside n a p x (inl h) none = absurd (none-some p (sym none ∙ h.0))
inside n a p x (inr (inl h)) none = absurd (none-some _ (sym none ∙ h.1))
inside n a p x (inr (inr h)) none = (h.1, h.2)

put-there : (table : GivenTable) (start middle after : Walk) (f g h : OpenNode) (x : ℕ × Option ℕ) (q : ℕ) → InOrder f → 0 < length f.aims.now → length f.elements.now ≤ 18446744073709551615 → IsShared x.0 start middle f g → PutsNext table middle after g h → Placed (length f.elements.now) (seen_first f) f.passed x → x.1 ≡ Some q → IsFurther table start after f (passing h q)
put-there table start middle after f g h x q order some fits shared put (inl at) is =
    let least = placed-least (length f.elements.now) (seen_first f) f.passed x (inl at) in
    subst (λ m. IsFurther table start after f (passing h m)) (put.passed ∙ shared.passed ∙ same_Some f.passed q (sym at.0 ∙ is)) (take-gap table start middle after f g order some x.0 at.1 least shared h put at.2)
put-there table start middle after f g h x q order some fits shared put (inr (inl at)) is =
    let least = placed-least (length f.elements.now) (seen_first f) f.passed x (inr (inl at)) in
    let far : ℕ = min (x.0 + at.0) 18446744073709551615 in
    let most : q ≡ max h.passed far = sym (same_Some (max f.passed far) q (sym at.1 ∙ is)) ∙ ap (λ m. max m far) (sym (put.passed ∙ shared.passed)) in
    take-run table start middle after f g order some x.0 (omega (arith, at.2)) least shared h put at.0 q at.2 at.3 (λ j l. far-alike h.passed x.0 at.0 j (length f.elements.now) far q l fits refl most)
put-there table start middle after f g h x q order some fits shared put (inr (inr at)) is =
    absurd (none-some q (sym at.0 ∙ is))

pub returns-in-Nowhere-clause-further : goal.returns-in-Nowhere-clause-further
returns-in-Nowhere-clause-further c =
    let top = c.args.top.now in
    take-nowhere c.args.given.now c.args.walk.now c.args.walk.now c.args.walk.now top top c.requires.order c.requires.some _ c.in-Nowhere.ensures (part-rest top.aims.now 1)

pub share_until-requires-clause-next : goal.share_until-requires-clause-next
share_until-requires-clause-next c =
    let top = c.args.top.now in
    let a = seen_first top in
    let n : ℕ = length top.elements.now in
    let x = c.match-site_of.slot in
    let at : Placed n a top.passed x = elim c.match-site_of.branch [
      | in-Gap w ↦ placed-gap n a top.passed x w.in-Gap.gap w.slot-is w.in-Gap.ensures.0 w.in-Gap.ensures.1
      | in-Slots w ↦ placed-run n a top.passed x w.in-Slots.first w.in-Slots.count w.saturating_add.result w.max.result w.slot-is w.saturating_add.ensures w.max.ensures w.in-Slots.ensures.0 w.in-Slots.ensures.1
      | in-Below w ↦ placed-below n a top.passed x w.in-Below.slot w.slot-is w.in-Below.ensures.0 w.in-Below.ensures.1
    ] in
    omega (arith, placed-most n a top.passed x at, slot-before top c.requires.order c.requires.some)

pub share_until-requires-clause-ahead : goal.share_until-requires-clause-ahead
share_until-requires-clause-ahead c =
    let top = c.args.top.now in
    let a = seen_first top in
    let n : ℕ = length top.elements.now in
    let x = c.match-site_of.slot in
    let at : Placed n a top.passed x = elim c.match-site_of.branch [
      | in-Gap w ↦ placed-gap n a top.passed x w.in-Gap.gap w.slot-is w.in-Gap.ensures.0 w.in-Gap.ensures.1
      | in-Slots w ↦ placed-run n a top.passed x w.in-Slots.first w.in-Slots.count w.saturating_add.result w.max.result w.slot-is w.saturating_add.ensures w.max.ensures w.in-Slots.ensures.0 w.in-Slots.ensures.1
      | in-Below w ↦ placed-below n a top.passed x w.in-Below.slot w.slot-is w.in-Below.ensures.0 w.in-Below.ensures.1
    ] in
    let least = placed-least n a top.passed x at in
    ahead-of top (x.0 + x.0) c.requires.order c.requires.some least

-- ---- inside a child
pub returns-in-Node-clause-further : goal.returns-in-Node-clause-further
returns-in-Node-clause-further c =
    let top = c.args.top.now in
    let a = seen_first top in
    let n : ℕ = length top.elements.now in
    let x = c.match-site_of.slot in
    let at : Placed n a top.passed x = elim c.match-site_of.branch [
      | in-Gap w ↦ placed-gap n a top.passed x w.in-Gap.gap w.slot-is w.in-Gap.ensures.0 w.in-Gap.ensures.1
      | in-Slots w ↦ placed-run n a top.passed x w.in-Slots.first w.in-Slots.count w.saturating_add.result w.max.result w.slot-is w.saturating_add.ensures w.max.ensures w.in-Slots.ensures.0 w.in-Slots.ensures.1
      | in-Below w ↦ placed-below n a top.passed x w.in-Below.slot w.slot-is w.in-Below.ensures.0 w.in-Below.ensures.1
    ] in
    let least = placed-least n a top.passed x at in
    shared-next c.args.given.now c.args.walk.now _ c.args.walk.now top _ c.requires.order c.requires.some x.0 (placed-within n a top.passed x at) least c.in_ok-share_until.ensures

pub returns-in-Node-clause-next : goal.returns-in-Node-clause-next
returns-in-Node-clause-next c =
    let top = c.args.top.now in
    let a = seen_first top in
    let n : ℕ = length top.elements.now in
    let x = c.match-site_of.slot in
    let at : Placed n a top.passed x = elim c.match-site_of.branch [
      | in-Gap w ↦ placed-gap n a top.passed x w.in-Gap.gap w.slot-is w.in-Gap.ensures.0 w.in-Gap.ensures.1
      | in-Slots w ↦ placed-run n a top.passed x w.in-Slots.first w.in-Slots.count w.saturating_add.result w.max.result w.slot-is w.saturating_add.ensures w.max.ensures w.in-Slots.ensures.0 w.in-Slots.ensures.1
      | in-Below w ↦ placed-below n a top.passed x w.in-Below.slot w.slot-is w.in-Below.ensures.0 w.in-Below.ensures.1
    ] in
    let least = placed-least n a top.passed x at in
    let it = inside n a top.passed x at c.in_default-passed.is in
    let g = c.share_until.new.top in
    let s = c.in_ok-share_until.ensures in
    next-child c.args.given.now c.args.walk.now _ c.args.walk.now top g c.requires.order c.requires.some x.0 (placed-within n a top.passed x at) least s c.in-Node.node it.0 it.1 (record {
      stays = omega (arith, c.if-slot-top.true, s.slot);
      element = λ d. at-slot g x.0 c.index-elements-slot.result s.slot (inside-shared top g x.0 it.0 s.same) c.index-elements-slot.is d ∙ c.in-Node.is;
    })

pub returns-in_default-passed-clause-further : goal.returns-in_default-passed-clause-further
returns-in_default-passed-clause-further c =
    let top = c.args.top.now in
    let a = seen_first top in
    let n : ℕ = length top.elements.now in
    let x = c.match-site_of.slot in
    let at : Placed n a top.passed x = elim c.match-site_of.branch [
      | in-Gap w ↦ placed-gap n a top.passed x w.in-Gap.gap w.slot-is w.in-Gap.ensures.0 w.in-Gap.ensures.1
      | in-Slots w ↦ placed-run n a top.passed x w.in-Slots.first w.in-Slots.count w.saturating_add.result w.max.result w.slot-is w.saturating_add.ensures w.max.ensures w.in-Slots.ensures.0 w.in-Slots.ensures.1
      | in-Below w ↦ placed-below n a top.passed x w.in-Below.slot w.slot-is w.in-Below.ensures.0 w.in-Below.ensures.1
    ] in
    let least = placed-least n a top.passed x at in
    let it = inside n a top.passed x at c.in_default-passed.is in
    let g = c.share_until.new.top in
    let s = c.in_ok-share_until.ensures in
    let passes : IsPassed g = elim c.if-slot-top.branch [
      | then-slot-top+in_default-elements w ↦ passed-by g x.0 w.index-elements-slot.result s.slot (inside-shared top g x.0 it.0 s.same) w.index-elements-slot.is w.in_default-elements.not-Node
      | else-slot-top w ↦ inl (omega (arith, w.if-slot-top.false, s.slot))
    ] in
    take-passed c.args.given.now c.args.walk.now _ c.args.walk.now top g c.requires.order c.requires.some x.0 (placed-within n a top.passed x at) least s _ it.0 it.1 passes (part-rest top.aims.now 1)

-- ---- an insert, or a replacement
pub returns-clause-further : goal.returns-clause-further
returns-clause-further c =
    let top = c.args.top.now in
    let a = seen_first top in
    let n : ℕ = length top.elements.now in
    let x = c.match-site_of.slot in
    let at : Placed n a top.passed x = elim c.match-site_of.branch [
      | in-Gap w ↦ placed-gap n a top.passed x w.in-Gap.gap w.slot-is w.in-Gap.ensures.0 w.in-Gap.ensures.1
      | in-Slots w ↦ placed-run n a top.passed x w.in-Slots.first w.in-Slots.count w.saturating_add.result w.max.result w.slot-is w.saturating_add.ensures w.max.ensures w.in-Slots.ensures.0 w.in-Slots.ensures.1
      | in-Below w ↦ placed-below n a top.passed x w.in-Below.slot w.slot-is w.in-Below.ensures.0 w.in-Below.ensures.1
    ] in
    let least = placed-least n a top.passed x at in
    let within = placed-within n a top.passed x at in
    let s = c.in_ok-share_until.ensures in
    let p = c.in_ok-push_change.ensures in
    let put = put-next c.args.given.now c.args.walk.now _ _ top _ c.requires.order c.requires.some x.0 within least s _ _ (part-rest top.aims.now 1) p.path p.count p.trees p.marks in
    put-there c.args.given.now c.args.walk.now _ _ top _ _ x c.in-Some.passed c.requires.order c.requires.some (omega arith) s put at c.in-Some.is

pub share_until-requires-clause-order : goal.share_until-requires-clause-order
share_until-requires-clause-order c = c.requires.order

pub share_until-requires-clause-within : goal.share_until-requires-clause-within
share_until-requires-clause-within c =
    let top = c.args.top.now in
    let a = seen_first top in
    let n : ℕ = length top.elements.now in
    let x = c.match-site_of.slot in
    let at : Placed n a top.passed x = elim c.match-site_of.branch [
      | in-Gap w ↦ placed-gap n a top.passed x w.in-Gap.gap w.slot-is w.in-Gap.ensures.0 w.in-Gap.ensures.1
      | in-Slots w ↦ placed-run n a top.passed x w.in-Slots.first w.in-Slots.count w.saturating_add.result w.max.result w.slot-is w.saturating_add.ensures w.max.ensures w.in-Slots.ensures.0 w.in-Slots.ensures.1
      | in-Below w ↦ placed-below n a top.passed x w.in-Below.slot w.slot-is w.in-Below.ensures.0 w.in-Below.ensures.1
    ] in
    placed-within n a top.passed x at
