use Rattle.std.proofs.Common.{◌≡◌, zero-le, refl, ◌<◌, ◌+◌, ◌-◌, ◌^◌, ap, ap₂, sym, subst, ◌∙◌, arith, length, length-set}
use Rattle.std.proofs.lemmas.List.{get_or_default}
use Rattle.edit_steps.specs.inner.Widths.{held_of, gap_in, CanHold, width_in, into_gap}
use Rattle.edit_steps.specs.inner.Visited.{HasRoom}
use Rattle.edit_steps.proofs.Widths.{gone_none, taken_next, taken_most, some_left, taken_all, total_taken, gap_put}
use Rattle.edit_steps.proofs.stage.visited.Visited.put.Goals as goal
use Rattle.edit_steps.proofs.stage.visited.Visited.put.Goals.{then-first-self, else-first-self}

pub loop-slot-init : goal.loop-slot-init
loop-slot-init c =
    elim c.if-first-self.branch [
      | then-first-self w ↦
          rw w.self-inside-is
          (rw (← c.self.view_is) (record {
            long = refl;
            taken = λ i. omega (arith, gone_none c.index-first.result i);
            gaps = refl;
            below = refl;
            before = refl;
            ahead = zero-le;
          }))
      | else-first-self w ↦
          rw w.self-inside-is
          (rw (← c.self.view_is) (record {
            long = refl;
            taken = λ i. omega (arith, gone_none c.index-first.result i);
            gaps = refl;
            below = refl;
            before = c.self.invariant;
            ahead = w.if-first-self.false;
          }))
    ]

pub overflow_sub-index_mut : goal.overflow_sub-index_mut
overflow_sub-index_mut c =
    let l = c.loop-slot in
    let within : l.slot < length l.self-inside.widths.items =
    omega (arith, l.invariant.long, c.loop-slot-test.true, c.index-first.ensures, c.count.ensures, c.requires.room.all) in
    some_left l.self-inside.widths.items _ c.args.at c.index-first.result c.count.result l.slot _
    c.index-first.ensures c.count.ensures l.invariant.taken c.requires.can.there l.auto.slot c.loop-slot-test.true within c.index_mut.ensures.value

pub loop-slot-preserved : goal.loop-slot-preserved
loop-slot-preserved c =
    let l = c.loop-slot in
    let ws = l.self-inside.widths.items in
    let x = c.index_mut.result.now in
    let within : l.slot < length ws =
    omega (arith, l.invariant.long, c.loop-slot-test.true, c.index-first.ensures, c.count.ensures, c.requires.room.all) in
    let some = some_left ws _ c.args.at c.index-first.result c.count.result l.slot x
    c.index-first.ensures c.count.ensures l.invariant.taken c.requires.can.there l.auto.slot c.loop-slot-test.true within c.index_mut.ensures.value in
    record {
      long = length-set ws l.slot (x - 1) ∙ l.invariant.long;
      taken = taken_next ws _ c.index-first.result l.slot x l.invariant.taken l.auto.slot within c.index_mut.ensures.value some;
      gaps = l.invariant.gaps;
      below = l.invariant.below;
      before = l.invariant.before;
      ahead = l.invariant.ahead;
    }

pub overflow_add-index_mut : goal.overflow_add-index_mut
overflow_add-index_mut c =
    let l = c.loop-slot in
    let first = c.index-first.result in
    let within : first < length l.self-inside.widths.items = omega (arith, l.invariant.long, c.index-first.ensures, c.requires.room.first) in
    let most = taken_most l.self-inside.widths.items _ first l.slot _ l.invariant.taken within c.index_mut-2.ensures.value in
    let fits = subst (λ a. width_in c.args.self.now.widths a + c.args.width < 2 ^ 64) (sym c.index-first.ensures) c.requires.can.fits in
    omega (arith, fits, most)

pub overflow_add-index_mut-in-Gap : goal.overflow_add-index_mut-in-Gap
overflow_add-index_mut-in-Gap c =
    let is_gap = subst (λ a. CanHold (held_of c.args.self.now) a c.args.width) c.in-Gap.is c.requires.can in
    let gap = (subst (HasRoom c.args.self.now) c.in-Gap.is c.requires.room).gap in
    let gaps = c.loop-slot.self-inside.gaps.items in
    let g = c.in-Gap.gap in
    let is = c.index_mut-in-Gap.ensures.value ∙ get_or_default gaps g _ 0 (rw c.loop-slot.invariant.gaps gap) ∙ ap (λ gs. gap_in gs g) c.loop-slot.invariant.gaps in
    omega (arith, is, is_gap.gap, is_gap.fits)

pub invariant_of-self : goal.invariant_of-self
invariant_of-self c =
    let l = c.loop-slot in
    l.invariant.before ∙ total_taken l.self-inside.widths.items _ c.index-first.result l.slot _ l.invariant.taken l.self-inside.slot l.invariant.ahead

pub invariant_of-self-in_default : goal.invariant_of-self-in_default
invariant_of-self-in_default c =
    let l = c.loop-slot in
    l.invariant.before ∙ total_taken l.self-inside.widths.items _ c.index-first.result l.slot _ l.invariant.taken l.self-inside.slot l.invariant.ahead

pub returns-in-Gap-clause-held : goal.returns-in-Gap-clause-held
returns-in-Gap-clause-held c =
    let l = c.loop-slot in
    let first = c.index-first.result in
    let within : first < length l.self-inside.widths.items = omega (arith, l.invariant.long, c.index-first.ensures, c.requires.room.first) in
    let end : l.slot ≡ first + c.count.result = omega (arith, c.loop-slot-test.false, l.auto.slot-end (omega arith)) in
    let gap = (subst (HasRoom c.args.self.now) c.in-Gap.is c.requires.room).gap in
    record {
      widths = taken_all l.self-inside.widths.items _ c.args.at first c.count.result l.slot _
          c.index-first.ensures c.count.ensures l.invariant.taken c.args.width end within c.index_mut-2.ensures.value;
      gaps = λ i. gap_put l.self-inside.gaps.items c.in-Gap.gap _ c.args.width i (rw l.invariant.gaps gap) c.index_mut-in-Gap.ensures.value
          ∙ ap₂ (λ gs a. gap_in gs i + into_gap a c.args.width i) l.invariant.gaps (sym c.in-Gap.is);
    }

pub returns-in-Gap-clause-below : goal.returns-in-Gap-clause-below
returns-in-Gap-clause-below c = c.loop-slot.invariant.below

pub returns-in_default-clause-held : goal.returns-in_default-clause-held
returns-in_default-clause-held c =
    let l = c.loop-slot in
    let first = c.index-first.result in
    let within : first < length l.self-inside.widths.items = omega (arith, l.invariant.long, c.index-first.ensures, c.requires.room.first) in
    let end : l.slot ≡ first + c.count.result = omega (arith, c.loop-slot-test.false, l.auto.slot-end (omega arith)) in
    record {
      widths = taken_all l.self-inside.widths.items _ c.args.at first c.count.result l.slot _
          c.index-first.ensures c.count.ensures l.invariant.taken c.args.width end within c.index_mut-2.ensures.value;
      gaps = λ i. ap (λ gs. gap_in gs i) l.invariant.gaps ∙ rw c.in_default.is (omega arith);
    }

pub returns-in_default-clause-below : goal.returns-in_default-clause-below
returns-in_default-clause-below c = c.loop-slot.invariant.below
