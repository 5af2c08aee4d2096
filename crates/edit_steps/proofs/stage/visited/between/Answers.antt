use Rattle.std.proofs.Common.{◌≡◌, ◌+◌, arith, get_or}
use Rattle.std.proofs.lemmas.List.{get_or_default}
use Rattle.edit_steps.specs.inner.Widths.{width_in}
use Rattle.edit_steps.proofs.Widths.{total_next, total_most, total_rest}
use Rattle.edit_steps.proofs.stage.visited.between.Goals as goal

pub loop-slot-init : goal.loop-slot-init
loop-slot-init c = record { sum = omega arith; most = omega arith }

pub overflow_add-sum : goal.overflow_add-sum
overflow_add-sum c =
    let ws = c.args.widths.now in
    let slot = c.loop-slot.slot in
    let item : get_or ws slot 1 ≡ get_or ws slot 0 = get_or_default ws slot 1 0 (omega (arith, c.loop-slot-test.true, c.min-end.ensures)) in
    let next = total_next (width_in ws) slot in
    let most = total_most (width_in ws) (slot + 1) c.args.to (omega (arith, c.loop-slot-test.true, c.min-end.ensures)) in
    omega (arith, c.loop-slot.invariant.sum, next, most, item, c.requires.fits)

pub loop-slot-preserved : goal.loop-slot-preserved
loop-slot-preserved c =
    let ws = c.args.widths.now in
    let slot = c.loop-slot.slot in
    let item : get_or ws slot 1 ≡ get_or ws slot 0 = get_or_default ws slot 1 0 (omega (arith, c.loop-slot-test.true, c.min-end.ensures)) in
    let next = total_next (width_in ws) slot in
    record { sum = omega (arith, c.loop-slot.invariant.sum, next, item); most = omega (arith, c.loop-slot-test.true) }

pub overflow_add-result : goal.overflow_add-result
overflow_add-result c =
    let ws = c.args.widths.now in
    let slot = c.loop-slot.slot in
    let to = c.args.to in
    let here : slot ≡ c.max.result = omega (arith, c.loop-slot.invariant.most, c.loop-slot-test.false, c.loop-slot.auto.slot, c.max.ensures) in
    let rest = total_rest ws slot to (omega (arith, here, c.max.ensures, c.min-end.ensures, c.requires.order)) (λ less. omega (arith, less, c.loop-slot-test.false, c.min-end.ensures)) in
    omega (arith, c.loop-slot.invariant.sum, rest, here, c.requires.fits)

pub returns : goal.returns
returns c =
    let ws = c.args.widths.now in
    let slot = c.loop-slot.slot in
    let to = c.args.to in
    let here : slot ≡ c.max.result = omega (arith, c.loop-slot.invariant.most, c.loop-slot-test.false, c.loop-slot.auto.slot, c.max.ensures) in
    let rest = total_rest ws slot to (omega (arith, here, c.max.ensures, c.min-end.ensures, c.requires.order)) (λ less. omega (arith, less, c.loop-slot-test.false, c.min-end.ensures)) in
    omega (arith, c.loop-slot.invariant.sum, rest, here)
