use Rattle.std.proofs.Common.{◌≡◌, ◌≤◌, ◌<◌, ◌+◌, ◌-◌, [], ◌∷◌, rules, arith, sym}
use Rattle.std.specs.Prelude.{filter}
use Rattle.green_tree.specs.Tree.{text_length}
use Rattle.green_tree.specs.Order.{start, tokens_before}
use Rattle.green_tree.specs.Offsets.{touches}
use Rattle.green_tree.specs.Green.{branch_tree, length_limit}
use Rattle.green_tree.specs.GreenElement.{element_tree}
use Rattle.green_tree.proofs.Starts.{start-slot}
use Rattle.green_tree.proofs.FoundTokens.{child_at}
use Rattle.green_tree.proofs.Touching.{span_at, span_length, touching_out-empty, touching_out-before, touching_out-after, touched_somewhere}
use Rattle.green_tree.proofs.TouchedChildren.{pushed_none, pushed_past, pushed_one, pushed_all}
use Rattle.green_tree.proofs.offsets.push_touched.Goals as goal
use Rattle.green_tree.proofs.offsets.push_touched.Goals.{then-start-end-via-then-start-end, then-start-end-via-else-start-end+then-offset-start, then-start-end-via-else-start-end+else-offset-start+then-end-offset}

pub loop-slot-init : goal.loop-slot-init
loop-slot-init c = record {
  start = sym (start-slot c.args.node.now c.children-element-items.result.now 0 c.children-element-items.ensures);
  pushed = pushed_none c.args.node.now c.children-element-items.result.now c.args.offset c.args.depth c.args.touched.now.items;
}

pub overflow_add-end : goal.overflow_add-end
overflow_add-end c =
    let span = span_at c.args.node.now c.children-element-items.result.now c.loop-slot.slot c.element-item.result c.children-element-items.ensures c.loop-slot-test.true c.element-item.is in
    let long = span_length c.args.node.now c.loop-slot.slot (element_tree c.element-item.result) c.length-end.result span c.requires.fits c.length-end.ensures in
    let within = span.within in
    search (arith, rules)

pub loop-slot-preserved-then-start-end : goal.loop-slot-preserved-then-start-end
loop-slot-preserved-then-start-end c =
    let child = child_at c.args.node.now c.children-element-items.result.now c.loop-slot.slot c.element-item.result c.children-element-items.ensures c.loop-slot-test.true c.element-item.is in
    let span = span_at c.args.node.now c.children-element-items.result.now c.loop-slot.slot c.element-item.result c.children-element-items.ensures c.loop-slot-test.true c.element-item.is in
    let long = span_length c.args.node.now c.loop-slot.slot (element_tree c.element-item.result) c.length-end.result span c.requires.fits c.length-end.ensures in
    let next = span.next in
    let apart : filter (touches (branch_tree c.args.node.now) c.args.offset) (tokens_before (branch_tree c.args.node.now) ((c.loop-slot.slot + 1) ∷ [])) ≡ filter (touches (branch_tree c.args.node.now) c.args.offset) (tokens_before (branch_tree c.args.node.now) (c.loop-slot.slot ∷ [])) =
    elim c.then-start-end.branch [
      | then-start-end-via-then-start-end w ↦ touching_out-empty c.args.node.now c.loop-slot.slot (element_tree c.element-item.result) c.args.offset child span (omega (arith, w.if-start-end.true))
      | then-start-end-via-else-start-end+then-offset-start w ↦ touching_out-before c.args.node.now c.loop-slot.slot (element_tree c.element-item.result) c.args.offset child span (omega (arith, w.if-offset-start.true))
      | then-start-end-via-else-start-end+else-offset-start+then-end-offset w ↦ touching_out-after c.args.node.now c.loop-slot.slot (element_tree c.element-item.result) c.args.offset child span (omega (arith, w.if-end-offset.true))
    ] in
    record {
      start = omega arith;
      pushed = pushed_past c.element-item.result c.loop-slot-test.true c.element-item.is apart c.loop-slot.invariant.pushed;
    }

pub returns-in_err-push-clause-none : goal.returns-in_err-push-clause-none
returns-in_err-push-clause-none c nothing =
    let span = span_at c.args.node.now c.children-element-items.result.now c.loop-slot.slot c.element-item.result c.children-element-items.ensures c.loop-slot-test.true c.element-item.is in
    let long = span_length c.args.node.now c.loop-slot.slot (element_tree c.element-item.result) c.length-end.result span c.requires.fits c.length-end.ensures in
    let some : 0 < text_length (branch_tree c.args.node.now) = omega (arith, span.within, c.if-start-end.false) in
    let within : c.args.offset ≤ text_length (branch_tree c.args.node.now) = omega (arith, span.within, c.if-end-offset.false) in
    absurd (touched_somewhere (branch_tree c.args.node.now) c.args.offset some within nothing)

pub loop-slot-preserved : goal.loop-slot-preserved
loop-slot-preserved c =
    let child = child_at c.args.node.now c.children-element-items.result.now c.loop-slot.slot c.element-item.result c.children-element-items.ensures c.loop-slot-test.true c.element-item.is in
    let span = span_at c.args.node.now c.children-element-items.result.now c.loop-slot.slot c.element-item.result c.children-element-items.ensures c.loop-slot-test.true c.element-item.is in
    let long = span_length c.args.node.now c.loop-slot.slot (element_tree c.element-item.result) c.length-end.result span c.requires.fits c.length-end.ensures in
    let next = span.next in
    let begins : start (branch_tree c.args.node.now) (c.loop-slot.slot ∷ []) ≤ c.args.offset = omega (arith, c.if-offset-start.false) in
    let some : 0 < text_length (element_tree c.element-item.result) = omega (arith, c.if-start-end.false) in
    let within : c.args.offset - c.loop-slot.end ≤ text_length (element_tree c.element-item.result) = omega (arith, c.if-end-offset.false) in
    let fits : text_length (element_tree c.element-item.result) < length_limit = omega (arith, span.within, c.requires.fits) in
    record {
      start = omega arith;
      pushed = pushed_one _ c.loop-slot-test.true c.element-item.is child span begins (omega arith) (record { some = some; within = within; fits = fits }) c.loop-slot.invariant.pushed c.in_ok-push.ensures.items;
    }

pub returns-clause-touched : goal.returns-clause-touched
returns-clause-touched c = pushed_all c.children-element-items.ensures c.loop-slot-test.false c.loop-slot.invariant.pushed
