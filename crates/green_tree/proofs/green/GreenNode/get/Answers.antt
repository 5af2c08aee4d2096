use Rattle.std.proofs.Common.{◌∙◌, sym}
use Rattle.green_tree.proofs.Lookup.{at_step, at_past, at-token_at}
use Rattle.green_tree.proofs.green.GreenNode.get.Goals as goal

pub returns-in_default : goal.returns-in_default
returns-in_default c =
    sym (at-token_at c.in_default.field-0.now.kind c.in_default.field-0.now.text c.args.path.now c.loop-slot.slot-index c.loop-slot-test.true) ∙ rw c.in_default.is at c.loop-slot.invariant

pub returns-in_default-get : goal.returns-in_default-get
returns-in_default-get c =
    let past = at_past c.in-Node.node.now c.children.result.now c.args.path.now c.loop-slot.slot-index c.children.ensures c.loop-slot-test.true c.in_default-get.ensures.lookup.3 in
    sym past ∙ rw c.in-Node.is at c.loop-slot.invariant

pub loop-slot-preserved : goal.loop-slot-preserved
loop-slot-preserved c =
    let step = at_step c.in-Node.node.now c.children.result.now c.args.path.now c.loop-slot.slot-index c.in-Some.child.now c.children.ensures c.loop-slot-test.true c.in-Some.ensures.lookup.3.0 c.in-Some.ensures.lookup.1 in
    rw (c.as_ref-current.ensures, ← step) (rw c.in-Node.is at c.loop-slot.invariant)
