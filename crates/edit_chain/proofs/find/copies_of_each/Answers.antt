use Rattle.edit_chain.proofs.FoundInSteps.{each-next}
use Rattle.edit_chain.proofs.find.copies_of_each.Goals as goal

pub loop-element-preserved : goal.loop-element-preserved
loop-element-preserved c =
    each-next c.args.step.now c.args.elements.now c.loop-element.element-index c.element-item.result c.loop-element.found.items c.in_ok-copies.copies.items c.append.new.self.items c.loop-element-test.true c.element-item.is c.in_ok-append.ensures.items (c.in_ok-copies.ensures c.requires) c.loop-element.invariant
