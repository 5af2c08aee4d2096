use Rattle.std.proofs.Common.{◌≡◌, ◌<◌, arith, ap, rules}
use denote.Param.Weighed.{most, w_this}
use Rattle.green_tree.specs.GreenElement.{element_trees}
use Rattle.green_tree.specs.declared.green.GreenElement.TheVariants.{the_data}
use Rattle.green_tree.specs.declared.green.GreenNode.TheDeep.{size-GreenElement}
use Rattle.green_tree.proofs.Sizes.{most_dropped, taken_out}
use Rattle.green_tree.proofs.+drop.Goals as goal

pub green::GreenNode::drop-drop-children-requires : goal.green::GreenNode::drop-drop-children-requires
green::GreenNode::drop-drop-children-requires t c κs =
    let same : element_trees c.in-Some.field-0.children.items ≡ c.loop-children.self.children = rw c.in-Some.ensures (ap (λ b. b.children) c.self.view_is) in
    let smaller : most (w_this.weight the_data size-GreenElement) c.in-Some.field-0.children.items < t = rw (← c.decreases) (omega (arith, rw same at (most_dropped c.in-Some.field-0.children.items), c.loop-children.invariant)) in
    search rules

pub green::GreenNode::drop-drop-children-requires-in_default-swap_remove : goal.green::GreenNode::drop-drop-children-requires-in_default-swap_remove
green::GreenNode::drop-drop-children-requires-in_default-swap_remove t c κs =
    let same : element_trees c.in-Some.field-0.children.items ≡ c.loop-children.self.children = rw c.in-Some.ensures (ap (λ b. b.children) c.self.view_is) in
    let out = rw (← c.swap_remove.ensures.items, same) at (taken_out c.in-Some.field-0.children.items c.in-Some-heaviest.slot c.swap_remove.result) in
    let smaller : most (w_this.weight the_data size-GreenElement) c.swap_remove.new.self.items < t = rw (← c.decreases) (omega (arith, most_dropped c.swap_remove.new.self.items, out, c.loop-children.invariant)) in
    search rules

pub green::GreenNode::drop-drop-children-requires-in-loop-children : goal.green::GreenNode::drop-drop-children-requires-in-loop-children
green::GreenNode::drop-drop-children-requires-in-loop-children t c κs =
    let same : element_trees c.in-Some.field-0.children.items ≡ c.loop-children.self.children = rw c.in-Some.ensures (ap (λ b. b.children) c.self.view_is) in
    let out = rw (← c.swap_remove.ensures.items, same) at (taken_out c.in-Some.field-0.children.items c.in-Some-heaviest.slot c.swap_remove.result) in
    let smaller : most (w_this.weight the_data size-GreenElement) c.swap_remove.new.self.items < t = rw (← c.decreases) (omega (arith, most_dropped c.swap_remove.new.self.items, out, c.loop-children.invariant)) in
    search rules
