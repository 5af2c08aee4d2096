use Rattle.std.proofs.Common.{◌+◌, arith, rules, refl, ap}
use Rattle.green_tree.specs.GreenElement.{element_tree}
use Rattle.green_tree.specs.Tree.{text}
use Rattle.green_tree.proofs.OpenNodes.{next_child, none_next, starts_written, popped_written, entered_written, token_written, weight_entered, weight_after}
use Rattle.green_tree.proofs.text.write_text.Goals as goal

pub loop-current-init : goal.loop-current-init
loop-current-init g c plain = starts_written _ c.args.node.now c.new-above.result.items c.args.f.now c.new-above.ensures.items plain

pub loop-current-preserved-in_default-get : goal.loop-current-preserved-in_default-get
loop-current-preserved-in_default-get g c plain =
    let o = c.in-Some.field-0 in
    let none = none_next o c.children.result.now c.children.ensures c.in_default-get.ensures.lookup.3 in
    let so_far = rw c.in-Some.is at (c.loop-current.invariant plain) in
    popped_written _ o c.loop-current.above.items c.pop-current.new.self.items c.pop-current.result so_far none c.pop-current.ensures.items (λ ends. let cases = rw ends at c.pop-current.ensures.cases in omega (arith, cases.0, c.loop-current.above.ok))

pub loop-current-smaller-in-Node : goal.loop-current-smaller-in-Node
loop-current-smaller-in-Node g c =
    let o = c.in-Some.field-0 in
    let next = next_child o c.children.result.now c.in-Some-get.child.now c.children.ensures c.in-Some-get.ensures.lookup.3.0 c.in-Some-get.ensures.lookup.1 in
    let less = weight_entered o c.loop-current.above.items c.push_open.new.above.items c.in-Some-get.child.now c.in-Node.below (record { node = o.node; next = o.next + 1 }) next (ap element_tree c.in-Node.is) refl c.in_ok-push_open-in-Node.ensures in
    rw c.in-Some.is less

pub loop-current-preserved-in-Node : goal.loop-current-preserved-in-Node
loop-current-preserved-in-Node g c plain =
    let o = c.in-Some.field-0 in
    let next = next_child o c.children.result.now c.in-Some-get.child.now c.children.ensures c.in-Some-get.ensures.lookup.3.0 c.in-Some-get.ensures.lookup.1 in
    let so_far = rw c.in-Some.is at (c.loop-current.invariant plain) in
    entered_written _ o c.loop-current.above.items c.push_open.new.above.items c.in-Some-get.child.now c.in-Node.below (record { node = o.node; next = o.next + 1 }) so_far next (ap element_tree c.in-Node.is) refl c.in_ok-push_open-in-Node.ensures

pub loop-current-smaller : goal.loop-current-smaller
loop-current-smaller g c =
    let o = c.in-Some.field-0 in
    let next = next_child o c.children.result.now c.in-Some-get.child.now c.children.ensures c.in-Some-get.ensures.lookup.3.0 c.in-Some-get.ensures.lookup.1 in
    rw c.in-Some.is (weight_after o c.loop-current.above.items c.in-Some-get.child.now next)

pub loop-current-preserved : goal.loop-current-preserved
loop-current-preserved g c plain =
    let o = c.in-Some.field-0 in
    let next = next_child o c.children.result.now c.in-Some-get.child.now c.children.ensures c.in-Some-get.ensures.lookup.3.0 c.in-Some-get.ensures.lookup.1 in
    let so_far = rw c.in-Some.is at (c.loop-current.invariant plain) in
    token_written _ o c.loop-current.above.items c.in-Some-get.child.now c.in-Token.token.text so_far next (ap (λ e. text (element_tree e)) c.in-Token.is) (rw (← c.text.ensures) (c.write_str.ensures.writes so_far.wrote.plain (search rules)))
