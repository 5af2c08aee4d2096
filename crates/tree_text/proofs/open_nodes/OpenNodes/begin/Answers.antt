use Rattle.std.proofs.Common.{arith, is_ok, refl}
use Rattle.tree_text.specs.declared.open_node.OpenNode.{OpenNode}
use Rattle.tree_text.proofs.ClosedDepths.{full}
use Rattle.tree_text.proofs.Depths.{pushed, opened_fits}
use Rattle.tree_text.proofs.open_nodes.OpenNodes.begin.Goals as goal

pub invariant_of-self : goal.invariant_of-self
invariant_of-self c =
    let old = c.args.self.now.nodes.items in
    let node : OpenNode = record { kind = c.args.kind; children = c.new-children.result } in
    let room = opened_fits old node c.args.self.now.limit c.new-children.ensures.items (omega (arith, c.len.ensures, c.if-len-self.false)) in
    record { limited = pushed old c.push.new.self.items node (is_ok c.push.result) c.args.self.now.limit c.push.ensures.items c.args.self.now.limited room; some = c.args.self.now.some }

pub returns-then-len-self-clause-err : goal.returns-then-len-self-clause-err
returns-then-len-self-clause-err c =
    (refl, full c.args.self.now.limit c.args.self.now.nodes.items c.args.self.now.some (omega (arith, c.len.ensures, c.if-len-self.true)) c.args.self.now.limited)
