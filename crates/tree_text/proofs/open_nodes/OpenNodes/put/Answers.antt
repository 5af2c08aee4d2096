use Rattle.std.proofs.Common.{Some, is_ok, ap, ◌∙◌, ◌∷◌, []}
use Rattle.std.proofs.lemmas.List.{map-append}
use Rattle.cst_core.specs.GreenElement.{element_tree, element_trees}
use Rattle.tree_text.specs.declared.open_node.OpenNode.{OpenNode}
use Rattle.tree_text.proofs.Depths.{pushed, popped, one_more_fits}
use Rattle.tree_text.proofs.open_nodes.OpenNodes.put.Goals as goal

pub invariant_of-self-in-Break-1 : goal.invariant_of-self-in-Break-1
invariant_of-self-in-Break-1 c =
    record { limited = popped c.args.self.now.nodes.items c.pop.new.self.items c.pop.result c.args.self.now.limit c.pop.ensures.items c.args.self.now.limited; some = c.args.self.now.some }

pub invariant_of-self-2 : goal.invariant_of-self-2
invariant_of-self-2 c =
    let old = c.args.self.now.nodes.items in
    let new = c.pop.new.self.items in
    let node : OpenNode = record { kind = c.in-Some.node.kind; children = c.push.new.self } in
    let outer = popped old new (Some c.in-Some.node) c.args.self.now.limit c.in-Some.ensures.items c.args.self.now.limited in
    let more = ap element_trees c.in_ok-push.ensures.items ∙ map-append element_tree c.in-Some.node.children.items (c.args.element ∷ []) in
    let fits = one_more_fits old new c.in-Some.node node (element_tree c.args.element) c.args.self.now.limit c.in-Some.ensures.items more c.args.self.now.limited c.requires in
    record { limited = pushed new c.push-2.new.self.items node (is_ok c.push-2.result) c.args.self.now.limit c.push-2.ensures.items outer fits; some = c.args.self.now.some }
