use Rattle.std.proofs.Common.{◌≡◌, Some, sym}
use Rattle.green_tree.specs.Tree.{at}
use Rattle.green_tree.specs.Green.{branch_tree}
use Rattle.cst_core.proofs.Children.{subtree_there, length_children}
use Rattle.cst_core.proofs.lent_node.LentNode.len.Goals as goal

pub returns : goal.returns
returns c =
    let stands : at c.args.self.now.root c.args.self.now.path ≡ Some (branch_tree c.self.inside.green.now) = rw (← c.self.view_is) c.self.invariant.there in
    sym (length_children c.args.self.now c.self.inside.green.now c.children.result.now (sym (subtree_there c.args.self.now (branch_tree c.self.inside.green.now) stands)) c.children.ensures)
