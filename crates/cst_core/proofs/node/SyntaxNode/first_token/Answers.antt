use Rattle.std.proofs.Common.{rules, ◌≡◌, Some}
use Rattle.green_tree.specs.Tree.{at}
use Rattle.green_tree.specs.Green.{branch_tree}
use Rattle.cst_core.proofs.Children.{subtree_there}
use Rattle.cst_core.proofs.node.SyntaxNode.first_token.Goals as goal

pub token_below-requires : goal.token_below-requires
token_below-requires c =
    let stands : at c.args.self.now.root c.args.self.now.path ≡ Some (branch_tree c.self.inside.green) = rw (← c.self.view_is) c.self.invariant.there in
    let token = rw c.in-Some.is at c.in_ok-found.ensures.token in
    rw (subtree_there c.args.self.now (branch_tree c.self.inside.green) stands) token

pub returns-in_default : goal.returns-in_default
returns-in_default c = search rules

pub returns : goal.returns
returns c = search rules
