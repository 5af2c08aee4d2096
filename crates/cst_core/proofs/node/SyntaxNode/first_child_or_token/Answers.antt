use Rattle.std.proofs.Common.{◌≡◌, Some, length, refl, subst, ◌∙◌}
use Rattle.std.specs.Result.{IfOk}
use Rattle.green_tree.specs.Tree.{at, children}
use Rattle.green_tree.specs.Green.{branch_tree}
use Rattle.cst_core.specs.Element.{subtree}
use Rattle.cst_core.proofs.Children.{first_child}
use Rattle.cst_core.proofs.node.SyntaxNode.first_child_or_token.Goals as goal

pub returns-clause-ok : goal.returns-clause-ok
returns-clause-ok c =
    let stands : at c.args.self.now.root c.args.self.now.path ≡ Some (branch_tree c.self.inside.green) = rw (← c.self.view_is) c.self.invariant.there in
    subst (λ x. IfOk c.element_at.result (λ r. r ≡ x)) (first_child c.args.self.now (branch_tree c.self.inside.green) (length (children (subtree c.args.self.now))) stands refl) c.element_at.ensures.ok

pub returns-clause-none : goal.returns-clause-none
returns-clause-none c nothing =
    let stands : at c.args.self.now.root c.args.self.now.path ≡ Some (branch_tree c.self.inside.green) = rw (← c.self.view_is) c.self.invariant.there in
    c.element_at.ensures.none (first_child c.args.self.now (branch_tree c.self.inside.green) (length (children (subtree c.args.self.now))) stands refl ∙ nothing)
