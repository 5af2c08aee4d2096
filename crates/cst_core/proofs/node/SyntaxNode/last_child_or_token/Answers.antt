use Rattle.std.proofs.Common.{◌≡◌, ◌+◌, Some, length, sym, subst, arith, ◌∙◌}
use Rattle.std.specs.Result.{IfOk}
use Rattle.green_tree.specs.Tree.{at, children}
use Rattle.green_tree.specs.Green.{branch_tree}
use Rattle.cst_core.specs.Element.{subtree}
use Rattle.cst_core.proofs.Children.{subtree_there, length_children, last_child}
use Rattle.cst_core.proofs.node.SyntaxNode.last_child_or_token.Goals as goal

pub returns-in-Some-clause-ok : goal.returns-in-Some-clause-ok
returns-in-Some-clause-ok c =
    let stands : at c.args.self.now.root c.args.self.now.path ≡ Some (branch_tree c.self.inside.green) = rw (← c.self.view_is) c.self.invariant.there in
    let count = length_children c.args.self.now c.self.inside.green c.children.result.now (sym (subtree_there c.args.self.now (branch_tree c.self.inside.green) stands)) c.children.ensures in
    let last = c.in-Some.ensures in
    let is_last : c.in-Some.slot + 1 ≡ length (children (subtree c.args.self.now)) = omega (arith, last.0, last.1, count) in
    subst (λ x. IfOk c.element_at.result (λ r. r ≡ x)) (last_child c.args.self.now (branch_tree c.self.inside.green) c.in-Some.slot stands is_last) c.element_at.ensures.ok

pub returns-in-Some-clause-none : goal.returns-in-Some-clause-none
returns-in-Some-clause-none c nothing =
    let stands : at c.args.self.now.root c.args.self.now.path ≡ Some (branch_tree c.self.inside.green) = rw (← c.self.view_is) c.self.invariant.there in
    let count = length_children c.args.self.now c.self.inside.green c.children.result.now (sym (subtree_there c.args.self.now (branch_tree c.self.inside.green) stands)) c.children.ensures in
    let last = c.in-Some.ensures in
    let is_last : c.in-Some.slot + 1 ≡ length (children (subtree c.args.self.now)) = omega (arith, last.0, last.1, count) in
    c.element_at.ensures.none (last_child c.args.self.now (branch_tree c.self.inside.green) c.in-Some.slot stands is_last ∙ nothing)
