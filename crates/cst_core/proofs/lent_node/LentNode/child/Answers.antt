use Rattle.std.proofs.Common.{◌≡◌, ◌≤◌, ◌<◌, [], ◌∷◌, length, Some, sym, ◌∙◌, arith}
use Rattle.green_tree.specs.Tree.{at, children}
use Rattle.green_tree.specs.Green.{branch_tree}
use Rattle.green_tree.specs.GreenElement.{element_tree}
use Rattle.green_tree.proofs.Slots.{slice_get-child}
use Rattle.green_tree.proofs.FoundTokens.{some_is_not_none}
use Rattle.cst_core.specs.Element.{subtree, element_at}
use Rattle.cst_core.proofs.Children.{subtree_there, length_children, at_below, child_there, child_past}
use Rattle.cst_core.proofs.lent_node.LentNode.child.Goals as goal

pub returns-in_default-clause-ok : goal.returns-in_default-clause-ok
returns-in_default-clause-ok c =
    let stands : at c.args.self.now.root c.args.self.now.path ≡ Some (branch_tree c.self.inside.green.now) = rw (← c.self.view_is) c.self.invariant.there in
    let count = length_children c.args.self.now c.self.inside.green.now c.children.result.now (sym (subtree_there c.args.self.now (branch_tree c.self.inside.green.now) stands)) c.children.ensures in
    let past : length (children (subtree c.args.self.now)) ≤ c.args.slot = omega (arith, count, c.in_default.ensures.lookup.3) in
    sym (child_past c.args.self.now (branch_tree c.self.inside.green.now) c.args.slot stands past)

pub returns-in_err-path-clause-none : goal.returns-in_err-path-clause-none
returns-in_err-path-clause-none c nothing =
    let stands : at c.args.self.now.root c.args.self.now.path ≡ Some (branch_tree c.self.inside.green.now) = rw (← c.self.view_is) c.self.invariant.there in
    let count = length_children c.args.self.now c.self.inside.green.now c.children.result.now (sym (subtree_there c.args.self.now (branch_tree c.self.inside.green.now) stands)) c.children.ensures in
    let inside : c.args.slot < length (children (subtree c.args.self.now)) = omega (arith, count, c.in-Some.ensures.lookup.3.0) in
    absurd (some_is_not_none (sym (child_there c.args.self.now (branch_tree c.self.inside.green.now) c.args.slot stands inside) ∙ nothing))

pub returns-in_err-moved_to-clause-none : goal.returns-in_err-moved_to-clause-none
returns-in_err-moved_to-clause-none c nothing =
    let stands : at c.args.self.now.root c.args.self.now.path ≡ Some (branch_tree c.self.inside.green.now) = rw (← c.self.view_is) c.self.invariant.there in
    let count = length_children c.args.self.now c.self.inside.green.now c.children.result.now (sym (subtree_there c.args.self.now (branch_tree c.self.inside.green.now) stands)) c.children.ensures in
    let inside : c.args.slot < length (children (subtree c.args.self.now)) = omega (arith, count, c.in-Some.ensures.lookup.3.0) in
    absurd (some_is_not_none (sym (child_there c.args.self.now (branch_tree c.self.inside.green.now) c.args.slot stands inside) ∙ nothing))

pub moved_to-requires : goal.moved_to-requires
moved_to-requires c =
    let own = slice_get-child c.self.inside.green.now c.children.result.now c.args.slot c.in-Some.child.now c.children.ensures c.in-Some.ensures.lookup.3.0 c.in-Some.ensures.lookup.1 in
    let below : at (branch_tree c.self.inside.green.now) (c.args.slot ∷ []) ≡ Some (element_tree c.in-Some.child.now) = rw own in
    rw (c.in_ok-path.ensures, c.as_ref.ensures) (at_below (element_at c.self.inside.location.now c.self.inside.path.now) (branch_tree c.self.inside.green.now) (c.args.slot ∷ []) c.self.invariant.there ∙ below)
