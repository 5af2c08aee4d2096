use Rattle.std.proofs.Common.{◌≡◌, ◌≤◌, [], ◌∷◌, length, Some, sym, ◌∙◌, arith}
use Rattle.green_tree.specs.Tree.{at, children}
use Rattle.green_tree.specs.Green.{branch_tree}
use Rattle.green_tree.specs.GreenElement.{element_tree}
use Rattle.green_tree.proofs.Slots.{slice_get-child}
use Rattle.green_tree.proofs.FoundTokens.{some_is_not_none}
use Rattle.cst_core.specs.Element.{subtree, element_at}
use Rattle.cst_core.proofs.Children.{subtree_there, length_children, at_below, is_element}
use Rattle.cst_core.proofs.ChildSlots.{node_in-node, node_in-token, node_in-past}
use Rattle.cst_core.proofs.lent_node.LentNode.node_in.Goals as goal

pub with_path-requires : goal.with_path-requires
with_path-requires c =
    let own = slice_get-child c.self.inside.green.now c.children.result.now c.args.slot c.in-Some-Node.field-0.now c.children.ensures c.in-Some-Node.ensures.lookup.3.0 c.in-Some-Node.ensures.lookup.1 in
    let there : at (branch_tree c.self.inside.green.now) (c.args.slot ∷ []) ≡ Some (element_tree c.in-Some-Node.field-0.now) = rw own in
    rw c.in_ok-path-in-Some-Node.ensures (is_element _ _ (at_below (element_at c.self.inside.location.now c.self.inside.path.now) (branch_tree c.self.inside.green.now) (c.args.slot ∷ []) c.self.invariant.there ∙ there))

pub invariant_of-result : goal.invariant_of-result
invariant_of-result c =
    let own = slice_get-child c.self.inside.green.now c.children.result.now c.args.slot c.in-Some-Node.field-0.now c.children.ensures c.in-Some-Node.ensures.lookup.3.0 c.in-Some-Node.ensures.lookup.1 in
    let there : at (branch_tree c.self.inside.green.now) (c.args.slot ∷ []) ≡ Some (element_tree c.in-Some-Node.field-0.now) = rw own in
    let below : at (branch_tree c.self.inside.green.now) (c.args.slot ∷ []) ≡ Some (branch_tree c.in-Some-Node.child) = rw c.in-Some-Node.field-0-is at there in
    rw (c.in_ok-with_path-in-Some-Node.ensures, c.in_ok-path-in-Some-Node.ensures, c.in_ok-share-in-Some-Node.ensures) (record { there = at_below (element_at c.self.inside.location.now c.self.inside.path.now) (branch_tree c.self.inside.green.now) (c.args.slot ∷ []) c.self.invariant.there ∙ below; top = c.self.invariant.top; fits = c.self.invariant.fits })

pub returns-in_ok-share-in-Some-Node-clause-ok : goal.returns-in_ok-share-in-Some-Node-clause-ok
returns-in_ok-share-in-Some-Node-clause-ok c =
    let own = slice_get-child c.self.inside.green.now c.children.result.now c.args.slot c.in-Some-Node.field-0.now c.children.ensures c.in-Some-Node.ensures.lookup.3.0 c.in-Some-Node.ensures.lookup.1 in
    let there : at (branch_tree c.self.inside.green.now) (c.args.slot ∷ []) ≡ Some (element_tree c.in-Some-Node.field-0.now) = rw own in
    let found = node_in-node (element_at c.self.inside.location.now c.self.inside.path.now) (branch_tree c.self.inside.green.now) c.args.slot c.in-Some-Node.child c.self.invariant.there (rw c.in-Some-Node.field-0-is at there) in
    rw (c.in_ok-with_path-in-Some-Node.ensures, c.in_ok-path-in-Some-Node.ensures, ← c.self.view_is) (sym found)

pub returns-in-Some-Token-clause-ok : goal.returns-in-Some-Token-clause-ok
returns-in-Some-Token-clause-ok c =
    let own = slice_get-child c.self.inside.green.now c.children.result.now c.args.slot c.in-Some-Token.field-0.now c.children.ensures c.in-Some-Token.ensures.lookup.3.0 c.in-Some-Token.ensures.lookup.1 in
    let there : at (branch_tree c.self.inside.green.now) (c.args.slot ∷ []) ≡ Some (element_tree c.in-Some-Token.field-0.now) = rw own in
    rw (← c.self.view_is) (sym (node_in-token (element_at c.self.inside.location.now c.self.inside.path.now) (branch_tree c.self.inside.green.now) c.args.slot c.in-Some-Token.field-0-0 c.self.invariant.there (rw c.in-Some-Token.field-0-is at there)))

pub returns-in-None-clause-ok : goal.returns-in-None-clause-ok
returns-in-None-clause-ok c =
    let stands : at c.args.self.now.root c.args.self.now.path ≡ Some (branch_tree c.self.inside.green.now) = rw (← c.self.view_is) c.self.invariant.there in
    let count = length_children c.args.self.now c.self.inside.green.now c.children.result.now (sym (subtree_there c.args.self.now (branch_tree c.self.inside.green.now) stands)) c.children.ensures in
    let past : length (children (subtree c.args.self.now)) ≤ c.args.slot = omega (arith, count, c.in-None.ensures.lookup.3) in
    sym (node_in-past c.args.self.now (branch_tree c.self.inside.green.now) c.args.slot stands past)

pub returns-in_err-path-in-Some-Node-clause-none : goal.returns-in_err-path-in-Some-Node-clause-none
returns-in_err-path-in-Some-Node-clause-none c nothing =
    let own = slice_get-child c.self.inside.green.now c.children.result.now c.args.slot c.in-Some-Node.field-0.now c.children.ensures c.in-Some-Node.ensures.lookup.3.0 c.in-Some-Node.ensures.lookup.1 in
    let there : at (branch_tree c.self.inside.green.now) (c.args.slot ∷ []) ≡ Some (element_tree c.in-Some-Node.field-0.now) = rw own in
    let found = node_in-node (element_at c.self.inside.location.now c.self.inside.path.now) (branch_tree c.self.inside.green.now) c.args.slot c.in-Some-Node.child c.self.invariant.there (rw c.in-Some-Node.field-0-is at there) in
    absurd (some_is_not_none (sym found ∙ rw (← c.self.view_is) at nothing))

pub returns-in_err-with_path-in-Some-Node-clause-none : goal.returns-in_err-with_path-in-Some-Node-clause-none
returns-in_err-with_path-in-Some-Node-clause-none c nothing =
    let own = slice_get-child c.self.inside.green.now c.children.result.now c.args.slot c.in-Some-Node.field-0.now c.children.ensures c.in-Some-Node.ensures.lookup.3.0 c.in-Some-Node.ensures.lookup.1 in
    let there : at (branch_tree c.self.inside.green.now) (c.args.slot ∷ []) ≡ Some (element_tree c.in-Some-Node.field-0.now) = rw own in
    let found = node_in-node (element_at c.self.inside.location.now c.self.inside.path.now) (branch_tree c.self.inside.green.now) c.args.slot c.in-Some-Node.child c.self.invariant.there (rw c.in-Some-Node.field-0-is at there) in
    absurd (some_is_not_none (sym found ∙ rw (← c.self.view_is) at nothing))

pub returns-in_err-share-in-Some-Node-clause-none : goal.returns-in_err-share-in-Some-Node-clause-none
returns-in_err-share-in-Some-Node-clause-none c nothing =
    let own = slice_get-child c.self.inside.green.now c.children.result.now c.args.slot c.in-Some-Node.field-0.now c.children.ensures c.in-Some-Node.ensures.lookup.3.0 c.in-Some-Node.ensures.lookup.1 in
    let there : at (branch_tree c.self.inside.green.now) (c.args.slot ∷ []) ≡ Some (element_tree c.in-Some-Node.field-0.now) = rw own in
    let found = node_in-node (element_at c.self.inside.location.now c.self.inside.path.now) (branch_tree c.self.inside.green.now) c.args.slot c.in-Some-Node.child c.self.invariant.there (rw c.in-Some-Node.field-0-is at there) in
    absurd (some_is_not_none (sym found ∙ rw (← c.self.view_is) at nothing))

pub returns-in_ok-share-in-Some-Node-clause-none : goal.returns-in_ok-share-in-Some-Node-clause-none
returns-in_ok-share-in-Some-Node-clause-none c nothing =
    let own = slice_get-child c.self.inside.green.now c.children.result.now c.args.slot c.in-Some-Node.field-0.now c.children.ensures c.in-Some-Node.ensures.lookup.3.0 c.in-Some-Node.ensures.lookup.1 in
    let there : at (branch_tree c.self.inside.green.now) (c.args.slot ∷ []) ≡ Some (element_tree c.in-Some-Node.field-0.now) = rw own in
    let found = node_in-node (element_at c.self.inside.location.now c.self.inside.path.now) (branch_tree c.self.inside.green.now) c.args.slot c.in-Some-Node.child c.self.invariant.there (rw c.in-Some-Node.field-0-is at there) in
    absurd (some_is_not_none (sym found ∙ rw (← c.self.view_is) at nothing))
