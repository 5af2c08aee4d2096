use Rattle.std.proofs.Common.{ap, sym, ◌∙◌, ◌≡◌, ◌++◌, Some, None}
use Rattle.std.specs.Prelude.{option_map, option_and_then}
use Rattle.cst_core.specs.Element.{element_at}
use Rattle.cst_core.specs.Green.{branch_tree}
use Rattle.cst_core.specs.SyntaxElement.{node_of, syntax_at}
use Rattle.edit_change.specs.Results.{stand_in_path}
use Rattle.edit_plan.proofs.FoundNodes.{as-found, node-found}
use Rattle.edit_plan.proofs.edit.SyntaxEdit.find_element.Goals as goal

pub returns-in_default : goal.returns-in_default
returns-in_default c =
    let e = c.self.inside.new_root in
    let none = rw c.in_default.is at c.in_ok-path.ensures in
    rw (← c.self.view_is) (ap (option_map (element_at e)) (as-found c.args.old.now e (branch_tree c.as_green-root.result.now) c.kind.result.0 c.text_start.result _ c.self.invariant.is_root c.as_green-root.ensures.tree c.kind.ensures.kind c.text_start.ensures none))

pub unreachable-requires : goal.unreachable-requires
unreachable-requires c =
    let e = c.self.inside.new_root in
    let some = rw c.in-Some.is at c.in_ok-path.ensures in
    let is : Some c.in-Some.path.items ≡ stand_in_path c.args.old.now e.root = as-found c.args.old.now e (branch_tree c.as_green-root.result.now) c.kind.result.0 c.text_start.result (Some c.in-Some.path.items) c.self.invariant.is_root c.as_green-root.ensures.tree c.kind.ensures.kind c.text_start.ensures some in
    let none : None ≡ syntax_at e (e.path ++ c.in-Some.path.items) = sym c.in-None.is ∙ c.in_ok-element.ensures.ok ∙ ap (λ q. syntax_at e (e.path ++ q)) c.deref.ensures.value in
    let nowhere = rw (← is) at (node-found c.args.old.now e c.in-Some.path.items None c.self.invariant.is_root is (ap (option_and_then node_of) none)) in
    absurd (cc)

pub returns : goal.returns
returns c =
    let e = c.self.inside.new_root in
    let some = rw c.in-Some.is at c.in_ok-path.ensures in
    let is : Some c.in-Some.path.items ≡ stand_in_path c.args.old.now e.root = as-found c.args.old.now e (branch_tree c.as_green-root.result.now) c.kind.result.0 c.text_start.result (Some c.in-Some.path.items) c.self.invariant.is_root c.as_green-root.ensures.tree c.kind.ensures.kind c.text_start.ensures some in
    let leads : Some c.in-Some-2.element ≡ syntax_at e (e.path ++ c.in-Some.path.items) = sym c.in-Some-2.is ∙ c.in_ok-element.ensures.ok ∙ ap (λ q. syntax_at e (e.path ++ q)) c.deref.ensures.value in
    rw (← c.self.view_is) (node-found c.args.old.now e c.in-Some.path.items c.into_node.result c.self.invariant.is_root is (c.into_node.ensures ∙ ap (option_and_then node_of) leads))
