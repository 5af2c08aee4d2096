use Rattle.std.proofs.Common.{◌≡◌, ◌∙◌, Some, rules}
use Rattle.cst_core.specs.Path.{parent_path}
use Rattle.cst_core.specs.Tree.{at}
use Rattle.cst_core.specs.Green.{branch_tree}
use Rattle.cst_core.specs.SyntaxElement.{element_of}
use Rattle.edit_change.proofs.Slots.{children_there}
use Rattle.edit_change.proofs.change_text.siblings.Goals as goal

pub returns-in-Some-Node : goal.returns-in-Some-Node
returns-in-Some-Node c =
    let e = element_of c.args.element.now in
    let there : Some (branch_tree c.in-Some-Node.node.now) ≡ at e.root (parent_path e.path) = search rules in
    c.children.ensures ∙ children_there c.in-Some-Node.node.now e.root (parent_path e.path) there
