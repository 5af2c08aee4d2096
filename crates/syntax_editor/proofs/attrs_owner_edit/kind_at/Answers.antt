use Rattle.cst_core.specs.GreenElement.{element_tree}
use Rattle.syntax_editor.proofs.Removed.{kind_there, kind_past}
use Rattle.syntax_editor.proofs.attrs_owner_edit.kind_at.Goals as goal

pub returns-in-Some : goal.returns-in-Some
returns-in-Some c = kind_there element_tree c.args.node.now c.children.result.now c.args.slot c.children.ensures c.in-Some.child.now c.kind.result.0 c.in-Some.ensures.lookup.3.0 c.in-Some.ensures.lookup.1 c.kind.ensures

pub returns-in-None : goal.returns-in-None
returns-in-None c = kind_past element_tree c.args.node.now c.children.result.now c.args.slot c.children.ensures c.in-None.ensures.lookup.3
