use Rattle.std.proofs.Common.{rules}
use Rattle.syntax_editor.proofs.ast_node_edit.AstNodeEdit.dedent.Goals as goal

pub returns-clause-ok : goal.returns-clause-ok
returns-clause-ok g c = search rules

pub returns-clause-accepted : goal.returns-clause-accepted
returns-clause-accepted g c = search rules
