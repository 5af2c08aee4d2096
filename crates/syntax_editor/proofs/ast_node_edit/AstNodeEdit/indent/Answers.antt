use Rattle.std.proofs.Common.{rules}
use Rattle.syntax_editor.proofs.ast_node_edit.AstNodeEdit.indent.Goals as goal

pub returns-clause-drawn : goal.returns-clause-drawn
returns-clause-drawn g c = search rules
