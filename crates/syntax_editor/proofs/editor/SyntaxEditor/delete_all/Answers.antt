use Rattle.std.proofs.Common.{rules}
use Rattle.syntax_editor.proofs.editor.SyntaxEditor.delete_all.Goals as goal

pub returns-clause-recorded : goal.returns-clause-recorded
returns-clause-recorded g c = search rules

pub returns-clause-accepted : goal.returns-clause-accepted
returns-clause-accepted g c = search rules

pub returns-clause-refused : goal.returns-clause-refused
returns-clause-refused g c = search rules

pub returns-clause-memory_last : goal.returns-clause-memory_last
returns-clause-memory_last g c = search rules
