use Rattle.std.proofs.Common.{rules}
use Rattle.syntax_editor.proofs.editor.SyntaxEditor.plan.Goals as goal

pub build-requires-clause-fit : goal.build-requires-clause-fit
build-requires-clause-fit c = search rules

pub returns-clause-ok : goal.returns-clause-ok
returns-clause-ok c = search rules

pub returns-clause-refused : goal.returns-clause-refused
returns-clause-refused c = search rules
