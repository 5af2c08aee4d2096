use Rattle.std.proofs.Common.{rules}
use Rattle.text_edit.proofs.text_edits.follows.Goals as goal

pub returns-clause-ok : goal.returns-clause-ok
returns-clause-ok c = search rules

pub returns-then-edit-start-clause-refused : goal.returns-then-edit-start-clause-refused
returns-then-edit-start-clause-refused c = search rules

pub returns-then-edit-end-clause-refused : goal.returns-then-edit-end-clause-refused
returns-then-edit-end-clause-refused c = search rules
