use Rattle.std.proofs.Common.{◌∙◌}
use Rattle.std.proofs.lemmas.Bool.{cond-true, cond-false}
use Rattle.syntax_editor.proofs.Absorbed.{recorded_settled}
use Rattle.syntax_editor.proofs.laws.first_replacement_absorbs.Goals as goal

pub returns-clause-deleted : goal.returns-clause-deleted
returns-clause-deleted c e calls deleted = recorded_settled e calls ∙ cond-true _ _ _ deleted

pub returns-clause-replaced : goal.returns-clause-replaced
returns-clause-replaced c e calls kept = recorded_settled e calls ∙ cond-false _ _ _ kept
