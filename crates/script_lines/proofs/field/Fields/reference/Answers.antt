use Rattle.script_lines.specs.Line.{IsRef}
use Rattle.script_lines.proofs.Refusing.{refuses-also, no-other}
use Rattle.script_lines.proofs.field.Fields.reference.Goals as goal

pub returns-clause-bad : goal.returns-clause-bad
returns-clause-bad c = refuses-also (IsRef c.in_ok-field.field.text.now) _ c.read.result (λ r begun. (r, no-other IsRef _ _ _ c.in_ok-field.field.text.now r c.in_ok-field.ensures.ok begun.1)) c.read.ensures.bad
