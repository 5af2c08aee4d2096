use Rattle.std.proofs.Common.{rules}
use Rattle.script_lines.specs.Line.{IsRef, words}
use Rattle.script_lines.specs.inner.Commands.{BeginsPlace}
use Rattle.script_lines.specs.inner.Taken.{Begins}
use Rattle.script_lines.proofs.Refusing.{beside-ref, err-also}
use Rattle.script_lines.proofs.line.read_position.Goals as goal

pub returns-in_err-beside-clause-bad : goal.returns-in_err-beside-clause-bad
returns-in_err-beside-clause-bad c =
    err-also (Begins IsRef (words c.field.new.self.rest.now)) (BeginsPlace (words c.args.fields.now.rest.now)) c.from_residual-in_err-beside.result _ c.from_residual-in_err-beside.ensures.1 (beside-ref _ _ c.in_ok-word.word.text.now c.in_ok-word.ensures.ok) c.in_err-beside.ensures.bad

pub returns-in-first-clause-ok : goal.returns-in-first-clause-ok
returns-in-first-clause-ok c = search rules
