use Rattle.std.proofs.Common.{◌∙◌, ap}
use Rattle.script_lines.specs.Line.{Each, IsNumber, words}
use Rattle.script_lines.specs.LineValue.{texts_of}
use Rattle.script_lines.proofs.EachOne.{refused-at, told-more}
use Rattle.script_lines.proofs.Refusing.{err-refuses}
use Rattle.script_lines.proofs.field.Fields.numbers.Goals as goal

pub returns-in_err-number_of-clause-bad : goal.returns-in_err-number_of-clause-bad
returns-in_err-number_of-clause-bad c =
    err-refuses (Each IsNumber (words c.args.self.now.rest.now)) c.from_residual-in_err-number_of.result _ c.from_residual-in_err-number_of.ensures.1 (refused-at IsNumber c.deref-field-items.result.now _ c.loop-field.field-index _ (ap texts_of c.deref-field-items.ensures.value ∙ c.in_ok-fields.ensures) c.loop-field-test.true c.in_err-number_of.ensures.bad)

pub loop-field-preserved : goal.loop-field-preserved
loop-field-preserved c =
    told-more IsNumber c.deref-field-items.result.now c.loop-field.field-index _ c.loop-field.numbers.items c.push.new.self.items c.in_ok-number_of.field-0 c.loop-field-test.true c.in_ok-push.ensures.items c.loop-field.invariant c.in_ok-number_of.ensures.ok
