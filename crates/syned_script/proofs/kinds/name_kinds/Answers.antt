use Rattle.std.proofs.Common.{IfErr, arith}
use Rattle.script_lines.specs.LineValue.{texts_of}
use Rattle.syned_script.specs.State.{AreFree}
use Rattle.syned_script.specs.inner.Stops.{StopsFor}
use Rattle.syned_script.proofs.Stopping.{by-err}
use Rattle.syned_script.proofs.KindsNamed.{all-left, one-named, all-named, not-free, stops-also}
use Rattle.syned_script.proofs.kinds.name_kinds.Goals as goal

pub loop-field-init : goal.loop-field-init
loop-field-init c = all-left c.args.names.now (texts_of c.args.fields.now)

pub loop-field-preserved : goal.loop-field-preserved
loop-field-preserved c =
    one-named c.args.names.now c.loop-field.names c.name_kind.new.names c.args.fields.now c.loop-field.field-index _ c.loop-field-test.true c.loop-field.invariant c.in_ok-name_kind.ensures.free c.in_ok-name_kind.ensures.named

pub returns-in_err-name_kind-clause-stops : goal.returns-in_err-name_kind-clause-stops
returns-in_err-name_kind-clause-stops c =
    let given = c.args.names.now in
    let error = c.in_err-name_kind.field-0.0 in
    by-err (λ r. IfErr r (StopsFor (AreFree given (texts_of c.args.fields.now) → ⊥) (λ r. ⊥))) c.from_residual.result error c.from_residual.ensures.1
    (stops-also _ _ error (not-free given c.loop-field.names c.args.fields.now c.loop-field.field-index _ c.loop-field-test.true c.loop-field.invariant) c.in_err-name_kind.ensures.stops)

pub returns-clause-named : goal.returns-clause-named
returns-clause-named c = (all-named c.args.names.now c.loop-field.names c.args.fields.now c.loop-field.field-index (omega (arith, c.loop-field-test.false)) c.loop-field.invariant).0

pub returns-clause-free : goal.returns-clause-free
returns-clause-free c = (all-named c.args.names.now c.loop-field.names c.args.fields.now c.loop-field.field-index (omega (arith, c.loop-field-test.false)) c.loop-field.invariant).1
