use Rattle.std.proofs.Common.{◌∷◌, [], map, refl, ◌∙◌, ap}
use Rattle.std.proofs.lemmas.List.{map-append}
use Rattle.script_lines.specs.Line.{Each, IsRef}
use Rattle.script_lines.specs.LineValue.{ref_of, refs_of, texts_of}
use Rattle.script_lines.proofs.EachOne.{some-at, told-more}
use Rattle.script_lines.proofs.Refusing.{err-also}
use Rattle.script_lines.proofs.field.references_in.Goals as goal

pub returns-in_err-read-clause-bad : goal.returns-in_err-read-clause-bad
returns-in_err-read-clause-bad c =
    err-also _ (Each IsRef (texts_of c.args.fields.now)) c.from_residual.result c.in_err-read.field-0.0 c.from_residual.ensures.1 (some-at IsRef c.args.fields.now _ c.loop-field.field-index _ refl c.loop-field-test.true) c.in_err-read.ensures.bad

pub loop-field-preserved : goal.loop-field-preserved
loop-field-preserved c =
    let pushed = ap (map ref_of) c.in_ok-push.ensures.items ∙ map-append ref_of c.loop-field.references.items (c.in_ok-read.field-0 ∷ []) in
    told-more IsRef c.args.fields.now c.loop-field.field-index _ (refs_of c.loop-field.references) (refs_of c.push.new.self) (ref_of c.in_ok-read.field-0) c.loop-field-test.true pushed c.loop-field.invariant c.in_ok-read.ensures.ok
