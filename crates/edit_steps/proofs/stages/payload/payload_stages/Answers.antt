use Rattle.std.proofs.Common.{◌∷◌, [], length, ap, arith, ◌∙◌}
use Rattle.std.proofs.lemmas.List.{length-map, length-append}
use Rattle.std.proofs.lemmas.Option.{slice_get_within}
use Rattle.edit_change.specs.inner.Fate.{fate}
use Rattle.edit_steps.proofs.FirstStages.{begun-more}
use Rattle.edit_steps.proofs.stages.payload.payload_stages.Goals as goal

pub loop-number-init : goal.loop-number-init
loop-number-init c = record { long = ap length c.in_ok-stages.ensures.items; each = λ n d l at. absurd (omega (arith, l)) }

pub offset_bounds-changes-number : goal.offset_bounds-changes-number
offset_bounds-changes-number c = omega (arith, c.loop-number-test.true)

pub bounds-changes-number : goal.bounds-changes-number
bounds-changes-number c = c.loop-number-test.true

pub offset_bounds-fates-number : goal.offset_bounds-fates-number
offset_bounds-fates-number c = omega (arith, c.loop-number-test.true)

pub bounds-fates-number : goal.bounds-fates-number
bounds-fates-number c =
    let same = ap length c.requires ∙ length-map c.args.changes.now (fate c.args.changes.now) in
    omega (arith, c.loop-number-test.true, same)

pub loop-number-preserved : goal.loop-number-preserved
loop-number-preserved c =
    let so_far = c.loop-number.invariant in
    record {
      long = let pushed = ap length c.in_ok-push.ensures.items in let more = length-append c.loop-number.stages.items (c.in_ok-payload_stage.field-0 ∷ []) in omega (arith, pushed, more, so_far.long);
      each = begun-more c.args.changes.now c.args.fates.now c.loop-number.number c.index-changes-number.result _ c.loop-number.stages.items c.push.new.self.items _ c.requires so_far.long so_far.each c.in_ok-push.ensures.items c.index-changes-number.is c.loop-number-test.true c.in_ok-payload_stage.ensures;
    }

pub returns : goal.returns
returns c =
    let all = c.loop-number.invariant in
    record {
      long = omega (arith, all.long);
      each = λ n d at. all.each n d (omega (arith, slice_get_within c.args.changes.now n d at, c.loop-number-test.false)) at;
    }
