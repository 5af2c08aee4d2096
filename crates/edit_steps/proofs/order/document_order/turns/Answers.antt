use Rattle.std.proofs.Common.{arith, ◌∙◌, ap, sym, map}
use Rattle.std.proofs.lemmas.Grind.{common_steps}
use Rattle.edit_change.proofs.Clashes.{at-index}
use Rattle.edit_steps.specs.inner.Turns.{turn_in}
use Rattle.edit_steps.proofs.Turns.{turns-kept, turns-passed}
use Rattle.edit_steps.proofs.Undropped.{fate-at}
use Rattle.edit_steps.proofs.order.document_order.turns.Goals as goal
use Rattle.edit_steps.proofs.order.document_order.turns.Goals.{then-not-is_dropped+in_ok-turn_of+in_ok-push, else-not-is_dropped}

pub loop-number-preserved : goal.loop-number-preserved
loop-number-preserved c =
    let cs = c.args.changes.now in
    let n = c.loop-number.number in
    let change = c.index-changes-number.result in
    let l = c.loop-number-test.true in
    let is = c.index-changes-number.is in
    let before = c.loop-number.turns.items in
    let told = c.is_dropped.ensures ∙ fate-at cs c.args.fates.now n change _ c.requires (at-index cs n change l is) in
    elim c.if-not-is_dropped.branch [
      | then-not-is_dropped+in_ok-turn_of+in_ok-push w ↦
          turns-kept cs n change l is before c.loop-number.invariant c.if-not-is_dropped.turns.items w.in_ok-turn_of.field-0 (sym told ∙ w.if-not-is_dropped.true) (ap (λ v. v.items) w.turns-is ∙ w.in_ok-push.ensures.items) w.in_ok-turn_of.ensures
      | else-not-is_dropped w ↦
          ap (λ v. map turn_in v.items) w.turns-is ∙ turns-passed cs n change l is before c.loop-number.invariant (sym told ∙ w.if-not-is_dropped.false)
    ]

pub returns : goal.returns
returns c = grind (arith, common_steps)
