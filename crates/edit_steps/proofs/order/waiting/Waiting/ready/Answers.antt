use Rattle.std.proofs.Common.{◌≡◌, ◌∙◌, sym}
use Rattle.edit_steps.specs.declared.order.waiting.Standing.TheVariants.{Dropped, Undone, Done}
use Rattle.edit_steps.proofs.Readiness.{standing-read, ready-not, ready-undone}
use Rattle.edit_steps.proofs.order.waiting.Waiting.ready.Goals as goal

pub returns-in-Undone : goal.returns-in-Undone
returns-in-Undone c = λ cs done change is at.
    let n = c.args.number in
    ready-undone cs done c.args.self.now is n change at c.is_free.result (standing-read cs done c.args.self.now is n change at c.index.result.now c.index.ensures ∙ c.in-Undone.is) c.is_free.ensures

pub returns-in-Dropped : goal.returns-in-Dropped
returns-in-Dropped c = λ cs done change is at.
    let n = c.args.number in
    ready-not cs done c.args.self.now is n change at Dropped (sym (standing-read cs done c.args.self.now is n change at c.index.result.now c.index.ensures ∙ c.in-Dropped.is)) differ
  where
    differ : Dropped ≡ Undone → ⊥
    differ x = cc

pub returns-in-Done : goal.returns-in-Done
returns-in-Done c = λ cs done change is at.
    let n = c.args.number in
    ready-not cs done c.args.self.now is n change at Done (sym (standing-read cs done c.args.self.now is n change at c.index.result.now c.index.ensures ∙ c.in-Done.is)) differ
  where
    differ : Done ≡ Undone → ⊥
    differ x = cc
