use Rattle.std.proofs.Common.{◌∙◌, ap}
use Rattle.std.specs.List.{list_all}
use Rattle.edit_steps.specs.inner.Waits.{is_settled}
use Rattle.edit_steps.proofs.Completeness.{complete-settled}
use Rattle.edit_steps.proofs.order.waiting.Waiting.is_complete.Goals as goal

pub returns : goal.returns
returns c =
    λ cs done is. c.all_are_settled.ensures ∙ ap (list_all is_settled) c.deref.ensures.value ∙ complete-settled cs done c.args.self.now is
