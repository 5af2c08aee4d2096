use Rattle.std.proofs.Common.{◌-◌, ap, ap₂, ◌∙◌}
use Rattle.edit_change.specs.Aim.{Over}
use Rattle.edit_change.specs.inner.Aimed.{siblings_from}
use Rattle.edit_change.proofs.change.Change.aim_form.Goals as goal

pub returns-in-ReplaceAll : goal.returns-in-ReplaceAll
returns-in-ReplaceAll c = λ p.
    rw c.in-ReplaceAll.is (ap (λ n. Over (siblings_from p n)) (c.saturating_sub.ensures ∙ ap₂ (λ m n. m - n) c.slot_after.ensures c.index.ensures))
