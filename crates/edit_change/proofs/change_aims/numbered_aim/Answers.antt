use Rattle.std.proofs.Common.{◌∙◌, ap}
use Rattle.edit_change.specs.inner.AimFrom.{aim_from}
use Rattle.edit_change.proofs.Aiming.{own-aim}
use Rattle.edit_change.proofs.change_aims.numbered_aim.Goals as goal

pub returns : goal.returns
returns c =
    c.numbered_aim_from.ensures ∙ ap (λ a. (c.args.number, a)) (ap (λ p. aim_from p c.args.change.now) c.aim_path.ensures ∙ own-aim c.requires.0 c.args.change.now c.requires.1)
