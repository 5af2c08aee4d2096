use Rattle.std.proofs.Common.{◌∙◌}
use Rattle.edit_change.proofs.MovedAims.{owner-at-number, any-owner-there}
use Rattle.edit_change.proofs.staged.owner_of.Goals as goal

pub returns-clause-owner : goal.returns-clause-owner
returns-clause-owner c = c.owner.ensures ∙ owner-at-number c.args.changes.now c.args.fates.now c.args.number _ c.requires.fates c.requires.there

pub returns-clause-there : goal.returns-clause-there
returns-clause-there c =
    any-owner-there c.args.changes.now c.args.number c.owner.result (c.owner.ensures ∙ owner-at-number c.args.changes.now c.args.fates.now c.args.number _ c.requires.fates c.requires.there)
