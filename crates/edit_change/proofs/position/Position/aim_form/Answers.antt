use Rattle.std.proofs.Common.{rules}
use Rattle.edit_change.proofs.position.Position.aim_form.Goals as goal

pub returns-in-FirstChild : goal.returns-in-FirstChild
returns-in-FirstChild c = search rules

pub returns-in-After : goal.returns-in-After
returns-in-After c = search rules
