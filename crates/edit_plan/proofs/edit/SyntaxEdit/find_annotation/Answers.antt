use Rattle.std.proofs.Common.{◌∙◌, ap}
use Rattle.edit_plan.specs.Plan.{Edit, found_for}
use Rattle.edit_plan.proofs.edit.SyntaxEdit.find_annotation.Goals as goal

pub returns : goal.returns
returns c = c.found_for.ensures ∙ ap (λ (e : Edit). found_for e.annotated c.args.annotation) c.self.view_is
