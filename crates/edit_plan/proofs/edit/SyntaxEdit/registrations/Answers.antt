use Rattle.std.proofs.Common.{◌≡◌, [], subst}
use Rattle.edit_plan.specs.Plan.{Edit}
use Rattle.edit_plan.proofs.edit.SyntaxEdit.registrations.Goals as goal

pub returns-clause-is_root : goal.returns-clause-is_root
returns-clause-is_root c = subst (λ (e : Edit). e.new_root.path ≡ []) c.self.view_is c.self.invariant.is_root
