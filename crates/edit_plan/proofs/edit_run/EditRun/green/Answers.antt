use Rattle.std.proofs.Common.{subst}
use Rattle.green_tree.specs.Green.{branch_tree}
use Rattle.edit_plan.specs.Run.{ShowsTree}
use Rattle.edit_plan.proofs.RunFacts.{some-way, tree-shown}
use Rattle.edit_plan.proofs.edit_run.EditRun.green.Goals as goal

pub green-requires : goal.green-requires
green-requires c = some-way _ _ c.self.invariant

pub returns : goal.returns
returns c = subst (λ r. ShowsTree r (branch_tree c.green.result.now)) c.self.view_is (tree-shown _ _ c.self.invariant _ c.green.ensures)
