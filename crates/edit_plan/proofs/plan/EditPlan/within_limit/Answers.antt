use Rattle.std.specs.Prelude.{◌≡◌, ◌≤◌, map, min}
use Rattle.std.proofs.Common.{arith}
use Rattle.cst_core.specs.Green.{branch_tree, length_limit}
use Rattle.cst_core.specs.Tree.{text_length}
use Rattle.edit_change.specs.Topmost.{paths_of}
use Rattle.edit_plan.specs.Engine.{annotated_path}
use Rattle.edit_plan.proofs.PromisesOfRuns.{too-long}
use Rattle.edit_plan.proofs.plan.EditPlan.within_limit.Goals as goal

pub returns-then-length-ge-LENGTH_LIMIT-clause-refused : goal.returns-then-length-ge-LENGTH_LIMIT-clause-refused
returns-then-length-ge-LENGTH_LIMIT-clause-refused c =
    let rewritten = c.args.rewritten in
    let capped : c.length.result ≡ min (text_length (branch_tree rewritten.green)) length_limit = c.length.ensures in
    let long : length_limit ≤ text_length (branch_tree rewritten.green) = omega (arith, capped, c.if-length-ge-LENGTH_LIMIT.true) in
    too-long c.args.self.now rewritten.green (paths_of rewritten.changed.items) (map annotated_path rewritten.annotated.items) c.requires long
