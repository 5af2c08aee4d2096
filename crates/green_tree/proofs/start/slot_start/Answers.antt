use Rattle.std.proofs.Common.{arith, [], ◌∷◌}
use Rattle.std.proofs.lemmas.Grind.{common_steps}
use Rattle.green_tree.specs.Green.{branch_tree}
use Rattle.green_tree.proofs.Starts.{start-le, start-slot}
use Rattle.green_tree.proofs.start.slot_start.Goals as goal

pub loop-child-init : goal.loop-child-init
loop-child-init c =
    let same = start-slot c.args.node.now c.children.result.now c.args.slot c.children.ensures in
    let within = start-le (branch_tree c.args.node.now) (c.args.slot ∷ []) in
    record { rest = omega arith; fits = omega arith }

pub returns : goal.returns
returns c =
    let same = start-slot c.args.node.now c.children.result.now c.args.slot c.children.ensures in
    grind (arith, common_steps, same)
