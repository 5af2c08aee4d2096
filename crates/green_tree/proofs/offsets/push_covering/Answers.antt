use Rattle.std.proofs.Common.{arith}
use Rattle.green_tree.specs.Tree.{forest}
use Rattle.green_tree.specs.Green.{branch_tree}
use Rattle.green_tree.proofs.Slots.{size_in}
use Rattle.green_tree.proofs.offsets.push_covering.Goals as goal

pub loop-child-smaller : goal.loop-child-smaller
loop-child-smaller c =
    let there = rw c.in-Node.is at c.in-Some.ensures.some.there in
    omega (arith, size_in (forest c.loop-child.current.now.children) c.in-Some.child.slot (branch_tree c.in-Node.below) there)
