use Rattle.std.proofs.Common.{◌≡◌, ◌∷◌, Some, length, append_assoc, ap, arith}
use Rattle.std.specs.Prelude.{flat_map, reverse}
use Rattle.green_tree.specs.Tree.{at, forest}
use Rattle.green_tree.specs.Green.{branch_tree}
use Rattle.cst_core.specs.SyntaxElement.{child_nodes, descendants_of}
use Rattle.cst_core.proofs.Descendants.{descendants-child_nodes}
use Rattle.cst_core.proofs.Walks.{next_listed}
use Rattle.cst_core.proofs.node.SyntaxNode.descendants.Goals as goal

pub walk-preserved : goal.walk-preserved
walk-preserved c =
    let there : at c.in-Some.node.root c.in-Some.node.path ≡ Some (branch_tree c.node.inside.green) = rw (← c.node.view_is) c.node.invariant.there in
    let parts = descendants-child_nodes c.in-Some.node c.node.inside.green.kind (forest c.node.inside.green.children) there in
    let next : flat_map descendants_of (reverse c.walk.waiting.items) ≡ c.in-Some.node ∷ flat_map descendants_of (reverse c.push_nodes.new.list.items) =
    rw (c.in-Some.ensures.items, c.in_ok-push_nodes.ensures, c.lent.ensures) (next_listed descendants_of c.in-Some.node (child_nodes c.in-Some.node) c.in-Some.node c.pop.new.self.items parts) in
    rw (c.in_ok-push-2.ensures.items, append_assoc, ← next) c.walk.invariant

pub walk-smaller : goal.walk-smaller
walk-smaller c =
    let there : at c.in-Some.node.root c.in-Some.node.path ≡ Some (branch_tree c.node.inside.green) = rw (← c.node.view_is) c.node.invariant.there in
    let parts = descendants-child_nodes c.in-Some.node c.node.inside.green.kind (forest c.node.inside.green.children) there in
    let next : flat_map descendants_of (reverse c.walk.waiting.items) ≡ c.in-Some.node ∷ flat_map descendants_of (reverse c.push_nodes.new.list.items) =
    rw (c.in-Some.ensures.items, c.in_ok-push_nodes.ensures, c.lent.ensures) (next_listed descendants_of c.in-Some.node (child_nodes c.in-Some.node) c.in-Some.node c.pop.new.self.items parts) in
    omega (arith, ap length next)
