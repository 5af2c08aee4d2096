use Rattle.std.proofs.Common.{ℕ, List, ◌+◌, ◌*◌, arith}
use denote.Bor.{Bor}
use Rattle.green_tree.specs.Tree.{forest}
use Rattle.green_tree.specs.GreenElement.{element_trees}
use Rattle.green_tree.specs.inner.TreeSize.{forest_size}
use Rattle.green_tree.specs.declared.green.GreenElement.{GreenElement}
use Rattle.cst_core.proofs.Walks.{sum_by-last, sizes_first, one_for, two_for}
use Rattle.cst_core.proofs.display.write_below.Goals as goal

abbrev steps : Bor (List GreenElement) → ℕ
steps es = 2 * forest_size (forest (element_trees es.now)) + 1

pub walk-smaller-in_default-children : goal.walk-smaller-in_default-children
walk-smaller-in_default-children g c = rw c.in-Some.ensures.items (omega (arith, sum_by-last steps c.pop.new.self.items c.in-Some.children))

pub walk-smaller-in-Continue-branch-5 : goal.walk-smaller-in-Continue-branch-5
walk-smaller-in-Continue-branch-5 g c =
    let first = sizes_first c.in-Some.children.now c.child-item.result c.in-len1-up.len_at_least c.child-item.is in
    let node = rw (c.in-Node.is, ← c.children-in-Node.ensures) at first in
    two_for steps _ _ _ _ _ _ _ c.in-Some.ensures.items c.in_ok-push_level-2.ensures c.in_ok-push_level-in-Node.ensures (omega (arith, node))

pub walk-smaller : goal.walk-smaller
walk-smaller g c =
    let first = sizes_first c.in-Some.children.now c.child-item.result c.in-len1-up.len_at_least c.child-item.is in
    let token = rw (c.in-Token.is) at first in
    one_for steps _ _ _ _ _ c.in-Some.ensures.items c.in_ok-push_level-2.ensures (omega (arith, token))
