use Rattle.std.proofs.Common.{sym, ◌∙◌}
use Rattle.green_tree.specs.Green.{branch_tree}
use Rattle.green_tree.specs.GreenElementRef.{ref_tree}
use Rattle.cst_core.proofs.Children.{at_below, below_none, below_some}
use Rattle.cst_core.proofs.node.SyntaxNode.element_at.Goals as goal

pub returns-in_default-clause-ok : goal.returns-in_default-clause-ok
returns-in_default-clause-ok c =
    below_none c.args.self.now (branch_tree c.self.inside.green) c.args.path.now (rw (← c.self.view_is) c.self.invariant.there) c.in_default.ensures

pub moved_to-requires : goal.moved_to-requires
moved_to-requires c =
    rw (c.in_ok-slots.ensures, c.slots.ensures, ← c.self.view_is)
    (at_below c.self.inside.location (branch_tree c.self.inside.green) c.args.path.now c.self.invariant.there ∙ sym c.in-Some.ensures)

pub returns-in_err-slots-clause-none : goal.returns-in_err-slots-clause-none
returns-in_err-slots-clause-none c nothing =
    absurd (below_some c.args.self.now (branch_tree c.self.inside.green) (ref_tree c.in-Some.green) c.args.path.now (rw (← c.self.view_is) c.self.invariant.there) (sym c.in-Some.ensures) nothing)

pub returns-in_err-moved_to-clause-none : goal.returns-in_err-moved_to-clause-none
returns-in_err-moved_to-clause-none c nothing =
    absurd (below_some c.args.self.now (branch_tree c.self.inside.green) (ref_tree c.in-Some.green) c.args.path.now (rw (← c.self.view_is) c.self.invariant.there) (sym c.in-Some.ensures) nothing)
