use Rattle.std.proofs.Common.{sym, ◌∙◌}
use Rattle.edit_map.proofs.Children.{child-by-front}
use Rattle.edit_map.proofs.builder.is_child.Goals as goal

pub returns-then-tree : goal.returns-then-tree
returns-then-tree c =
    rw (c.eq.ensures, c.slots-then-tree.ensures) (child-by-front c.args.parent.now c.args.node.now c.in-Some.front.now c.in-Some.field-0-0.now (sym c.tree.ensures ∙ c.if-tree.true ∙ c.tree-2.ensures) (sym c.slots.ensures ∙ c.in-Some.ensures.cases.0))
