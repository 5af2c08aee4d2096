use Rattle.std.proofs.Common.{sym, ap, ◌∙◌}
use Rattle.green_tree.specs.Path.{first_item}
use Rattle.green_tree.specs.GreenElement.{element_tree}
use Rattle.green_tree.proofs.FoundTokens.{child_at, tokens_from-none}
use Rattle.green_tree.proofs.Turns.{first_leads, no_first_yet}
use Rattle.green_tree.proofs.tokens.first_slot.Goals as goal

pub returns-then-has_token-clause-some : goal.returns-then-has_token-clause-some
returns-then-has_token-clause-some c =
    let child = child_at c.args.node.now c.children-children.result.now c.loop-slot.slot c.index-children-slot.result c.children-children.ensures c.loop-slot-test.true c.index-children-slot.is in
    first_leads c.args.node.now c.args.start c.loop-slot.slot (element_tree c.index-children-slot.result) child c.loop-slot.invariant (sym c.has_token.ensures ∙ c.if-has_token.true)

pub loop-slot-preserved : goal.loop-slot-preserved
loop-slot-preserved c =
    let child = child_at c.args.node.now c.children-children.result.now c.loop-slot.slot c.index-children-slot.result c.children-children.ensures c.loop-slot-test.true c.index-children-slot.is in
    no_first_yet c.args.node.now c.args.start c.loop-slot.slot (element_tree c.index-children-slot.result) child c.loop-slot.invariant (sym c.has_token.ensures ∙ c.if-has_token.false)

pub returns-clause-none : goal.returns-clause-none
returns-clause-none c =
    ap first_item (c.loop-slot.invariant ∙ tokens_from-none c.args.node.now c.children-children.result.now c.loop-slot.slot c.children-children.ensures c.loop-slot-test.false)
