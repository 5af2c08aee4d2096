use Rattle.std.proofs.Common.{◌≡◌, ◌-◌, [], ◌∷◌, arith, sym, ap, ◌∙◌}
use Rattle.green_tree.specs.Path.{last_item}
use Rattle.green_tree.specs.Order.{tokens_before}
use Rattle.green_tree.specs.Green.{branch_tree}
use Rattle.green_tree.specs.GreenElement.{element_tree}
use Rattle.green_tree.proofs.FoundTokens.{child_at, tokens_before-none}
use Rattle.green_tree.proofs.Turns.{last_leads, no_last_yet}
use Rattle.green_tree.proofs.tokens.last_slot.Goals as goal

pub returns-then-has_token-clause-some : goal.returns-then-has_token-clause-some
returns-then-has_token-clause-some c =
    let child = child_at c.args.node.now c.children-children.result.now (c.loop-slot.slot - 1) c.index-children-slot.result c.children-children.ensures (omega arith) c.index-children-slot.is in
    last_leads c.args.node.now c.args.end c.loop-slot.slot (c.loop-slot.slot - 1) (element_tree c.index-children-slot.result) child (omega arith) c.loop-slot.invariant.none (sym c.has_token.ensures ∙ c.if-has_token.true)

pub loop-slot-preserved : goal.loop-slot-preserved
loop-slot-preserved c =
    let child = child_at c.args.node.now c.children-children.result.now (c.loop-slot.slot - 1) c.index-children-slot.result c.children-children.ensures (omega arith) c.index-children-slot.is in
    record {
      within = omega arith;
      none = no_last_yet c.args.node.now c.args.end c.loop-slot.slot (c.loop-slot.slot - 1) (element_tree c.index-children-slot.result) child (omega arith) c.loop-slot.invariant.none (sym c.has_token.ensures ∙ c.if-has_token.false);
    }

pub returns-clause-none : goal.returns-clause-none
returns-clause-none c =
    let first : c.loop-slot.slot ≡ 0 = omega arith in
    ap last_item (c.loop-slot.invariant.none ∙ ap (λ i. tokens_before (branch_tree c.args.node.now) (i ∷ [])) first ∙ tokens_before-none c.args.node.now)
