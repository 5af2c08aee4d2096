use Rattle.std.proofs.Common.{◌+◌, [], ◌∷◌, get_or, drop, arith, rules, ap, ◌∙◌}
use Rattle.std.proofs.lemmas.List.{length-map, drop_all}
use Rattle.green_tree.specs.Path.{last_item}
use Rattle.green_tree.specs.Green.{branch_tree}
use Rattle.green_tree.specs.GreenElement.{element_tree}
use Rattle.green_tree.specs.inner.Neighbors.{last_token, last_token_before}
use Rattle.green_tree.specs.declared.green.GreenElement.TheVariants.{Node, Token}
use Rattle.green_tree.proofs.Slots.{step_down}
use Rattle.green_tree.proofs.FoundTokens.{child_at}
use Rattle.green_tree.proofs.TokenPaths.{tokens_before-top}
use Rattle.green_tree.proofs.Turns.{IsTurnedInto, leads_within, turns_start, new_turn, no_turn, turned_on, turned_last, before_splits, none_before_token}
use Rattle.green_tree.proofs.tokens.turn_before.Goals as goal
use Rattle.green_tree.proofs.tokens.turn_before.Goals.{in-Some, in_default}

pub loop-depth-init : goal.loop-depth-init
loop-depth-init c = turns_start last_token last_token_before (branch_tree c.args.root.now) c.args.path.now c.requires

pub last_slot-requires : goal.last_slot-requires
last_slot-requires c =
    let inside = (step_down c.loop-depth.node.now c.children-children.result.now c.args.path.now c.loop-depth.depth c.children-children.ensures c.loop-depth-test.true c.loop-depth.invariant.there).inside in
    rw (← c.children-children.ensures, length-map) (omega arith)

pub offset_bounds-children-slot : goal.offset_bounds-children-slot
offset_bounds-children-slot c =
    let inside = leads_within last_token c.loop-depth.node.now c.children-children.result.now _ c.in-Some.slot c.children-children.ensures c.in-Some.ensures.some in
    search (arith, rules)

pub bounds-children-slot : goal.bounds-children-slot
bounds-children-slot c = leads_within last_token c.loop-depth.node.now c.children-children.result.now _ c.in-Some.slot c.children-children.ensures c.in-Some.ensures.some

pub offset_bounds-children-at : goal.offset_bounds-children-at
offset_bounds-children-at c =
    let inside = (step_down c.loop-depth.node.now c.children-children.result.now c.args.path.now c.loop-depth.depth c.children-children.ensures c.loop-depth-test.true c.loop-depth.invariant.there).inside in
    search (arith, rules)

pub bounds-children-at : goal.bounds-children-at
bounds-children-at c = (step_down c.loop-depth.node.now c.children-children.result.now c.args.path.now c.loop-depth.depth c.children-children.ensures c.loop-depth-test.true c.loop-depth.invariant.there).inside

pub returns-in-Token-clause-way : goal.returns-in-Token-clause-way
returns-in-Token-clause-way c =
    let way = step_down c.loop-depth.node.now c.children-children.result.now c.args.path.now c.loop-depth.depth c.children-children.ensures c.loop-depth-test.true c.loop-depth.invariant.there in
    let into : IsTurnedInto last_token (branch_tree c.args.root.now) c.args.path.now c.loop-depth.depth (last_token_before (branch_tree c.loop-depth.node.now) (get_or c.args.path.now c.loop-depth.depth 0 ∷ [])) c.loop-depth.turn c.match-last_slot.turn = elim c.match-last_slot.branch [
      | in-Some w ↦
          let inside = leads_within last_token c.loop-depth.node.now c.children-children.result.now _ w.in-Some.slot c.children-children.ensures w.in-Some.ensures.some in
          let beside = child_at c.loop-depth.node.now c.children-children.result.now w.in-Some.slot w.index-children-slot.result c.children-children.ensures inside w.index-children-slot.is in
          rw w.turn-is (new_turn c.loop-depth.invariant (omega arith) w.in-Some.ensures.some beside w.as_ref-child.ensures)
      | in_default w ↦ rw w.turn-is (no_turn (last_token_before (branch_tree c.loop-depth.node.now) (get_or c.args.path.now c.loop-depth.depth 0 ∷ [])) c.loop-depth.invariant w.in_default.ensures.none)
    ] in
    let there = rw c.in-Token.is at (way.below c.index-children-at.result c.index-children-at.is) in
    let child = child_at c.loop-depth.node.now c.children-children.result.now (get_or c.args.path.now c.loop-depth.depth 0) (Token c.in-Token.field-0) c.children-children.ensures way.inside (rw c.in-Token.is at c.index-children-at.is) in
    let turned = turned_on c.loop-depth-test.true c.loop-depth.invariant into child (before_splits c.loop-depth.node.now (get_or c.args.path.now c.loop-depth.depth 0) (element_tree (Token c.in-Token.field-0)) (drop (c.loop-depth.depth + 1) c.args.path.now) child) there in
    turned_last turned (none_before_token c.in-Token.field-0 (drop (c.loop-depth.depth + 1) c.args.path.now) there)

pub returns-in-Token-clause-turn : goal.returns-in-Token-clause-turn
returns-in-Token-clause-turn c =
    let into : IsTurnedInto last_token (branch_tree c.args.root.now) c.args.path.now c.loop-depth.depth (last_token_before (branch_tree c.loop-depth.node.now) (get_or c.args.path.now c.loop-depth.depth 0 ∷ [])) c.loop-depth.turn c.match-last_slot.turn = elim c.match-last_slot.branch [
      | in-Some w ↦
          let inside = leads_within last_token c.loop-depth.node.now c.children-children.result.now _ w.in-Some.slot c.children-children.ensures w.in-Some.ensures.some in
          let beside = child_at c.loop-depth.node.now c.children-children.result.now w.in-Some.slot w.index-children-slot.result c.children-children.ensures inside w.index-children-slot.is in
          rw w.turn-is (new_turn c.loop-depth.invariant (omega arith) w.in-Some.ensures.some beside w.as_ref-child.ensures)
      | in_default w ↦ rw w.turn-is (no_turn (last_token_before (branch_tree c.loop-depth.node.now) (get_or c.args.path.now c.loop-depth.depth 0 ∷ [])) c.loop-depth.invariant w.in_default.ensures.none)
    ] in
    into.turn

pub loop-depth-preserved : goal.loop-depth-preserved
loop-depth-preserved c =
    let way = step_down c.loop-depth.node.now c.children-children.result.now c.args.path.now c.loop-depth.depth c.children-children.ensures c.loop-depth-test.true c.loop-depth.invariant.there in
    let into : IsTurnedInto last_token (branch_tree c.args.root.now) c.args.path.now c.loop-depth.depth (last_token_before (branch_tree c.loop-depth.node.now) (get_or c.args.path.now c.loop-depth.depth 0 ∷ [])) c.loop-depth.turn c.match-last_slot.turn = elim c.match-last_slot.branch [
      | in-Some w ↦
          let inside = leads_within last_token c.loop-depth.node.now c.children-children.result.now _ w.in-Some.slot c.children-children.ensures w.in-Some.ensures.some in
          let beside = child_at c.loop-depth.node.now c.children-children.result.now w.in-Some.slot w.index-children-slot.result c.children-children.ensures inside w.index-children-slot.is in
          rw w.turn-is (new_turn c.loop-depth.invariant (omega arith) w.in-Some.ensures.some beside w.as_ref-child.ensures)
      | in_default w ↦ rw w.turn-is (no_turn (last_token_before (branch_tree c.loop-depth.node.now) (get_or c.args.path.now c.loop-depth.depth 0 ∷ [])) c.loop-depth.invariant w.in_default.ensures.none)
    ] in
    let there = rw c.in-Node.is at (way.below c.index-children-at.result c.index-children-at.is) in
    let child = child_at c.loop-depth.node.now c.children-children.result.now (get_or c.args.path.now c.loop-depth.depth 0) (Node c.in-Node.below) c.children-children.ensures way.inside (rw c.in-Node.is at c.index-children-at.is) in
    turned_on c.loop-depth-test.true c.loop-depth.invariant into child (before_splits c.loop-depth.node.now (get_or c.args.path.now c.loop-depth.depth 0) (element_tree (Node c.in-Node.below)) (drop (c.loop-depth.depth + 1) c.args.path.now) child) there

pub returns-clause-way : goal.returns-clause-way
returns-clause-way c =
    let top = ap (λ p. last_token_before (branch_tree c.loop-depth.node.now) p) (drop_all c.loop-depth.depth c.args.path.now c.loop-depth-test.false) ∙ ap last_item (tokens_before-top (branch_tree c.loop-depth.node.now)) in
    turned_last c.loop-depth.invariant top
