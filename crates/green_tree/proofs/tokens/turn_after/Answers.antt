use Rattle.std.proofs.Common.{◌≡◌, ◌+◌, [], ◌∷◌, length, get_or, drop, arith, rules, ap, ◌∙◌}
use Rattle.std.proofs.lemmas.List.{drop_all}
use Rattle.green_tree.specs.Path.{first_item}
use Rattle.green_tree.specs.Green.{branch_tree}
use Rattle.green_tree.specs.GreenElement.{element_tree}
use Rattle.green_tree.specs.inner.FoundToken.{first_from}
use Rattle.green_tree.specs.inner.Neighbors.{first_token, first_token_after}
use Rattle.green_tree.specs.declared.green.GreenElement.TheVariants.{Node, Token}
use Rattle.green_tree.proofs.Slots.{step_down}
use Rattle.green_tree.proofs.FoundTokens.{child_at, tokens_after-all}
use Rattle.green_tree.proofs.Turns.{IsTurnedInto, leads_within, turns_start, new_turn, no_turn, turned_on, turned_last, turned_end, after_splits, none_after_token}
use Rattle.green_tree.proofs.tokens.turn_after.Goals as goal
use Rattle.green_tree.proofs.tokens.turn_after.Goals.{in-Some, in_default}

pub loop-depth-init : goal.loop-depth-init
loop-depth-init c = turns_start first_token first_token_after (branch_tree c.args.root.now) c.args.path.now c.requires

pub overflow_add-at : goal.overflow_add-at
overflow_add-at c =
    let inside = (step_down c.loop-depth.node.now c.children-children.result.now c.args.path.now c.loop-depth.depth c.children-children.ensures c.loop-depth-test.true c.loop-depth.invariant.there).inside in
    search (arith, rules)

pub offset_bounds-children-slot : goal.offset_bounds-children-slot
offset_bounds-children-slot c =
    let inside = leads_within first_token c.loop-depth.node.now c.children-children.result.now _ c.in-Some.slot c.children-children.ensures c.in-Some.ensures.some in
    search (arith, rules)

pub bounds-children-slot : goal.bounds-children-slot
bounds-children-slot c = leads_within first_token c.loop-depth.node.now c.children-children.result.now _ c.in-Some.slot c.children-children.ensures c.in-Some.ensures.some

pub offset_bounds-children-at : goal.offset_bounds-children-at
offset_bounds-children-at c =
    let inside = (step_down c.loop-depth.node.now c.children-children.result.now c.args.path.now c.loop-depth.depth c.children-children.ensures c.loop-depth-test.true c.loop-depth.invariant.there).inside in
    search (arith, rules)

pub bounds-children-at : goal.bounds-children-at
bounds-children-at c = (step_down c.loop-depth.node.now c.children-children.result.now c.args.path.now c.loop-depth.depth c.children-children.ensures c.loop-depth-test.true c.loop-depth.invariant.there).inside

pub returns-in-Token-clause-way : goal.returns-in-Token-clause-way
returns-in-Token-clause-way c =
    let way = step_down c.loop-depth.node.now c.children-children.result.now c.args.path.now c.loop-depth.depth c.children-children.ensures c.loop-depth-test.true c.loop-depth.invariant.there in
    let into : IsTurnedInto first_token (branch_tree c.args.root.now) c.args.path.now c.loop-depth.depth (first_from (branch_tree c.loop-depth.node.now) ((get_or c.args.path.now c.loop-depth.depth 0 + 1) ∷ [])) c.loop-depth.turn c.match-first_slot.turn = elim c.match-first_slot.branch [
      | in-Some w ↦
          let inside = leads_within first_token c.loop-depth.node.now c.children-children.result.now _ w.in-Some.slot c.children-children.ensures w.in-Some.ensures.some in
          let beside = child_at c.loop-depth.node.now c.children-children.result.now w.in-Some.slot w.index-children-slot.result c.children-children.ensures inside w.index-children-slot.is in
          rw w.turn-is (new_turn c.loop-depth.invariant (omega arith) w.in-Some.ensures.some beside w.as_ref-child.ensures)
      | in_default w ↦ rw w.turn-is (no_turn (first_from (branch_tree c.loop-depth.node.now) ((get_or c.args.path.now c.loop-depth.depth 0 + 1) ∷ [])) c.loop-depth.invariant w.in_default.ensures.none)
    ] in
    let there = rw c.in-Token.is at (way.below c.index-children-at.result c.index-children-at.is) in
    let child = child_at c.loop-depth.node.now c.children-children.result.now (get_or c.args.path.now c.loop-depth.depth 0) (Token c.in-Token.field-0) c.children-children.ensures way.inside (rw c.in-Token.is at c.index-children-at.is) in
    let turned = turned_on c.loop-depth-test.true c.loop-depth.invariant into child (after_splits c.loop-depth.node.now (get_or c.args.path.now c.loop-depth.depth 0) (element_tree (Token c.in-Token.field-0)) (drop (c.loop-depth.depth + 1) c.args.path.now) child) there in
    turned_last turned (none_after_token c.in-Token.field-0 (drop (c.loop-depth.depth + 1) c.args.path.now) there)

pub returns-in-Token-clause-turn : goal.returns-in-Token-clause-turn
returns-in-Token-clause-turn c =
    let into : IsTurnedInto first_token (branch_tree c.args.root.now) c.args.path.now c.loop-depth.depth (first_from (branch_tree c.loop-depth.node.now) ((get_or c.args.path.now c.loop-depth.depth 0 + 1) ∷ [])) c.loop-depth.turn c.match-first_slot.turn = elim c.match-first_slot.branch [
      | in-Some w ↦
          let inside = leads_within first_token c.loop-depth.node.now c.children-children.result.now _ w.in-Some.slot c.children-children.ensures w.in-Some.ensures.some in
          let beside = child_at c.loop-depth.node.now c.children-children.result.now w.in-Some.slot w.index-children-slot.result c.children-children.ensures inside w.index-children-slot.is in
          rw w.turn-is (new_turn c.loop-depth.invariant (omega arith) w.in-Some.ensures.some beside w.as_ref-child.ensures)
      | in_default w ↦ rw w.turn-is (no_turn (first_from (branch_tree c.loop-depth.node.now) ((get_or c.args.path.now c.loop-depth.depth 0 + 1) ∷ [])) c.loop-depth.invariant w.in_default.ensures.none)
    ] in
    into.turn

pub loop-depth-preserved : goal.loop-depth-preserved
loop-depth-preserved c =
    let way = step_down c.loop-depth.node.now c.children-children.result.now c.args.path.now c.loop-depth.depth c.children-children.ensures c.loop-depth-test.true c.loop-depth.invariant.there in
    let into : IsTurnedInto first_token (branch_tree c.args.root.now) c.args.path.now c.loop-depth.depth (first_from (branch_tree c.loop-depth.node.now) ((get_or c.args.path.now c.loop-depth.depth 0 + 1) ∷ [])) c.loop-depth.turn c.match-first_slot.turn = elim c.match-first_slot.branch [
      | in-Some w ↦
          let inside = leads_within first_token c.loop-depth.node.now c.children-children.result.now _ w.in-Some.slot c.children-children.ensures w.in-Some.ensures.some in
          let beside = child_at c.loop-depth.node.now c.children-children.result.now w.in-Some.slot w.index-children-slot.result c.children-children.ensures inside w.index-children-slot.is in
          rw w.turn-is (new_turn c.loop-depth.invariant (omega arith) w.in-Some.ensures.some beside w.as_ref-child.ensures)
      | in_default w ↦ rw w.turn-is (no_turn (first_from (branch_tree c.loop-depth.node.now) ((get_or c.args.path.now c.loop-depth.depth 0 + 1) ∷ [])) c.loop-depth.invariant w.in_default.ensures.none)
    ] in
    let there = rw c.in-Node.is at (way.below c.index-children-at.result c.index-children-at.is) in
    let child = child_at c.loop-depth.node.now c.children-children.result.now (get_or c.args.path.now c.loop-depth.depth 0) (Node c.in-Node.below) c.children-children.ensures way.inside (rw c.in-Node.is at c.index-children-at.is) in
    turned_on c.loop-depth-test.true c.loop-depth.invariant into child (after_splits c.loop-depth.node.now (get_or c.args.path.now c.loop-depth.depth 0) (element_tree (Node c.in-Node.below)) (drop (c.loop-depth.depth + 1) c.args.path.now) child) there

pub offset_bounds-children-slot-2 : goal.offset_bounds-children-slot-2
offset_bounds-children-slot-2 c =
    let inside = leads_within first_token c.loop-depth.node.now c.children.result.now _ c.in-Some-first_slot.slot c.children.ensures c.in-Some-first_slot.ensures.some in
    search (arith, rules)

pub bounds-children-slot-2 : goal.bounds-children-slot-2
bounds-children-slot-2 c = leads_within first_token c.loop-depth.node.now c.children.result.now _ c.in-Some-first_slot.slot c.children.ensures c.in-Some-first_slot.ensures.some

pub returns-clause-way : goal.returns-clause-way
returns-clause-way c =
    let inside = leads_within first_token c.loop-depth.node.now c.children.result.now _ c.in-Some-first_slot.slot c.children.ensures c.in-Some-first_slot.ensures.some in
    let below = child_at c.loop-depth.node.now c.children.result.now c.in-Some-first_slot.slot c.index-children-slot-2.result c.children.ensures inside c.index-children-slot-2.is in
    let ends : c.loop-depth.depth ≡ length c.args.path.now = omega arith in
    let into = new_turn (rw ends at c.loop-depth.invariant) (omega arith) c.in-Some-first_slot.ensures.some below c.as_ref.ensures in
    let top = ap (λ p. first_token_after (branch_tree c.loop-depth.node.now) p) (drop_all (length c.args.path.now) c.args.path.now (omega arith)) ∙ ap first_item (tokens_after-all c.loop-depth.node.now) in
    turned_end (rw ends at c.loop-depth.invariant) into top

pub returns-clause-turn : goal.returns-clause-turn
returns-clause-turn c =
    let inside = leads_within first_token c.loop-depth.node.now c.children.result.now _ c.in-Some-first_slot.slot c.children.ensures c.in-Some-first_slot.ensures.some in
    let below = child_at c.loop-depth.node.now c.children.result.now c.in-Some-first_slot.slot c.index-children-slot-2.result c.children.ensures inside c.index-children-slot-2.is in
    let ends : c.loop-depth.depth ≡ length c.args.path.now = omega arith in
    let into = new_turn (rw ends at c.loop-depth.invariant) (omega arith) c.in-Some-first_slot.ensures.some below c.as_ref.ensures in
    into.turn
