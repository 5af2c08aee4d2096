use Rattle.std.proofs.Common.{rules, arith, drop, get_or, [], ◌∷◌, ◌+◌}
use Rattle.std.proofs.lemmas.List.{length-map}
use Rattle.green_tree.specs.Green.{branch_tree}
use Rattle.green_tree.proofs.Starts.{start-le, start_step, start_room, start-token, start-end}
use Rattle.green_tree.proofs.Slots.{step_down}
use Rattle.green_tree.proofs.start.start_of.Goals as goal

pub slot_start-total-requires-clause-within : goal.slot_start-total-requires-clause-within
slot_start-total-requires-clause-within c =
    let inside = (step_down c.loop-slot.node.now c.children-children.result.now c.args.path.now c.loop-slot.slot-index c.children-children.ensures c.loop-slot-test.true c.loop-slot.invariant.there).inside in
    rw (← c.children-children.ensures, length-map) (omega arith)

pub overflow_add-total : goal.overflow_add-total
overflow_add-total c =
    let within = start-le (branch_tree c.loop-slot.node.now) (get_or c.args.path.now c.loop-slot.slot-index 0 ∷ []) in
    search (arith, rules)

pub offset_bounds-children-slot : goal.offset_bounds-children-slot
offset_bounds-children-slot c =
    let inside = (step_down c.loop-slot.node.now c.children-children.result.now c.args.path.now c.loop-slot.slot-index c.children-children.ensures c.loop-slot-test.true c.loop-slot.invariant.there).inside in
    search (arith, rules)

pub bounds-children-slot : goal.bounds-children-slot
bounds-children-slot c = (step_down c.loop-slot.node.now c.children-children.result.now c.args.path.now c.loop-slot.slot-index c.children-children.ensures c.loop-slot-test.true c.loop-slot.invariant.there).inside

pub returns-in-Token : goal.returns-in-Token
returns-in-Token c =
    let way = step_down c.loop-slot.node.now c.children-children.result.now c.args.path.now c.loop-slot.slot-index c.children-children.ensures c.loop-slot-test.true c.loop-slot.invariant.there in
    let step = start_step c.loop-slot.node.now c.children-children.result.now c.args.path.now c.loop-slot.slot-index c.index-children-slot.result c.children-children.ensures c.loop-slot-test.true way.inside c.index-children-slot.is in
    let there = rw c.in-Token.is at (way.below c.index-children-slot.result c.index-children-slot.is) in
    let step_token = rw c.in-Token.is at step in
    omega (arith, start-token c.in-Token.field-0.kind c.in-Token.field-0.text (drop (c.loop-slot.slot-index + 1) c.args.path.now) there)

pub loop-slot-preserved : goal.loop-slot-preserved
loop-slot-preserved c =
    let way = step_down c.loop-slot.node.now c.children-children.result.now c.args.path.now c.loop-slot.slot-index c.children-children.ensures c.loop-slot-test.true c.loop-slot.invariant.there in
    let step = start_step c.loop-slot.node.now c.children-children.result.now c.args.path.now c.loop-slot.slot-index c.index-children-slot.result c.children-children.ensures c.loop-slot-test.true way.inside c.index-children-slot.is in
    let room = start_room c.loop-slot.node.now c.children-children.result.now (get_or c.args.path.now c.loop-slot.slot-index 0) c.index-children-slot.result c.children-children.ensures way.inside c.index-children-slot.is in
    let step_node = rw c.in-Node.is at step in
    let room_node = rw c.in-Node.is at room in
    record {
      there = rw c.in-Node.is at (way.below c.index-children-slot.result c.index-children-slot.is);
      rest = omega arith;
      fits = omega arith;
    }

pub returns : goal.returns
returns c = omega (arith, start-end (branch_tree c.loop-slot.node.now) c.args.path.now c.loop-slot.slot-index c.loop-slot-test.false)
