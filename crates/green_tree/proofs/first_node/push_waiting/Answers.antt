use Rattle.std.proofs.Common.{◌≡◌, ◌<◌, ◌+◌, ◌-◌, [], ◌∷◌, length, arith, ap, sym, ◌∙◌, refl}
use Rattle.green_tree.specs.Tree.{text_length}
use Rattle.green_tree.specs.Order.{start}
use Rattle.green_tree.specs.Green.{branch_tree, length_limit}
use Rattle.green_tree.specs.GreenElement.{element_tree}
use Rattle.green_tree.proofs.FoundTokens.{child_at}
use Rattle.green_tree.proofs.Touching.{span_at, span_length}
use Rattle.green_tree.proofs.Covering.{start_after}
use Rattle.green_tree.proofs.WaitingNodes.{waiting_none, waiting_past, waiting_one, waiting_all}
use Rattle.green_tree.proofs.first_node.push_waiting.Goals as goal

pub loop-slot-init : goal.loop-slot-init
loop-slot-init c =
    let fits : text_length (branch_tree c.args.node.now) < length_limit = omega (arith, c.requires.fits) in
    let ends = start_after c.args.node.now c.children-children.result.now (length c.children-children.result.now) c.length.result c.children-children.ensures refl fits c.length.ensures in
    record {
      within = omega arith;
      begins = ap (λ n. c.args.begin + n) ends;
      waiting = waiting_none c.args.node.now c.children-children.result.now c.args.begin c.args.offset c.args.depth (length c.children-children.result.now) c.args.waiting.now.items c.children-children.ensures (omega arith);
    }

pub overflow_sub-next : goal.overflow_sub-next
overflow_sub-next c =
    let span = span_at c.args.node.now c.children-children.result.now (c.loop-slot.slot - 1) c.index-children-slot.result c.children-children.ensures (omega arith) c.index-children-slot.is in
    let fits : text_length (branch_tree c.args.node.now) < length_limit = omega (arith, c.requires.fits) in
    let up : c.loop-slot.slot - 1 + 1 ≡ c.loop-slot.slot = omega arith in
    let next : start (branch_tree c.args.node.now) (c.loop-slot.slot ∷ []) ≡ start (branch_tree c.args.node.now) ((c.loop-slot.slot - 1) ∷ []) + text_length (element_tree c.index-children-slot.result) = ap (λ i. start (branch_tree c.args.node.now) (i ∷ [])) (sym up) ∙ span.next in
    let long = span_length c.args.node.now (c.loop-slot.slot - 1) (element_tree c.index-children-slot.result) c.length-next.result span fits c.length-next.ensures in
    omega (arith, c.loop-slot.invariant.begins, next, long)

pub node_at_offset-requires : goal.node_at_offset-requires
node_at_offset-requires c =
    let span = span_at c.args.node.now c.children-children.result.now (c.loop-slot.slot - 1) c.index-children-slot.result c.children-children.ensures (omega arith) c.index-children-slot.is in
    let fits : text_length (branch_tree c.args.node.now) < length_limit = omega (arith, c.requires.fits) in
    let up : c.loop-slot.slot - 1 + 1 ≡ c.loop-slot.slot = omega arith in
    let next : start (branch_tree c.args.node.now) (c.loop-slot.slot ∷ []) ≡ start (branch_tree c.args.node.now) ((c.loop-slot.slot - 1) ∷ []) + text_length (element_tree c.index-children-slot.result) = ap (λ i. start (branch_tree c.args.node.now) (i ∷ [])) (sym up) ∙ span.next in
    let long = span_length c.args.node.now (c.loop-slot.slot - 1) (element_tree c.index-children-slot.result) c.length-next.result span fits c.length-next.ensures in
    let begins : c.loop-slot.next - c.length-next.result ≡ c.args.begin + start (branch_tree c.args.node.now) ((c.loop-slot.slot - 1) ∷ []) = omega (arith, c.loop-slot.invariant.begins, next, long) in
    record { fits = omega (arith, begins, span.within, c.requires.fits) }

pub loop-slot-preserved : goal.loop-slot-preserved
loop-slot-preserved c =
    let span = span_at c.args.node.now c.children-children.result.now (c.loop-slot.slot - 1) c.index-children-slot.result c.children-children.ensures (omega arith) c.index-children-slot.is in
    let fits : text_length (branch_tree c.args.node.now) < length_limit = omega (arith, c.requires.fits) in
    let up : c.loop-slot.slot - 1 + 1 ≡ c.loop-slot.slot = omega arith in
    let next : start (branch_tree c.args.node.now) (c.loop-slot.slot ∷ []) ≡ start (branch_tree c.args.node.now) ((c.loop-slot.slot - 1) ∷ []) + text_length (element_tree c.index-children-slot.result) = ap (λ i. start (branch_tree c.args.node.now) (i ∷ [])) (sym up) ∙ span.next in
    let long = span_length c.args.node.now (c.loop-slot.slot - 1) (element_tree c.index-children-slot.result) c.length-next.result span fits c.length-next.ensures in
    let begins : c.loop-slot.next - c.length-next.result ≡ c.args.begin + start (branch_tree c.args.node.now) ((c.loop-slot.slot - 1) ∷ []) = omega (arith, c.loop-slot.invariant.begins, next, long) in
    let child = child_at c.args.node.now c.children-children.result.now (c.loop-slot.slot - 1) c.index-children-slot.result c.children-children.ensures (omega arith) c.index-children-slot.is in
    let room : c.loop-slot.next - c.length-next.result + text_length (element_tree c.index-children-slot.result) < length_limit = omega (arith, begins, span.within, c.requires.fits) in
    record {
      within = omega arith;
      begins = begins;
      waiting = waiting_one _ c.index-children-slot.result (omega arith) c.index-children-slot.is (sym up) child c.in-Some.ensures.some begins (record { fits = rw c.in-Some.ensures.some at room }) c.loop-slot.invariant.waiting c.in_ok-push.ensures.items;
    }

pub loop-slot-preserved-in_default : goal.loop-slot-preserved-in_default
loop-slot-preserved-in_default c =
    let span = span_at c.args.node.now c.children-children.result.now (c.loop-slot.slot - 1) c.index-children-slot.result c.children-children.ensures (omega arith) c.index-children-slot.is in
    let fits : text_length (branch_tree c.args.node.now) < length_limit = omega (arith, c.requires.fits) in
    let up : c.loop-slot.slot - 1 + 1 ≡ c.loop-slot.slot = omega arith in
    let next : start (branch_tree c.args.node.now) (c.loop-slot.slot ∷ []) ≡ start (branch_tree c.args.node.now) ((c.loop-slot.slot - 1) ∷ []) + text_length (element_tree c.index-children-slot.result) = ap (λ i. start (branch_tree c.args.node.now) (i ∷ [])) (sym up) ∙ span.next in
    let long = span_length c.args.node.now (c.loop-slot.slot - 1) (element_tree c.index-children-slot.result) c.length-next.result span fits c.length-next.ensures in
    let begins : c.loop-slot.next - c.length-next.result ≡ c.args.begin + start (branch_tree c.args.node.now) ((c.loop-slot.slot - 1) ∷ []) = omega (arith, c.loop-slot.invariant.begins, next, long) in
    let child = child_at c.args.node.now c.children-children.result.now (c.loop-slot.slot - 1) c.index-children-slot.result c.children-children.ensures (omega arith) c.index-children-slot.is in
    record {
      within = omega arith;
      begins = begins;
      waiting = waiting_past (c.loop-slot.slot - 1) (c.loop-slot.next - c.length-next.result) c.index-children-slot.result (omega arith) c.index-children-slot.is (sym up) child begins c.in_default.ensures.none c.loop-slot.invariant.waiting;
    }

pub returns : goal.returns
returns c = waiting_all c.children-children.ensures (omega arith) c.loop-slot.invariant.waiting
