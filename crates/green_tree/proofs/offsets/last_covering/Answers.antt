use Rattle.std.proofs.Common.{◌≡◌, ◌+◌, ◌-◌, [], ◌∷◌, length, drop, arith, ap, sym, ◌∙◌, refl}
use Rattle.std.specs.Prelude.{filter}
use Rattle.green_tree.specs.Tree.{text_length, paths_from, forest}
use Rattle.green_tree.specs.Order.{start}
use Rattle.green_tree.specs.Offsets.{covers}
use Rattle.green_tree.specs.Green.{branch_tree}
use Rattle.green_tree.specs.GreenElement.{element_tree}
use Rattle.green_tree.proofs.FoundTokens.{child_at}
use Rattle.green_tree.proofs.Touching.{span_at, span_length}
use Rattle.green_tree.proofs.Covering.{paths_on, passed-before, passed-after, covered_child, covering_top, none_after, start_after}
use Rattle.green_tree.proofs.offsets.last_covering.Goals as goal
use Rattle.green_tree.proofs.offsets.last_covering.Goals.{else-begin-start-via-then-begin-start+else-end-to, else-begin-start-via-else-begin-start}

pub loop-slot-init : goal.loop-slot-init
loop-slot-init c = record {
  within = omega arith;
  start = start_after c.args.node.now c.children-children.result.now (length c.children-children.result.now) c.length-begin.result c.children-children.ensures refl c.requires.fits c.length-begin.ensures;
  none = none_after c.args.node.now c.children-children.result.now (length c.children-children.result.now) c.args.start c.args.end c.children-children.ensures (omega arith);
}

pub overflow_sub-begin : goal.overflow_sub-begin
overflow_sub-begin c =
    let span = span_at c.args.node.now c.children-children.result.now (c.loop-slot.slot - 1) c.index-children-slot.result c.children-children.ensures (omega arith) c.index-children-slot.is in
    let up : c.loop-slot.slot - 1 + 1 ≡ c.loop-slot.slot = omega arith in
    let next : start (branch_tree c.args.node.now) (c.loop-slot.slot ∷ []) ≡ start (branch_tree c.args.node.now) ((c.loop-slot.slot - 1) ∷ []) + text_length (element_tree c.index-children-slot.result) = ap (λ i. start (branch_tree c.args.node.now) (i ∷ [])) (sym up) ∙ span.next in
    let long = span_length c.args.node.now (c.loop-slot.slot - 1) (element_tree c.index-children-slot.result) c.length-begin-in-loop-slot.result span c.requires.fits c.length-begin-in-loop-slot.ensures in
    omega (arith, c.loop-slot.invariant.start, next, long)

pub returns-then-end-to-clause-some : goal.returns-then-end-to-clause-some
returns-then-end-to-clause-some c =
    let child = child_at c.args.node.now c.children-children.result.now (c.loop-slot.slot - 1) c.index-children-slot.result c.children-children.ensures (omega arith) c.index-children-slot.is in
    let span = span_at c.args.node.now c.children-children.result.now (c.loop-slot.slot - 1) c.index-children-slot.result c.children-children.ensures (omega arith) c.index-children-slot.is in
    let up : c.loop-slot.slot - 1 + 1 ≡ c.loop-slot.slot = omega arith in
    let next : start (branch_tree c.args.node.now) (c.loop-slot.slot ∷ []) ≡ start (branch_tree c.args.node.now) ((c.loop-slot.slot - 1) ∷ []) + text_length (element_tree c.index-children-slot.result) = ap (λ i. start (branch_tree c.args.node.now) (i ∷ [])) (sym up) ∙ span.next in
    let long = span_length c.args.node.now (c.loop-slot.slot - 1) (element_tree c.index-children-slot.result) c.length-begin-in-loop-slot.result span c.requires.fits c.length-begin-in-loop-slot.ensures in
    let on = paths_on c.args.node.now c.children-children.result.now (c.loop-slot.slot - 1) c.loop-slot.slot c.index-children-slot.result (omega arith) c.children-children.ensures (omega arith) c.index-children-slot.is in
    let begins : c.loop-slot.begin - c.length-begin-in-loop-slot.result ≡ start (branch_tree c.args.node.now) ((c.loop-slot.slot - 1) ∷ []) = omega (arith, c.loop-slot.invariant.start, next, long) in
    covered_child c.args.node.now c.args.start c.args.end (paths_from c.loop-slot.slot (forest (drop c.loop-slot.slot c.args.node.now.children))) _ child span begins c.requires.ordered c.if-begin-start.true (omega (arith, next, begins, c.if-end-to.true, c.loop-slot.invariant.start)) on c.loop-slot.invariant.none

pub loop-slot-preserved : goal.loop-slot-preserved
loop-slot-preserved c =
    let span = span_at c.args.node.now c.children-children.result.now (c.loop-slot.slot - 1) c.index-children-slot.result c.children-children.ensures (omega arith) c.index-children-slot.is in
    let up : c.loop-slot.slot - 1 + 1 ≡ c.loop-slot.slot = omega arith in
    let next : start (branch_tree c.args.node.now) (c.loop-slot.slot ∷ []) ≡ start (branch_tree c.args.node.now) ((c.loop-slot.slot - 1) ∷ []) + text_length (element_tree c.index-children-slot.result) = ap (λ i. start (branch_tree c.args.node.now) (i ∷ [])) (sym up) ∙ span.next in
    let long = span_length c.args.node.now (c.loop-slot.slot - 1) (element_tree c.index-children-slot.result) c.length-begin-in-loop-slot.result span c.requires.fits c.length-begin-in-loop-slot.ensures in
    let on = paths_on c.args.node.now c.children-children.result.now (c.loop-slot.slot - 1) c.loop-slot.slot c.index-children-slot.result (omega arith) c.children-children.ensures (omega arith) c.index-children-slot.is in
    let begins : c.loop-slot.begin - c.length-begin-in-loop-slot.result ≡ start (branch_tree c.args.node.now) ((c.loop-slot.slot - 1) ∷ []) = omega (arith, c.loop-slot.invariant.start, next, long) in
    let none : filter (covers (branch_tree c.args.node.now) c.args.start c.args.end) (paths_from (c.loop-slot.slot - 1) (forest (drop (c.loop-slot.slot - 1) c.args.node.now.children))) ≡ [] =
    elim c.else-begin-start.branch [
      | else-begin-start-via-else-begin-start w ↦ passed-before c.args.node.now (c.loop-slot.slot - 1) (element_tree c.index-children-slot.result) c.args.start c.args.end (paths_from c.loop-slot.slot (forest (drop c.loop-slot.slot c.args.node.now.children))) span (omega (arith, w.if-begin-start.false, begins)) on c.loop-slot.invariant.none
      | else-begin-start-via-then-begin-start+else-end-to w ↦ passed-after c.args.node.now (c.loop-slot.slot - 1) (element_tree c.index-children-slot.result) c.args.start c.args.end (paths_from c.loop-slot.slot (forest (drop c.loop-slot.slot c.args.node.now.children))) span (omega (arith, w.if-end-to.false, next, c.loop-slot.invariant.start)) on c.loop-slot.invariant.none
    ] in
    record { within = omega arith; start = begins; none = none }

pub returns-clause-none : goal.returns-clause-none
returns-clause-none c =
    let first : c.loop-slot.slot ≡ 0 = omega arith in
    let none : filter (covers (branch_tree c.args.node.now) c.args.start c.args.end) (paths_from 0 (forest c.args.node.now.children)) ≡ [] = rw first at c.loop-slot.invariant.none in
    covering_top c.args.node.now c.args.start c.args.end c.requires.ordered c.requires.within none
