use Rattle.std.proofs.Common.{◌≡◌, ◌+◌, length, arith, ap, sym, subst, ◌∙◌}
use Rattle.std.specs.List.{AllByRecursion}
use Rattle.std.proofs.lemmas.List.{length-append}
use Rattle.green_tree.specs.Green.{branch_tree}
use Rattle.green_tree.specs.GreenElement.{element_trees}
use Rattle.green_tree.specs.inner.Splices.{spliced}
use Rattle.green_tree.specs.inner.Ways.{rebuilt, HasSlot}
use Rattle.green_tree.proofs.Refused.{no-ok, no-value}
use Rattle.green_tree.proofs.Ways.{rebuilt-push, all_pushed, room_at_end, way_ends}
use Rattle.green_tree.proofs.green.splices.spliced_anew.Goals as goal

pub copy_spliced-requires : goal.copy_spliced-requires
copy_spliced-requires c =
    room_at_end (branch_tree c.args.top.now) c.args.path.now c.in_ok-above.field-0.above.items c.in_ok-above.field-0.end.now c.in_ok-above.ensures.way c.in_ok-above.ensures.whole c.args.first c.args.count c.requires

pub loop-node-init : goal.loop-node-init
loop-node-init c =
    let above = c.in_ok-above.field-0.above.items in
    let end = c.in_ok-above.field-0.end.now in
    record {
      up = ap (rebuilt above) c.in_ok-made.ensures.ok ∙ way_ends (branch_tree c.args.top.now) c.args.path.now above end c.in_ok-above.ensures.way c.in_ok-above.ensures.whole (spliced c.args.first c.args.count (element_trees c.args.new.items));
      inside = c.in_ok-above.ensures.way.inside;
      within = omega (arith, c.in_ok-above.ensures.whole);
      count = omega (arith, c.in_ok-above.ensures.whole, c.in_ok-made.ensures.count);
    }

pub exchange_child-requires : goal.exchange_child-requires
exchange_child-requires c =
    (all_pushed c.pop.new.self.items c.in-Some.field-0 (subst (AllByRecursion HasSlot) c.in-Some.ensures.items c.loop-node.invariant.inside)).1

pub loop-node-preserved : goal.loop-node-preserved
loop-node-preserved c =
    let above = c.pop.new.self.items in
    let n = c.in-Some.field-0 in
    let made = branch_tree c.loop-node.made in
    let more : length c.loop-node.above.items ≡ length above + 1 = ap length c.in-Some.ensures.items ∙ length-append above _ in
    record {
      up =
          ap (rebuilt above) c.in_ok-made-2.ensures.ok
          ∙ sym (rebuilt-push above n made)
          ∙ sym (ap (λ ns. rebuilt ns made) c.in-Some.ensures.items)
          ∙ c.loop-node.invariant.up;
      inside = (all_pushed above n (subst (AllByRecursion HasSlot) c.in-Some.ensures.items c.loop-node.invariant.inside)).0;
      within = omega (arith, more, c.loop-node.invariant.within);
      count = omega (arith, more, c.loop-node.invariant.within, c.loop-node.invariant.count, c.in_ok-made-2.ensures.count);
    }

pub returns-in_err-above-clause-ok : goal.returns-in_err-above-clause-ok
returns-in_err-above-clause-ok c = no-value _ c.from_residual.result c.from_residual.ensures.0

pub returns-in_err-above-clause-count : goal.returns-in_err-above-clause-count
returns-in_err-above-clause-count c = no-ok _ c.from_residual.result c.from_residual.ensures.0

pub returns-in_err-made-clause-ok : goal.returns-in_err-made-clause-ok
returns-in_err-made-clause-ok c = no-value _ c.from_residual-in_err-made.result c.from_residual-in_err-made.ensures.0

pub returns-in_err-made-clause-count : goal.returns-in_err-made-clause-count
returns-in_err-made-clause-count c = no-ok _ c.from_residual-in_err-made.result c.from_residual-in_err-made.ensures.0

pub returns-in_err-made-2-clause-ok : goal.returns-in_err-made-2-clause-ok
returns-in_err-made-2-clause-ok c = no-value _ c.from_residual-in_err-made-2.result c.from_residual-in_err-made-2.ensures.0

pub returns-in_err-made-2-clause-count : goal.returns-in_err-made-2-clause-count
returns-in_err-made-2-clause-count c = no-ok _ c.from_residual-in_err-made-2.result c.from_residual-in_err-made-2.ensures.0

pub loop-node-smaller : goal.loop-node-smaller
loop-node-smaller c =
    let more : length c.loop-node.above.items ≡ length c.pop.new.self.items + 1 = ap length c.in-Some.ensures.items ∙ length-append c.pop.new.self.items _ in
    omega (arith, more)
