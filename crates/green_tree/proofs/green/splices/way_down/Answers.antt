use Rattle.std.proofs.Common.{◌<◌, ◌+◌, length, get_or, refl, ap, sym, subst, ◌∙◌, arith}
use Rattle.std.proofs.lemmas.List.{length-append}
use Rattle.green_tree.specs.Green.{branch_tree}
use Rattle.green_tree.specs.GreenElement.{element_tree}
use Rattle.green_tree.specs.inner.Ways.{IsWay}
use Rattle.green_tree.proofs.SpliceSteps.{no-token}
use Rattle.green_tree.proofs.Ways.{on_way}
use Rattle.green_tree.proofs.green.splices.way_down.Goals as goal

pub bounds-children-slot : goal.bounds-children-slot
bounds-children-slot c =
    let p = c.args.path.now in
    let above = c.loop-slot.above.items in
    let reached = c.loop-slot.invariant.reached in
    let long : length above < length p = omega (arith, reached, c.loop-slot-test.true) in
    (on_way (branch_tree c.args.top.now) p c.requires above c.loop-slot.node.now c.loop-slot.invariant.way long c.children.result.now c.children.ensures (get_or p c.loop-slot.slot-index 0) (ap (λ n. get_or p n 0) (sym reached))).inside

pub offset_bounds-children-slot : goal.offset_bounds-children-slot
offset_bounds-children-slot c =
    let p = c.args.path.now in
    let above = c.loop-slot.above.items in
    let reached = c.loop-slot.invariant.reached in
    let long : length above < length p = omega (arith, reached, c.loop-slot-test.true) in
    let f = on_way (branch_tree c.args.top.now) p c.requires above c.loop-slot.node.now c.loop-slot.invariant.way long c.children.result.now c.children.ensures (get_or p c.loop-slot.slot-index 0) (ap (λ n. get_or p n 0) (sym reached)) in
    omega (arith, f.inside, c.children.type_inv.1)

pub unreachable-requires : goal.unreachable-requires
unreachable-requires c =
    let p = c.args.path.now in
    let above = c.loop-slot.above.items in
    let reached = c.loop-slot.invariant.reached in
    let long : length above < length p = omega (arith, reached, c.loop-slot-test.true) in
    let f = on_way (branch_tree c.args.top.now) p c.requires above c.loop-slot.node.now c.loop-slot.invariant.way long c.children.result.now c.children.ensures (get_or p c.loop-slot.slot-index 0) (ap (λ n. get_or p n 0) (sym reached)) in
    let can = f.can c.index-children-slot.result c.index-children-slot.is in
    no-token c.in_default.field-0 _ 0 0 (rw c.in_default.is at can)

pub loop-slot-preserved : goal.loop-slot-preserved
loop-slot-preserved c =
    let t = branch_tree c.args.top.now in
    let p = c.args.path.now in
    let above = c.loop-slot.above.items in
    let reached = c.loop-slot.invariant.reached in
    let long : length above < length p = omega (arith, reached, c.loop-slot-test.true) in
    let f = on_way t p c.requires above c.loop-slot.node.now c.loop-slot.invariant.way long c.children.result.now c.children.ensures (get_or p c.loop-slot.slot-index 0) (ap (λ n. get_or p n 0) (sym reached)) in
    record {
      way =
          subst (λ e. IsWay t p c.push.new.self.items (element_tree e)) c.in-Node.is
          (subst (λ ns. IsWay t p ns (element_tree c.index-children-slot.result)) (sym c.in_ok-push.ensures.items)
          (f.next c.index-children-slot.result c.index-children-slot.is _ refl refl));
      reached = ap length c.in_ok-push.ensures.items ∙ length-append above _ ∙ ap (λ n. n + 1) reached;
    }
