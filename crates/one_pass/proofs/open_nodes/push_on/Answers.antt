use Rattle.std.specs.Prelude.{MatchOption}
use Rattle.std.proofs.Common.{◌≡◌, ◌+◌, ◌∙◌, ℕ, length, arith, ap, subst, sym}
use Rattle.std.proofs.lemmas.Bool.{eqb-true}
use Rattle.one_pass.specs.inner.OpenNodes.{IsLeft, IsNext}
use Rattle.one_pass.proofs.NodeFurther.{further-none, further-both, further-shared}
use Rattle.one_pass.proofs.NextAim.{none-coming, order-shared}
use Rattle.one_pass.proofs.open_nodes.push_on.Goals as goal

pub loop-walk-init : goal.loop-walk-init
loop-walk-init c = further-none c.args.given.now c.args.walk.now c.args.top.now c.requires

pub loop-walk-preserved : goal.loop-walk-preserved
loop-walk-preserved c =
    further-both c.args.given.now c.args.walk.now c.loop-walk.walk c.take_aim.new.walk c.args.top.now c.loop-walk.top c.take_aim.new.top c.loop-walk.invariant c.in_ok-node.ensures.further

pub share_until-requires-clause-ahead : goal.share_until-requires-clause-ahead
share_until-requires-clause-ahead c =
    let none : length c.loop-walk.top.aims.now ≡ 0 = eqb-true (length c.loop-walk.top.aims.now) 0 (sym c.is_empty.ensures ∙ c.loop-walk-test.false) in
    none-coming c.loop-walk.top _ none

pub returns : goal.returns
returns c =
    let f = c.loop-walk.top in
    let g = c.share_until.new.top in
    let n : ℕ = length f.elements.now in
    let none : length f.aims.now ≡ 0 = eqb-true (length c.loop-walk.top.aims.now) 0 (sym c.is_empty.ensures ∙ c.loop-walk-test.false) in
    let shared = c.in_ok-share_until.ensures in
    let order = order-shared n c.loop-walk.walk c.share_until.new.walk f g c.loop-walk.invariant.order (omega arith) (none-coming f (n + n) none) shared in
    record {
      further = further-both c.args.given.now c.args.walk.now c.loop-walk.walk c.share_until.new.walk c.args.top.now f g c.loop-walk.invariant (further-shared c.args.given.now n c.loop-walk.walk c.share_until.new.walk f g shared order);
      next = record {
        slot = omega (arith, shared.slot, ap (λ es. length es.now) shared.same.elements);
        aims = omega (arith, none, ap (λ xs. length xs.now) shared.aims);
      };
    }

pub returns-in-Some : goal.returns-in-Some
returns-in-Some c =
    let g = c.take_aim.new.top in
    let said = c.in_ok-node.ensures in
    record {
      further = further-both c.args.given.now c.args.walk.now c.loop-walk.walk c.take_aim.new.walk c.args.top.now c.loop-walk.top g c.loop-walk.invariant said.further;
      next = subst (λ r. MatchOption r (IsLeft c.loop-walk.top g) (λ n. IsNext g n.now)) c.in-Some.is said.next;
    }

pub take_aim-requires-clause-order : goal.take_aim-requires-clause-order
take_aim-requires-clause-order c = c.loop-walk.invariant.order

pub share_until-requires-clause-order : goal.share_until-requires-clause-order
share_until-requires-clause-order c = c.loop-walk.invariant.order

pub share_until-requires-clause-next : goal.share_until-requires-clause-next
share_until-requires-clause-next c = c.loop-walk.invariant.order.within

pub loop-walk-smaller : goal.loop-walk-smaller
loop-walk-smaller c =
    let g = c.take_aim.new.top in
    subst (λ r. MatchOption r (IsLeft c.loop-walk.top g) (λ n. IsNext g n.now)) c.in_default.is c.in_ok-node.ensures.next
