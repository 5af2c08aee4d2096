use Rattle.std.proofs.Common.{◌<◌, ap, ◌∙◌, arith, length, refl}
use Rattle.edit_steps.specs.inner.Visited.{below_at}
use Rattle.edit_steps.proofs.Entering.{below_pushed, below_read, same_holds, entered_before, entered_next}
use Rattle.edit_steps.proofs.stage.visited.Visited.enter.Goals as goal

pub longer-init : goal.longer-init
longer-init c =
    rw (← c.self.view_is) (record {
      below = λ i. ap (λ ls. below_at ls i) c.in_ok-reserve.ensures.items;
      widths = refl;
      gaps = refl;
      before = c.self.invariant;
    })

pub longer-preserved : goal.longer-preserved
longer-preserved c =
    let l = c.longer in
    record {
      below = λ i. ap (λ ls. below_at ls i) c.in_ok-push.ensures.items ∙ below_pushed l.self-inside.below.items i ∙ l.invariant.below i;
      widths = l.invariant.widths;
      gaps = l.invariant.gaps;
      before = l.invariant.before;
    }

pub returns-in-Some-clause-ok : goal.returns-in-Some-clause-ok
returns-in-Some-clause-ok c =
    let l = c.longer in
    let ls = l.self-inside.below.items in
    let s = c.args.slot in
    let within : s < length ls = omega (arith, c.longer-test.false, c.len-in-longer.ensures) in
    entered_before c.args.self.now _ s c.args.next c.in-Some.number l.invariant.below
    (same_holds _ _ _ _ l.invariant.widths l.invariant.gaps)
    (below_read ls s _ within c.index.ensures ∙ c.in-Some.is)

pub returns-clause-ok : goal.returns-clause-ok
returns-clause-ok c =
    let l = c.longer in
    let ls = l.self-inside.below.items in
    let s = c.args.slot in
    let within : s < length ls = omega (arith, c.longer-test.false, c.len-in-longer.ensures) in
    entered_next c.args.self.now _ ls s c.args.next l.invariant.below
    (same_holds _ _ _ _ l.invariant.widths l.invariant.gaps) refl within
    (below_read ls s _ within c.index.ensures ∙ c.in_default.is)
