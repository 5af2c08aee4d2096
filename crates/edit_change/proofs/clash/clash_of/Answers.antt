use Rattle.std.proofs.Common.{◌++◌, ◌+◌, length, sym, subst, ◌∙◌, ap₂, below_more, arith, length-append}
use Rattle.std.proofs.lemmas.Option.{get_or_from_slice_get, slice_get_within}
use Rattle.edit_change.specs.Rewriting.{NumberedAim}
use Rattle.edit_change.specs.inner.Clash.{shares, ClashesBelow}
use Rattle.edit_change.specs.inner.DocumentOrder.{FitsSome}
use Rattle.edit_change.proofs.Bisected.{none-below, clash-there}
use Rattle.edit_change.proofs.Scanning.{shares-is}
use Rattle.edit_change.proofs.clash.clash_of.Goals as goal

pub returns-then-not-branch : goal.returns-then-not-branch
returns-then-not-branch c =
    let cs = c.args.own.now ++ c.args.other.now in
    let count = length c.args.own.now + length c.args.other.now in
    none-below cs count (sym (length-append c.args.own.now c.args.other.now)) (subst (ClashesBelow cs count) c.if-not-branch.true (c.in_ok-has_clash.ensures cs c.requires.sorted))

pub numbered_aim-aim-requires : goal.numbered_aim-aim-requires
numbered_aim-aim-requires c =
    let cs = c.args.own.now ++ c.args.other.now in
    let change = c.change_in_both.result.now in
    subst FitsSome (get_or_from_slice_get cs c.loop-high.second change change c.change_in_both.ensures) (c.requires.fit c.loop-high.second change (slice_get_within cs c.loop-high.second change c.change_in_both.ensures))

pub numbered_aim-requires : goal.numbered_aim-requires
numbered_aim-requires c =
    let cs = c.args.own.now ++ c.args.other.now in
    let change = c.change_in_both-in-loop-first.result.now in
    subst FitsSome (get_or_from_slice_get cs c.loop-first.first change change c.change_in_both-in-loop-first.ensures) (c.requires.fit c.loop-first.first change (slice_get_within cs c.loop-first.first change c.change_in_both-in-loop-first.ensures))

pub returns-then-shares : goal.returns-then-shares
returns-then-shares c =
    let cs = c.args.own.now ++ c.args.other.now in
    let count = length c.args.own.now + length c.args.other.now in
    let some = subst (ClashesBelow cs count) c.if-not-branch.false (c.in_ok-has_clash.ensures cs c.requires.sorted) in
    let halved = c.loop-high.invariant.halved cs c.requires.sorted some in
    let told = c.shares.ensures ∙ ap₂ (λ (a b : NumberedAim). shares a.1 b.1) c.numbered_aim.ensures c.numbered_aim-aim.ensures in
    let clash = sym (shares-is cs c.loop-first.first c.loop-high.second c.change_in_both-in-loop-first.result.now c.change_in_both.result.now c.change_in_both-in-loop-first.ensures c.change_in_both.ensures) ∙ sym told ∙ c.if-shares.true in
    clash-there cs c.loop-first.first c.loop-high.second (omega (arith, halved.less, c.loop-high.invariant.within, length-append c.args.own.now c.args.other.now)) c.loop-first-test.true halved.none clash c.loop-first.invariant

pub loop-first-preserved : goal.loop-first-preserved
loop-first-preserved c =
    let told = c.shares.ensures ∙ ap₂ (λ (a b : NumberedAim). shares a.1 b.1) c.numbered_aim.ensures c.numbered_aim-aim.ensures in
    below_more _ _ c.loop-first.invariant (sym (shares-is (c.args.own.now ++ c.args.other.now) c.loop-first.first c.loop-high.second c.change_in_both-in-loop-first.result.now c.change_in_both.result.now c.change_in_both-in-loop-first.ensures c.change_in_both.ensures) ∙ sym told ∙ c.if-shares.false)
