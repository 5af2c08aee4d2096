use Rattle.std.proofs.Common.{◌≡◌, ◌∙◌, sym, subst, ap, arith, length}
use Rattle.std.proofs.lemmas.List.{length-map}
use Rattle.edit_change.proofs.Clashes.{at-index}
use Rattle.edit_change.specs.inner.Fate.{fate}
use Rattle.edit_steps.specs.Schedule.{anchor_token}
use Rattle.edit_steps.specs.inner.Followers.{token_link, StartsAtToken}
use Rattle.edit_steps.proofs.Links.{token-dropped, token-kept}
use Rattle.edit_steps.proofs.Tables.{linked-more, linked-all}
use Rattle.edit_steps.proofs.Undropped.{fate-at}
use Rattle.edit_steps.proofs.order.followers.replacements.Goals as goal
use Rattle.edit_steps.proofs.order.followers.replacements.Goals.{then-is_dropped, else-is_dropped}

pub offset_bounds-changes-number : goal.offset_bounds-changes-number
offset_bounds-changes-number c = omega (arith, c.loop-number-test.true)

pub bounds-changes-number : goal.bounds-changes-number
bounds-changes-number c = c.loop-number-test.true

pub offset_bounds-fates-number : goal.offset_bounds-fates-number
offset_bounds-fates-number c = omega (arith, c.loop-number-test.true)

pub bounds-fates-number : goal.bounds-fates-number
bounds-fates-number c =
    let same = ap length c.requires.fates ∙ length-map c.args.changes.now (fate c.args.changes.now) in
    omega (arith, c.loop-number-test.true, same)

pub loop-number-preserved : goal.loop-number-preserved
loop-number-preserved c =
    let cs = c.args.changes.now in
    let n = c.loop-number.number in
    let change = c.index-changes-number.result in
    let at = at-index cs n change c.loop-number-test.true c.index-changes-number.is in
    let told = c.is_dropped.ensures ∙ fate-at cs c.args.fates.now n change _ c.requires.fates at in
    let here : c.if-is_dropped.link ≡ token_link cs n change = elim c.if-is_dropped.branch [
      | then-is_dropped w ↦ token-dropped cs n change c.is_dropped.result told c.if-is_dropped.link w.if-is_dropped.true w.link-is
      | else-is_dropped w ↦ token-kept cs n change c.is_dropped.result told c.if-is_dropped.link c.requires.apart w.if-is_dropped.false (subst (StartsAtToken cs (anchor_token change)) (sym w.link-is) (w.replacement-link.ensures cs c.requires.sorted c.requires.fit))
    ] in
    linked-more (token_link cs) cs n change c.loop-number.links.items c.push.new.self.items c.if-is_dropped.link c.loop-number-test.true c.index-changes-number.is c.loop-number.invariant c.in_ok-push.ensures.items here

pub returns : goal.returns
returns c =
    linked-all (token_link c.args.changes.now) c.args.changes.now c.loop-number.number c.loop-number.links.items c.loop-number-test.false c.loop-number.invariant
