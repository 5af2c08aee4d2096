use Rattle.std.proofs.Common.{◌≡◌, ◌∙◌, ◌<◌, ◌+◌, suc, ap, arith, sym, length}
use Rattle.std.proofs.lemmas.List.{length-map, length-replicate, length-set}
use Rattle.std.proofs.lemmas.Option.{slice_get_within}
use Rattle.edit_change.proofs.Clashes.{at-index}
use Rattle.edit_change.specs.ChangeAim.{aim}
use Rattle.edit_change.specs.inner.Fate.{fate}
use Rattle.edit_steps.specs.inner.Followers.{link}
use Rattle.edit_steps.specs.inner.GapTable.{gap_entry}
use Rattle.edit_steps.proofs.Gaps.{seen-kept, seen-passed}
use Rattle.edit_steps.proofs.Links.{none-alone, no-links, put-before, put-after, passed-before}
use Rattle.edit_steps.proofs.Undropped.{fate-at}
use Rattle.edit_steps.proofs.order.followers.next_in_gaps.Goals as goal
use Rattle.edit_steps.proofs.order.followers.next_in_gaps.Goals.{then-not-is_dropped+in_ok-links-2, else-not-is_dropped}

pub loop-number-init : goal.loop-number-init
loop-number-init c =
    let none = c.in_ok-links.ensures.items_if_clones_equal (none-alone _ (λ k copied. copied)) in
    record {
      seen = c.new-seen.ensures;
      long = ap length none ∙ length-replicate _ _;
      before = λ n d before is. absurd (omega (arith, before));
      after = λ n from. ap (λ xs. link xs n) none ∙ no-links (length c.args.changes.now) n;
    }

pub offset_bounds-changes-number : goal.offset_bounds-changes-number
offset_bounds-changes-number c = omega (arith, c.loop-number-test.true)

pub bounds-changes-number : goal.bounds-changes-number
bounds-changes-number c = c.loop-number-test.true

pub offset_bounds-fates-number : goal.offset_bounds-fates-number
offset_bounds-fates-number c = omega (arith, c.loop-number-test.true)

pub bounds-fates-number : goal.bounds-fates-number
bounds-fates-number c =
    let same = ap length c.requires ∙ length-map c.args.changes.now (fate c.args.changes.now) in
    omega (arith, c.loop-number-test.true, same)

pub index_mut-requires : goal.index_mut-requires
index_mut-requires c = omega (arith, c.loop-number-test.true, c.loop-number.invariant.long)

pub loop-number-preserved : goal.loop-number-preserved
loop-number-preserved c =
    let cs = c.args.changes.now in
    let n = c.loop-number.number in
    let change = c.index-changes-number.result in
    let links = c.loop-number.links.items in
    let kept = c.loop-number.invariant in
    let next : n + 1 ≡ suc n = omega arith in
    let within : n < length cs = c.loop-number-test.true in
    let at = at-index cs n change within c.index-changes-number.is in
    let told = c.is_dropped.ensures ∙ fate-at cs c.args.fates.now n change _ c.requires at in
    elim c.if-not-is_dropped.branch [
      | then-not-is_dropped+in_ok-links-2 w ↦
          let stays = sym told ∙ w.if-not-is_dropped.true in
          let o = w.in_ok-links-2.field-0 in
          let put = ap (λ v. v.items) w.links-is in
          record {
            seen = λ a. ap (λ t. gap_entry t a) w.seen-is ∙ seen-kept cs n change at (n + 1) next c.loop-number.seen kept.seen w.put.new.self stays w.in_ok-links-2.ensures.after a;
            long = ap length put ∙ length-set links n o ∙ kept.long;
            before = λ k d l is. ap (λ xs. link xs k) put ∙ put-before cs n (n + 1) next change at links kept.before o (omega (arith, within, kept.long)) stays (w.in_ok-links-2.ensures.before ∙ kept.seen (aim change)) k d l is;
            after = λ k l. ap (λ xs. link xs k) put ∙ put-after cs n (n + 1) next change at links kept.before o (omega (arith, within, kept.long)) kept.after k l;
          }
      | else-not-is_dropped w ↦
          let gone = sym told ∙ w.if-not-is_dropped.false in
          let same = ap (λ v. v.items) w.links-is in
          record {
            seen = λ a. ap (λ t. gap_entry t a) w.seen-is ∙ seen-passed cs n change at (n + 1) next c.loop-number.seen kept.seen gone a;
            long = ap length same ∙ kept.long;
            before = λ k d l is. ap (λ xs. link xs k) same ∙ passed-before cs n (n + 1) next change at links kept.before gone (kept.after n (omega arith)) k d l is;
            after = λ k l. ap (λ xs. link xs k) same ∙ kept.after k (omega (arith, l));
          }
    ]

pub returns : goal.returns
returns c = record {
  long = c.loop-number.invariant.long;
  at = λ n d is. c.loop-number.invariant.before n d (omega (arith, c.loop-number-test.false, slice_get_within c.args.changes.now n d is)) is;
}
