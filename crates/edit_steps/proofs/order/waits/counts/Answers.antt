use Rattle.std.proofs.Common.{◌∙◌, ◌<◌, ◌≤◌, ◌+◌, ap, arith, length, get_or}
use Rattle.std.specs.Prelude.{count_by, slice_index}
use Rattle.std.proofs.lemmas.Grind.{get_or_default_zero}
use Rattle.std.proofs.lemmas.List.{get_or-replicate, length-replicate, length-set, take_all}
use Rattle.edit_steps.specs.inner.Waits.{points_at}
use Rattle.edit_steps.proofs.WaitCounts.{counted-some, counted-past, counted-none, count-bound}
use Rattle.edit_steps.proofs.order.waits.counts.Goals as goal
use Rattle.edit_steps.proofs.order.waits.counts.Goals.{in-Some+then-number-len, in-Some+else-number-len, in_default}

pub loop-link-init : goal.loop-link-init
loop-link-init c =
    let all = c.in_ok-counts.ensures.items_if_clones_equal (λ y h. h) in
    record {
      long = ap length all ∙ length-replicate _ _;
      counted = λ n less. ap (λ xs. slice_index xs n) all ∙ get_or-replicate (length c.args.links.now) n 0 0 less;
    }

pub offset_bounds-links-link-index : goal.offset_bounds-links-link-index
offset_bounds-links-link-index c = omega (arith, c.loop-link-test.true)

pub bounds-links-link-index : goal.bounds-links-link-index
bounds-links-link-index c = c.loop-link-test.true

pub overflow_add-index_mut : goal.overflow_add-index_mut
overflow_add-index_mut c =
    let links = c.args.links.now in
    let counts = c.loop-link.counts in
    let m = c.in-Some.number in
    let kept = c.loop-link.invariant in
    let within : m < length counts.items = omega (arith, c.if-number-len.true, c.len.ensures, counts.ok.0) in
    let read = c.index_mut.ensures.value ∙ get_or_default_zero counts.items m c.index_mut.result.now within in
    let bound = count-bound links c.loop-link.link-index c.loop-link-test.true counts.items kept.long kept.counted m (omega (arith, within, kept.long)) in
    omega (arith, read, bound, kept.long, counts.ok.0, counts.ok.1, counts.small)

pub loop-link-preserved : goal.loop-link-preserved
loop-link-preserved c =
    let links = c.args.links.now in
    let i = c.loop-link.link-index in
    let l = c.loop-link-test.true in
    let counts = c.loop-link.counts in
    let kept = c.loop-link.invariant in
    elim c.match-link.branch [
      | in-Some+then-number-len w ↦
          let m = w.in-Some.number in
          let within : m < length counts.items = omega (arith, w.if-number-len.true, w.len.ensures, counts.ok.0) in
          let put = ap (λ v. v.items) w.counts-is in
          let read = w.index_mut.ensures.value ∙ get_or_default_zero counts.items m w.index_mut.result.now within in
          record {
            long = ap length put ∙ length-set counts.items m (w.index_mut.result.now + 1) ∙ kept.long;
            counted = counted-some links i l counts.items kept.long kept.counted m w.index_mut.result.now c.match-link.counts.items w.in-Some.is within read put;
          }
      | in-Some+else-number-len w ↦
          let past : length counts.items ≤ w.in-Some.number = omega (arith, w.if-number-len.false, w.len.ensures, counts.ok.0) in
          let stays = ap (λ v. v.items) w.counts-is in
          record {
            long = ap length stays ∙ kept.long;
            counted = λ n less. ap (λ ns. get_or ns n 0) stays ∙ counted-past links i l counts.items kept.long kept.counted w.in-Some.number w.in-Some.is past n less;
          }
      | in_default w ↦
          let stays = ap (λ v. v.items) w.counts-is in
          record {
            long = ap length stays ∙ kept.long;
            counted = λ n less. ap (λ ns. get_or ns n 0) stays ∙ counted-none links i l counts.items kept.long kept.counted w.in_default.is n less;
          }
    ]

pub returns-clause-long : goal.returns-clause-long
returns-clause-long c = c.loop-link.invariant.long

pub returns-clause-counted : goal.returns-clause-counted
returns-clause-counted c = λ n less.
    c.loop-link.invariant.counted n less ∙ ap (count_by (points_at n)) (take_all c.loop-link.link-index c.args.links.now c.loop-link-test.false)
