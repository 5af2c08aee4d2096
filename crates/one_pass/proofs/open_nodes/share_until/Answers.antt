use Rattle.std.proofs.Common.{◌≡◌, ◌++◌, ℕ, map, flat_map, min, max, take, drop, length, rules, ap, sym, ◌∙◌}
use Rattle.std.specs.List.{slice_range}
use Rattle.std.proofs.lemmas.List.{append-nil, at_drop_all}
use Rattle.one_pass.specs.declared.mark.Sought.{Sought}
use Rattle.one_pass.specs.inner.Marked.{Marking, mark_below, marks_of, mark_seen, marks_seen}
use Rattle.one_pass.specs.inner.OpenNodes.{carried_to}
use Rattle.one_pass.proofs.NextAim.{part-rest}
use Rattle.one_pass.proofs.NodeSteps.{one-found}
use Rattle.one_pass.proofs.SharedRuns.{shared-run}
use Rattle.one_pass.proofs.TextOrders.{flat_map-map}
use Rattle.one_pass.proofs.open_nodes.share_until.Goals as goal

pub loop-mark-preserved : goal.loop-mark-preserved
loop-mark-preserved c =
    let top = c.args.top.now in
    let g = λ (s : Sought). carried_to (length top.out.items) c.min-first.result top.elements.now s.number (drop top.depth s.path.now) in
    let xs = take c.marks_before-end.result top.sought.now in
    let said = c.in_ok-push_shared.ensures in
    record {
      path = said.path ∙ c.loop-mark.invariant.path;
      count = said.count ∙ c.loop-mark.invariant.count;
      marks = one-found g c.args.walk.now.path.items c.loop-mark.walk.path.items xs c.loop-mark.mark-index _ (marks_of c.loop-mark.walk.found.items) (marks_of c.push_shared.new.walk.found.items) _ c.loop-mark-test.true c.loop-mark.invariant.path said.marks c.loop-mark.invariant.marks;
    }

pub returns : goal.returns
returns c =
    let f = c.args.top.now in
    let n : ℕ = c.marks_before-end.result in
    let xs = take n f.sought.now in
    let first : ℕ = c.min-first.result in
    let is : first ≡ min (max f.slot f.passed) c.args.until = search rules in
    let g = λ (s : Sought). carried_to (length f.out.items) first f.elements.now s.number (drop f.depth s.path.now) in
    let before = marks_of c.args.walk.now.found.items in
    let found = sym (append-nil (marks_of c.loop-mark.walk.found.items)) ∙ sym (at_drop_all (λ ys. marks_of c.loop-mark.walk.found.items ++ map (mark_below c.args.walk.now.path.items) (flat_map g ys)) xs c.loop-mark.mark-index c.loop-mark-test.false) ∙ c.loop-mark.invariant.marks ∙ ap (λ ms. before ++ map (mark_below c.args.walk.now.path.items) ms) (sym (flat_map-map (λ (x : Marking). carried_to (length f.out.items) first f.elements.now x.0 x.1) (mark_seen f.depth) xs)) in
    shared-run f c.args.until n c.share_all.new.out _ c.args.walk.now c.loop-mark.walk c.requires.order c.requires.within c.requires.next c.requires.ahead (part-rest f.sought.now n) c.marks_before-end.ensures.before c.marks_before-end.ensures.behind (c.in_ok-share_all.ensures ∙ ap (λ k. f.out.items ++ slice_range f.elements.now k c.args.until) is) c.loop-mark.invariant.path c.loop-mark.invariant.count (found ∙ ap (λ k. before ++ map (mark_below c.args.walk.now.path.items) (flat_map (λ (x : Marking). carried_to (length f.out.items) k f.elements.now x.0 x.1) (marks_seen f.depth xs))) is)
