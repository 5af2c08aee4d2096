use Rattle.std.proofs.Common.{◌++◌, [], ◌∷◌, ℕ, map, flat_map, take, refl, ap, sym, subst, ◌∙◌}
use Rattle.std.proofs.lemmas.List.{append-nil, at_drop_all}
use Rattle.one_pass.specs.declared.mark.Sought.{Sought}
use Rattle.one_pass.specs.inner.Marked.{mark_below, marks_of, marks_seen, marks_at, sought_below, InPathOrder, FromChild}
use Rattle.one_pass.proofs.MarksInOrder.{tops-found, opened-below, opened-order}
use Rattle.one_pass.proofs.NextAim.{part-rest}
use Rattle.one_pass.proofs.NodeSteps.{one-found}
use Rattle.one_pass.proofs.open_nodes.open_node.Goals as goal

pub loop-mark-preserved : goal.loop-mark-preserved
loop-mark-preserved c =
    let xs = take c.marks_before-here.result c.args.sought.now in
    record {
      path = c.loop-mark.invariant.path;
      count = c.loop-mark.invariant.count;
      marks = one-found (λ (s : Sought). (s.number, []) ∷ []) c.args.walk.now.path.items c.deref.result.now xs c.loop-mark.mark-index _ (marks_of c.loop-mark.walk.found.items) (marks_of c.push_mark.new.found.items) _ c.loop-mark-test.true (c.deref.ensures.value ∙ c.loop-mark.invariant.path) c.in_ok-push_mark.ensures c.loop-mark.invariant.marks;
    }

pub returns-clause-opened : goal.returns-clause-opened
returns-clause-opened c =
    let xs = c.args.sought.now in
    let d : ℕ = c.args.depth in
    let n : ℕ = c.marks_before-here.result in
    let said = c.marks_before-here.ensures in
    let rest = part-rest xs n in
    let path = c.args.walk.now.path.items in
    let found = marks_of c.loop-mark.walk.found.items in
    let all = sym (append-nil found) ∙ sym (at_drop_all (λ ys. found ++ map (mark_below path) (flat_map (λ (s : Sought). (s.number, []) ∷ []) ys)) (take n xs) c.loop-mark.mark-index c.loop-mark-test.false) ∙ c.loop-mark.invariant.marks in
    record {
      kind = c.kind.ensures;
      elements = c.children-elements.ensures;
      depth = refl;
      aims = refl;
      ascending = subst (λ ys. InPathOrder (marks_seen d ys)) (sym rest) (opened-order d n xs c.requires said.before said.behind);
      from = subst (λ ys. FromChild 0 (marks_seen d ys)) (sym rest) said.behind;
      sought_are = λ i. ap (λ ys. sought_below i (marks_seen d ys)) rest ∙ opened-below d n xs c.requires said.before said.behind i;
      out = c.in_ok-out.ensures.items;
      slot = refl;
      passed = refl;
      found = all ∙ ap (λ ms. marks_of c.args.walk.now.found.items ++ ms) (tops-found d n xs c.requires said.before said.behind path) ∙ ap (λ p. marks_of c.args.walk.now.found.items ++ map (λ n. (n, p)) (marks_at (marks_seen d xs) [])) (sym c.loop-mark.invariant.path);
    }

pub returns-clause-path : goal.returns-clause-path
returns-clause-path c = c.loop-mark.invariant.path

pub returns-clause-count : goal.returns-clause-count
returns-clause-count c = c.loop-mark.invariant.count
