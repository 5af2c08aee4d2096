use Rattle.std.proofs.Common.{◌≡◌, length, ◌+◌, ap, sym, subst, ◌∙◌, arith, refl}
use Rattle.std.proofs.lemmas.List.{length-map}
use Rattle.std.proofs.lemmas.Result.{MatchResult-from_err}
use Rattle.green_tree.specs.Tree.{trees}
use Rattle.green_tree.specs.Green.{branch_tree}
use Rattle.green_tree.specs.GreenElement.{element_tree, element_trees}
use Rattle.green_tree.specs.declared.green.GreenElement.TheVariants.{Node}
use Rattle.green_tree.specs.inner.Splices.{CanSplice, spliced, updated_at}
use Rattle.green_tree.specs.Count.{counted}
use Rattle.edit_change.specs.inner.Aimed.{numbered, aim_in}
use Rattle.edit_steps.specs.inner.Stage.{old_tree, StageStaysAs}
use Rattle.edit_steps.specs.declared.stage.Stage.{Stage}
use Rattle.edit_steps.specs.declared.stage.visited.VisitedNodes.{VisitedNodes}
use Rattle.edit_steps.specs.inner.Visited.{held_at, SameHeld, IsVisited}
use Rattle.edit_steps.specs.inner.Widths.{CanHold, IsPut}
use Rattle.edit_steps.specs.inner.Counts.{IsCounted}
use Rattle.edit_steps.specs.inner.Putting.{CanPut, put}
use Rattle.edit_steps.specs.inner.AimTargets.{site_of}
use Rattle.edit_steps.proofs.Putting.{no-token}
use Rattle.edit_steps.proofs.Visiting.{number_within, node_holds}
use Rattle.edit_steps.proofs.Ways.{as_deep, can_splice_place, put_at_place}
use Rattle.edit_steps.proofs.Aims.{found-live, found-dead, found-none}
use Rattle.edit_steps.proofs.Stepping.{dead-tree, dead-counted}
use Rattle.edit_steps.proofs.StepOfStage.{made-live, builds-live, builds-dead}
use Rattle.edit_steps.proofs.stage.Stage.step.Goals as goal

pub returns-in_default-clause-done : goal.returns-in_default-clause-done
returns-in_default-clause-done c = λ given xs ys stage next gives.
    let s = c.args.self.now in
    let aim = c.args.aim.now in
    let dead = found-dead (old_tree s) given xs (numbered aim) ys (held_at s.visited) aim.path.now aim.form refl (sym c.in_default.ensures.site) in
    record {
      tree = stage.tree ∙ dead-tree (old_tree s) given xs (numbered aim) ys (held_at s.visited) dead.0 dead.1;
      counted = dead-counted (old_tree s) given xs (numbered aim) ys (held_at s.visited) dead.0 dead.1 stage.counted;
      visited = stage.visited;
    }

pub returns-in_default-clause-count : goal.returns-in_default-clause-count
returns-in_default-clause-count c =
    let s = c.args.self.now in
    let aim = c.args.aim.now in
    let none = builds-dead (old_tree s) (aim_in aim.path.now aim.form) (found-none (old_tree s) aim.path.now aim.form (sym c.in_default.ensures.site)) in
    let same : c.args.builds.now ≡ counted c.args.builds.now 0 = omega arith in
    same ∙ ap (counted c.args.builds.now) (sym none)

pub place_of-requires-clause-visited : goal.place_of-requires-clause-visited
place_of-requires-clause-visited c = c.requires.3.visited

pub place_of-requires-clause-can : goal.place_of-requires-clause-can
place_of-requires-clause-can c =
    let s = c.args.self.now in
    let aim = c.args.aim.now in
    let held = held_at s.visited in
    let p = c.in-Some.target.parent.now in
    let a = c.in-Some.target.at in
    let live = found-live (old_tree s) aim.path.now aim.form (site_of c.in-Some.target) (sym c.in-Some.ensures.site) in
    let stage = c.requires.3 in
    let made = made-live (old_tree s) c.requires.0 c.requires.1 (numbered aim) c.requires.2 held p a stage.counted live c.requires.4 in
    subst (λ t. CanPut t held p a) (sym stage.tree) made.can

stays_visited : (s : Stage) (v : VisitedNodes) → SameHeld s.visited v → IsVisited v → StageStaysAs s (record { original = s.original; current = s.current; visited = v })
stays_visited s v same visited given cs stage = record {
  tree = stage.tree;
  counted = λ p k f there. subst (IsCounted given cs p (length (trees f))) (sym (same p)) (stage.counted p k f there);
  visited = visited;
}

pub returns-in_err-place-clause-refused : goal.returns-in_err-place-clause-refused
returns-in_err-place-clause-refused c =
    let stays = stays_visited c.args.self.now c.place_of.new.visited c.place_of.ensures.same c.place_of.ensures.visited in
    MatchResult-from_err c.from_residual.result _ _ c.from_residual.ensures.0 (λ e. stays)

pub reserve-requires-clause-visited : goal.reserve-requires-clause-visited
reserve-requires-clause-visited c = c.place_of.ensures.visited

pub reserve-requires-clause-node : goal.reserve-requires-clause-node
reserve-requires-clause-node c =
    number_within c.place_of.new.visited c.place_of.ensures.visited c.in-Some.target.parent.now c.in_ok-place.place.node c.in_ok-place.ensures.place.node

pub reserve-requires-clause-fits : goal.reserve-requires-clause-fits
reserve-requires-clause-fits c = c.in-Some.ensures.fits

pub returns-in_err-reserve-clause-refused : goal.returns-in_err-reserve-clause-refused
returns-in_err-reserve-clause-refused c =
    let stays = stays_visited c.args.self.now c.reserve.new.self (λ p. c.reserve.ensures.same p ∙ c.place_of.ensures.same p) c.reserve.ensures.visited in
    MatchResult-from_err c.from_residual-in_err-reserve.result _ _ c.from_residual-in_err-reserve.ensures.0 (λ e. stays)

pub unreachable-requires : goal.unreachable-requires
unreachable-requires c =
    let s = c.args.self.now in
    let aim = c.args.aim.now in
    let held = held_at s.visited in
    let p = c.in-Some.target.parent.now in
    let a = c.in-Some.target.at in
    let live = found-live (old_tree s) aim.path.now aim.form (site_of c.in-Some.target) (sym c.in-Some.ensures.site) in
    let stage = c.requires.3 in
    let made = made-live (old_tree s) c.requires.0 c.requires.1 (numbered aim) c.requires.2 held p a stage.counted live c.requires.4 in
    let can = subst (λ t. CanPut t held p a) (sym stage.tree) made.can in
    let leaf = c.in_default-current.field-0 in
    let at_leaf = subst (λ e. CanPut (element_tree e) held p a) c.in_default-current.is can in
    no-token leaf.kind leaf.text _ at_leaf.there.kind at_leaf.there.below at_leaf.there.there

pub splice_at-requires : goal.splice_at-requires
splice_at-requires c =
    let s = c.args.self.now in
    let aim = c.args.aim.now in
    let held = held_at s.visited in
    let p = c.in-Some.target.parent.now in
    let a = c.in-Some.target.at in
    let live = found-live (old_tree s) aim.path.now aim.form (site_of c.in-Some.target) (sym c.in-Some.ensures.site) in
    let stage = c.requires.3 in
    let made = made-live (old_tree s) c.requires.0 c.requires.1 (numbered aim) c.requires.2 held p a stage.counted live c.requires.4 in
    let can = subst (λ t. CanPut t held p a) (sym stage.tree) made.can in
    let at_top = subst (λ e. CanPut (element_tree e) held p a) c.in-Node.is can in
    subst (λ q. CanSplice (branch_tree c.in-Node.top) q c.in_ok-place.place.first c.count.result) (sym c.deref.ensures.value)
    (can_splice_place held c.in-Some.target c.place_of.new.visited c.in_ok-place.place c.in_ok-place.ensures.place (branch_tree c.in-Node.top) at_top c.count.result c.count.ensures)

pub returns-in_err-splice_at-clause-refused : goal.returns-in_err-splice_at-clause-refused
returns-in_err-splice_at-clause-refused c =
    let s = c.args.self.now in
    let reserved = stays_visited s c.reserve.new.self (λ p. c.reserve.ensures.same p ∙ c.place_of.ensures.same p) c.reserve.ensures.visited in
    let same : s.current ≡ Node c.splice_at.new.top = c.in-Node.is ∙ ap Node (sym c.in_err-splice_at.ensures.err) in
    let stays = subst (λ e. StageStaysAs s (record { original = s.original; current = e; visited = c.reserve.new.self })) same reserved in
    MatchResult-from_err c.from_residual-in_err-splice_at.result _ _ c.from_residual-in_err-splice_at.ensures.0 (λ e. stays)

pub returns-in_err-splice_at-clause-refused_count : goal.returns-in_err-splice_at-clause-refused_count
returns-in_err-splice_at-clause-refused_count c =
    MatchResult-from_err c.from_residual-in_err-splice_at.result _ _ c.from_residual-in_err-splice_at.ensures.0 (λ e. c.in_err-splice_at.ensures.no_count)

pub put-requires-clause-visited : goal.put-requires-clause-visited
put-requires-clause-visited c = c.reserve.ensures.visited

pub put-requires-clause-room : goal.put-requires-clause-room
put-requires-clause-room c = c.in_ok-reserve.ensures.room

pub put-requires-clause-can : goal.put-requires-clause-can
put-requires-clause-can c =
    let s = c.args.self.now in
    let aim = c.args.aim.now in
    let held = held_at s.visited in
    let p = c.in-Some.target.parent.now in
    let a = c.in-Some.target.at in
    let live = found-live (old_tree s) aim.path.now aim.form (site_of c.in-Some.target) (sym c.in-Some.ensures.site) in
    let stage = c.requires.3 in
    let made = made-live (old_tree s) c.requires.0 c.requires.1 (numbered aim) c.requires.2 held p a stage.counted live c.requires.4 in
    let v = c.reserve.new.self in
    let same : SameHeld s.visited v = λ q. c.reserve.ensures.same q ∙ c.place_of.ensures.same q in
    let number = c.in_ok-reserve.ensures.numbers p ∙ c.in_ok-place.ensures.place.node in
    let can : CanHold (held p) a c.len-width.result = record { there = made.there; gap = made.gap; fits = omega (arith, c.in_ok-place.ensures.place.wide, c.len-width.ensures) } in
    subst (λ h. CanHold h a c.len-width.result) (sym (node_holds s.visited v same p c.in_ok-place.place.node number)) can

pub returns-clause-done : goal.returns-clause-done
returns-clause-done c = λ given xs ys stage next gives.
    let s = c.args.self.now in
    let aim = c.args.aim.now in
    let held = held_at s.visited in
    let p = c.in-Some.target.parent.now in
    let a = c.in-Some.target.at in
    let place = c.in_ok-place.place in
    let top = branch_tree c.in-Node.top in
    let trees_given = element_trees c.args.given.items in
    let live = found-live (old_tree s) aim.path.now aim.form (site_of c.in-Some.target) (sym c.in-Some.ensures.site) in
    let made = made-live (old_tree s) given xs (numbered aim) ys held p a stage.counted live next in
    let wide : c.len-width.result ≡ length (given aim.change) = c.len-width.ensures ∙ c.args.given.ok.0 ∙ sym (length-map c.args.given.items element_tree) ∙ ap length (sym gives) in
    let same : SameHeld s.visited c.reserve.new.self = λ q. c.reserve.ensures.same q ∙ c.place_of.ensures.same q in
    let puts = c.put.ensures.put p (c.in_ok-reserve.ensures.numbers p ∙ c.in_ok-place.ensures.place.node) in
    record {
      tree =
          c.in_ok-splice_at.ensures.ok
          ∙ ap (λ q. updated_at top q (spliced place.first c.count.result trees_given)) c.deref.ensures.value
          ∙ put_at_place held c.in-Some.target c.place_of.new.visited place c.in_ok-place.ensures.place top trees_given c.count.result c.count.ensures
          ∙ ap (λ e. put (element_tree e) held p a trees_given) (sym c.in-Node.is)
          ∙ ap (λ t. put t held p a trees_given) stage.tree
          ∙ ap (put _ held p a) (sym gives)
          ∙ made.tree;
      counted = made.counted (held_at c.put.new.self) (record {
        here = subst (λ w. IsPut (held p) (held_at c.put.new.self p) a w) wide (subst (λ h. IsPut h (held_at c.put.new.self p) a c.len-width.result) (same p) puts.here);
        others = λ q n. puts.others q n ∙ same q;
      });
      visited = c.put.ensures.visited;
    }

pub returns-clause-count : goal.returns-clause-count
returns-clause-count c =
    let s = c.args.self.now in
    let aim = c.args.aim.now in
    let live = found-live (old_tree s) aim.path.now aim.form (site_of c.in-Some.target) (sym c.in-Some.ensures.site) in
    let many = builds-live (old_tree s) (aim_in aim.path.now aim.form) c.in-Some.target.parent.now live.live live.parent in
    let deep = ap length c.deref.ensures.value ∙ as_deep (held_at s.visited) c.in-Some.target c.place_of.new.visited c.in_ok-place.place c.in_ok-place.ensures.place in
    c.in_ok-splice_at.ensures.count ∙ ap (λ n. counted c.args.builds.now (n + 1)) deep ∙ ap (counted c.args.builds.now) (sym many)
