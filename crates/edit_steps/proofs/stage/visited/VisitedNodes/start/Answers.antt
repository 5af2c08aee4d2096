use Rattle.std.proofs.Common.{ap, refl}
use Rattle.std.specs.Vec.{with_item}
use Rattle.edit_steps.specs.declared.stage.visited.VisitedNodes.{VisitedNodes}
use Rattle.edit_steps.specs.inner.Widths.{held_of}
use Rattle.edit_steps.specs.inner.Visited.{below_at}
use Rattle.edit_steps.proofs.Visiting.{exchanged, kept_held, kept_numbers, kept_visited}
use Rattle.edit_steps.proofs.stage.visited.VisitedNodes.start.Goals as goal

pub returns-clause-same : goal.returns-clause-same
returns-clause-same c =
    let v = c.args.self.now in
    let n = c.args.node in
    let x = c.index_mut.result.now in
    let y = c.start.new.self in
    let new : VisitedNodes = record { nodes = with_item v.nodes n y } in
    let ex = exchanged v new n y refl in
    kept_held v n c.requires.node x y c.index_mut.ensures.value new ex (ap held_of c.start.ensures.same) (λ i. ap (λ z. below_at z.below i) c.start.ensures.same)

pub returns-clause-numbers : goal.returns-clause-numbers
returns-clause-numbers c =
    let v = c.args.self.now in
    let n = c.args.node in
    let x = c.index_mut.result.now in
    let y = c.start.new.self in
    let new : VisitedNodes = record { nodes = with_item v.nodes n y } in
    let ex = exchanged v new n y refl in
    kept_numbers v n c.requires.node x y c.index_mut.ensures.value new ex (ap held_of c.start.ensures.same) (λ i. ap (λ z. below_at z.below i) c.start.ensures.same)

pub returns-clause-visited : goal.returns-clause-visited
returns-clause-visited c =
    let v = c.args.self.now in
    let n = c.args.node in
    let x = c.index_mut.result.now in
    let y = c.start.new.self in
    let new : VisitedNodes = record { nodes = with_item v.nodes n y } in
    let ex = exchanged v new n y refl in
    kept_visited v n c.requires.node x y c.index_mut.ensures.value new ex (ap held_of c.start.ensures.same) (λ i. ap (λ z. below_at z.below i) c.start.ensures.same) c.requires.visited
