use Rattle.std.proofs.Common.{ap, refl}
use Rattle.std.specs.Vec.{with_item}
use Rattle.edit_steps.specs.declared.stage.visited.VisitedNodes.{VisitedNodes}
use Rattle.edit_steps.specs.inner.Visited.{below_at}
use Rattle.edit_steps.proofs.Visiting.{exchanged, exchanged_below, put_in, same_visited}
use Rattle.edit_steps.proofs.stage.visited.VisitedNodes.put.Goals as goal

pub returns-clause-put : goal.returns-clause-put
returns-clause-put c =
    let v = c.args.self.now in
    let n = c.args.node in
    let x = c.index_mut.result.now in
    let y = c.put.new.self in
    let new : VisitedNodes = record { nodes = with_item v.nodes n y } in
    let ex = exchanged v new n y refl in
    put_in v n c.requires.room.within x y c.index_mut.ensures.value new ex c.requires.visited c.args.at c.args.width c.put.ensures.held c.put.ensures.below

pub returns-clause-visited : goal.returns-clause-visited
returns-clause-visited c =
    let v = c.args.self.now in
    let n = c.args.node in
    let x = c.index_mut.result.now in
    let y = c.put.new.self in
    let new : VisitedNodes = record { nodes = with_item v.nodes n y } in
    let ex = exchanged v new n y refl in
    same_visited v new (exchanged_below v n c.requires.room.within x y c.index_mut.ensures.value new ex (λ i. ap (λ ls. below_at ls i) c.put.ensures.below)) ex.longer c.requires.visited
