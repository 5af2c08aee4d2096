use Rattle.std.proofs.Common.{[], ◌∷◌, ◌++◌, ap, ◌∙◌}
use Rattle.edit_steps.specs.declared.stage.visited.VisitedNodes.{VisitedNodes}
use Rattle.edit_steps.proofs.Visiting.{top_alone}
use Rattle.edit_steps.proofs.stage.visited.VisitedNodes.new.Goals as goal

pub returns-clause-visited : goal.returns-clause-visited
returns-clause-visited c =
    let v : VisitedNodes = record { nodes = c.push.new.self } in
    top_alone v c.new.result (c.in_ok-push.ensures.items ∙ ap (λ xs. xs ++ c.new.result ∷ []) c.in_ok-nodes.ensures.items) c.new.ensures.below
