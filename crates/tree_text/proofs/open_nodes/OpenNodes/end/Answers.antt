use Rattle.tree_text.proofs.Depths.{popped, innermost_fits}
use Rattle.tree_text.proofs.Results.{kept_by_map_err, of_the_value}
use Rattle.tree_text.proofs.open_nodes.OpenNodes.end.Goals as goal

pub invariant_of-self : goal.invariant_of-self
invariant_of-self c =
    record { limited = popped c.args.self.now.nodes.items c.pop.new.self.items c.pop.result c.args.self.now.limit c.pop.ensures.items c.args.self.now.limited; some = c.args.self.now.some }

pub returns-clause-limited : goal.returns-clause-limited
returns-clause-limited c =
    let fits = innermost_fits c.args.self.now.nodes.items c.pop.new.self.items c.in-Some.field-0 c.args.self.now.limit c.in-Some.ensures.items c.args.self.now.limited in
    kept_by_map_err c.new.result c.map_err.result _ _ c.map_err.ensures.cases (of_the_value c.new.result _ _ c.new.ensures.ok fits)
