use Rattle.green_tree.specs.Path.{above}
use Rattle.cst_core.specs.Element.{element_at}
use Rattle.cst_core.proofs.Ancestors.{map-reverse}
use Rattle.cst_core.proofs.location.Location.nodes_above.Goals as goal

pub returns : goal.returns
returns c = rw (c.reverse.ensures.items, c.in_ok-all.ensures) (map-reverse (element_at c.args.self.now) (above c.args.self.now.path))
