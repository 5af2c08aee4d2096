use Rattle.cst_core.specs.Element.{address}
use Rattle.edit_map.proofs.Climbs.{Climbed, way}
use Rattle.edit_map.proofs.mapping.SyntaxMapping.place.Given as goal

abbrev pub invariant-up : goal.invariant-up
invariant-up l = Climbed l.fn.self (address l.fn.payload) (address l.fn.target) l.slots.items (address l.node)

abbrev pub decreases-up : goal.decreases-up
decreases-up l = way l.fn.self (address l.node)
