use Rattle.std.proofs.Common.{◌≡◌, map, take}
use Rattle.cst_core.specs.Element.{subtree}
use Rattle.cst_core.specs.GreenElement.{element_trees}
use Rattle.cst_core.specs.SyntaxElement.{element_of}
use Rattle.edit_change.proofs.change_aims.green_payload.Given as goal

abbrev pub invariant-loop-element : goal.invariant-loop-element
invariant-loop-element l = element_trees l.greens.items ≡ map subtree (map element_of (take l.element-index l.elements))
