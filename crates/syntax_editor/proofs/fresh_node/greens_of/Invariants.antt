use Rattle.std.proofs.Common.{◌≡◌, ◌++◌, drop}
use Rattle.cst_core.specs.GreenElement.{element_trees}
use Rattle.syntax_editor.specs.Making.{trees_of}
use Rattle.syntax_editor.proofs.fresh_node.greens_of.Given as goal

abbrev pub invariant-loop-element : goal.invariant-loop-element
invariant-loop-element l = element_trees l.greens.items ++ trees_of (drop l.element-index l.elements) ≡ trees_of l.elements
