use Rattle.std.proofs.Common.{◌≡◌, ◌+◌, ◌≤◌, length, drop, min}
use Rattle.cst_core.specs.Green.{capped_length, texts, length_limit}
use Rattle.syntax_editor.specs.Making.{trees_of}
use Rattle.syntax_editor.proofs.fresh_node.length_of.Given as goal

abbrev pub invariant-loop-element : goal.invariant-loop-element
invariant-loop-element l = record {
  whole : min (l.length + length (texts (trees_of (drop l.element-index l.elements)))) length_limit ≡ capped_length (texts (trees_of l.elements));
  within : l.length ≤ length_limit;
}
