-- How long the texts of elements are.
--     IsCappedLength                how many bytes the texts of elements have together, as far as the limit
use Rattle.std.specs.Prelude.{◌≡◌, ℕ, List}
use Rattle.green_tree.specs.Green.{texts, capped_length}
use Rattle.green_tree.specs.declared.green.GreenElement.{GreenElement}
use Rattle.green_tree.specs.GreenElement.{element_trees}

abbrev pub IsCappedLength : List GreenElement → ℕ → Type 0
IsCappedLength es n = n ≡ capped_length (texts (element_trees es))
