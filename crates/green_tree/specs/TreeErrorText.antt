-- What an error prints that refuses a tree.
--     tree_error_text    The name of the error's case.
use Rattle.std.specs.Prelude.{ℕ, List, codes}
use Rattle.green_tree.specs.declared.error.TreeError.{TreeError}
use Rattle.green_tree.specs.declared.error.TreeError.TheVariants.{TooLong, NoTreeNumber, Memory}

abbrev pub tree_error_text : TreeError → List ℕ
tree_error_text TooLong = codes "TooLong"
tree_error_text NoTreeNumber = codes "NoTreeNumber"
tree_error_text Memory = codes "Memory"
