-- Which refusal a call that indents gives for one of a call below it.
--     of_tree                       The `IndentError` for a `TreeError`.
use Rattle.cst_core.specs.TreeError.{TreeError}
use Rattle.cst_core.specs.TreeError.TheVariants as tree
use Rattle.whitespace.specs.declared.indent_error.IndentError.{IndentError}
use Rattle.whitespace.specs.declared.indent_error.IndentError.TheVariants as indent

abbrev pub of_tree : TreeError → IndentError
of_tree tree.TooLong = indent.TooLong
of_tree tree.NoTreeNumber = indent.NoTreeNumber
of_tree tree.Memory = indent.Memory
