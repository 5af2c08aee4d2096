-- Refusals of what whitespace is made of, as why there is none. There is no answer for those that cannot come there.
--     of_level                      why a level is not read
--     of_whitespace                 why a whitespace token is not made
use Rattle.std.specs.Prelude.{Option, Some, None}
use Rattle.cst_core.specs.TreeError.{TreeError}
use Rattle.cst_core.specs.TreeError.TheVariants as tree
use Rattle.whitespace.specs.declared.indent_error.IndentError.{IndentError}
use Rattle.whitespace.specs.declared.indent_error.IndentError.TheVariants as indent
use Rattle.whitespace.specs.declared.space_error.SpaceError.{SpaceError}
use Rattle.whitespace.specs.declared.space_error.SpaceError.TheVariants as space_error

abbrev pub of_level : IndentError → Option SpaceError
of_level indent.LevelTooLarge = Some space_error.LevelTooLarge
of_level indent.Memory = Some space_error.Memory
of_level _ = None

abbrev pub of_whitespace : TreeError → Option SpaceError
of_whitespace tree.NoTreeNumber = Some space_error.NoTreeNumber
of_whitespace tree.Memory = Some space_error.Memory
of_whitespace _ = None
