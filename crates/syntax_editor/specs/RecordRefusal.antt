-- Which refusal a call that records gives for one of a call below it.
--     of_space                      The `RecordError` for a `SpaceError`.
use Rattle.whitespace.specs.declared.space_error.SpaceError.{SpaceError}
use Rattle.whitespace.specs.declared.space_error.SpaceError.TheVariants as space
use Rattle.syntax_editor.specs.declared.error.RecordError.{RecordError}
use Rattle.syntax_editor.specs.declared.error.RecordError.TheVariants as record_error

abbrev pub of_space : SpaceError → RecordError
of_space space.LevelTooLarge = record_error.LevelTooLarge
of_space space.NoTreeNumber = record_error.NoTreeNumber
of_space space.Memory = record_error.Memory
