-- What an error prints that refuses a call that records a change.
--     record_error_text    The name of the error's case.
use Rattle.std.specs.Prelude.{ℕ, List, codes}
use Rattle.syntax_editor.specs.declared.error.RecordError.{RecordError}
use Rattle.syntax_editor.specs.declared.error.RecordError.TheVariants.{Foreign, BadRange, DeletesRoot, RootReplacement, LevelTooLarge, NoTreeNumber, Memory}

abbrev pub record_error_text : RecordError → List ℕ
record_error_text Foreign = codes "Foreign"
record_error_text BadRange = codes "BadRange"
record_error_text DeletesRoot = codes "DeletesRoot"
record_error_text RootReplacement = codes "RootReplacement"
record_error_text LevelTooLarge = codes "LevelTooLarge"
record_error_text NoTreeNumber = codes "NoTreeNumber"
record_error_text Memory = codes "Memory"
