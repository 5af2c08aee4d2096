-- The refusal of an edit, for that of a call below.
--     of_tree, of_engine            The `EditError` for a `TreeError`; for an `EngineError`.
use Rattle.cst_core.specs.TreeError.{TreeError}
use Rattle.cst_core.specs.TreeError.TheVariants as tree
use Rattle.edit_plan.specs.declared.engine_error.EngineError.{EngineError}
use Rattle.edit_plan.specs.declared.engine_error.EngineError.TheVariants as engine
use Rattle.edit_plan.specs.declared.edit_error.EditError.{EditError}
use Rattle.edit_plan.specs.declared.edit_error.EditError.TheVariants.{TooLong, NoTreeNumber, Memory}

abbrev pub of_tree : TreeError → EditError
of_tree tree.TooLong = TooLong
of_tree tree.NoTreeNumber = NoTreeNumber
of_tree tree.Memory = Memory

abbrev pub of_engine : EngineError → EditError
of_engine engine.TooLong = TooLong
of_engine engine.Memory = Memory
