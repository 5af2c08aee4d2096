-- The refusal of a step, for that of its plan.
--     IsOfRun                       a plan that was built may be refused so when it is carried out
--     of_run                        the `ChainError` for such an `EditError`
--     RefusesRun                    a plan is not carried out: as `RunRefuses` says of such an error
use Rattle.std.specs.Prelude.{ℕ}
use Rattle.edit_plan.specs.Plan.{Plan, RunRefuses}
use Rattle.edit_plan.specs.declared.edit_error.EditError.{EditError}
use Rattle.edit_plan.specs.declared.edit_error.EditError.TheVariants as edit
use Rattle.edit_chain.specs.declared.chain_error.ChainError.{ChainError}
use Rattle.edit_chain.specs.declared.chain_error.ChainError.TheVariants.{TooLong, NoTreeNumber, Memory}

abbrev pub IsOfRun : EditError → Type 0
IsOfRun edit.TooLong = Unit {0}
IsOfRun edit.NoTreeNumber = Unit {0}
IsOfRun edit.Memory = Unit {0}
IsOfRun _ = ⊥

abbrev pub of_run : EditError → ChainError
of_run edit.TooLong = TooLong
of_run edit.NoTreeNumber = NoTreeNumber
of_run _ = Memory

abbrev pub RefusesRun : Plan → ℕ → ChainError → Type 0
RefusesRun p next TooLong = RunRefuses p next edit.TooLong
RefusesRun p next NoTreeNumber = RunRefuses p next edit.NoTreeNumber
RefusesRun p next Memory = Unit {0}
RefusesRun p next _ = ⊥
