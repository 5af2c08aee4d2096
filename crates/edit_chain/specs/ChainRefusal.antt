-- Why a chain takes no further step.
--     StepRefuses                   Why a plan is not carried out as the next step: `OtherRoot`, if its root has not the number and the path
--                                   of the last one; if it has, as `RunRefuses` says.
--     JoinRefuses                   Why another chain is not put behind: `OtherRoot`, if its first root is not the last one, as above.
use Rattle.std.specs.Prelude.{◌≡◌, ◌≢◌, ℕ}
use Rattle.cst_core.specs.Element.{address}
use Rattle.edit_plan.specs.Plan.{Plan, RunRefuses}
use Rattle.edit_plan.specs.declared.edit_error.EditError.TheVariants as edit
use Rattle.edit_chain.specs.Chain.{Chain, last_root}
use Rattle.edit_chain.specs.declared.chain_error.ChainError.{ChainError}
use Rattle.edit_chain.specs.declared.chain_error.ChainError.TheVariants.{OtherRoot, TooLong, NoTreeNumber, Memory}

-- `next` is the number that the source of tree numbers gives next.
abbrev pub StepRefuses : Chain → Plan → ℕ → ChainError → Type 0
StepRefuses c p next OtherRoot = address p.root ≢ address (last_root c)
StepRefuses c p next TooLong = (address p.root ≡ address (last_root c)) × RunRefuses p next edit.TooLong
StepRefuses c p next NoTreeNumber = (address p.root ≡ address (last_root c)) × RunRefuses p next edit.NoTreeNumber
StepRefuses c p next Memory = Unit {0}
StepRefuses c p next _ = ⊥

abbrev pub JoinRefuses : Chain → Chain → ChainError → Type 0
JoinRefuses c d OtherRoot = address d.first ≢ address (last_root c)
JoinRefuses c d Memory = Unit {0}
JoinRefuses c d _ = ⊥
