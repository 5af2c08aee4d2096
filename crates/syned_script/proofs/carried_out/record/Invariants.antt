use Rattle.std.proofs.Common.{take}
use Rattle.syned_script.specs.State.{new_state}
use Rattle.syned_script.specs.Script.{Carried}
use Rattle.syned_script.specs.inner.SessionState.{state_of}
use Rattle.syned_script.specs.inner.Run.{texts_in}
use Rattle.syned_script.proofs.carried_out.record.Given as goal

abbrev pub invariant-loop-index : goal.invariant-loop-index
invariant-loop-index l = Carried (take l.index (texts_in l.lines)) (new_state l.initial.session.language.dialect) (state_of l.session)
