-- Why the changes of a script are not carried out.
--     run-stops, order-stops       a plan is not carried out; it is not in an order
--     listed-so                    what holds of an order in code, if there is one, holds of its list
--     build-stops, plan-stops      a script has no plan; it has one that is not carried out
use Rattle.std.proofs.Common.{ℕ, List, Option, Some, None, Vec, IfSome, option_map, inl, inr}
use Rattle.std.specs.Global.{Global}
use Rattle.syntax_editor.specs.Plan.{Plan, IsPlan, BuildRefuses, RunRefuses}
use Rattle.syntax_editor.specs.Editor.{Editor, plan_of}
use Rattle.syntax_editor.specs.ExecuteRefusal.{ExecuteRefuses}
use Rattle.syntax_editor.specs.EditError.{EditError}
use Rattle.syntax_editor.specs.EditError.TheVariants as edit_error
use Rattle.syntax_editor.specs.ExecuteError.{ExecuteError}
use Rattle.syntax_editor.specs.ExecuteError.TheVariants as execute_error
use Rattle.syned_script.specs.Script.{EndRefuses}
use Rattle.syned_script.specs.StopOfError.{stop_of_edit, stop_of_execute}
use Rattle.syned_script.specs.inner.Run.{RunStops}
use Rattle.syned_script.specs.inner.Stops.{StopsFor}
use Rattle.syned_script.specs.declared.refusal.Refusal.{Refusal}
use Rattle.syned_script.specs.declared.refusal.Refusal.TheVariants as refused
use Rattle.syned_script.specs.declared.stop.Stop.{Stop}
use Rattle.syned_script.specs.declared.stop.Stop.TheVariants as stop

pub run-stops : (p : Plan) (next : ℕ) (x : EditError) → RunRefuses p next x → StopsFor ⊥ (RunStops p None next) (stop_of_edit x)
run-stops p next edit_error.Memory h = tt
run-stops p next (edit_error.Intersecting first second) h = h
run-stops p next (edit_error.MissingMapping change owner) h = h
run-stops p next edit_error.TooLong h = h
run-stops p next edit_error.NoTreeNumber h = h

pub order-stops : (p : Plan) (order : List ℕ) (next : ℕ) (x : ExecuteError) → ExecuteRefuses p order next x → StopsFor ⊥ (RunStops p (Some order) next) (stop_of_execute x)
order-stops p order next execute_error.NotEachOnce h = h
order-stops p order next execute_error.OwnerTooEarly h = h
order-stops p order next execute_error.GapOutOfOrder h = h
order-stops p order next execute_error.TokenTooEarly h = h
order-stops p order next (execute_error.Edit edit_error.Memory) h = tt
order-stops p order next (execute_error.Edit (edit_error.Intersecting first second)) h = h
order-stops p order next (execute_error.Edit (edit_error.MissingMapping change owner)) h = h
order-stops p order next (execute_error.Edit edit_error.TooLong) h = h
order-stops p order next (execute_error.Edit edit_error.NoTreeNumber) h = h

pub build-stops : (e : Editor) (order : Option (List ℕ)) (next : ℕ) (x : EditError) → BuildRefuses (plan_of e) x → StopsFor ⊥ (EndRefuses e order next) (stop_of_edit x)
build-stops e order next edit_error.Memory h = tt
build-stops e order next edit_error.TooLong h = absurd h
build-stops e order next edit_error.NoTreeNumber h = absurd h
build-stops e None next (edit_error.Intersecting first second) h = h
build-stops e None next (edit_error.MissingMapping change owner) h = h
build-stops e (Some order) next (edit_error.Intersecting first second) h = inl h
build-stops e (Some order) next (edit_error.MissingMapping change owner) h = inl h

plan-refused : (e : Editor) (order : Option (List ℕ)) (next : ℕ) (r : Refusal) → IsPlan (plan_of e) → RunStops (plan_of e) order next r → EndRefuses e order next r
plan-refused e None next (refused.Edit edit_error.Memory) plan h = absurd h
plan-refused e None next (refused.Edit edit_error.TooLong) plan h = (plan, h)
plan-refused e None next (refused.Edit edit_error.NoTreeNumber) plan h = (plan, h)
plan-refused e None next (refused.Edit (edit_error.Intersecting first second)) plan h = absurd h
plan-refused e None next (refused.Edit (edit_error.MissingMapping change owner)) plan h = absurd h
plan-refused e (Some order) next (refused.Edit edit_error.Memory) plan h = absurd h
plan-refused e (Some order) next (refused.Edit edit_error.TooLong) plan h = inr (plan, h)
plan-refused e (Some order) next (refused.Edit edit_error.NoTreeNumber) plan h = inr (plan, h)
plan-refused e (Some order) next (refused.Edit (edit_error.Intersecting first second)) plan h = inr (plan, h)
plan-refused e (Some order) next (refused.Edit (edit_error.MissingMapping change owner)) plan h = inr (plan, h)
plan-refused e (Some order) next (refused.Order execute_error.NotEachOnce) plan h = (plan, h)
plan-refused e (Some order) next (refused.Order execute_error.OwnerTooEarly) plan h = (plan, h)
plan-refused e (Some order) next (refused.Order execute_error.GapOutOfOrder) plan h = (plan, h)
plan-refused e (Some order) next (refused.Order execute_error.TokenTooEarly) plan h = (plan, h)
plan-refused e (Some order) next (refused.Order (execute_error.Edit x)) plan h = absurd h
plan-refused e None next (refused.Order x) plan h = absurd h
plan-refused e order next (refused.Tree x) plan h = absurd h
plan-refused e order next (refused.Map x) plan h = absurd h
plan-refused e order next (refused.Record x) plan h = absurd h

pub plan-stops : (e : Editor) (order : Option (List ℕ)) (next : ℕ) (s : Stop) → IsPlan (plan_of e) → StopsFor ⊥ (RunStops (plan_of e) order next) s → StopsFor ⊥ (EndRefuses e order next) s
plan-stops e order next (stop.Bad fault) plan h = h
plan-stops e order next (stop.Refused r) plan h = plan-refused e order next r plan h
plan-stops e order next stop.Memory plan h = tt

pub listed-so : (P : List ℕ → Type 0) (o : Option (Vec ℕ Global)) → IfSome o (λ v. P v.items) → IfSome (option_map (λ v. v.items) o) P
listed-so P None h = tt
listed-so P (Some v) h = h
