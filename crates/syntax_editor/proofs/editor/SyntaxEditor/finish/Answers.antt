use Rattle.std.specs.Prelude.{ℕ, Result, Ok, Err, IfErr}
use Rattle.std.proofs.Common.{subst}
use Rattle.edit_plan.specs.Plan.{IsPlan, RunRefuses}
use Rattle.edit_plan.specs.declared.edit_error.EditError.{EditError}
use Rattle.edit_plan.specs.declared.edit_error.EditError.TheVariants.{Intersecting, MissingMapping, TooLong, NoTreeNumber, Memory}
use Rattle.syntax_editor.specs.Editor.{Editor, plan_of, FinishRefuses}
use Rattle.syntax_editor.proofs.editor.SyntaxEditor.finish.Goals as goal

-- what a plan refuses, its editor does
refused-so : (e : Editor) (next : ℕ) {T : Type 0} (r : Result T EditError) → IsPlan (plan_of e) → IfErr r (RunRefuses (plan_of e) next) → IfErr r (FinishRefuses e next)
refused-so e next (Ok t) is h = tt
refused-so e next (Err (Intersecting first second)) is h = absurd h
refused-so e next (Err (MissingMapping change owner)) is h = absurd h
refused-so e next (Err TooLong) is h = (is, h)
refused-so e next (Err NoTreeNumber) is h = (is, h)
refused-so e next (Err Memory) is h = tt

pub returns-clause-refused : goal.returns-clause-refused
returns-clause-refused c =
    refused-so c.args.self c.args.ids.now c.run_with.result (subst IsPlan c.in_ok-plan.ensures.ok c.in_ok-plan.ensures.planned) (subst (λ p. IfErr c.run_with.result (RunRefuses p c.args.ids.now)) c.in_ok-plan.ensures.ok c.run_with.ensures.refused)
