-- What is tested of an editor that is only looked at, as the plan of it.
--     checked-plan, checked-refused      the plan without registrations is one, or is refused
use Rattle.std.specs.Prelude.{◌≡◌, ℕ, List, [], Option, unwrap_or, Result, Ok, Err, IfErr}
use Rattle.std.proofs.Common.{subst}
use Rattle.cst_core.specs.Element.{Element}
use Rattle.cst_core.specs.declared.element.SyntaxElement.{SyntaxElement}
use Rattle.edit_map.specs.Mapping.{Mapping}
use Rattle.edit_change.specs.declared.change.Change.{Change}
use Rattle.edit_plan.specs.Plan.{Plan, IsPlan, BuildRefuses}
use Rattle.edit_plan.specs.declared.edit_error.EditError.{EditError}
use Rattle.edit_plan.proofs.AnyRegistrations.{is-plan-with, refused-with}
use Rattle.syntax_editor.specs.Editor.{Editor, editor_of, plan_of}

abbrev looked_at : Element → List Change → Mapping → Plan
looked_at root cs m = record { root = root; changes = cs; registrations = []; mapping = m }

module _ (root : Element) (cs : List Change) (rs : List (SyntaxElement × ℕ)) (f : Option Mapping) (m : Mapping) (e : Editor) (is : editor_of root cs rs f ≡ e) (keeps : m ≡ unwrap_or f []) where
  pub checked-plan : IsPlan (looked_at root cs m) → IsPlan (plan_of e)
  checked-plan plan =
      subst (λ d. IsPlan (plan_of d)) is (is-plan-with (looked_at root cs (unwrap_or f [])) rs (subst (λ n. IsPlan (looked_at root cs n)) keeps plan))

  refused : (x : EditError) → BuildRefuses (looked_at root cs m) x → BuildRefuses (plan_of e) x
  refused x why =
      subst (λ d. BuildRefuses (plan_of d) x) is (refused-with (looked_at root cs (unwrap_or f [])) rs x (subst (λ n. BuildRefuses (looked_at root cs n) x) keeps why))

  pub checked-refused : (r : Result (Unit {0}) EditError) → IfErr r (BuildRefuses (looked_at root cs m)) → IfErr r (BuildRefuses (plan_of e))
  checked-refused (Ok u) why = tt
  checked-refused (Err x) why = refused x why
