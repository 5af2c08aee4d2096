-- The codes by which plans, edits and runs are models' values.
--     plan_code                     the code of a plan, as a model's value
--     annotated_code, edit_code     the codes of elements with their annotations and of an edit
--     run_code                      the code of a run, as a model's value
use Rattle.std.specs.Prelude.{ℕ, List, refl, Bool}
use Rattle.std.specs.Coded.{Coded, code_by, coded_ℕ, coded_list, coded×, coded_bool}
use Rattle.cst_core.specs.Element.{Element}
use Rattle.cst_core.specs.inner.ElementCode.{element_code}
use Rattle.cst_core.specs.declared.element.SyntaxElement.{SyntaxElement}
use Rattle.edit_change.specs.inner.Codes.{syntax_element_code}
use Rattle.edit_change.specs.inner.ChangeCodes.{change_code}
use Rattle.edit_map.specs.Mapping.{Mapping}
use Rattle.edit_change.specs.declared.change.Change.{Change}
use Rattle.edit_plan.specs.Plan.{Edit, Plan}
use Rattle.edit_plan.specs.Run.{Run}

-- the code by which a plan is a model's value
abbrev pub plan_code : Coded Plan
plan_code = code_by (Element × (List Change × (List (SyntaxElement × ℕ) × Mapping))) (coded× element_code (coded× (coded_list change_code) (coded× (coded_list (coded× syntax_element_code coded_ℕ)) (coded_list (coded× element_code element_code))))) (λ p. (p.root, (p.changes, (p.registrations, p.mapping)))) (λ q. record { root = q.0; changes = q.1.0; registrations = q.1.1.0; mapping = q.1.1.1 }) (λ _. refl)

abbrev pub annotated_code : Coded (List (ℕ × SyntaxElement))
annotated_code = coded_list (coded× coded_ℕ syntax_element_code)

abbrev pub edit_code : Coded Edit
edit_code = code_by (Element × (Element × (List SyntaxElement × List (ℕ × SyntaxElement)))) (coded× element_code (coded× element_code (coded× (coded_list syntax_element_code) annotated_code))) (λ e. (e.old_root, (e.new_root, (e.changed, e.annotated)))) (λ q. record { old_root = q.0; new_root = q.1.0; changed = q.1.1.0; annotated = q.1.1.1 }) (λ _. refl)

abbrev pub run_code : Coded Run
run_code = code_by (Plan × (List Bool × ℕ)) (coded× plan_code (coded× (coded_list coded_bool) coded_ℕ)) (λ r. (r.plan, (r.done, r.builds))) (λ q. record { plan = q.0; done = q.1.0; builds = q.1.1 }) (λ _. refl)
