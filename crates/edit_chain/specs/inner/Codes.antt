-- The code by which a chain is a model's value.
--     step_code, chain_code         that of a step; that of a chain
use Rattle.std.specs.Prelude.{List, refl}
use Rattle.std.specs.Coded.{Coded, code_by, coded_list, coded×}
use Rattle.cst_core.specs.Element.{Element}
use Rattle.cst_core.specs.inner.ElementCode.{element_code}
use Rattle.edit_plan.specs.Plan.{Plan, Edit}
use Rattle.edit_plan.specs.inner.Codes.{plan_code, edit_code}
use Rattle.edit_chain.specs.Chain.{Chain}
use Rattle.edit_chain.specs.declared.step.Step.{Step}

abbrev pub step_code : Coded Step
step_code = code_by (Plan × Edit) (coded× plan_code edit_code) (λ s. (s.plan, s.edit)) (λ q. record { plan = q.0; edit = q.1 }) (λ _. refl)

abbrev pub chain_code : Coded Chain
chain_code = code_by (Element × List Step) (coded× element_code (coded_list step_code)) (λ c. (c.first, c.steps)) (λ q. record { first = q.0; steps = q.1 }) (λ _. refl)
