-- Edits one after the other. A step is a plan with the edit that it made.
--     Chain, chain_of               A first root, and steps; the chain of these, where code has a list.
--     root_after, last_root         The root after some steps: the new root of the last one's edit, or, if there is none, the root that they
--                                   begin at. The same of all steps of a chain.
--     IsStep                        A step from a root: its plan is a plan, of the root with this number and path, its edit is what the plan
--                                   makes, and the text of that is not too long.
--     AreSteps, IsChain             Each is a step from the root after those before it. So it is in every chain.
--     with_step, Runs               A chain with one step more; a call carried a plan of the last root out as that step.
--     joined                        A chain with the steps of another one after its own.
--
-- A chain from `R` has two steps: a plan that inserts `x` before `R/1`, with its edit, whose new root has the number 2;
-- and a plan of that root, which deletes what is at `4` there. Its last root has the text `(x1,2)`.
use Rattle.std.specs.Prelude.{◌≡◌, ◌<◌, ℕ, List, [], ◌∷◌, ◌++◌, Vec}
use Rattle.std.specs.Global.{Global}
use Rattle.cst_core.specs.Tree.{text_length}
use Rattle.cst_core.specs.Green.{length_limit}
use Rattle.cst_core.specs.Element.{Element, address}
use Rattle.edit_plan.specs.Plan.{Plan, Edit, IsPlan, Makes}
use Rattle.edit_chain.specs.declared.step.Step.{Step}

pub record Chain : Type 0 where
  pub first : Element
  pub steps : List Step

abbrev pub chain_of : Element → Vec Step Global → Chain
chain_of first steps = record { first = first; steps = steps.items }

abbrev pub root_after : Element → List Step → Element
root_after root [] = root
root_after root (s ∷ ss) = root_after s.edit.new_root ss

abbrev pub last_root : Chain → Element
last_root c = root_after c.first c.steps

pub record IsStep (root : Element) (s : Step) : Type 0 where
  pub begins : address s.plan.root ≡ address root
  pub planned : IsPlan s.plan
  pub makes : Makes s.plan s.edit.new_root.number s.edit
  pub short : text_length s.edit.new_root.root < length_limit

abbrev pub AreSteps : Element → List Step → Type 0
AreSteps root [] = Unit {0}
AreSteps root (s ∷ ss) = IsStep root s × AreSteps s.edit.new_root ss

abbrev pub IsChain : Chain → Type 0
IsChain c = AreSteps c.first c.steps

abbrev pub with_step : Chain → Step → Chain
with_step c s = record c { steps = c.steps ++ s ∷ [] }

pub record Runs (p : Plan) (number : ℕ) (before after : Chain) : Type 0 where
  pub begins : address p.root ≡ address (last_root before)
  pub edit : Edit
  pub makes : Makes p number edit
  pub after_is : after ≡ with_step before (record { plan = p; edit = edit })

abbrev pub joined : Chain → Chain → Chain
joined c d = record c { steps = c.steps ++ d.steps }
