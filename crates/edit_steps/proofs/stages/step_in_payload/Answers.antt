use Rattle.std.proofs.Common.{arith, rules}
use Rattle.std.proofs.lemmas.Grind.{common_steps}
use Rattle.green_tree.specs.GreenElement.{element_trees}
use Rattle.edit_change.specs.inner.Aimed.{numbered}
use Rattle.edit_change.proofs.Lists.{on-ok-weaker}
use Rattle.edit_steps.specs.inner.Stage.{StageTakesStep, StageStaysAs}
use Rattle.edit_steps.proofs.PayloadSteps.{on-err-weaker, becomes}
use Rattle.edit_steps.proofs.stages.step_in_payload.Goals as goal

pub returns-clause-others : goal.returns-clause-others
returns-clause-others c = search rules

pub returns-clause-done : goal.returns-clause-done
returns-clause-done c =
    let step = c.step.ensures in
    on-ok-weaker c.step.result (becomes c.args.payloads.now.items c.args.owner c.requires.there c.index_mut.result.now c.index_mut.ensures.value c.in-Some.stage c.step.new.self c.in-Some.is step.old (λ s t. StageTakesStep s t (numbered c.args.aim.now) (element_trees c.args.given.items))) step.done

pub returns-clause-count : goal.returns-clause-count
returns-clause-count c = grind (arith, common_steps)

pub returns-clause-refused : goal.returns-clause-refused
returns-clause-refused c =
    let step = c.step.ensures in
    on-err-weaker c.step.result (becomes c.args.payloads.now.items c.args.owner c.requires.there c.index_mut.result.now c.index_mut.ensures.value c.in-Some.stage c.step.new.self c.in-Some.is step.old StageStaysAs) step.refused

pub returns-clause-refused_count : goal.returns-clause-refused_count
returns-clause-refused_count c = search rules
