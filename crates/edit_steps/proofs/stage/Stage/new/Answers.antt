use Rattle.std.proofs.Common.{[], ap, sym, subst, ◌∙◌, length, refl}
use Rattle.green_tree.specs.Tree.{trees}
use Rattle.green_tree.specs.GreenElement.{element_tree}
use Rattle.edit_change.proofs.Untouched.{nothing_rewritten}
use Rattle.edit_steps.specs.inner.Counts.{IsCounted}
use Rattle.edit_steps.proofs.StepOfStage.{none_done}
use Rattle.edit_steps.proofs.stage.Stage.new.Goals as goal

pub returns-clause-stage : goal.returns-clause-stage
returns-clause-stage c = λ given.
    let old = element_tree c.in_ok-share.field-0 in
    record {
      tree = ap element_tree (sym c.in_ok-share.ensures) ∙ sym (nothing_rewritten given [] old refl);
      counted = λ p k f there. subst (IsCounted given [] p (length (trees f))) (sym (c.in_ok-new.ensures.held p)) (none_done given p (length (trees f)));
      visited = c.in_ok-new.ensures.visited;
    }
