use Rattle.std.proofs.Common.{◌≡◌, ◌∷◌, [], ap, sym, subst, ◌∙◌}
use Rattle.green_tree.specs.Green.{branch_tree}
use Rattle.edit_change.specs.NewTree.{independents, only}
use Rattle.edit_steps.specs.inner.Stages.{HasNewRoot}
use Rattle.edit_change.specs.Rewriting.{rewritten}
use Rattle.edit_change.specs.inner.KindOnly.{kind_only}
use Rattle.edit_steps.proofs.ReplacedRoot.{root-replaced, root-kept}
use Rattle.edit_steps.proofs.stages.Stages.green.Goals as goal

pub returns-in-Some : goal.returns-in-Some
returns-in-Some c = λ cs places g done root gives is.
    let new = subst (HasNewRoot cs places g done) c.in-Some.is is.new_root in
    root-replaced cs done g root new.number new.change is.apart new.there new.root new.is_done ∙ new.given

pub returns-in-None : goal.returns-in-None
returns-in-None c = λ cs places g done root gives is.
    let old = subst (HasNewRoot cs places g done) c.in-None.is is.new_root in
    let tree : rewritten kind_only g (only done (independents cs)) [] root ≡ branch_tree c.node.result.now = ap (rewritten kind_only g (only done (independents cs)) []) (sym is.trees.root_is) ∙ sym is.trees.tree.tree ∙ sym c.element.ensures ∙ sym c.node.ensures in
    root-kept cs done g root old ∙ ap (λ t. t ∷ []) tree
