use Rattle.std.proofs.Common.{length, ap, sym, ◌∙◌}
use Rattle.std.specs.Prelude.{Some, option_and_then}
use Rattle.std.proofs.lemmas.List.{length-map}
use Rattle.green_tree.specs.GreenElement.{element_tree}
use Rattle.green_tree.specs.GreenElementRef.{ref_tree}
use Rattle.green_tree.proofs.Lookup.{trees-forest}
use Rattle.edit_steps.specs.inner.AimTargets.{count_in, child_count}
use Rattle.edit_steps.proofs.Aims.{count-token}
use Rattle.edit_steps.proofs.stage.aim_target.child_count.Goals as goal

pub returns-in_default : goal.returns-in_default
returns-in_default c =
    sym (ap (λ e. child_count (element_tree e) c.args.path.now) c.in_default.is ∙ count-token c.in_default.field-0.kind c.in_default.field-0.text c.args.path.now)

pub returns-in-Node-2 : goal.returns-in-Node-2
returns-in-Node-2 c =
    let es = c.children.result.now in
    let node = c.in-Node-2.node.now in
    let long = ap length (trees-forest node.children ∙ sym c.children.ensures) ∙ length-map es element_tree in
    sym (ap (λ e. child_count (element_tree e) c.args.path.now) c.in-Node.is ∙ ap (option_and_then count_in) (sym c.in_ok-node.ensures) ∙ ap (λ r. count_in (ref_tree r)) c.in-Node-2.is ∙ ap Some long)
