use Rattle.std.specs.Prelude.{◌≡◌, length, drop}
use Rattle.std.proofs.Common.{ap, ap₂, ◌∙◌, arith}
use Rattle.std.proofs.lemmas.Grind.{common_steps}
use Rattle.cst_core.specs.Tree.{node}
use Rattle.cst_core.specs.Green.{branch_tree}
use Rattle.cst_core.specs.GreenElement.{element_tree}
use Rattle.edit_change.proofs.AlteredNodes.{if_ok-map}
use Rattle.whitespace.proofs.Shifted.{rest_of, joined}
use Rattle.whitespace.proofs.shift.with_rest.Goals as goal

pub returns : goal.returns
returns c =
    let count : c.len-kept.result ≡ length c.args.built.items = grind (arith, common_steps) in
    let children = joined element_tree c.args.built.items _ _ _ c.in_ok-share_all.ensures (rest_of element_tree c.children-children.result.now c.len-kept.result (length c.args.built.items) count ∙ ap (drop (length c.args.built.items)) c.children-children.ensures) in
    if_ok-map _ _ c.capped.result (λ n made. ap branch_tree made ∙ ap₂ node c.kind.ensures children) c.capped.ensures
