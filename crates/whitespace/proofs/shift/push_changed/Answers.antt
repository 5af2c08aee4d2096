use Rattle.std.specs.Prelude.{◌≡◌, [], ◌∷◌, ◌++◌, length}
use Rattle.std.proofs.Common.{ap, ◌∙◌, arith}
use Rattle.std.proofs.lemmas.Grind.{common_steps}
use Rattle.std.proofs.lemmas.List.{map-append}
use Rattle.cst_core.specs.GreenElement.{element_tree, element_trees}
use Rattle.whitespace.proofs.Shifted.{rest_of, joined}
use Rattle.whitespace.proofs.shift.push_changed.Goals as goal

pub returns : goal.returns
returns c =
    let count : c.len-kept.result ≡ length c.args.built.now.items = grind (arith, common_steps) in
    ap element_trees c.in_ok-push.ensures.items ∙ map-append element_tree c.share_all.new.out.items (c.args.new ∷ []) ∙ ap (λ ts. ts ++ element_tree c.args.new ∷ []) (joined element_tree c.args.built.now.items _ _ _ c.in_ok-share_all.ensures (rest_of element_tree c.args.before.now c.len-kept.result (length c.args.built.now.items) count))
