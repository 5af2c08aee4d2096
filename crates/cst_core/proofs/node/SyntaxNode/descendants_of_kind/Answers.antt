use Rattle.std.proofs.Common.{◌≡◌, rules, ap, ◌∙◌}
use Rattle.std.specs.Prelude.{filter, ◌==◌}
use Rattle.std.proofs.lemmas.Fn.{filter_same}
use Rattle.green_tree.specs.Tree.{label}
use Rattle.cst_core.specs.Element.{Element, subtree}
use Rattle.cst_core.proofs.node.SyntaxNode.descendants_of_kind.Goals as goal

pub returns : goal.returns
returns c =
    let kept : c.retain.new.self.items ≡ filter (λ (n : Element). label (subtree n) == c.args.kind.0) c.in_ok-all.all.items = filter_same _ _ _ (λ x b f' k. search rules) _ _ c.retain.ensures.filtered in
    kept ∙ ap (filter (λ (n : Element). label (subtree n) == c.args.kind.0)) c.in_ok-all.ensures
