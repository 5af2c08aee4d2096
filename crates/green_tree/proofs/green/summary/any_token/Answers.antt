use Rattle.std.proofs.Common.{◌≡◌, List, [], ◌∷◌, refl, ap, sym, ◌∙◌, rules}
use Rattle.std.specs.Prelude.{◌||◌}
use Rattle.std.specs.List.{list_any}
use Rattle.std.proofs.lemmas.Iterator.{YieldsList-from_slice}
use Rattle.std.proofs.lemmas.Iterator.Search.{any_from_yields_List}
use Rattle.green_tree.specs.GreenElement.{element_tree, element_trees}
use Rattle.green_tree.specs.declared.green.GreenElement.{GreenElement}
use Rattle.green_tree.specs.inner.HasToken.{has_token, have_token}
use Rattle.green_tree.proofs.Summaries.{have_token-more}
use Rattle.green_tree.proofs.green.summary.any_token.Goals as goal

any_has : (es : List GreenElement) → list_any (λ e. has_token (element_tree e)) es ≡ have_token (element_trees es)
any_has [] = refl
any_has (e ∷ es) = ap (λ b. has_token (element_tree e) || b) (any_has es) ∙ sym (have_token-more e es)

pub returns : goal.returns
returns c =
    let es = c.args.children.now in
    any_from_yields_List (λ e. has_token (element_tree e)) _ _ _ c.any.ensures.ran (YieldsList-from_slice es cc) (λ x b q k. search rules) ∙ any_has es
