use Rattle.std.proofs.Common.{◌++◌, ◌∷◌, [], length, refl, arith, ap, sym, ◌∙◌, List}
use Rattle.std.proofs.lemmas.Result.{IfOk-weaker}
use Rattle.green_tree.specs.Tree.{forest}
use Rattle.green_tree.specs.Green.{branch_tree}
use Rattle.green_tree.specs.GreenElement.{element_trees}
use Rattle.green_tree.specs.declared.green.GreenElement.{GreenElement}
use Rattle.green_tree.specs.declared.green.GreenElement.TheVariants.{Node}
use Rattle.green_tree.specs.inner.Splices.{spliced}
use Rattle.green_tree.proofs.Lookup.{trees-forest}
use Rattle.green_tree.proofs.Ways.{at_top}
use Rattle.green_tree.proofs.green.splices.exchange_child.Goals as goal

pub copy_spliced-requires : goal.copy_spliced-requires
copy_spliced-requires c =
    let node = c.args.node.now in
    record {
      kind = node.kind;
      below = forest node.children;
      there = refl;
      within = omega (arith, c.requires, ap length (trees-forest node.children));
    }

pub returns-clause-ok : goal.returns-clause-ok
returns-clause-ok c =
    let node = c.args.node.now in
    let only : List GreenElement = Node c.args.child ∷ [] in
    let items = c.in_ok-push.ensures.items ∙ ap (λ xs. xs ++ only) c.in_ok-only.ensures.items in
    IfOk-weaker c.copy_spliced.result _ _ (λ n is. is ∙ ap (λ es. spliced c.args.slot 1 (element_trees es) (branch_tree node)) items ∙ sym (at_top node c.args.slot 1 (branch_tree c.args.child ∷ []))) c.copy_spliced.ensures.ok
