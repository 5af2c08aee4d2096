use Rattle.std.proofs.Common.{◌≡◌, Some, ap, sym, ◌∙◌}
use Rattle.green_tree.specs.Tree.{at}
use Rattle.green_tree.specs.Green.{branch_tree, leaf_tree}
use Rattle.cst_core.proofs.Children.{at_below, is_element, subtree_there}
use Rattle.cst_core.proofs.node.SyntaxNode.token_below.Goals as goal

pub with_path-requires : goal.with_path-requires
with_path-requires c =
    let there : at c.args.self.now.root c.args.self.now.path ≡ Some (branch_tree c.self.inside.green) = rw (← c.self.view_is) c.self.invariant.there in
    let own : at (branch_tree c.self.inside.green) c.args.found.now.path.items ≡ Some (leaf_tree c.args.found.now.green) = ap (λ t. at t c.args.found.now.path.items) (sym (subtree_there c.args.self.now (branch_tree c.self.inside.green) there)) ∙ c.requires in
    let found = at_below c.self.inside.location (branch_tree c.self.inside.green) c.args.found.now.path.items c.self.invariant.there ∙ own in
    rw (c.in_ok-path.ensures, c.deref.ensures.value, c.slots.ensures, ← c.self.view_is) (is_element _ _ found)

pub invariant_of-result : goal.invariant_of-result
invariant_of-result c =
    let there : at c.args.self.now.root c.args.self.now.path ≡ Some (branch_tree c.self.inside.green) = rw (← c.self.view_is) c.self.invariant.there in
    let own : at (branch_tree c.self.inside.green) c.args.found.now.path.items ≡ Some (leaf_tree c.args.found.now.green) = ap (λ t. at t c.args.found.now.path.items) (sym (subtree_there c.args.self.now (branch_tree c.self.inside.green) there)) ∙ c.requires in
    let found = at_below c.self.inside.location (branch_tree c.self.inside.green) c.args.found.now.path.items c.self.invariant.there ∙ own in
    rw (c.in_ok-with_path.ensures, c.in_ok-path.ensures, c.deref.ensures.value, c.slots.ensures, c.in_ok-share.ensures, ← c.self.view_is) (record { there = found; top = c.self.invariant.top; fits = c.self.invariant.fits })
