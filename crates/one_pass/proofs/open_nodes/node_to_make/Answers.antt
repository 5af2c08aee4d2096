use Rattle.std.specs.Prelude.{List, [], ◌∷◌, ◌≡◌, ◌||◌}
use Rattle.std.specs.List.{list_any}
use Rattle.std.proofs.lemmas.Iterator.{YieldsList-from_slice}
use Rattle.std.proofs.lemmas.Iterator.Search.{any_from_yields_List}
use Rattle.std.proofs.Common.{rules, refl, ap, sym, ◌∙◌}
use Rattle.green_tree.specs.GreenElement.{element_tree}
use Rattle.edit_change.specs.inner.Aimed.{aims_of, numbered, has_parent}
use Rattle.edit_change.specs.declared.aimed.Aimed.{Aimed}
use Rattle.one_pass.specs.inner.Built.{nodes_built}
use Rattle.one_pass.proofs.Counted.{counted-none}
use Rattle.one_pass.proofs.open_nodes.node_to_make.Goals as goal

any-has : (xs : List Aimed) → list_any (λ a. has_parent (numbered a)) xs ≡ list_any has_parent (aims_of xs)
any-has [] = refl
any-has (x ∷ xs) = ap (λ b. has_parent (numbered x) || b) (any-has xs)

-- a token is not built
pub returns-in_default-clause-none : goal.returns-in_default-clause-none
returns-in_default-clause-none c = ap (λ e. nodes_built (aims_of c.args.aims.now) (element_tree e)) c.in_default.is

pub returns-then-not-any-clause-none : goal.returns-then-not-any-clause-none
returns-then-not-any-clause-none c =
    counted-none (aims_of c.args.aims.now) (element_tree c.args.element.now) (sym (any_from_yields_List (λ (a : Aimed). has_parent (numbered a)) _ _ _ c.any.ensures.ran (YieldsList-from_slice c.args.aims.now cc) (λ x b q k. search rules) ∙ any-has c.args.aims.now) ∙ c.if-not-any.true)

pub returns-clause-tree : goal.returns-clause-tree
returns-clause-tree c = ap element_tree (sym c.in-Node.is)

pub returns-clause-aimed : goal.returns-clause-aimed
returns-clause-aimed c =
    sym (any_from_yields_List (λ (a : Aimed). has_parent (numbered a)) _ _ _ c.any.ensures.ran (YieldsList-from_slice c.args.aims.now cc) (λ x b q k. search rules) ∙ any-has c.args.aims.now) ∙ c.if-not-any.false
