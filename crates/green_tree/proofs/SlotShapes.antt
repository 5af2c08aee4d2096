-- Two lists of elements, compared slot by slot.
--     nodes_decided, tokens_decided, apart     what says whether the elements of a slot are of the same shape
--     not_all, on_from                         what that says of the lists: where the shapes differ, and where they are the same
--     ended                                    behind the last slot
use Rattle.std.proofs.Common.{◌≡◌, ◌<◌, ◌≤◌, ◌+◌, ◌∷◌, ℕ, Bool, true, false, eqb, List, length, get_or, drop, ap, ap₂, sym, subst, ◌∙◌, add-one, drop-cons}
use Rattle.std.specs.Prelude.{◌↔◌, IsTrue}
use Rattle.std.proofs.lemmas.Bool.{false≢true, eqb-true, eq-eqb}
use Rattle.std.proofs.lemmas.List.{drop_all}
use Rattle.green_tree.specs.Tree.{forest, forest_without_texts, SameShape}
use Rattle.green_tree.specs.Green.{Branch, Leaf, branch_tree}
use Rattle.green_tree.specs.GreenElement.{element_tree, element_trees}
use Rattle.green_tree.specs.declared.green.GreenElement.{GreenElement}
use Rattle.green_tree.specs.declared.green.GreenElement.TheVariants.{Node, Token}
use Rattle.green_tree.proofs.Shapes.{SameElements, both_shapes, rest_shapes, same_slot}

module _ (e f : GreenElement) (same : Bool) where
  abbrev Decided : Type 0
  Decided = IsTrue same ↔ SameShape (element_tree e) (element_tree f)

  pub nodes_decided : (x y : Branch) (r : Bool) → e ≡ Node x → f ≡ Node y → same ≡ r → (IsTrue r ↔ SameShape (branch_tree x) (branch_tree y)) → Decided
  nodes_decided x y r is_e is_f is told = rw (is_e, is_f, is) told

  alike_tokens : (x y : Leaf) → x.kind ≡ y.kind → SameShape (element_tree (Token x)) (element_tree (Token y))
  alike_tokens x y h = cc

  token_kinds : (x y : Leaf) → SameShape (element_tree (Token x)) (element_tree (Token y)) → x.kind ≡ y.kind
  token_kinds x y h = cc

  pub tokens_decided : {x y : Leaf} → e ≡ Token x → f ≡ Token y → same ≡ eqb x.kind y.kind → Decided
  tokens_decided {x} {y} is_e is_f is = (
    λ h. rw (is_e, is_f) (alike_tokens x y (eqb-true x.kind y.kind (sym is ∙ h))),
    λ shape. is ∙ eq-eqb x.kind y.kind (token_kinds x y (rw (is_e, is_f) at shape)),
  )

  node_no_token : (x : Branch) (y : Leaf) → SameShape (element_tree (Node x)) (element_tree (Token y)) → ⊥
  node_no_token x y h = cc

  token_no_node : (x : Leaf) (y : Branch) → SameShape (element_tree (Token x)) (element_tree (Node y)) → ⊥
  token_no_node x y h = cc

  pub node_and_token : (x : Branch) (y : Leaf) → e ≡ Node x → f ≡ Token y → same ≡ false → Decided
  node_and_token x y is_e is_f differ = (λ h. absurd (false≢true (sym differ ∙ h)), λ shape. absurd (node_no_token x y (rw (is_e, is_f) at shape)))

  pub token_and_node : (x : Leaf) (y : Branch) → e ≡ Token x → f ≡ Node y → same ≡ false → Decided
  token_and_node x y is_e is_f differ = (λ h. absurd (false≢true (sym differ ∙ h)), λ shape. absurd (token_no_node x y (rw (is_e, is_f) at shape)))

  module _ (n : ℕ) (es fs : List GreenElement) (inside : n < length es) (long : length es ≡ length fs) (is_e : e ≡ get_or es n e) (is_f : f ≡ get_or fs n f) (decided : Decided) where
    inside_other : n < length fs
    inside_other = subst (λ k. n < k) long inside

    pub not_all : same ≡ false → IsTrue false ↔ SameElements es fs
    not_all differ = (λ h. absurd (false≢true h), λ all. sym differ ∙ decided.1 (same_slot n es fs e f inside inside_other is_e is_f all))

    drop_at : (gs : List GreenElement) (g : GreenElement) → n < length gs → g ≡ get_or gs n g → drop n gs ≡ g ∷ drop (n + 1) gs
    drop_at gs g there is = drop-cons gs n g there ∙ ap₂ (λ x k. x ∷ drop k gs) (sym is) (sym (add-one n))

    pub on_from : same ≡ true → (SameElements (drop n es) (drop n fs) ↔ SameElements es fs) → SameElements (drop (n + 1) es) (drop (n + 1) fs) ↔ SameElements es fs
    on_from alike before = (
      λ rest. before.0 (rw (drop_at es e inside is_e, drop_at fs f inside_other is_f) (both_shapes (element_tree e) (element_tree f) (element_trees (drop (n + 1) es)) (element_trees (drop (n + 1) fs)) (decided.0 alike) rest)),
      λ all. rest_shapes (element_tree e) (element_tree f) (element_trees (drop (n + 1) es)) (element_trees (drop (n + 1) fs)) (rw (drop_at es e inside is_e, drop_at fs f inside_other is_f) at (before.1 all)),
    )

pub ended : (n : ℕ) (es fs : List GreenElement) → length es ≤ n → length es ≡ length fs → SameElements (drop n es) (drop n fs)
ended n es fs end long = ap (λ xs. forest_without_texts (forest (element_trees xs))) (drop_all n es end ∙ sym (drop_all n fs (subst (λ k. k ≤ n) long end)))
