-- Tree expressions, written node by node.
--     rest_text                      the text of the children that are left of a node, and its end
--     left_text                      that of all open nodes
--     node_begun, token_written, node_ended
--                                    what is written and what is left are the whole after each step
use Rattle.std.proofs.Common.{◌≡◌, ℕ, List, [], ◌∷◌, ◌++◌, codes, sym, ap, ◌∙◌, append_assoc}
use Rattle.std.specs.Borrow.{Bor}
use Rattle.cst_core.specs.Tree.{forest}
use Rattle.cst_core.specs.Green.{Branch, Leaf, branch_tree, leaf_tree}
use Rattle.cst_core.specs.GreenElement.{element_tree, element_trees}
use Rattle.green_tree.specs.declared.green.GreenElement.{GreenElement}
use Rattle.tree_text.specs.TreeText.{tree_text, elements_text}
use Rattle.tree_text.proofs.OpenRests.{Rests, texts_after, texts_after-push}

pieces : (new spaced out kind inside others later whole : List ℕ) → new ≡ spaced ++ codes "(" ++ kind → spaced ≡ out ++ codes " "
    → out ++ (((codes " " ++ ((codes "(" ++ kind ++ inside ++ codes ")") ++ others)) ++ codes ")") ++ later) ≡ whole
    → new ++ ((inside ++ codes ")") ++ ((others ++ codes ")") ++ later)) ≡ whole
pieces new spaced out kind inside others later whole wrote space all = simp (wrote, space, append_assoc) (simp append_assoc at all)

token_pieces : (new spaced out token others later whole : List ℕ) → new ≡ spaced ++ token → spaced ≡ out ++ codes " "
    → out ++ (((codes " " ++ (token ++ others)) ++ codes ")") ++ later) ≡ whole
    → new ++ ((others ++ codes ")") ++ later) ≡ whole
token_pieces new spaced out token others later whole wrote space all = simp (wrote, space, append_assoc) (simp append_assoc at all)

module _ (name : ℕ → List ℕ) where
  abbrev pub rest_text : List GreenElement → List ℕ
  rest_text es = elements_text name (forest (element_trees es)) ++ codes ")"

  abbrev pub left_text : List GreenElement → Rests → List ℕ
  left_text rest above = rest_text rest ++ texts_after rest_text above

  module _ (out spaced new : List ℕ) (e : GreenElement) (after : List GreenElement) (above : Rests) (whole : List ℕ) (space : spaced ≡ out ++ codes " ") (so_far : out ++ left_text (e ∷ after) above ≡ whole) where
    pub node_begun : (b : Branch) (rest : List GreenElement) (r : Bor (List GreenElement)) → element_tree e ≡ branch_tree b → element_trees rest ≡ b.children → r.now ≡ after
        → new ≡ spaced ++ codes "(" ++ name b.kind → new ++ left_text rest (above ++ r ∷ []) ≡ whole
    node_begun b rest r is children left wrote =
        let inside : left_text rest (above ++ r ∷ []) ≡ (elements_text name (forest b.children) ++ codes ")") ++ (rest_text after ++ texts_after rest_text above) =
        ap (λ s. rest_text rest ++ s) (texts_after-push rest_text above r)
        ∙ ap (λ ts. (elements_text name (forest ts) ++ codes ")") ++ (rest_text r.now ++ texts_after rest_text above)) children
        ∙ ap (λ es. (elements_text name (forest b.children) ++ codes ")") ++ (rest_text es ++ texts_after rest_text above)) left in
        let all : out ++ (((codes " " ++ (tree_text name (branch_tree b) ++ elements_text name (forest (element_trees after)))) ++ codes ")") ++ texts_after rest_text above) ≡ whole =
        ap (λ t. out ++ (((codes " " ++ (tree_text name t ++ elements_text name (forest (element_trees after)))) ++ codes ")") ++ texts_after rest_text above)) (sym is) ∙ so_far in
        ap (λ s. new ++ s) inside ∙ pieces new spaced out (name b.kind) (elements_text name (forest b.children)) (elements_text name (forest (element_trees after))) (texts_after rest_text above) whole wrote space all

    pub token_written : (l : Leaf) → element_tree e ≡ leaf_tree l → new ≡ spaced ++ tree_text name (leaf_tree l) → new ++ left_text after above ≡ whole
    token_written l is wrote =
        let all : out ++ (((codes " " ++ (tree_text name (leaf_tree l) ++ elements_text name (forest (element_trees after)))) ++ codes ")") ++ texts_after rest_text above) ≡ whole =
        ap (λ t. out ++ (((codes " " ++ (tree_text name t ++ elements_text name (forest (element_trees after)))) ++ codes ")") ++ texts_after rest_text above)) (sym is) ∙ so_far in
        token_pieces new spaced out (tree_text name (leaf_tree l)) (elements_text name (forest (element_trees after))) (texts_after rest_text above) whole wrote space all

  module _ (out new : List ℕ) (whole : List ℕ) (end : new ≡ out ++ codes ")") where
    pub node_ended : (above : Rests) (r : Bor (List GreenElement)) → out ++ left_text [] (above ++ r ∷ []) ≡ whole → new ++ left_text r.now above ≡ whole
    node_ended above r so_far =
        let left : out ++ left_text [] (above ++ r ∷ []) ≡ out ++ (codes ")" ++ left_text r.now above) = ap (λ s. out ++ (codes ")" ++ s)) (texts_after-push rest_text above r) in
        ap (λ s. s ++ left_text r.now above) end ∙ append_assoc out (codes ")") (left_text r.now above) ∙ sym left ∙ so_far
