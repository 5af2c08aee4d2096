-- Lines of a tree, node by node.
--     ended, four_pieces             what a last piece ends; four pieces, one after another
--     token_counted                  the text of a token that is left is counted in full
--     into_first, past_token, past_node
--                                    where the text of all that is left ends does not change
--     left_lines                     what is left to be written, where the text of the children that are left of the innermost node starts at a byte
--     node_lined, token_lined, node_past
--                                    what is written and what is left are the whole after a node's own line, after a token's, and past a node
use Rattle.std.proofs.Common.{◌≡◌, ◌<◌, ℕ, suc, ◌+◌, List, [], ◌∷◌, ◌++◌, length, codes, refl, sym, ap, ap₂, ◌∙◌, append_assoc, Result, Ok, Err, OnOk, is_ok, if◌then◌else◌, arith}
use Rattle.std.proofs.lemmas.List.{length-append}
use Rattle.std.proofs.lemmas.List.Sums.{sum_by_push}
use Rattle.std.specs.Borrow.{Bor}
use Rattle.cst_core.specs.Tree.{forest, text}
use Rattle.cst_core.specs.Green.{Branch, Leaf, branch_tree, leaf_tree, texts, capped_length, length_limit}
use Rattle.cst_core.specs.GreenElement.{element_tree, element_trees}
use Rattle.green_tree.specs.declared.green.GreenElement.{GreenElement}
use Rattle.tree_text.specs.Lines.{line, lines, forest_lines}
use Rattle.tree_text.specs.inner.Indents.{indent}
use Rattle.tree_text.proofs.OpenRests.{Rests, rest_long, long_after, rest_lines, lines_after, lines_after-push}

-- what a last piece ends, where there was memory for it
pub ended : {E : Type 0} (r : Result (Unit {0}) E) (new d s whole : List ℕ) → new ≡ (if is_ok r then d ++ s else d) → d ++ s ≡ whole → OnOk r (new ≡ whole)
ended (Ok x) new d s whole is all = is ∙ all
ended (Err e) new d s whole is all = tt

pub four_pieces : (o a b d p q r s : List ℕ) → a ≡ o ++ p → b ≡ a ++ q → d ≡ b ++ r → d ++ s ≡ o ++ (p ++ q ++ r ++ s)
four_pieces o a b d p q r s first second third = simp (third, second, first, append_assoc) refl

pieces : (new out own inside later whole : List ℕ) → new ≡ out ++ (own ++ codes "\n") → out ++ ((own ++ codes "\n" ++ inside) ++ later) ≡ whole → new ++ (inside ++ later) ≡ whole
pieces new out own inside later whole wrote all = simp (wrote, append_assoc) (simp append_assoc at all)

-- ---- where the text of what is left starts and ends
module _ (next : ℕ) (e : GreenElement) (after : List GreenElement) (above : Rests) where
  first_long : rest_long (e ∷ after) ≡ length (text (element_tree e)) + rest_long after
  first_long = length-append (text (element_tree e)) (texts (element_trees after))

  pub into_first : (b : Branch) (rest : List GreenElement) (r : Bor (List GreenElement)) (end : ℕ) → element_tree e ≡ branch_tree b → element_trees rest ≡ b.children → r.now ≡ after
      → next + (rest_long (e ∷ after) + long_after above) ≡ end → next + (rest_long rest + long_after (above ++ r ∷ [])) ≡ end
  into_first b rest r end is children left starts =
      let own : rest_long rest ≡ length (text (element_tree e)) = ap (λ ts. length (texts ts)) children ∙ ap (λ t. length (text t)) (sym is) in
      let others : rest_long r.now ≡ rest_long after = ap rest_long left in
      let sum = sum_by_push (λ q. rest_long q.now) above r in
      omega (arith, first_long, own, others, sum)

  token_long : (l : Leaf) → element_tree e ≡ leaf_tree l → rest_long (e ∷ after) ≡ length l.text + rest_long after
  token_long l is = first_long ∙ ap (λ t. length (text t) + rest_long after) is

  pub token_counted : (l : Leaf) (start whole : ℕ) → element_tree e ≡ leaf_tree l → next + (rest_long (e ∷ after) + long_after above) ≡ start + whole → start + whole < length_limit → capped_length l.text ≡ length l.text
  token_counted l start whole is starts short = omega (arith, token_long l is)

  pub past_token : (l : Leaf) (long end : ℕ) → element_tree e ≡ leaf_tree l → long ≡ length l.text → next + (rest_long (e ∷ after) + long_after above) ≡ end → next + long + (rest_long after + long_after above) ≡ end
  past_token l long end is count starts = omega (arith, token_long l is)

pub past_node : (next : ℕ) (above : Rests) (r : Bor (List GreenElement)) (end : ℕ) → next + (0 + long_after (above ++ r ∷ [])) ≡ end → next + (rest_long r.now + long_after above) ≡ end
past_node next above r end starts = let sum = sum_by_push (λ q. rest_long q.now) above r in omega (arith, sum)

module _ (name : ℕ → List ℕ) where
  abbrev pub left_lines : ℕ → List GreenElement → Rests → List ℕ
  left_lines next rest above = rest_lines name (1 + length above) next rest ++ lines_after name 1 (next + rest_long rest) above

  module _ (out new : List ℕ) (next : ℕ) (e : GreenElement) (after : List GreenElement) (above : Rests) (whole : List ℕ) (so_far : out ++ left_lines next (e ∷ after) above ≡ whole) where
    -- past the first child
    split : out ++ (lines name (indent (1 + length above)) next (element_tree e) ++ left_lines (next + length (text (element_tree e))) after above) ≡ whole
    split =
        let end : next + rest_long (e ∷ after) ≡ next + length (text (element_tree e)) + rest_long after = omega (arith, length-append (text (element_tree e)) (texts (element_trees after))) in
        ap (λ s. out ++ s)
        (sym (append_assoc (lines name (indent (1 + length above)) next (element_tree e)) (rest_lines name (1 + length above) (next + length (text (element_tree e))) after) (lines_after name 1 (next + length (text (element_tree e)) + rest_long after) above))
        ∙ ap (λ n. rest_lines name (1 + length above) next (e ∷ after) ++ lines_after name 1 n above) (sym end))
        ∙ so_far

    pub token_lined : (l : Leaf) (long : ℕ) → element_tree e ≡ leaf_tree l → long ≡ length l.text → new ≡ out ++ lines name (indent (1 + length above)) next (leaf_tree l) → new ++ left_lines (next + long) after above ≡ whole
    token_lined l long is count wrote =
        let first = lines name (indent (1 + length above)) next (element_tree e) in
        let start : next + long ≡ next + length (text (element_tree e)) = ap (λ n. next + n) count ∙ ap (λ t. next + length (text t)) (sym is) in
        let own : new ≡ out ++ first = wrote ∙ ap (λ t. out ++ lines name (indent (1 + length above)) next t) (sym is) in
        ap₂ (λ s n. s ++ left_lines n after above) own start
        ∙ append_assoc out first (left_lines (next + length (text (element_tree e))) after above)
        ∙ split

    pub node_lined : (b : Branch) (rest : List GreenElement) (r : Bor (List GreenElement)) → element_tree e ≡ branch_tree b → element_trees rest ≡ b.children → r.now ≡ after
        → new ≡ out ++ (line (indent (1 + length above)) (name b.kind) next (length (texts b.children)) ++ codes "\n") → new ++ left_lines next rest (above ++ r ∷ []) ≡ whole
    node_lined b rest r is children left wrote =
        let level = 1 + length above in
        let below : 1 + length (above ++ r ∷ []) ≡ suc level = omega (arith, length-append above (r ∷ [])) in
        let here : 1 + length above ≡ level = refl in
        let inside : rest_lines name (suc level) next rest ≡ forest_lines name (indent level ++ codes "  ") next (forest b.children) = ap (λ ts. forest_lines name (indent (suc level)) next (forest ts)) children in
        let long : next + rest_long rest + rest_long r.now ≡ next + length (text (element_tree e)) + rest_long after =
        ap₂ (λ ts es. next + length (texts ts) + rest_long es) children left ∙ ap (λ t. next + length (text t) + rest_long after) (sym is) in
        let start : next + rest_long rest ≡ next + length (text (element_tree e)) = ap (λ ts. next + length (texts ts)) children ∙ ap (λ t. next + length (text t)) (sym is) in
        let later : lines_after name 1 (next + rest_long rest) (above ++ r ∷ []) ≡ left_lines (next + length (text (element_tree e))) after above =
        lines_after-push name 1 (next + rest_long rest) above r
        ∙ ap₂ (λ n es. rest_lines name level n es ++ lines_after name 1 (n + rest_long es) above) start left in
        let own : lines name (indent level) next (element_tree e) ≡ line (indent level) (name b.kind) next (length (texts b.children)) ++ codes "\n" ++ forest_lines name (indent level ++ codes "  ") next (forest b.children) = ap (lines name (indent level) next) is in
        let shape : left_lines next rest (above ++ r ∷ []) ≡ forest_lines name (indent level ++ codes "  ") next (forest b.children) ++ left_lines (next + length (text (element_tree e))) after above =
        ap₂ (λ l s. rest_lines name l next rest ++ s) below later ∙ ap (λ s. s ++ left_lines (next + length (text (element_tree e))) after above) inside in
        let all : out ++ ((line (indent level) (name b.kind) next (length (texts b.children)) ++ codes "\n" ++ forest_lines name (indent level ++ codes "  ") next (forest b.children)) ++ left_lines (next + length (text (element_tree e))) after above) ≡ whole =
        ap (λ s. out ++ (s ++ left_lines (next + length (text (element_tree e))) after above)) (sym own) ∙ split in
        ap (λ s. new ++ s) shape ∙ pieces new out (line (indent level) (name b.kind) next (length (texts b.children))) (forest_lines name (indent level ++ codes "  ") next (forest b.children)) (left_lines (next + length (text (element_tree e))) after above) whole wrote all

  module _ (out : List ℕ) (next : ℕ) (whole : List ℕ) where
    pub node_past : (above : Rests) (r : Bor (List GreenElement)) → out ++ left_lines next [] (above ++ r ∷ []) ≡ whole → out ++ left_lines next r.now above ≡ whole
    node_past above r so_far =
        let here : next + 0 ≡ next = omega arith in
        ap (λ s. out ++ s) (sym (lines_after-push name 1 next above r) ∙ ap (λ n. lines_after name 1 n (above ++ r ∷ [])) (sym here)) ∙ so_far
