-- What is still to be written of open nodes: of each, the children that are left, the highest node first.
--     Rests                          these children
--     texts_after, texts_after-push  the texts of these, each of which ends its node; with one more node, its text comes first
--     rest_lines                     the lines of children at a level
--     lines_after, lines_after-push  the lines of these, whose text starts at a byte; with one more node, its lines come first
--     rest_long, long_after          how long the text of children is; that of these
--     work                           a measure that falls where a node is opened, an element passed, a node closed
--     work_opened, work_passed, work_closed
--                                    it does
use Rattle.std.proofs.Common.{◌≡◌, ◌<◌, ℕ, suc, ◌+◌, ◌*◌, List, [], ◌∷◌, ◌++◌, length, sym, ap, ap₂, ◌∙◌, append_assoc, append-nil, arith}
use Rattle.std.specs.Prelude.{sum_by}
use Rattle.std.proofs.lemmas.List.{length-append}
use Rattle.std.proofs.lemmas.List.Sums.{sum_by_push}
use Rattle.std.specs.Borrow.{Bor}
use Rattle.cst_core.specs.Tree.{forest}
use Rattle.cst_core.specs.Green.{Branch, Leaf, branch_tree, leaf_tree, texts}
use Rattle.cst_core.specs.GreenElement.{element_tree, element_trees}
use Rattle.green_tree.specs.declared.green.GreenElement.{GreenElement}
use Rattle.green_tree.specs.inner.TreeSize.{size, forest_size}
use Rattle.tree_text.specs.Lines.{forest_lines}
use Rattle.tree_text.specs.inner.Indents.{indent}

abbrev pub Rests : Type 0
Rests = List (Bor (List GreenElement))

-- ---- texts
module _ (text_of : List GreenElement → List ℕ) where
  abbrev pub texts_after : Rests → List ℕ
  texts_after [] = []
  texts_after (r ∷ rs) = texts_after rs ++ text_of r.now

  pub texts_after-push : (rs : Rests) (r : Bor (List GreenElement)) → texts_after (rs ++ r ∷ []) ≡ text_of r.now ++ texts_after rs
  texts_after-push [] r = simp append-nil
  texts_after-push (q ∷ rs) r = ap (λ s. s ++ text_of q.now) (texts_after-push rs r) ∙ append_assoc (text_of r.now) (texts_after rs) (text_of q.now)

-- ---- lines
abbrev pub rest_long : List GreenElement → ℕ
rest_long es = length (texts (element_trees es))

abbrev pub long_after : Rests → ℕ
long_after rs = sum_by (λ r. rest_long r.now) rs

module _ (name : ℕ → List ℕ) where
  abbrev pub rest_lines : ℕ → ℕ → List GreenElement → List ℕ
  rest_lines level start es = forest_lines name (indent level) start (forest (element_trees es))

  abbrev pub lines_after : ℕ → ℕ → Rests → List ℕ
  lines_after level start [] = []
  lines_after level start (r ∷ rs) = lines_after (suc level) start rs ++ rest_lines level (start + long_after rs) r.now

  pub lines_after-push : (level start : ℕ) (rs : Rests) (r : Bor (List GreenElement))
      → lines_after level start (rs ++ r ∷ []) ≡ rest_lines (level + length rs) start r.now ++ lines_after level (start + rest_long r.now) rs
  lines_after-push level start [] r =
      let here : level ≡ level + 0 = omega arith in
      let first : start + 0 ≡ start = omega arith in
      ap₂ (λ l s. rest_lines l s r.now) here first ∙ sym (append-nil (rest_lines (level + 0) start r.now))
  lines_after-push level start (q ∷ rs) r =
      let below : suc level + length rs ≡ level + suc (length rs) = omega arith in
      let far : start + long_after (rs ++ r ∷ []) ≡ start + rest_long r.now + long_after rs = omega (arith, sum_by_push (λ x. rest_long x.now) rs r) in
      ap₂ (λ s n. s ++ rest_lines level n q.now) (lines_after-push (suc level) start rs r) far
      ∙ append_assoc (rest_lines (suc level + length rs) start r.now) (lines_after (suc level) (start + rest_long r.now) rs) (rest_lines level (start + rest_long r.now + long_after rs) q.now)
      ∙ ap (λ l. rest_lines l start r.now ++ (lines_after (suc level) (start + rest_long r.now) rs ++ rest_lines level (start + rest_long r.now + long_after rs) q.now)) below

-- ---- a measure
abbrev pub rest_size : List GreenElement → ℕ
rest_size es = forest_size (forest (element_trees es))

abbrev pub work : List GreenElement → Rests → ℕ
work rest rs = 2 * (rest_size rest + sum_by (λ r. rest_size r.now) rs) + length rs

module _ (rest : List GreenElement) (e : GreenElement) (after : List GreenElement) (split : rest ≡ e ∷ after) where
  pub work_opened : (below : List GreenElement) (rs new : Rests) (r : Bor (List GreenElement)) (b : Branch) → element_tree e ≡ branch_tree b → element_trees below ≡ b.children → new ≡ rs ++ r ∷ [] → r.now ≡ after → work below new < work rest rs
  work_opened below rs new r b is children pushed left =
      let first : size (element_tree e) ≡ forest_size (forest b.children) + 1 = ap size is in
      let inside : rest_size below ≡ forest_size (forest b.children) = ap (λ ts. forest_size (forest ts)) children in
      let all : rest_size rest ≡ size (element_tree e) + rest_size after = ap rest_size split in
      let others : rest_size r.now ≡ rest_size after = ap rest_size left in
      let sum : sum_by (λ q. rest_size q.now) new ≡ sum_by (λ q. rest_size q.now) rs + rest_size r.now = ap (sum_by (λ q. rest_size q.now)) pushed ∙ sum_by_push (λ q. rest_size q.now) rs r in
      omega (arith, ap length pushed, length-append rs (r ∷ []))

  pub work_passed : (rs : Rests) (l : Leaf) → element_tree e ≡ leaf_tree l → work after rs < work rest rs
  work_passed rs l is =
      let first : size (element_tree e) ≡ 1 = ap size is in
      let all : rest_size rest ≡ size (element_tree e) + rest_size after = ap rest_size split in
      omega arith

pub work_closed : (rest : List GreenElement) (rs new : Rests) (r : Bor (List GreenElement)) → rest ≡ [] → rs ≡ new ++ r ∷ [] → work r.now new < work rest rs
work_closed rest rs new r none popped =
    let all : rest_size rest ≡ 0 = ap rest_size none in
    let sum : sum_by (λ q. rest_size q.now) rs ≡ sum_by (λ q. rest_size q.now) new + rest_size r.now = ap (sum_by (λ q. rest_size q.now)) popped ∙ sum_by_push (λ q. rest_size q.now) new r in
    omega (arith, ap length popped, length-append new (r ∷ []))
