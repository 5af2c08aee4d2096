-- The marks of a tree, child by child, and those of trees that stand side by side.
use Rattle.std.specs.Prelude.{◌≡◌, ℕ, suc, ◌+◌, List, [], ◌∷◌, ◌++◌, map, length, flat_map, slice_get, drop, Some, refl}
use Rattle.std.proofs.Common.{ap, ap₂, sym, ◌∙◌, arith}
use Rattle.std.proofs.lemmas.List.{append_assoc, append-nil, map-append}
use Rattle.std.proofs.lemmas.Grind.{flat_map-append}
use Rattle.green_tree.specs.Path.{Path}
use Rattle.green_tree.specs.Tree.{Forest, Token, Node, end, more, Tree, trees, forest, node, paths, paths_from, relabelled, forest_relabelled}
use Rattle.green_tree.proofs.Parts.{slice_get-drop, drop-rest}
use Rattle.one_pass.proofs.Children.{trees-forest}
use Rattle.one_pass.specs.inner.Marked.{MarkTree, Marking, marks_on, marked, marked_from, mark_below}

-- ---- one child
own_marks : (i : ℕ) (p : Path) (ns : List ℕ) → map (λ m. (m, i ∷ p)) ns ≡ map (mark_below (i ∷ [])) (map (λ m. (m, p)) ns)
own_marks i p [] = refl
own_marks i p (n ∷ ns) = ap (λ ms. (n, i ∷ p) ∷ ms) (own_marks i p ns)

abbrev of_paths : MarkTree → List Path → List Marking
of_paths t ps = flat_map (λ p. map (λ m. (m, p)) (marks_on t p)) ps

-- at paths below the child that stands in a slot
child_marks : (t : MarkTree) (i : ℕ) (c : MarkTree) → ((p : Path) → marks_on t (i ∷ p) ≡ marks_on c p) → (ps : List Path) → of_paths t (map (λ p. i ∷ p) ps) ≡ map (mark_below (i ∷ [])) (of_paths c ps)
child_marks t i c same [] = refl
child_marks t i c same (p ∷ ps) =
    let one : map (λ m. (m, i ∷ p)) (marks_on t (i ∷ p)) ≡ map (mark_below (i ∷ [])) (map (λ m. (m, p)) (marks_on c p)) = ap (λ ns. map (λ m. (m, i ∷ p)) ns) (same p) ∙ own_marks i p (marks_on c p) in
    ap₂ (λ ms ns. ms ++ ns) one (child_marks t i c same ps) ∙ sym (map-append (mark_below (i ∷ [])) (map (λ m. (m, p)) (marks_on c p)) (of_paths c ps))

-- ---- a node
marks_children : (l : List ℕ) (f : Forest (List ℕ)) (i : ℕ) (g : Forest (List ℕ)) → drop i (trees f) ≡ trees g → of_paths (Node l f) (paths_from i g) ≡ marked_from i (trees g)
marks_children l f i end h = refl
marks_children l f i (more c g) h =
    let there : slice_get (trees f) i ≡ Some c = slice_get-drop (trees f) (trees g) i c h in
    let same : (p : Path) → marks_on (Node l f) (i ∷ p) ≡ marks_on c p = λ p. rw there refl in
    flat_map-append (λ p. map (λ m. (m, p)) (marks_on (Node l f) p)) (map (λ p. i ∷ p) (paths c)) (paths_from (suc i) g) ∙ ap₂ (λ ms ns. ms ++ ns) (child_marks (Node l f) i c same (paths c)) (marks_children l f (suc i) g (drop-rest (trees f) (trees g) i c h))

pub marks-node : (l : List ℕ) (f : Forest (List ℕ)) → marked (Node l f) ≡ map (λ m. (m, [])) l ++ marked_from 0 (trees f)
marks-node l f = ap (λ ms. map (λ m. (m, [])) l ++ ms) (marks_children l f 0 f refl)

pub marks-parent : (l : List ℕ) (ts : List MarkTree) → marked (node l ts) ≡ map (λ m. (m, [])) l ++ marked_from 0 ts
marks-parent l ts = marks-node l (forest ts) ∙ ap (λ us. map (λ m. (m, [])) l ++ marked_from 0 us) (trees-forest ts)

pub marks-token : (l s : List ℕ) → marked (Token l s) ≡ map (λ m. (m, [])) l
marks-token l s = append-nil (map (λ m. (m, [])) l)

-- ---- side by side
pub marked_from-append : (i : ℕ) (xs ys : List MarkTree) → marked_from i (xs ++ ys) ≡ marked_from i xs ++ marked_from (i + length xs) ys
marked_from-append i [] ys =
    let same : i ≡ i + 0 = omega arith in
    ap (λ j. marked_from j ys) same
marked_from-append i (x ∷ xs) ys =
    let own = map (mark_below (i ∷ [])) (marked x) in
    let same : suc i + length xs ≡ i + suc (length xs) = omega arith in
    let grouped : own ++ (marked_from (suc i) xs ++ marked_from (suc i + length xs) ys) ≡ own ++ marked_from (suc i) xs ++ marked_from (suc i + length xs) ys = simp append_assoc in
    ap (λ ms. own ++ ms) (marked_from-append (suc i) xs ys) ∙ grouped ∙ ap (λ j. own ++ marked_from (suc i) xs ++ marked_from j ys) same

-- ---- no marks at all
mutual
  pub marks-none : {L : Type 0} (t : Tree L) → marked (relabelled (λ k. []) t) ≡ []
  marks-none (Token k s) = refl
  marks-none (Node k f) = marks-node [] (forest_relabelled (λ k. []) f) ∙ marks_from-none 0 f

  marks_from-none : {L : Type 0} (i : ℕ) (f : Forest L) → marked_from i (trees (forest_relabelled (λ k. []) f)) ≡ []
  marks_from-none i end = refl
  marks_from-none i (more t f) = ap₂ (λ ms ns. map (mark_below (i ∷ [])) ms ++ ns) (marks-none t) (marks_from-none (suc i) f)

-- ---- as they stand below the node at a path
module _ (path : Path) where
  abbrev pub shown : ℕ → List MarkTree → List Marking
  shown i ts = map (mark_below path) (marked_from i ts)

  pub shown-append : (i : ℕ) (xs ys : List MarkTree) → shown i (xs ++ ys) ≡ shown i xs ++ shown (i + length xs) ys
  shown-append i xs ys =
      ap (map (mark_below path)) (marked_from-append i xs ys) ∙ map-append (mark_below path) (marked_from i xs) (marked_from (i + length xs) ys)

  deeper : (i : ℕ) (ms : List Marking) → map (mark_below (path ++ i ∷ [])) ms ≡ map (mark_below path) (map (mark_below (i ∷ [])) ms)
  deeper i [] = refl
  deeper i (m ∷ ms) =
      let one : (path ++ i ∷ []) ++ m.1 ≡ path ++ (i ∷ m.1) = append_assoc path (i ∷ []) m.1 in
      ap₂ (λ p ns. (m.0, p) ∷ ns) one (deeper i ms)

  pub shown-one : (i : ℕ) (t : MarkTree) → shown i (t ∷ []) ≡ map (mark_below (path ++ i ∷ [])) (marked t)
  shown-one i t = ap (map (mark_below path)) (append-nil (map (mark_below (i ∷ [])) (marked t))) ∙ sym (deeper i (marked t))
