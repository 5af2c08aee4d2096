-- The marks of what is kept.
use Rattle.std.specs.Prelude.{◌≡◌, ℕ, true, false, cond, nat_eq, ◌&&◌, List, [], ◌∷◌, ◌++◌, map, filter, refl}
use Rattle.std.proofs.Common.{ap, ap₂, sym, ◌∙◌}
use Rattle.std.proofs.lemmas.List.{append_assoc, append-nil, map-append}
use Rattle.green_tree.specs.Path.{Path, same_path}
use Rattle.green_tree.specs.Tree.{SyntaxTree, forest, node}
use Rattle.edit_change.specs.Rewriting.{NumberedAim, rewritten, rewritten_from}
use Rattle.one_pass.specs.inner.Marked.{MarkTree, Marking, marked, mark_below, marks_at, wanted, seen_below, sought_below}
use Rattle.one_pass.proofs.Marks.{shown, marks-parent}

-- ---- as they are seen from a child
one_below : (i : ℕ) (p : Path) (n : ℕ) (q : Path) (ms bs : List Marking) → marks_at ms (i ∷ p) ≡ marks_at bs p → marks_at ((n, q) ∷ ms) (i ∷ p) ≡ marks_at (seen_below i n q ++ bs) p
one_below i p n [] ms bs h = h
one_below i p n (j ∷ q) ms bs h =
    elim (nat_eq i j) as (λ b. map (λ m. m.0) (cond (b && same_path p q) ((n, j ∷ q) ∷ filter (λ m. same_path (i ∷ p) m.1) ms) (filter (λ m. same_path (i ∷ p) m.1) ms)) ≡ marks_at (cond b ((n, q) ∷ []) [] ++ bs) p) [
      | true ↦
          elim (same_path p q) as (λ b. map (λ m. m.0) (cond b ((n, j ∷ q) ∷ filter (λ m. same_path (i ∷ p) m.1) ms) (filter (λ m. same_path (i ∷ p) m.1) ms)) ≡ map (λ m. m.0) (cond b ((n, q) ∷ filter (λ m. same_path p m.1) bs) (filter (λ m. same_path p m.1) bs))) [
            | true ↦ ap (λ ns. n ∷ ns) h
            | false ↦ h
          ]
      | false ↦ h
    ]

pub marks-below : (ms : List Marking) (i : ℕ) (p : Path) → marks_at ms (i ∷ p) ≡ marks_at (sought_below i ms) p
marks-below [] i p = refl
marks-below (m ∷ ms) i p = one_below i p m.0 m.1 ms (sought_below i ms) (marks-below ms i p)

-- ---- at the element itself
below_here : (path : Path) (ns : List ℕ) → map (λ n. (n, path)) ns ≡ map (mark_below path) (map (λ m. (m, [])) ns)
below_here path [] = refl
below_here path (n ∷ ns) = ap₂ (λ p ms. (n, p) ∷ ms) (sym (append-nil path)) (below_here path ns)

module _ (path : Path) (sought : List Marking) (trees : ℕ → List MarkTree) (cs : List NumberedAim) where
  -- the marks of the tree, as they stand below the path
  abbrev pub all_marks : SyntaxTree → List Marking
  all_marks e = map (mark_below path) (marked (rewritten (wanted sought) trees cs [] e))

  pub node_marks : (before found : List Marking) (e : SyntaxTree) (k : ℕ) (ts : List SyntaxTree) → e ≡ node k ts → found ≡ before ++ map (λ n. (n, path)) (marks_at sought []) ++ shown path 0 (rewritten_from (wanted sought) trees cs [] 0 (forest ts)) → found ≡ before ++ all_marks e
  node_marks before found e k ts is h =
      let ns = marks_at sought [] in
      let us = rewritten_from (wanted sought) trees cs [] 0 (forest ts) in
      let here = map (λ n. (n, path)) ns in
      let grouped : before ++ here ++ shown path 0 us ≡ before ++ (here ++ shown path 0 us) = append_assoc before here (shown path 0 us) in
      let whole : here ++ shown path 0 us ≡ all_marks (node k ts) = ap (λ ms. ms ++ shown path 0 us) (below_here path ns) ∙ sym (map-append (mark_below path) (map (λ m. (m, [])) ns) _) ∙ ap (map (mark_below path)) (sym (marks-parent ns us)) in
      h ∙ grouped ∙ ap (λ ms. before ++ ms) whole ∙ ap (λ u. before ++ all_marks u) (sym is)
