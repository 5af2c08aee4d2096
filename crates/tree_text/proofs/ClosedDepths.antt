-- How deep a tree is that closing all open nodes gives.
--     close-within        one that is no deeper than the open nodes are
--     full                where the open nodes are as deep as their list says
use Rattle.std.proofs.Common.{◌≡◌, ℕ, suc, ◌<◌, ◌≤◌, Bool, false, List, [], ◌∷◌, ◌++◌, append-nil, length, map, Option, refl, sym, ap, ◌∙◌, subst, arith}
use Rattle.std.specs.Prelude.{max}
use Rattle.std.proofs.lemmas.List.{length-reverse, reverse-append}
use Rattle.cst_core.specs.Tree.{SyntaxTree, node, forest, is_token}
use Rattle.tree_text.specs.Depth.{depth, forest_depth}
use Rattle.tree_text.specs.Grammar.{begins_with_name_byte}
use Rattle.tree_text.specs.inner.Completing.{OpenTree, IsAfter, IsFrom}
use Rattle.tree_text.specs.inner.OpenDepth.{closed_depth, open_depth, IsFull}
use Rattle.tree_text.specs.inner.OpenTrees.{open_tree, open_trees}
use Rattle.tree_text.specs.declared.open_node.OpenNode.{OpenNode}
use Rattle.tree_text.proofs.Depths.{filled, forest_depth_at_most}

-- a node with one more child, and one as it is
one-more-deep : (k : ℕ) (ts : List SyntaxTree) (u : SyntaxTree) (d : ℕ) → depth u ≤ d → depth (node k ((ts ++ u ∷ []) ++ [])) ≤ suc (max (forest_depth (forest ts)) d)
one-more-deep k ts u d below =
    let all = forest_depth_at_most ts u (max (forest_depth (forest ts)) d) (omega arith) (omega (arith, below)) in
    subst (λ l. depth (node k l) ≤ suc (max (forest_depth (forest ts)) d)) (sym (append-nil (ts ++ u ∷ []))) (omega (arith, all))

as-deep : (k : ℕ) (ts : List SyntaxTree) → depth (node k (ts ++ [])) ≤ suc (max (forest_depth (forest ts)) 0)
as-deep k ts = subst (λ l. depth (node k l) ≤ suc (max (forest_depth (forest ts)) 0)) (sym (append-nil ts)) (omega arith)

module _ (names : ℕ → Option (List ℕ)) (gaps : ℕ → Bool) where
  close-after : (outer : List OpenTree) (u : SyntaxTree) (d : ℕ) → is_token u ≡ false → depth u ≤ d → (t : SyntaxTree) × (w : List ℕ) × IsAfter names gaps outer t u w × (depth t ≤ closed_depth outer d)
  close-after [] u d is below = (u, [], (is, refl, refl), below)
  close-after (n ∷ outer) u d is below =
      let closed = close-after outer (node n.0 ((n.1 ++ u ∷ []) ++ [])) (suc (max (forest_depth (forest n.1)) d)) refl (one-more-deep n.0 n.1 u d below) in (
        closed.0,
        41 ∷ closed.1,
        (
          [],
          record {
            first = [];
            second = 41 ∷ closed.1;
            joined = refl;
            is_first = refl;
            is_second = record { first = 41 ∷ []; second = closed.1; joined = refl; is_first = refl; is_second = closed.2 };
          },
        ),
        closed.3,
      )

  close-node-within : (k : ℕ) (ts : List SyntaxTree) (outer : List OpenTree)
      → (t : SyntaxTree) × (w : List ℕ) × (begins_with_name_byte w ≡ false) × IsFrom names gaps ((k, ts) ∷ outer) t w × (depth t ≤ closed_depth ((k, ts) ∷ outer) 0)
  close-node-within k ts outer =
      let closed = close-after outer (node k (ts ++ [])) (suc (max (forest_depth (forest ts)) 0)) refl (as-deep k ts) in (
        closed.0,
        41 ∷ closed.1,
        refl,
        (
          [],
          record {
            first = [];
            second = 41 ∷ closed.1;
            joined = refl;
            is_first = refl;
            is_second = record { first = 41 ∷ []; second = closed.1; joined = refl; is_first = refl; is_second = closed.2 };
          },
        ),
        closed.3,
      )

  pub close-within : (limit : ℕ) (ns : List OpenTree) → IsFull limit ns → (t : SyntaxTree) × (w : List ℕ) × (begins_with_name_byte w ≡ false) × IsFrom names gaps ns t w × (depth t ≤ limit)
  close-within limit [] full' = absurd (omega (arith, full'.0, full'.1))
  close-within limit (n ∷ outer) full' =
      let closed = close-node-within n.0 n.1 outer in
      let limited = full'.2 in
      let below = closed.4 in
      (closed.0, closed.1, closed.2, closed.3, omega (arith, limited, below))

-- ---- the open nodes of the reader
one-outer : (ns : List OpenTree) (n : OpenTree) (d : ℕ) → closed_depth (ns ++ n ∷ []) d ≡ suc (max (forest_depth (forest n.1)) (closed_depth ns d))
one-outer [] n d = refl
one-outer (m ∷ ns) n d = one-outer ns n (suc (max (forest_depth (forest m.1)) d))

closed-open : (ns : List OpenNode) → closed_depth (open_trees ns) 0 ≡ open_depth ns
closed-open [] = refl
closed-open (n ∷ ns) =
    ap (λ l. closed_depth l 0) (reverse-append (open_tree n ∷ []) (map open_tree ns))
    ∙ one-outer (open_trees ns) (open_tree n) 0
    ∙ ap (λ d. suc (max (filled n) d)) (closed-open ns)

mapped-length : (ns : List OpenNode) → length (map open_tree ns) ≡ length ns
mapped-length [] = refl
mapped-length (n ∷ ns) = ap suc (mapped-length ns)

pub full : (limit : ℕ) (ns : List OpenNode) → 0 < limit → limit ≤ length ns → open_depth ns ≤ limit → IsFull limit (open_trees ns)
full limit ns some many limited =
    let same : length (open_trees ns) ≡ length ns = length-reverse (map open_tree ns) ∙ mapped-length ns in
    (some, subst (λ n. limit ≤ n) (sym same) many, subst (λ d. d ≤ limit) (sym (closed-open ns)) limited)
