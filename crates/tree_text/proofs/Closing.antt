-- An expression goes on from anywhere between elements, since all open nodes may be closed.
--     close-all          behind a node; what goes on begins with no name
--     close-in           behind any tree in a node
--     close-node         within a node
use Rattle.std.proofs.Common.{◌≡◌, ◌≢◌, ℕ, Bool, false, List, [], ◌∷◌, ◌++◌, Option, refl}
use Rattle.cst_core.specs.Tree.{SyntaxTree, node, is_token}
use Rattle.tree_text.specs.Grammar.{begins_with_name_byte}
use Rattle.tree_text.specs.inner.Completing.{OpenTree, IsAfter, IsFrom}

module _ (names : ℕ → Option (List ℕ)) (gaps : ℕ → Bool) where
  -- what completes an expression behind a tree in open nodes
  abbrev Closes : List OpenTree → SyntaxTree → Type 0
  Closes ns u = (t : SyntaxTree) × (w : List ℕ) × (begins_with_name_byte w ≡ false) × IsAfter names gaps ns t u w

  closes : (k : ℕ) (ts : List SyntaxTree) (outer : List OpenTree) → Closes outer (node k (ts ++ [])) → (t : SyntaxTree) × (w : List ℕ) × (begins_with_name_byte w ≡ false) × IsFrom names gaps ((k, ts) ∷ outer) t w
  closes k ts outer closed = (
    closed.0,
    41 ∷ closed.1,
    refl,
    (
      [],
      record {
        first = [];
        second = 41 ∷ closed.1;
        joined = refl;
        is_first = refl;
        is_second = record { first = 41 ∷ []; second = closed.1; joined = refl; is_first = refl; is_second = closed.3 };
      },
    ),
  )

  pub close-all : (outer : List OpenTree) (u : SyntaxTree) → is_token u ≡ false → Closes outer u
  close-all [] u is = (u, [], refl, (is, refl, refl))
  close-all (n ∷ outer) u is = closes n.0 (n.1 ++ u ∷ []) outer (close-all outer (node n.0 ((n.1 ++ u ∷ []) ++ [])) refl)

  pub close-node : (k : ℕ) (ts : List SyntaxTree) (outer : List OpenTree) → (t : SyntaxTree) × (w : List ℕ) × (begins_with_name_byte w ≡ false) × IsFrom names gaps ((k, ts) ∷ outer) t w
  close-node k ts outer = closes k ts outer (close-all outer (node k (ts ++ [])) refl)

  pub close-in : (ns : List OpenTree) → ns ≢ [] → (u : SyntaxTree) → Closes ns u
  close-in [] some u = absurd (some refl)
  close-in (n ∷ outer) some u = closes n.0 (n.1 ++ u ∷ []) outer (close-all outer (node n.0 ((n.1 ++ u ∷ []) ++ [])) refl)
