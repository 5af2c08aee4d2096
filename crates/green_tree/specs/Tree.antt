-- Trees of a source text. Each element carries a label: in a plain tree its kind, in a rewritten one also where it came from.
--     Tree, Forest                  A token with a label and bytes, or a node with a label and children; trees side by side.
--     SyntaxTree                    A tree whose labels are kinds.
--     trees, forest, node           The trees of a forest as a list; the forest of a list; the node with a label and a list of children.
--     label, children, is_token     Of the top of a tree: its label; its children in order, none for a token; whether it is a token.
--     text, text_length             The bytes of all tokens in document order; how many they are, without a limit.
--     forest_text, forest_tokens, forest_relabelled, forest_without_texts  `text`, `tokens`, `relabelled` and `without_texts` of trees side
--                                   by side.
--     at                            The part of a tree that a path leads to, if there is one.
--     paths                         The paths of all parts in document order, the top first.
--     paths_from                    The paths in trees side by side, of which the first is in a given slot.
--     tokens                        The label and the bytes of each token, in document order.
--     relabelled                    The tree with a function applied to each label.
--     without_texts, SameShape      The tree with every text empty; two trees have equal kinds and child lists, whatever their texts.
--
-- The text of `L` is `(1, 2)`, of 6 bytes. `at L 1/0` is the token INT_NUMBER `1`; `at L 0/0` is nothing. `L` has the
-- shape of `(7, 8)` with the same kinds, and not that of `(7)`.
use Rattle.std.specs.Prelude.{◌≡◌, ℕ, suc, Bool, true, false, List, [], ◌∷◌, ◌++◌, map, length, slice_get, Option, Some, option_and_then}
use Rattle.green_tree.specs.Path.{Path}

mutual
  pub data Tree (L : Type 0) : Type 0 where
    Token : (label : L) (text : List ℕ) → Tree L
    Node : (label : L) (children : Forest L) → Tree L

  pub data Forest (L : Type 0) : Type 0 where
    end : Forest L
    more : (first : Tree L) (rest : Forest L) → Forest L

abbrev pub SyntaxTree : Type 0
SyntaxTree = Tree ℕ

abbrev pub trees : {L : Type 0} → Forest L → List (Tree L)
trees end = []
trees (more t f) = t ∷ trees f

abbrev pub forest : {L : Type 0} → List (Tree L) → Forest L
forest [] = end
forest (t ∷ ts) = more t (forest ts)

abbrev pub node : {L : Type 0} → L → List (Tree L) → Tree L
node l ts = Node l (forest ts)

abbrev pub label : {L : Type 0} → Tree L → L
label (Token l s) = l
label (Node l f) = l

abbrev pub children : {L : Type 0} → Tree L → List (Tree L)
children (Token l s) = []
children (Node l f) = trees f

abbrev pub is_token : {L : Type 0} → Tree L → Bool
is_token (Token l s) = true
is_token (Node l f) = false

abbrev mutual
  pub text : {L : Type 0} → Tree L → List ℕ
  text (Token l s) = s
  text (Node l f) = forest_text f

  pub forest_text : {L : Type 0} → Forest L → List ℕ
  forest_text end = []
  forest_text (more t f) = text t ++ forest_text f

abbrev pub text_length : {L : Type 0} → Tree L → ℕ
text_length t = length (text t)

abbrev pub at : {L : Type 0} → Tree L → Path → Option (Tree L)
at t [] = Some t
at t (i ∷ p) = option_and_then (λ c. at c p) (slice_get (children t) i)

abbrev mutual
  pub paths : {L : Type 0} → Tree L → List Path
  paths (Token l s) = [] ∷ []
  paths (Node l f) = [] ∷ paths_from 0 f

  -- of the children from this slot on
  pub paths_from : {L : Type 0} → ℕ → Forest L → List Path
  paths_from i end = []
  paths_from i (more t f) = map (λ p. i ∷ p) (paths t) ++ paths_from (suc i) f

abbrev mutual
  pub tokens : {L : Type 0} → Tree L → List (L × List ℕ)
  tokens (Token l s) = (l, s) ∷ []
  tokens (Node l f) = forest_tokens f

  pub forest_tokens : {L : Type 0} → Forest L → List (L × List ℕ)
  forest_tokens end = []
  forest_tokens (more t f) = tokens t ++ forest_tokens f

abbrev mutual
  pub relabelled : {L M : Type 0} → (L → M) → Tree L → Tree M
  relabelled h (Token l s) = Token (h l) s
  relabelled h (Node l f) = Node (h l) (forest_relabelled h f)

  pub forest_relabelled : {L M : Type 0} → (L → M) → Forest L → Forest M
  forest_relabelled h end = end
  forest_relabelled h (more t f) = more (relabelled h t) (forest_relabelled h f)

abbrev mutual
  pub without_texts : {L : Type 0} → Tree L → Tree L
  without_texts (Token l s) = Token l []
  without_texts (Node l f) = Node l (forest_without_texts f)

  pub forest_without_texts : {L : Type 0} → Forest L → Forest L
  forest_without_texts end = end
  forest_without_texts (more t f) = more (without_texts t) (forest_without_texts f)

-- the same kinds and child lists, whatever the texts
abbrev pub SameShape : SyntaxTree → SyntaxTree → Type 0
SameShape t u = without_texts t ≡ without_texts u
