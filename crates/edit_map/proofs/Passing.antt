-- What a way up passes.
--     node-above                     the first slots of a node's path lead to a node
--     no-token                       that is no token
use Rattle.std.specs.Prelude.{◌≡◌, ℕ, suc, zero, ◌<◌, true, false, [], ◌∷◌, length, take, slice_get, Option, Some, None, option_map, option_and_then, refl}
use Rattle.std.proofs.Common.{arith}
use Rattle.std.proofs.lemmas.Bool.{true≢false}
use Rattle.std.proofs.lemmas.Option.{none-some, same_Some}
use Rattle.cst_core.specs.Path.{Path}
use Rattle.cst_core.specs.Tree.{SyntaxTree, Node, Token, children, at, is_token}
use Rattle.cst_core.specs.Element.{Element, element_at, root_of, IsNode}
use Rattle.cst_core.specs.SyntaxElement.{syntax_at, syntax_as}
use Rattle.cst_core.specs.declared.element.SyntaxElement.TheVariants as variants

-- ---- the first slots of a path
node-at : (t : SyntaxTree) (p : Path) (d : ℕ) → d < length p → option_map is_token (at t p) ≡ Some false → option_map is_token (at t (take d p)) ≡ Some false
node-at t [] d l is = absurd (omega (arith, l))
node-at (Node k f) (i ∷ p) zero l is = refl
node-at (Token k s) (i ∷ p) zero l is = absurd (none-some false is)
node-at t (i ∷ p) (suc d) l is = go (slice_get (children t) i) (λ c. node-at c p d (omega (arith, l))) is
  where
    go : (o : Option SyntaxTree) → ((c : SyntaxTree) → option_map is_token (at c p) ≡ Some false → option_map is_token (at c (take d p)) ≡ Some false) → option_map is_token (option_and_then (λ c. at c p) o) ≡ Some false → option_map is_token (option_and_then (λ c. at c (take d p)) o) ≡ Some false
    go None on is = is
    go (Some c) on is = on c is

pub node-above : (e : Element) (d : ℕ) → d < length e.path → IsNode e → syntax_at (root_of e) (take d e.path) ≡ Some (variants.Node (element_at e (take d e.path)))
node-above e d l is = go (at e.root (take d e.path)) (node-at e.root e.path d l is)
  where
    go : (o : Option SyntaxTree) → option_map is_token o ≡ Some false → option_map (λ t. syntax_as t (element_at e (take d e.path))) o ≡ Some (variants.Node (element_at e (take d e.path)))
    go None is = absurd (none-some false is)
    go (Some (Token k s)) is = absurd (true≢false (same_Some true false is))
    go (Some (Node k f)) is = refl

pub no-token : (e f : Element) → Some (variants.Token e) ≡ Some (variants.Node f) → ⊥
no-token e f same = cc
