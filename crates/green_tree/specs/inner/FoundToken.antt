-- Tokens that a walk finds.
--     FindsToken                    the token at this path of the tree, and the slots on the way to it added; or neither, where there is no such path
--     FindsFirst, FindsLast         the first token of the tree; the last one
--     tokens_from, first_from       the paths of the tokens that do not stand before the element at a path; the first of them
--     path_found, IsTokenOf         the path of a token that was found; it leads to that token in the tree
--     reached, reached_below     the path of a token that was found, and its tree; paths in a tree that stands at a path, each with what it leads to
--     FindsTouching                 after those that were found before, the tokens of a tree at a path that touch an offset
use Rattle.std.specs.Prelude.{◌≡◌, ℕ, not, List, [], ◌++◌, map, filter, Option, Some, option_map, unwrap_or}
use Rattle.green_tree.specs.Path.{Path, precedes, first_item}
use Rattle.green_tree.specs.Tree.{Tree, SyntaxTree, at}
use Rattle.green_tree.specs.Order.{token_paths}
use Rattle.green_tree.specs.inner.Neighbors.{first_token, last_token}
use Rattle.green_tree.specs.inner.TokensByOffset.{tokens_touching}
use Rattle.green_tree.specs.Green.{Leaf, leaf_tree}
use Rattle.green_tree.specs.declared.tokens.FoundToken.{FoundToken}

pub record FindsToken (t : SyntaxTree) (way : Option Path) (old new : Path) (found : Option Leaf) : Type 0 where
  pub slots : new ≡ old ++ unwrap_or way []
  pub token : option_map (λ l. Some (leaf_tree l)) found ≡ option_map (at t) way

abbrev pub FindsFirst : SyntaxTree → Path → Path → Option Leaf → Type 0
FindsFirst t old new found = FindsToken t (first_token t) old new found

abbrev pub FindsLast : SyntaxTree → Path → Path → Option Leaf → Type 0
FindsLast t old new found = FindsToken t (last_token t) old new found

abbrev pub tokens_from : {L : Type 0} → Tree L → Path → List Path
tokens_from t p = filter (λ q. not (precedes q p)) (token_paths t)

abbrev pub first_from : {L : Type 0} → Tree L → Path → Option Path
first_from t p = first_item (tokens_from t p)

abbrev pub path_found : Option FoundToken → Option Path
path_found found = option_map (λ token. token.path.items) found

abbrev pub IsTokenOf : SyntaxTree → FoundToken → Type 0
IsTokenOf t token = at t token.path.items ≡ Some (leaf_tree token.green)

abbrev pub reached : FoundToken → Path × Option SyntaxTree
reached token = (token.path.items, Some (leaf_tree token.green))

abbrev pub reached_below : Path → SyntaxTree → List Path → List (Path × Option SyntaxTree)
reached_below top t ps = map (λ p. (top ++ p, at t p)) ps

abbrev pub FindsTouching : SyntaxTree → ℕ → Path → List FoundToken → List FoundToken → Type 0
FindsTouching t offset top old new = map reached new ≡ map reached old ++ reached_below top t (tokens_touching t offset)
