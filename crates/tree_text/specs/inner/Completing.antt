-- What completes an expression of which a part was read. Each description says what may be left of its text.
--     OpenTree          a node that isn't closed yet: its kind and the children that it has so far
--     Then              what may be left once a tree is there
--     IsElement         what is written for some tree, and then what may be left once it is there
--     IsRestOfNode      elements and the parenthesis that closes a node, and then what may be left once the node is there
--     IsRestOfToken     text and the quote that ends a token, and then what may be left once the token is there
--     IsAfter           what is left behind a tree that stands in open nodes, the innermost first: all of the expression's
--                       text behind it, where the expression is that of a given tree
--     IsFrom            what is left in open nodes, the innermost first, or before the outermost one
use Rattle.std.specs.Prelude.{◌≡◌, ℕ, Bool, false, List, [], ◌∷◌, ◌++◌, Option, codes}
use Rattle.cst_core.specs.Tree.{SyntaxTree, Token, node, forest, is_token}
use Rattle.tree_text.specs.Grammar.{◌⨾◌, IsExactly, IsQuoted, IsTreeText, AreElements}

abbrev pub OpenTree : Type 0
OpenTree = ℕ × List SyntaxTree

abbrev pub Then : Type 1
Then = SyntaxTree → List ℕ → Type 0

abbrev pub IsRestOfToken : Then → ℕ → List ℕ → List ℕ → Type 0
IsRestOfToken Rest k s w = (more : List ℕ) × (IsQuoted more ⨾ IsExactly (codes "\"") ⨾ Rest (Token k (s ++ more))) w

module _ (names : ℕ → Option (List ℕ)) (gaps : ℕ → Bool) where
  abbrev pub IsElement : Then → List ℕ → Type 0
  IsElement Rest w = (u : SyntaxTree) × (IsTreeText names gaps u ⨾ Rest u) w

  abbrev pub IsRestOfNode : Then → ℕ → List SyntaxTree → List ℕ → Type 0
  IsRestOfNode Rest k ts w =
      (us : List SyntaxTree) × (AreElements names gaps (forest us) ⨾ IsExactly (codes ")") ⨾ Rest (node k (ts ++ us))) w

  abbrev pub IsAfter : List OpenTree → SyntaxTree → Then
  IsAfter [] t u w = (is_token u ≡ false) × (u ≡ t) × (w ≡ [])
  IsAfter (n ∷ outer) t u w = IsRestOfNode (IsAfter outer t) n.0 (n.1 ++ u ∷ []) w

  abbrev pub IsFrom : List OpenTree → SyntaxTree → List ℕ → Type 0
  IsFrom [] t w = IsElement (IsAfter [] t) w
  IsFrom (n ∷ outer) t w = IsRestOfNode (IsAfter outer t) n.0 n.1 w
