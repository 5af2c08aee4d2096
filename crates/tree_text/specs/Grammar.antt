-- Tree expressions: which texts are written for a tree, whoever reads or writes them. Texts are bytes.
-- `names` gives the name of a kind if it has one, and `gaps` says which bytes may be between elements.
--
--     ◌⨾◌, Joined                   A text that falls into two parts, the first as one description says and the second as another.
--     IsExactly                     This text and no other.
--     is_gap_space, is_gap_blank    A space, for expressions within a line; a space, tab, newline or carriage return, for all others.
--     IsGap                         Such bytes alone, or nothing.
--     IsWritten                     What is written between quotes for a byte: its `escape`, or itself if it is neither quote nor
--                                   backslash.
--     IsQuoted                      What is written between quotes for a text: that of each of its bytes, in order.
--     IsName                        The name of this kind.
--     begins_with_name_byte, IsApart  A text begins with a letter, a digit or an underscore, so that it would go on with a name before it;
--                                   a text that doesn't.
--     IsTreeText                    What is written for a tree. For a token: its kind's name, `"`, its quoted text, `"`. For a node: `(`,
--                                   its kind's name, its elements, which don't go on with that name, `)`.
--     AreElements                   What is written for elements: each with a gap before it, and a gap after the last.
--     IsExpression                  An expression of a tree: the tree is a node, and this is written for it. Nothing is before or after it.
--
-- `(ATTR IDENT"a\n" )` is an expression of the node ATTR with one token, whose text is `a` and a newline: after `(` and
-- the name come the elements, a gap of one space, the token and a gap of one space. `(ATTRIDENT"a")` is none, since the
-- token goes on with the node's name; `(ATTR(NAME))` is one. The newline of the text may also be written as itself, so
-- a tree has many expressions; but a text is an expression of one tree at most.
use Rattle.std.specs.Prelude.{◌≡◌, ◌⊎◌, ℕ, Bool, true, false, ◌||◌, ◌==◌, List, [], ◌∷◌, ◌++◌, Option, Some, codes}
use Rattle.std.specs.List.{list_all}
use Rattle.cst_core.specs.Tree.{SyntaxTree, Token, Node, Forest, end, more, is_token}
use Rattle.tree_text.specs.Escape.{escape}
use Rattle.tree_text.specs.KindNames.{is_name_byte}

pub record Joined (P Q : List ℕ → Type 0) (w : List ℕ) : Type 0 where
  pub first : List ℕ
  pub second : List ℕ
  pub joined : w ≡ first ++ second
  pub is_first : P first
  pub is_second : Q second

infixr 10 ◌⨾◌
abbrev pub ◌⨾◌ : (List ℕ → Type 0) → (List ℕ → Type 0) → List ℕ → Type 0
P ⨾ Q = λ w. Joined P Q w

abbrev pub IsExactly : List ℕ → List ℕ → Type 0
IsExactly s w = w ≡ s

abbrev pub is_gap_space : ℕ → Bool
is_gap_space b = b == 32

abbrev pub is_gap_blank : ℕ → Bool
is_gap_blank b = b == 32 || b == 9 || b == 10 || b == 13

abbrev pub IsGap : (ℕ → Bool) → List ℕ → Type 0
IsGap gaps w = list_all gaps w ≡ true

abbrev pub IsWritten : ℕ → List ℕ → Type 0
IsWritten b w = (w ≡ escape b) ⊎ ((w ≡ b ∷ []) × ((b == 34 || b == 92) ≡ false))

abbrev pub IsQuoted : List ℕ → List ℕ → Type 0
IsQuoted [] = IsExactly []
IsQuoted (b ∷ s) = IsWritten b ⨾ IsQuoted s

abbrev pub IsName : (ℕ → Option (List ℕ)) → ℕ → List ℕ → Type 0
IsName names k w = names k ≡ Some w

abbrev pub begins_with_name_byte : List ℕ → Bool
begins_with_name_byte [] = false
begins_with_name_byte (b ∷ w) = is_name_byte b

abbrev pub IsApart : (List ℕ → Type 0) → List ℕ → Type 0
IsApart P w = (begins_with_name_byte w ≡ false) × P w

abbrev mutual
  pub IsTreeText : (ℕ → Option (List ℕ)) → (ℕ → Bool) → SyntaxTree → List ℕ → Type 0
  IsTreeText names gaps (Token k s) = IsName names k ⨾ IsExactly (codes "\"") ⨾ IsQuoted s ⨾ IsExactly (codes "\"")
  IsTreeText names gaps (Node k f) =
      IsExactly (codes "(") ⨾ IsName names k ⨾ IsApart (AreElements names gaps f) ⨾ IsExactly (codes ")")

  pub AreElements : (ℕ → Option (List ℕ)) → (ℕ → Bool) → Forest ℕ → List ℕ → Type 0
  AreElements names gaps end = IsGap gaps
  AreElements names gaps (more t f) = IsGap gaps ⨾ IsTreeText names gaps t ⨾ AreElements names gaps f

abbrev pub IsExpression : (ℕ → Option (List ℕ)) → (ℕ → Bool) → SyntaxTree → List ℕ → Type 0
IsExpression names gaps t w = (is_token t ≡ false) × IsTreeText names gaps t w
