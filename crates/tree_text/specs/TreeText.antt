-- The tree expression of a tree.
--     tree_text, elements_text      The tree expression of a tree, with a function from kinds to names; those of elements, one space before
--                                   each.
--     expression_of                 The tree expression of a tree, where kinds are given names: one of all that the grammar allows.
--     kinds, forest_kinds           The kinds of all nodes and tokens of a tree, in document order; the same of trees side by side.
--     unnamed_in                    The first of these kinds that has no name, if there is one.
--     NamesUnnamed                  A call is refused with `NoName` exactly if there is such a kind, and names that one.
use Rattle.std.specs.Prelude.{◌≡◌, ◌↔◌, ℕ, List, [], ◌∷◌, ◌++◌, Option, Some, is_none, Result, Err, codes}
use Rattle.std.specs.List.{find}
use Rattle.cst_core.specs.Tree.{SyntaxTree, Token, Node, Forest, end, more}
use Rattle.tree_text.specs.Escape.{escaped}
use Rattle.tree_text.specs.KindNames.{KindName, name_in, text_in}
use Rattle.tree_text.specs.declared.write_error.WriteError.{WriteError}
use Rattle.tree_text.specs.declared.write_error.WriteError.TheVariants.{NoName}

abbrev mutual
  pub tree_text : (ℕ → List ℕ) → SyntaxTree → List ℕ
  tree_text name (Token k s) = name k ++ codes "\"" ++ escaped s ++ codes "\""
  tree_text name (Node k f) = codes "(" ++ name k ++ elements_text name f ++ codes ")"

  pub elements_text : (ℕ → List ℕ) → Forest ℕ → List ℕ
  elements_text name end = []
  elements_text name (more t f) = codes " " ++ tree_text name t ++ elements_text name f

abbrev pub expression_of : List KindName → SyntaxTree → List ℕ
expression_of given = tree_text (text_in given)

abbrev mutual
  pub kinds : SyntaxTree → List ℕ
  kinds (Token k s) = k ∷ []
  kinds (Node k f) = k ∷ forest_kinds f

  pub forest_kinds : Forest ℕ → List ℕ
  forest_kinds end = []
  forest_kinds (more t f) = kinds t ++ forest_kinds f

abbrev pub unnamed_in : List KindName → SyntaxTree → Option ℕ
unnamed_in given t = find (λ k. is_none (name_in given k)) (kinds t)

abbrev pub NamesUnnamed : {A : Type 0} → Result A WriteError → Option ℕ → Type 0
NamesUnnamed result unnamed = (k : ℕ) → (result ≡ Err (NoName (record { 0 = k }))) ↔ (unnamed ≡ Some k)
