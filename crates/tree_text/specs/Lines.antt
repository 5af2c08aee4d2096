-- A tree as lines, one for each node and token.
--     line                          How a line begins: its indentation, the kind, `@`, where the text starts, `..` and where it ends.
--     lines, forest_lines           The lines of a tree whose text starts at a byte: its own, and those below it, indented by two spaces
--                                   more; the same of trees side by side. A token's line ends with its text in quotes, escaped.
--     lines_in                      The lines of a tree, where kinds are given names.
--
-- The lines of `(LITERAL INT_NUMBER"1")` are `LITERAL@0..1` and, after two spaces, `INT_NUMBER@0..1 "1"`.
use Rattle.std.specs.Prelude.{ℕ, ◌+◌, List, [], ◌++◌, length, codes, decimal}
use Rattle.cst_core.specs.Tree.{SyntaxTree, Token, Node, Forest, end, more, text_length, forest_text}
use Rattle.tree_text.specs.Escape.{escaped}
use Rattle.tree_text.specs.KindNames.{KindName, text_in}

abbrev pub line : List ℕ → List ℕ → ℕ → ℕ → List ℕ
line indent kind start length = indent ++ kind ++ codes "@" ++ decimal start ++ codes ".." ++ decimal (start + length)

abbrev mutual
  pub lines : (ℕ → List ℕ) → List ℕ → ℕ → SyntaxTree → List ℕ
  lines name indent start (Token k s) =
      line indent (name k) start (length s) ++ codes " \"" ++ escaped s ++ codes "\"\n"
  lines name indent start (Node k f) =
      line indent (name k) start (length (forest_text f)) ++ codes "\n"
      ++ forest_lines name (indent ++ codes "  ") start f

  pub forest_lines : (ℕ → List ℕ) → List ℕ → ℕ → Forest ℕ → List ℕ
  forest_lines name indent start end = []
  forest_lines name indent start (more t f) =
      lines name indent start t ++ forest_lines name indent (start + text_length t) f

abbrev pub lines_in : List KindName → List ℕ → ℕ → SyntaxTree → List ℕ
lines_in given = lines (text_in given)
