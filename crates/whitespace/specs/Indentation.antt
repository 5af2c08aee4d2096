-- Trees indented and dedented: the text of each whitespace token changes, and nothing else.
--     lines, dedented_line          The parts of a text between its newlines; a line without the spaces of a level at its start, if it has
--                                   them.
--     dedented_lines, dedented_text  Lines, each but the first dedented; a text with its lines dedented so, since what is before the first
--                                   newline starts no line.
--     indented_text                 A text with a newline, followed by the spaces of a level; any other text as it is.
--     with_texts, forest_with_texts  A tree with other texts of its tokens; trees side by side.
--     in_whitespace                 A tree with other texts of its tokens of the kind WHITESPACE.
--     indented, dedented            A tree with the texts of these tokens indented, or dedented, by a level.
--     reset                         The tree of an element, dedented by the level of that element.
--     mapped_children               Each child node of an element, with the child node of another element at the same index.
--
-- A newline, another one and four spaces, dedented by 1, are two newlines. A block after a newline and four spaces has
-- the level 1, and `{`, newline, eight spaces, `}` becomes `{`, newline, four spaces, `}` by `reset`.
use Rattle.std.specs.Prelude.{ℕ, ◌*◌, ◌==◌, cond, nat_eq, List, [], ◌∷◌, ◌++◌, map, drop, zip}
use Rattle.std.specs.List.{slice_split, starts_with, join_with_byte}
use Rattle.cst_core.specs.Tree.{Forest, Token, Node, end, more, SyntaxTree}
use Rattle.cst_core.specs.Element.{Element, subtree}
use Rattle.cst_core.specs.SyntaxElement.{child_nodes}
use Rattle.cst_core.specs.Kinds.{WHITESPACE}
use Rattle.whitespace.specs.Level.{newline, is_newline, has_newline, level_text, level}

-- ---- texts
abbrev pub indented_text : ℕ → List ℕ → List ℕ
indented_text l s = cond (has_newline s) (s ++ level_text l) s

abbrev pub lines : List ℕ → List (List ℕ)
lines s = slice_split is_newline s

abbrev pub dedented_line : ℕ → List ℕ → List ℕ
dedented_line l line = cond (starts_with nat_eq line (level_text l)) (drop (4 * l) line) line

-- what stands before the first newline is no beginning of a line
abbrev pub dedented_lines : ℕ → List (List ℕ) → List (List ℕ)
dedented_lines l [] = []
dedented_lines l (first ∷ rest) = first ∷ map (dedented_line l) rest

abbrev pub dedented_text : ℕ → List ℕ → List ℕ
dedented_text l s = join_with_byte newline (dedented_lines l (lines s))

-- ---- trees
abbrev mutual
  pub with_texts : (ℕ → List ℕ → List ℕ) → SyntaxTree → SyntaxTree
  with_texts h (Token k s) = Token k (h k s)
  with_texts h (Node k f) = Node k (forest_with_texts h f)

  pub forest_with_texts : (ℕ → List ℕ → List ℕ) → Forest ℕ → Forest ℕ
  forest_with_texts h end = end
  forest_with_texts h (more t f) = more (with_texts h t) (forest_with_texts h f)

abbrev pub in_whitespace : (List ℕ → List ℕ) → SyntaxTree → SyntaxTree
in_whitespace h t = with_texts (λ kind s. cond (kind == WHITESPACE.0) (h s) s) t

abbrev pub indented : ℕ → SyntaxTree → SyntaxTree
indented l t = in_whitespace (indented_text l) t

abbrev pub dedented : ℕ → SyntaxTree → SyntaxTree
dedented l t = in_whitespace (dedented_text l) t

abbrev pub reset : Element → SyntaxTree
reset e = dedented (level e) (subtree e)

-- ---- what is mapped along
abbrev pub mapped_children : Element → Element → List (Element × Element)
mapped_children old new = zip (child_nodes old) (child_nodes new)
