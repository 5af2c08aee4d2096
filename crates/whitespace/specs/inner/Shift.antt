-- Indenting and dedenting as one.
--     shifted_text, shifted        a whitespace token's text and a tree, indented or dedented by a level
--     IsShifted                    a tree is so, where there is no answer as it stands
--     with_changed, with_rest      trees of the first new children, after them those that stay up to here, and a changed one; a node of these, and of its own children after them
--     ShiftRefuses                 why a shared tree is not made, of which the new text has n bytes
use Rattle.std.specs.Prelude.{◌≡◌, ℕ, ◌≤◌, List, [], ◌∷◌, ◌++◌, length, drop, map, Option, unwrap_or}
use Rattle.cst_core.specs.Tree.{SyntaxTree, node}
use Rattle.cst_core.specs.Green.{Branch, length_limit}
use Rattle.whitespace.specs.declared.indent_error.IndentError.{IndentError}
use Rattle.whitespace.specs.declared.indent_error.IndentError.TheVariants.{TooLong, Memory}
use Rattle.whitespace.specs.Indentation.{indented_text, dedented_text, in_whitespace}
use Rattle.whitespace.specs.declared.shift.Shift.{Shift}
use Rattle.whitespace.specs.declared.shift.Shift.TheVariants.{Indent, Dedent}

abbrev pub shifted_text : Shift → List ℕ → List ℕ
shifted_text (Indent level) s = indented_text level.0 s
shifted_text (Dedent level) s = dedented_text level.0 s

abbrev pub shifted : Shift → SyntaxTree → SyntaxTree
shifted shift t = in_whitespace (shifted_text shift) t

abbrev pub IsShifted : Shift → SyntaxTree → Option SyntaxTree → Type 0
IsShifted shift t new = unwrap_or new t ≡ shifted shift t

abbrev pub with_changed : {E : Type 0} → (E → SyntaxTree) → List E → List E → E → List SyntaxTree
with_changed tree_of built before new = map tree_of built ++ drop (length built) (map tree_of before) ++ tree_of new ∷ []

abbrev pub with_rest : {E : Type 0} → (E → SyntaxTree) → Branch → List E → SyntaxTree
with_rest tree_of old built = node old.kind (map tree_of built ++ drop (length built) old.children)

abbrev pub ShiftRefuses : ℕ → IndentError → Type 0
ShiftRefuses size TooLong = length_limit ≤ size
ShiftRefuses size Memory = Unit {0}
ShiftRefuses size _ = ⊥
