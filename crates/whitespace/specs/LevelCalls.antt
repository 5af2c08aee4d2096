-- What the calls that read a level answer.
--     ReadsLevel, LevelRefuses      A call returns the level, which is not too deep, or is refused; why: `LevelTooLarge`, if the level is
--                                   too deep.
--     is_read_at_once, ReadsAtOnce  No token is looked for beside an element: a token breaks the line or is the first of its tree, a node
--                                   has no token; a call returns `Memory` of no such element.
use Rattle.std.specs.Prelude.{◌≡◌, ℕ, Bool, true, false, ◌||◌, Result, Ok, Err, IsTrue}
use Rattle.std.specs.Option.{is_none}
use Rattle.cst_core.specs.SyntaxElement.{first_token_of, token_before}
use Rattle.cst_core.specs.declared.element.SyntaxElement.{SyntaxElement}
use Rattle.cst_core.specs.declared.element.SyntaxElement.TheVariants.{Node, Token}
use Rattle.whitespace.specs.Level.{is_too_deep, breaks_line}
use Rattle.whitespace.specs.declared.level.IndentLevel.{IndentLevel}
use Rattle.whitespace.specs.declared.indent_error.IndentError.{IndentError}
use Rattle.whitespace.specs.declared.indent_error.IndentError.TheVariants.{LevelTooLarge, Memory}

abbrev pub LevelRefuses : ℕ → IndentError → Type 0
LevelRefuses level LevelTooLarge = is_too_deep level ≡ true
LevelRefuses level Memory = Unit {0}
LevelRefuses level _ = ⊥

abbrev pub ReadsLevel : ℕ → Result IndentLevel IndentError → Type 0
ReadsLevel level (Ok l) = (is_too_deep level ≡ false) × (l.0 ≡ level)
ReadsLevel level (Err e) = LevelRefuses level e

abbrev pub is_read_at_once : SyntaxElement → Bool
is_read_at_once (Node n) = is_none (first_token_of n)
is_read_at_once (Token t) = breaks_line t || is_none (token_before t)

abbrev pub ReadsAtOnce : SyntaxElement → Result IndentLevel IndentError → Type 0
ReadsAtOnce e r = IsTrue (is_read_at_once e) → r ≡ Err Memory → ⊥
