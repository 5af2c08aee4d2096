-- What the calls that find the whitespace round new elements, and make its tokens, answer.
--     space_of                    whitespace as code has it
--     DeepOrMemory, FindsLevel    a level is too deep or memory was refused; a level that is found, or why it is not
--     FindsSpace                  whitespace that is found, or why it is not
--     IsRound, RoundRefuses       the whitespace on both sides, where no level is too deep; why it is not found
--     numbers_of, NumbersRefuse   how many numbers whitespace needs; n are not there
--     SpacedRefuses               why new elements get no whitespace round them
use Rattle.std.specs.Prelude.{◌≡◌, ◌<◌, ◌+◌, ℕ, true, false, List, length, Result, Ok, Err, Some}
use Rattle.cst_core.specs.TreeIds.{spent}
use Rattle.cst_core.specs.declared.element.SyntaxElement.{SyntaxElement}
use Rattle.edit_change.specs.declared.position.Position.{Position}
use Rattle.whitespace.specs.Level.{is_too_deep}
use Rattle.whitespace.specs.declared.level.IndentLevel.{IndentLevel}
use Rattle.whitespace.specs.declared.space.Space as code
use Rattle.whitespace.specs.declared.space.Space.TheVariants as code_space
use Rattle.whitespace.specs.declared.space_error.SpaceError.{SpaceError}
use Rattle.whitespace.specs.declared.space_error.SpaceError.TheVariants.{LevelTooLarge, NoTreeNumber, Memory}
use Rattle.whitespace.specs.Spacing.{Space, NoSpace, OneSpace, NewLine, is_deep, space_elements, space_in_front, space_at_end, is_deep_round, space_refusal}

abbrev pub space_of : code.Space → Space
space_of code_space.Nothing = NoSpace
space_of code_space.OneSpace = OneSpace
space_of (code_space.NewLine level) = NewLine level.0

-- it is found unless memory runs out or the level is too deep
abbrev pub DeepOrMemory : Type 0 → SpaceError → Type 0
DeepOrMemory deep LevelTooLarge = deep
DeepOrMemory deep NoTreeNumber = ⊥
DeepOrMemory deep Memory = Unit {0}

abbrev pub FindsLevel : ℕ → Result IndentLevel SpaceError → Type 0
FindsLevel level (Ok l) = (is_too_deep level ≡ false) × (l.0 ≡ level)
FindsLevel level (Err e) = DeepOrMemory (is_too_deep level ≡ true) e

abbrev pub FindsSpace : Space → Result code.Space SpaceError → Type 0
FindsSpace space (Ok s) = (is_deep space ≡ false) × (space_of s ≡ space)
FindsSpace space (Err e) = DeepOrMemory (is_deep space ≡ true) e

pub record IsRound (at : Position) (es : List SyntaxElement) (spaces : code.Space × code.Space) : Type 0 where
  pub shallow : is_deep_round at es ≡ false
  pub front : space_of spaces.0 ≡ space_in_front at es
  pub end : space_of spaces.1 ≡ space_at_end at es

abbrev pub RoundRefuses : Position → List SyntaxElement → SpaceError → Type 0
RoundRefuses at es e = DeepOrMemory (is_deep_round at es ≡ true) e

abbrev pub numbers_of : Space → ℕ
numbers_of space = length (space_elements 0 space)

-- n numbers are not there
abbrev pub NumbersRefuse : ℕ → ℕ → SpaceError → Type 0
NumbersRefuse number needed LevelTooLarge = ⊥
NumbersRefuse number needed NoTreeNumber = spent < number + needed
NumbersRefuse number needed Memory = Unit {0}

-- the first reason, or memory ran out
abbrev pub SpacedRefuses : ℕ → Position → List SyntaxElement → SpaceError → Type 0
SpacedRefuses number at es Memory = Unit {0}
SpacedRefuses number at es reason = space_refusal number at es ≡ Some reason
