-- What the calls that indent and dedent answer.
--     fresh_root                    A tree as a root under a number.
--     CanBeRoot, RootRefuses        A tree is short enough for a root, and a number is left; why no such root is made: `TooLong`, else
--                                   `NoTreeNumber`.
--     ResetRefuses                  Why a node is not dedented by its level: `LevelTooLarge`, else as `RootRefuses` says.
--     MappingRefuses, next_after    Why a node is not indented with a mapping: as `RootRefuses` says, else `NotYounger` if the copy is too
--                                   old; the next tree number then.
--
-- `next_after` is the number itself, except after `NotYounger`, which uses up one number. A node with a child node, in
-- a tree of the number 5, is indented with a mapping where 1 is the next number: `NotYounger`, the next number is 2,
-- and the mapping is as it was.
use Rattle.std.specs.Prelude.{◌≡◌, ◌<◌, ◌≤◌, ◌+◌, ℕ, Bool, true, false, []}
use Rattle.cst_core.specs.Tree.{SyntaxTree, text_length}
use Rattle.cst_core.specs.Green.{length_limit}
use Rattle.cst_core.specs.TreeIds.{IsSpent}
use Rattle.cst_core.specs.Element.{Element}
use Rattle.whitespace.specs.declared.indent_error.IndentError.{IndentError}
use Rattle.whitespace.specs.declared.indent_error.IndentError.TheVariants.{LevelTooLarge, TooLong, NoTreeNumber, NotYounger, Memory}
use Rattle.whitespace.specs.Level.{level, is_too_deep}
use Rattle.whitespace.specs.Indentation.{reset}

abbrev pub fresh_root : ℕ → SyntaxTree → Element
fresh_root number t = record { number = number; root = t; path = [] }

-- the text is short enough, and a number is left
abbrev pub CanBeRoot : SyntaxTree → ℕ → Type 0
CanBeRoot t number = (text_length t < length_limit) × (IsSpent number → ⊥)

abbrev pub RootRefuses : SyntaxTree → ℕ → IndentError → Type 0
RootRefuses t number TooLong = length_limit ≤ text_length t
RootRefuses t number NoTreeNumber = (text_length t < length_limit) × IsSpent number
RootRefuses t number Memory = Unit {0}
RootRefuses t number _ = ⊥

abbrev pub ResetRefuses : Element → ℕ → IndentError → Type 0
ResetRefuses e number LevelTooLarge = is_too_deep (level e) ≡ true
ResetRefuses e number Memory = Unit {0}
ResetRefuses e number reason = (is_too_deep (level e) ≡ false) × RootRefuses (reset e) number reason

-- what comes next after a refusal to map along, of which one spends a number
abbrev pub next_after : IndentError → ℕ → ℕ
next_after NotYounger number = number + 1
next_after _ number = number

-- why a node is not indented with a mapping, where this says that its number is not greater
abbrev pub MappingRefuses : Bool → SyntaxTree → ℕ → IndentError → Type 0
MappingRefuses old t number NotYounger = CanBeRoot t number × (old ≡ true)
MappingRefuses old t number reason = RootRefuses t number reason
