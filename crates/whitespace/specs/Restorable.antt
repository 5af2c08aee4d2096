-- Texts and trees that dedenting restores after they were indented.
--     lines_between                 The lines between two newlines of a text.
--     IsRestorable                  A text has only spaces after its last newline, and no line between two newlines starts with the spaces
--                                   of a level.
--     HasRestorableTexts            Each WHITESPACE token of a tree that holds a newline has such a text.
--
-- The law `dedent_restores` of `syntax_editor::laws` speaks of such trees.
use Rattle.std.specs.Prelude.{◌≡◌, ℕ, ◌-◌, ◌==◌, false, nat_eq, List, drop, take, length, All, IsTrue}
use Rattle.std.specs.List.{list_all, after_last, starts_with}
use Rattle.cst_core.specs.Tree.{SyntaxTree, tokens}
use Rattle.cst_core.specs.Kinds.{WHITESPACE}
use Rattle.whitespace.specs.Level.{space, is_newline, has_newline, level_text}
use Rattle.whitespace.specs.Indentation.{lines}

abbrev pub lines_between : List ℕ → List (List ℕ)
lines_between s = take (length (lines s) - 2) (drop 1 (lines s))

pub record IsRestorable (l : ℕ) (s : List ℕ) : Type 0 where
  pub only_spaces : IsTrue (list_all (λ b. b == space) (after_last is_newline s))
  pub less_deep : All (λ line. starts_with nat_eq line (level_text l) ≡ false) (lines_between s)

abbrev pub HasRestorableTexts : ℕ → SyntaxTree → Type 0
HasRestorableTexts l t = All (λ token. token.0 ≡ WHITESPACE.0 → IsTrue (has_newline token.1) → IsRestorable l token.1) (tokens t)
