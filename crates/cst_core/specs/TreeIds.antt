-- Sources of tree numbers, each as the number that it gives next.
--     spent, IsSpent                2^64 - 1, which no source returns; a source has come to it, so it has no number left.
--     LacksNumber                   A tree is short enough for a root, but the source of numbers is spent.
--
-- Each number that `next` returns is one greater than the one before it, so one source never returns a number twice.
use Rattle.std.specs.Prelude.{◌≡◌, ℕ, ◌<◌}
use Rattle.green_tree.specs.Tree.{SyntaxTree, text_length}
use Rattle.green_tree.specs.Green.{length_limit}

abbrev pub spent : ℕ
spent = 18446744073709551615

abbrev pub IsSpent : ℕ → Type 0
IsSpent next = next ≡ spent

abbrev pub LacksNumber : ℕ → SyntaxTree → Type 0
LacksNumber next t = IsSpent next × (text_length t < length_limit)
