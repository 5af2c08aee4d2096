-- The nodes and the tokens of a tree in document order.
--     node_paths, token_paths       The paths of all nodes in document order; of all tokens.
--     tokens_before, tokens_after   The paths of the tokens before the element at a path; of those after it, which include those below it.
--     start                         Where an element starts: how many bytes the tokens before it have.
--
-- The tokens of `L` are at `0`, `1/0`, `2`, `3`, `4/0` and `5`. The first four come before `L/4`, so it starts at byte
-- 4. The last two come after it, and the first of these is inside it.
use Rattle.std.specs.Prelude.{ℕ, false, not, List, length, filter, sum_by}
use Rattle.std.specs.Option.{option_map_or}
use Rattle.green_tree.specs.Path.{Path, precedes}
use Rattle.green_tree.specs.Tree.{Tree, at, paths, is_token, text}

abbrev pub node_paths : {L : Type 0} → Tree L → List Path
node_paths t = filter (λ p. option_map_or (λ c. not (is_token c)) (at t p) false) (paths t)

abbrev pub token_paths : {L : Type 0} → Tree L → List Path
token_paths t = filter (λ p. option_map_or is_token (at t p) false) (paths t)

abbrev pub tokens_before : {L : Type 0} → Tree L → Path → List Path
tokens_before t p = filter (λ q. precedes q p) (token_paths t)

abbrev pub tokens_after : {L : Type 0} → Tree L → Path → List Path
tokens_after t p = filter (λ q. precedes p q) (token_paths t)

abbrev pub start : {L : Type 0} → Tree L → Path → ℕ
start t p = sum_by (λ q. option_map_or (λ c. length (text c)) (at t q) 0) (tokens_before t p)
