-- Tokens and elements that are found by their offsets.
--     tokens_touching               the paths of the tokens whose texts touch an offset
--     covering                      the path of the last element in document order whose text contains a range of bytes
use Rattle.std.specs.Prelude.{ℕ, List, filter, Option}
use Rattle.green_tree.specs.Path.{Path, last_item}
use Rattle.green_tree.specs.Tree.{Tree, paths}
use Rattle.green_tree.specs.Order.{token_paths}
use Rattle.green_tree.specs.Offsets.{covers, touches}

abbrev pub tokens_touching : {L : Type 0} → Tree L → ℕ → List Path
tokens_touching t offset = filter (touches t offset) (token_paths t)

abbrev pub covering : {L : Type 0} → Tree L → ℕ → ℕ → Option Path
covering t from to = last_item (filter (covers t from to) (paths t))
