-- The first and the last token of a tree, and those beside an element.
--     first_token, last_token             the path of the first token, of the last one
--     last_token_before, first_token_after      the path of the last token that stands before the element at a path; of the first one after it
use Rattle.std.specs.Prelude.{Option}
use Rattle.green_tree.specs.Path.{Path, first_item, last_item}
use Rattle.green_tree.specs.Tree.{Tree}
use Rattle.green_tree.specs.Order.{token_paths, tokens_after, tokens_before}

abbrev pub first_token : {L : Type 0} → Tree L → Option Path
first_token t = first_item (token_paths t)

abbrev pub last_token : {L : Type 0} → Tree L → Option Path
last_token t = last_item (token_paths t)

abbrev pub last_token_before : {L : Type 0} → Tree L → Path → Option Path
last_token_before t p = last_item (tokens_before t p)

abbrev pub first_token_after : {L : Type 0} → Tree L → Path → Option Path
first_token_after t p = first_item (tokens_after t p)
