-- Whether there is a token.
--     has_token, have_token         a tree is a token or has one below it; one of several trees is one or has one below it
--     TellsToken                    whether one of some elements is a token or has one below it
use Rattle.std.specs.Prelude.{◌≡◌, Bool, List, length, nat_lt}
use Rattle.green_tree.specs.Tree.{SyntaxTree, tokens, forest, forest_tokens}
use Rattle.green_tree.specs.declared.green.GreenElement.{GreenElement}
use Rattle.green_tree.specs.GreenElement.{element_trees}

abbrev pub has_token : SyntaxTree → Bool
has_token t = nat_lt 0 (length (tokens t))

abbrev pub have_token : List SyntaxTree → Bool
have_token ts = nat_lt 0 (length (forest_tokens (forest ts)))

abbrev pub TellsToken : List GreenElement → Bool → Type 0
TellsToken es b = b ≡ have_token (element_trees es)
