-- Levels of indentation, four spaces each.
--     newline, space, is_newline    The bytes 10 and 32; a byte is the first of these.
--     level_text                    A level as a text: four spaces for each.
--     has_newline, breaks_line      A text holds a newline; a token of the kind WHITESPACE has such a text.
--     tokens_up_to                  The tokens before a token in document order, and then the token itself.
--     level_after                   The number of characters after the last newline of a text, divided by four and rounded down.
--     token_level                   `level_after` of the last token in `tokens_up_to` that breaks the line; 0 if none does.
--     level                         The level of an element's first token; 0 if it has none.
--     is_too_deep                   A level is greater than 255.
--
-- After a newline and 1,023 spaces the level is 255, and after one more space 256. A comment with a newline does not
-- count, nor does a node of the kind WHITESPACE.
use Rattle.std.specs.Prelude.{ℕ, ◌*◌, ◌/◌, ◌==◌, ◌&&◌, Bool, nat_lt, List, [], ◌∷◌, ◌++◌, length, replicate, map, filter}
use Rattle.std.specs.List.{list_any, after_last}
use Rattle.std.specs.Option.{option_map_or}
use Rattle.std.specs.Str.{chars}
use Rattle.cst_core.specs.Path.{last_item}
use Rattle.cst_core.specs.Tree.{label, text}
use Rattle.cst_core.specs.Order.{tokens_before}
use Rattle.cst_core.specs.Element.{Element, subtree, element_at}
use Rattle.cst_core.specs.SyntaxElement.{first_token_of}
use Rattle.cst_core.specs.Kinds.{WHITESPACE}

abbrev pub newline : ℕ
newline = 10

abbrev pub space : ℕ
space = 32

abbrev pub is_newline : ℕ → Bool
is_newline b = b == newline

abbrev pub level_text : ℕ → List ℕ
level_text level = replicate (4 * level) space

abbrev pub has_newline : List ℕ → Bool
has_newline s = list_any is_newline s

-- ---- the level of an element
abbrev pub breaks_line : Element → Bool
breaks_line token = (label (subtree token) == WHITESPACE.0) && has_newline (text (subtree token))

abbrev pub tokens_up_to : Element → List Element
tokens_up_to token = map (element_at token) (tokens_before token.root token.path ++ token.path ∷ [])

-- the characters after the last newline, of which each four are a level
abbrev pub level_after : List ℕ → ℕ
level_after s = length (chars (after_last is_newline s)) / 4

abbrev pub token_level : Element → ℕ
token_level token = option_map_or (λ whitespace. level_after (text (subtree whitespace))) (last_item (filter breaks_line (tokens_up_to token))) 0

abbrev pub level : Element → ℕ
level e = option_map_or token_level (first_token_of e) 0

abbrev pub is_too_deep : ℕ → Bool
is_too_deep level = nat_lt 255 level
