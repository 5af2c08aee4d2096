-- The whitespace that goes round elements as they are inserted.
--     Space                         No space, one space, or a new line at a level.
--     Neighbor, neighbor            A kind and a level; those of an element, read in that element's tree.
--     is_statement                  The kind is LET_STMT, EXPR_STMT, or that of an item.
--     opens_list                    The new element comes after the `{` of a list: a USE in an ITEM_LIST, or a statement in a STMT_LIST.
--     between                       The whitespace between two neighbors: the first line of the table below that fits.
--     space_before                  The whitespace before the first new element: none at the start of a node, else `space_following`.
--     space_after                   The whitespace after the last new element: `between` it and the next element, none if there is no next
--                                   one.
--     space_in_parent               The whitespace after an anchor: a new line one level deeper than the parent if `opens_list`, else
--                                   `between`.
--     space_following               `space_in_parent` of an anchor, its parent and the first new element.
--     next_of                       The element directly after a position, if there is one.
--     is_deep                       A new line at a level greater than 255.
--     space_text                    Whitespace as a text.
--     lone_tree, lone_token, whitespace  A SOURCE_FILE with one token of a kind; that token, in such a tree with a number; such a token of
--                                   whitespace.
--     LacksTokenNumber              The text is short enough for such a tree, but no number is left.
--     space_elements                Whitespace as a list: such a token, or nothing.
--     space_in_front, space_at_end  The whitespace before and after a list of new elements; none if the list is empty.
--     is_deep_round                 One of these two `is_deep`.
--     with_spaces, spaced           New elements between two whitespaces, whose trees have the numbers from a given one on; with that at a
--                                   position.
--     numbers_needed                How many numbers that takes.
--     space_refusal                 Why new elements get no whitespace, if they do not: `LevelTooLarge`, else `NoTreeNumber`.
--
-- | left and right | whitespace |
-- |---|---|
-- | one is WHITESPACE | none |
-- | right is SEMICOLON or COMMA | none |
-- | left is L_ANGLE, or right is R_ANGLE | none |
-- | left is AMP and right is LIFETIME | none |
-- | right is GENERIC_ARG_LIST | none |
-- | both are USE | a new line at the greater level |
-- | right is USE | a new line at the level of left |
-- | both are ATTR | a new line at the greater level |
-- | left is ATTR | a new line at the level of right |
-- | else | one space |
--
-- Items are CONST, ENUM, EXTERN_BLOCK, EXTERN_CRATE, FN, IMPL, MACRO_CALL, MACRO_DEF, MACRO_RULES, MODULE, STATIC,
-- STRUCT, TRAIT, TYPE_ALIAS, UNION and USE.
use Rattle.std.specs.Prelude.{◌<◌, ℕ, suc, ◌+◌, ◌==◌, ◌&&◌, ◌||◌, Bool, false, cond, max, nat_lt, List, [], ◌∷◌, ◌++◌, length, unwrap_or, Option}
use Rattle.std.specs.List.{list_any}
use Rattle.std.specs.Option.{option_map_or}
use Rattle.cst_core.specs.Path.{parent_path, first_item, last_item}
use Rattle.cst_core.specs.Tree as tree
use Rattle.cst_core.specs.Tree.{SyntaxTree, node, label}
use Rattle.cst_core.specs.Green.{length_limit}
use Rattle.cst_core.specs.TreeIds.{spent, IsSpent}
use Rattle.cst_core.specs.Element.{Element, subtree, element_at}
use Rattle.cst_core.specs.SyntaxElement.{element_of, child_elements, next_sibling}
use Rattle.cst_core.specs.SyntaxKind.{SyntaxKind}
use Rattle.cst_core.specs.Kinds.{AMP, ATTR, COMMA, CONST, ENUM, EXPR_STMT, EXTERN_BLOCK, EXTERN_CRATE, FN, GENERIC_ARG_LIST, IMPL, ITEM_LIST, LET_STMT, LIFETIME, L_ANGLE, L_CURLY, MACRO_CALL, MACRO_DEF, MACRO_RULES, MODULE, R_ANGLE, SEMICOLON, SOURCE_FILE, STATIC, STMT_LIST, STRUCT, TRAIT, TYPE_ALIAS, UNION, USE, WHITESPACE}
use Rattle.cst_core.specs.declared.element.SyntaxElement.{SyntaxElement}
use Rattle.cst_core.specs.declared.element.SyntaxElement.TheVariants.{Token}
use Rattle.edit_change.specs.declared.position.Position.{Position}
use Rattle.edit_change.specs.PositionForm.{FirstChild, After}
use Rattle.whitespace.specs.Table.{first_fit}
use Rattle.whitespace.specs.declared.space_error.SpaceError.{SpaceError}
use Rattle.whitespace.specs.declared.space_error.SpaceError.TheVariants.{LevelTooLarge, NoTreeNumber}
use Rattle.whitespace.specs.Level.{newline, space, level_text, level, is_too_deep}

pub data Space : Type 0 where
  NoSpace : Space
  OneSpace : Space
  NewLine : (level : ℕ) → Space

pub record Neighbor : Type 0 where
  pub kind : ℕ
  pub level : ℕ

abbrev pub neighbor : Element → Neighbor
neighbor e = record { kind = label (subtree e); level = level e }

abbrev is : Neighbor → SyntaxKind → Bool
is n kind = n.kind == kind.0

-- ---- between two neighbors
abbrev table : Neighbor → Neighbor → List (Bool × Space)
table left right =
    (is left WHITESPACE || is right WHITESPACE, NoSpace) ∷
    (is right SEMICOLON || is right COMMA, NoSpace) ∷
    (is left L_ANGLE || is right R_ANGLE, NoSpace) ∷
    (is left AMP && is right LIFETIME, NoSpace) ∷
    (is right GENERIC_ARG_LIST, NoSpace) ∷
    (is left USE && is right USE, NewLine (max left.level right.level)) ∷
    (is right USE, NewLine left.level) ∷
    (is left ATTR && is right ATTR, NewLine (max left.level right.level)) ∷
    (is left ATTR, NewLine right.level) ∷
    []

abbrev pub between : Neighbor → Neighbor → Space
between left right = unwrap_or (first_fit (table left right)) OneSpace

-- ---- before the first new element
abbrev statement_kinds : List SyntaxKind
statement_kinds =
    LET_STMT ∷ EXPR_STMT ∷ CONST ∷ ENUM ∷ EXTERN_BLOCK ∷ EXTERN_CRATE ∷ FN ∷ IMPL ∷ MACRO_CALL ∷ MACRO_DEF ∷ MACRO_RULES ∷ MODULE ∷ STATIC ∷ STRUCT ∷ TRAIT ∷ TYPE_ALIAS ∷ UNION ∷ USE ∷ []

abbrev pub is_statement : Neighbor → Bool
is_statement n = list_any (is n) statement_kinds

-- an import or a statement that comes first in the braces of its list
abbrev pub opens_list : Neighbor → Neighbor → Neighbor → Bool
opens_list parent anchor first = is anchor L_CURLY && ((is parent ITEM_LIST && is first USE) || (is parent STMT_LIST && is_statement first))

abbrev pub space_in_parent : Neighbor → Neighbor → Neighbor → Space
space_in_parent parent anchor first = cond (opens_list parent anchor first) (NewLine (suc parent.level)) (between anchor first)

abbrev pub space_following : Element → Element → Space
space_following anchor first = space_in_parent (neighbor (element_at anchor (parent_path anchor.path))) (neighbor anchor) (neighbor first)

abbrev pub space_before : Position → Element → Space
space_before (FirstChild n) first = NoSpace
space_before (After e) first = space_following (element_of e) first

-- ---- after the last new element
abbrev pub next_of : Position → Option SyntaxElement
next_of (FirstChild n) = first_item (child_elements n)
next_of (After e) = next_sibling (element_of e)

abbrev pub space_after : Position → Element → Space
space_after at last = option_map_or (λ next. between (neighbor last) (neighbor (element_of next))) (next_of at) NoSpace

abbrev pub is_deep : Space → Bool
is_deep (NewLine level) = is_too_deep level
is_deep _ = false

-- ---- as elements
abbrev pub space_text : Space → List ℕ
space_text NoSpace = []
space_text OneSpace = space ∷ []
space_text (NewLine level) = newline ∷ level_text level

abbrev pub lone_tree : SyntaxKind → List ℕ → SyntaxTree
lone_tree kind s = node SOURCE_FILE.0 (tree.Token kind.0 s ∷ [])

abbrev pub lone_token : ℕ → SyntaxKind → List ℕ → SyntaxElement
lone_token number kind s = Token (record { number = number; root = lone_tree kind s; path = 0 ∷ [] })

abbrev pub whitespace : ℕ → List ℕ → SyntaxElement
whitespace number s = lone_token number WHITESPACE s

abbrev pub LacksTokenNumber : ℕ → List ℕ → Type 0
LacksTokenNumber number s = IsSpent number × (length s < length_limit)

abbrev pub space_elements : ℕ → Space → List SyntaxElement
space_elements number NoSpace = []
space_elements number space = whitespace number (space_text space) ∷ []

-- ---- round a list of new elements: none where there are no elements
abbrev pub space_in_front : Position → List SyntaxElement → Space
space_in_front at es = option_map_or (λ e. space_before at (element_of e)) (first_item es) NoSpace

abbrev pub space_at_end : Position → List SyntaxElement → Space
space_at_end at es = option_map_or (λ e. space_after at (element_of e)) (last_item es) NoSpace

abbrev pub is_deep_round : Position → List SyntaxElement → Bool
is_deep_round at es = is_deep (space_in_front at es) || is_deep (space_at_end at es)

-- new elements between these two, whose tokens have the tree numbers from this one on
abbrev pub with_spaces : ℕ → Space → List SyntaxElement → Space → List SyntaxElement
with_spaces number front es end =
    let first = space_elements number front in
    first ++ es ++ space_elements (number + length first) end

abbrev pub spaced : ℕ → Position → List SyntaxElement → List SyntaxElement
spaced number at es = with_spaces number (space_in_front at es) es (space_at_end at es)

abbrev pub numbers_needed : Position → List SyntaxElement → ℕ
numbers_needed at es = length (space_elements 0 (space_in_front at es)) + length (space_elements 0 (space_at_end at es))

-- a new line that is too deep comes first, then numbers that are not there
abbrev pub space_refusal : ℕ → Position → List SyntaxElement → Option SpaceError
space_refusal number at es =
    first_fit (
    (is_deep_round at es, LevelTooLarge) ∷
    (nat_lt spent (number + numbers_needed at es), NoTreeNumber) ∷
    [])
