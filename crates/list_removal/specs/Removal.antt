-- An element of a separated list that is removed with one separator beside it.
--     is_token_of, if_token_of      An element is a token of this kind, which no node is; an element, if there is one and it is such a
--                                   token.
--     past_whitespace               The sibling one step from an element. If that is a WHITESPACE token, the sibling one step further.
--     next_separator, previous_separator  `past_whitespace` after an element, if it is a token of the separator's kind; the same before it.
--     with_whitespace_after         The WHITESPACE token directly after an element, or the element itself if there is none.
--     removed_run                   The first and the last sibling that are deleted: the first line that fits in the table below.
--     removal                       The call that deletes them: `DeletingAll`, so an element alone is deleted as by `delete`.
--     RemovalRefuses                Why a removal is refused: `Foreign`, else `DeletesRoot`, as `refusal` says of that call.
--
-- | beside the element | first | last |
-- |---|---|---|
-- | a next separator | the element | the WHITESPACE token directly after the separator, or the separator |
-- | a previous separator | the separator | the element |
-- | neither | the element | the element |
--
-- The siblings are read in the element's tree. If that tree has the number of the editor's tree but is another tree,
-- the call is `Foreign` also if the other end of the run is not in the editor's tree. This cannot happen where equal
-- numbers mean equal trees.
--
-- With COMMA as the separator, `R/1` is deleted with `R/2` and `R/3`, and the text is `(2)`. `R/4` has no comma after
-- it, so it is deleted with the comma before it: the space `R/3` is skipped, the run is `R/2` to `R/4`, and the text is
-- `(1)`. Both removals together clash, since both runs have `R/2`. With SEMICOLON, `R/1` is deleted alone: `(, 2)`. `R`
-- itself: `DeletesRoot`. A child of `()`: `Foreign`.
--
-- In `1,2,1` the `2` is deleted with the comma after it. If two WHITESPACE tokens are before the comma, `1` is deleted
-- alone; if two are after it, the first of them is deleted too. With WHITESPACE as the separator, the token beside the
-- element is skipped first: with one such token between `1` and `2`, `1` is deleted alone; with two, it is deleted with
-- both.
use Rattle.std.specs.Prelude.{◌≡◌, Bool, false, ◌==◌, cond, Option, Some, None, option_and_then, unwrap_or}
use Rattle.cst_core.specs.Tree.{label}
use Rattle.cst_core.specs.Element.{Element, subtree}
use Rattle.cst_core.specs.SyntaxElement.{element_of, next_sibling, previous_sibling}
use Rattle.cst_core.specs.SyntaxKind.{SyntaxKind}
use Rattle.cst_core.specs.Kinds.{WHITESPACE}
use Rattle.cst_core.specs.declared.element.SyntaxElement.{SyntaxElement}
use Rattle.cst_core.specs.declared.element.SyntaxElement.TheVariants.{Node, Token}
use Rattle.syntax_editor.specs.RecordCall.{RecordCall, DeletingAll, refusal}
use Rattle.syntax_editor.specs.declared.error.RecordError.{RecordError}
use Rattle.syntax_editor.specs.declared.error.RecordError.TheVariants.{Foreign, DeletesRoot, Memory}

-- ---- tokens of a kind
-- a node is none, whatever its kind
abbrev pub is_token_of : SyntaxKind → SyntaxElement → Bool
is_token_of kind (Node n) = false
is_token_of kind (Token t) = label (subtree t) == kind.0

abbrev pub if_token_of : SyntaxKind → Option SyntaxElement → Option SyntaxElement
if_token_of kind None = None
if_token_of kind (Some e) = cond (is_token_of kind e) (Some e) None

-- ---- beside an element
abbrev pub past_whitespace : (Element → Option SyntaxElement) → SyntaxElement → Option SyntaxElement
past_whitespace step e = option_and_then (λ s. cond (is_token_of WHITESPACE s) (step (element_of s)) (Some s)) (step (element_of e))

abbrev pub next_separator : SyntaxKind → SyntaxElement → Option SyntaxElement
next_separator separator e = if_token_of separator (past_whitespace next_sibling e)

abbrev pub previous_separator : SyntaxKind → SyntaxElement → Option SyntaxElement
previous_separator separator e = if_token_of separator (past_whitespace previous_sibling e)

abbrev pub with_whitespace_after : SyntaxElement → SyntaxElement
with_whitespace_after e = unwrap_or (if_token_of WHITESPACE (next_sibling (element_of e))) e

-- ---- what goes
-- with the separator after the element, else with the one before it, else the element alone
abbrev run_of : SyntaxElement → Option SyntaxElement → Option SyntaxElement → SyntaxElement × SyntaxElement
run_of e (Some after) before = (e, with_whitespace_after after)
run_of e None (Some before) = (before, e)
run_of e None None = (e, e)

abbrev pub removed_run : SyntaxKind → SyntaxElement → SyntaxElement × SyntaxElement
removed_run separator e = run_of e (next_separator separator e) (previous_separator separator e)

abbrev pub removal : SyntaxKind → SyntaxElement → RecordCall
removal separator e = DeletingAll (removed_run separator e).0 (removed_run separator e).1

abbrev pub RemovalRefuses : Element → SyntaxKind → SyntaxElement → RecordError → Type 0
RemovalRefuses root separator e Foreign = refusal root (removal separator e) ≡ Some Foreign
RemovalRefuses root separator e DeletesRoot = refusal root (removal separator e) ≡ Some DeletesRoot
RemovalRefuses root separator e Memory = Unit {0}
RemovalRefuses root separator e _ = ⊥
