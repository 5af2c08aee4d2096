-- The text that shows a change, coloured or plain: green is put in, red is taken away.
-- A text is `Coloured` or `Plain`: the same text with the codes of colours, or without them.
--
--     in_style                      The code of a colour in a coloured text; nothing in a plain one.
--     escape                        The byte 27, with which the code of a colour begins.
--     put_in, taken_away, reset     The code that begins green; the one that begins red; the one that ends a colour.
--     element_texts                 The texts of elements, one after another.
--     siblings_of                   The trees of the children of an element's parent.
--     with_insert, at_position      The text of trees with green bytes at a slot; the parent's text with green bytes at a position.
--     exchanged, with_range         An old text in red, then a new one in green; the text of trees, where those from a slot up to another
--                                   are exchanged so.
--     change_text                   For an insert, the parent's text with the new text in green at the gap. For a replacement, the old text
--                                   in red and the new one in green.
--
-- A deletion has only the old text. The text of a `ReplaceAll` is shown within the parent's text. Inserting `x` after
-- `R/0`: `(`, green `x`, `1, 2)`.
use Rattle.std.specs.Prelude.{ℕ, suc, List, [], ◌∷◌, ◌++◌, codes, map, take, drop, Some, None}
use Rattle.cst_core.specs.Path.{parent_path, last_slot}
use Rattle.cst_core.specs.Tree.{SyntaxTree, children}
use Rattle.cst_core.specs.Green.{texts}
use Rattle.cst_core.specs.Element.{subtree, element_at}
use Rattle.cst_core.specs.SyntaxElement.{element_of}
use Rattle.cst_core.specs.declared.element.SyntaxElement.{SyntaxElement}
use Rattle.edit_change.specs.declared.change_text.Style.{Style}
use Rattle.edit_change.specs.declared.change_text.Style.TheVariants.{Coloured, Plain}
use Rattle.edit_change.specs.declared.position.Position.{Position}
use Rattle.edit_change.specs.PositionForm.{FirstChild, After}
use Rattle.edit_change.specs.declared.change.Change.{Change}
use Rattle.edit_change.specs.declared.change.Change.TheVariants.{Insert, InsertAll, Replace, ReplaceWithMany, ReplaceAll}

abbrev pub escape : ℕ
escape = 27

abbrev pub in_style : Style → List ℕ → List ℕ
in_style Coloured code = code
in_style Plain code = []

abbrev pub put_in : Style → List ℕ
put_in style = in_style style (escape ∷ codes "[42m")

abbrev pub taken_away : Style → List ℕ
taken_away style = in_style style (escape ∷ codes "[41m")

abbrev pub reset : Style → List ℕ
reset style = in_style style ((escape ∷ codes "[0m") ++ escape ∷ codes "[K")

abbrev pub element_texts : List SyntaxElement → List ℕ
element_texts es = texts (map (λ e. subtree (element_of e)) es)

abbrev pub siblings_of : SyntaxElement → List SyntaxTree
siblings_of e = children (subtree (element_at (element_of e) (parent_path (element_of e).path)))

abbrev pub with_insert : Style → List SyntaxTree → ℕ → List ℕ → List ℕ
with_insert style ts i bytes = texts (take i ts) ++ put_in style ++ bytes ++ reset style ++ texts (drop i ts)

abbrev pub at_position : Style → Position → List ℕ → List ℕ
at_position style (FirstChild n) bytes = with_insert style (children (subtree n)) 0 bytes
at_position style (After e) bytes = with_insert style (siblings_of e) (suc (last_slot (element_of e).path)) bytes

abbrev pub exchanged : Style → List ℕ → List ℕ → List ℕ
exchanged style old new = taken_away style ++ old ++ put_in style ++ new ++ reset style

abbrev pub with_range : Style → List SyntaxTree → ℕ → ℕ → List ℕ → List ℕ
with_range style ts i j bytes = texts (take i ts) ++ exchanged style (texts (drop i (take j ts))) bytes ++ texts (drop j ts)

abbrev pub change_text : Style → Change → List ℕ
change_text style (Insert at e) = at_position style at (element_texts (e ∷ []))
change_text style (InsertAll at es) = at_position style at (element_texts es)
change_text style (Replace t None) = taken_away style ++ element_texts (t ∷ []) ++ reset style
change_text style (Replace t (Some e)) = exchanged style (element_texts (t ∷ [])) (element_texts (e ∷ []))
change_text style (ReplaceWithMany t es) = exchanged style (element_texts (t ∷ [])) (element_texts es)
change_text style (ReplaceAll first last es) =
    with_range style (siblings_of first) (last_slot (element_of first).path) (suc (last_slot (element_of last).path)) (element_texts es)
