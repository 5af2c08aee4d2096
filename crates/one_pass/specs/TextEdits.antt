-- What a set of changes does to the text of the old tree, piece by piece.
-- An editor of texts that does so has the text of the new tree. Offsets are in bytes of the old text.
--
--     in_text_order                 The changes without an owner, from left to right: the numbers in the tree that is rewritten with
--                                   `number_token` in the place of what each change gives.
--     number_token                  A change stands as one token, whose label is its number.
--     gap_offset, offset            Where a gap is: at the start of a node, or at the end of an element. Where a change starts: at its gap,
--                                   or at the start of the first element that it replaces.
--     old_text                      The texts of the elements that a change replaces; nothing for an insert.
--     text_piece                    What a change does: from `offset` on, the new text stands in the place of `old_text`.
--     altering_pieces               That, if the two texts differ, and else nothing.
--     text_pieces                   Those of all changes in `in_text_order`. The new text of each is that of what it gives (`given`).
use Rattle.std.specs.Prelude.{ℕ, ◌+◌, cond, List, [], ◌∷◌, length, flat_map, slice_get}
use Rattle.std.specs.Option.{option_map_or}
use Rattle.cst_core.specs.Path.{Path, same_path}
use Rattle.cst_core.specs.Tree.{Tree, Token, text, tokens}
use Rattle.cst_core.specs.Order.{start}
use Rattle.cst_core.specs.AtOffset.{end_of}
use Rattle.cst_core.specs.Element.{Element, element_at, subtree}
use Rattle.cst_core.specs.SyntaxElement.{element_of}
use Rattle.edit_change.specs.PositionForm.{PositionForm, FirstChild, After}
use Rattle.edit_change.specs.declared.change.Change.{Change}
use Rattle.edit_change.specs.declared.change.Change.TheVariants.{Insert, InsertAll}
use Rattle.edit_change.specs.Change.{targets}
use Rattle.edit_change.specs.ChangeAim.{aim_path}
use Rattle.edit_change.specs.Rewriting.{rewritten_whole}
use Rattle.edit_change.specs.NewTree.{independents, given}
use Rattle.text_edit.specs.TextPiece.{TextPiece}

abbrev gap_offset : Element → PositionForm → ℕ
gap_offset root (FirstChild n) = start root.root n.path
gap_offset root (After e) = end_of (element_at root (element_of e).path)

abbrev pub offset : Element → Change → ℕ
offset root (Insert at e) = gap_offset root at
offset root (InsertAll at es) = gap_offset root at
offset root c = start root.root (aim_path c)

abbrev pub old_text : Element → Change → List ℕ
old_text root c = flat_map (λ p. text (subtree (element_at root p))) (targets c)

-- labelled by its number
abbrev pub number_token : List Change → ℕ → List (Tree (List ℕ))
number_token changes c = option_map_or (λ d. Token (c ∷ []) [] ∷ []) (slice_get changes c) []

module _ (root : Element) where
  abbrev pub in_text_order : List Change → List ℕ
  in_text_order changes = flat_map (λ k. k.0) (flat_map tokens (rewritten_whole (λ p k. []) (number_token changes) (independents changes) (subtree root)))

  abbrev pub text_piece : List ℕ → Change → TextPiece
  text_piece new c = record { first = offset root c; stop = offset root c + length (old_text root c); text = new }

  abbrev pub altering_pieces : List ℕ → Change → List TextPiece
  altering_pieces new c = cond (same_path (old_text root c) new) [] (text_piece new c ∷ [])

  abbrev pub text_pieces : List Change → (ℕ → Path) → List TextPiece
  text_pieces changes places = flat_map (λ n. option_map_or (altering_pieces (flat_map text (given changes places n))) (slice_get changes n) []) (in_text_order changes)
