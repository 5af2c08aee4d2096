-- The order in which changes stand in a text, as code finds it.
--     in_order_of                   the changes of some aims, from left to right
--     AreMarkedByNumber             a table in which each change gives one element that is marked by its number
--     pieces_by                     what a change does to the text, by what a table has
--     PushesPiece                   this comes after the edits that there are
--     AreEditsOf                    edits are what some changes do to a text
use Rattle.std.specs.Prelude.{◌≡◌, ℕ, List, [], ◌++◌, map, flat_map, slice_get, Vec}
use Rattle.std.specs.Global.{Global}
use Rattle.std.specs.Option.{option_map_or}
use Rattle.cst_core.specs.Tree.{SyntaxTree, text, tokens}
use Rattle.cst_core.specs.Element.{Element}
use Rattle.edit_change.specs.Rewriting.{NumberedAim, rewritten_whole}
use Rattle.edit_change.specs.declared.change.Change.{Change}
use Rattle.edit_change.specs.declared.planned.Planned.{Planned}
use Rattle.edit_change.specs.inner.OwnerPlaces.{places_in}
use Rattle.text_edit.specs.TextPiece.{TextPiece, as_piece}
use Rattle.text_edit.specs.declared.text_edit.TextEdit.{TextEdit}
use Rattle.one_pass.specs.TextEdits.{number_token, altering_pieces, text_pieces}
use Rattle.one_pass.specs.inner.Pass.{AreMarkedIn, given_in}
use Rattle.one_pass.specs.declared.marked_element.GivenTable.{GivenTable}

abbrev pub in_order_of : List Change → List NumberedAim → SyntaxTree → List ℕ
in_order_of changes cs t = flat_map (λ k. k.0) (flat_map tokens (rewritten_whole (λ p k. []) (number_token changes) cs t))

abbrev pub AreMarkedByNumber : List Change → GivenTable → Type 0
AreMarkedByNumber changes table = AreMarkedIn table (number_token changes)

abbrev pub pieces_by : Element → List Change → GivenTable → ℕ → List TextPiece
pieces_by root changes table n =
    option_map_or (altering_pieces root (flat_map text (given_in table n))) (slice_get changes n) []

abbrev pub PushesPiece : Element → List Change → GivenTable → ℕ → Vec TextEdit Global → Vec TextEdit Global → Type 0
PushesPiece root changes table n before after =
    map as_piece after.items ≡ map as_piece before.items ++ pieces_by root changes table n

abbrev pub AreEditsOf : Planned → Vec TextEdit Global → Type 0
AreEditsOf p edits = map as_piece edits.items ≡ text_pieces p.root.now p.changes.now (places_in p.places.now)
