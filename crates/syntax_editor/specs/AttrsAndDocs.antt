-- The attributes and comments of a node, each with the whitespace directly after it.
--     is_attr_or_doc, is_whitespace  The child in a slot has the kind ATTR, COMMENT or DOC_COMMENT; it has the kind WHITESPACE.
--     is_removed                    The child in a slot is an attribute or a comment; or it is WHITESPACE directly after one.
--     removed_slots, removed_children  The slots of these children; the children.
--     remove_attrs_and_docs         The list of changes after each of these is deleted, in order.
--     without_attrs_and_docs        The editor with that list.
--     is_foreign, RemovalRefuses    The node or one of these children is not native; why they are not deleted: `Foreign`, if that is so.
--                                   `Memory` is returned only if the node is native.
--
-- In a function with an attribute, a newline, a comment and a newline before `fn f() {}`, these four are deleted. A
-- space before the attribute is kept, and so is a second WHITESPACE after it. A comment that was replaced before is
-- deleted in the place of its replacement in the list.
use Rattle.std.specs.Prelude.{◌≡◌, ℕ, ◌-◌, ◌==◌, ◌&&◌, ◌||◌, not, Bool, true, false, List, [], ◌∷◌, length, map, filter, slice_get}
use Rattle.std.specs.List.{fold, list_any}
use Rattle.std.specs.Option.{option_map_or}
use Rattle.cst_core.specs.Path.{counted_from}
use Rattle.cst_core.specs.Tree.{SyntaxTree, children, label}
use Rattle.cst_core.specs.Element.{Element, subtree, below}
use Rattle.cst_core.specs.SyntaxElement.{syntax_of}
use Rattle.cst_core.specs.declared.element.SyntaxElement.{SyntaxElement}
use Rattle.cst_core.specs.declared.element.SyntaxElement.TheVariants.{Node}
use Rattle.cst_core.specs.Kinds.{ATTR, COMMENT, DOC_COMMENT, WHITESPACE}
use Rattle.edit_plan.specs.Fits.{is_native}
use Rattle.edit_change.specs.declared.change.Change.{Change}
use Rattle.syntax_editor.specs.Editor.{Editor}
use Rattle.change_list.specs.Recording.{delete}
use Rattle.syntax_editor.specs.declared.error.RecordError.{RecordError}
use Rattle.syntax_editor.specs.declared.error.RecordError.TheVariants as record_error

abbrev pub is_attr_or_doc : SyntaxTree → ℕ → Bool
is_attr_or_doc t i = option_map_or (λ c. list_any (λ k. label c == k.0) (ATTR ∷ COMMENT ∷ DOC_COMMENT ∷ [])) (slice_get (children t) i) false

abbrev pub is_whitespace : SyntaxTree → ℕ → Bool
is_whitespace t i = option_map_or (λ c. label c == WHITESPACE.0) (slice_get (children t) i) false

abbrev pub is_removed : SyntaxTree → ℕ → Bool
is_removed t i = is_attr_or_doc t i || (is_whitespace t i && is_attr_or_doc t (i - 1))

abbrev pub removed_slots : SyntaxTree → List ℕ
removed_slots t = filter (is_removed t) (counted_from 0 (length (children t)))

abbrev pub removed_children : Element → List SyntaxElement
removed_children n = map (λ i. syntax_of (below n (i ∷ []))) (removed_slots (subtree n))

abbrev pub remove_attrs_and_docs : Element → List Change → List Change
remove_attrs_and_docs n cs = fold (λ ds e. delete e ds) cs (removed_children n)

abbrev pub without_attrs_and_docs : Element → Editor → Editor
without_attrs_and_docs n e = record e { changes = remove_attrs_and_docs n e.changes }

abbrev pub is_foreign : Element → Element → Bool
is_foreign root n = list_any (λ e. not (is_native root e)) (Node n ∷ removed_children n)

abbrev pub RemovalRefuses : Element → Element → RecordError → Type 0
RemovalRefuses root n record_error.Foreign = is_foreign root n ≡ true
RemovalRefuses root n record_error.Memory = is_native root (Node n) ≡ true
RemovalRefuses root n _ = ⊥
