-- The list of changes after each call that records one.
-- Each of these takes the list of changes before a call to the list after it.
--
--     are_one                       Two values have equal tree numbers and paths.
--     replacement_of, replacements_of  The new element in a `Replace` of an element, which a deletion lacks; no answer for any other
--                                   change. The same of each change of a list, in order.
--     is_replace_of                 The change is a `Replace` of the element.
--     is_deleted                    Some `Replace` of the element is a deletion.
--     with_replacement, taken_up    A `Replace` whose new element a function exchanges; the list with the first `Replace` of an element
--                                   exchanged like this, or with one more at the end if there is none.
--     delete                        The first `Replace` of the element becomes a deletion. If there is none, a deletion is added at the
--                                   end.
--     replace                       The first `Replace` of the element gets the new element, but a deletion stays a deletion. If there is
--                                   none, a `Replace` is added at the end.
--     insert, insert_all, replace_with_many  One more change at the end.
--     delete_all, replace_all       A `ReplaceAll` at the end. A range of one element is recorded as by `delete`, or as by
--                                   `replace_with_many`.
--     merged                        One list and then the other, of changes or of registrations.
--
-- Replacing `R/1` by `x`, deleting `R/1` and replacing `R/1` by `y` leaves one change, the deletion of `R/1`. So `R/1`
-- is deleted, and the new text is `(, 2)`. Replacing `R/1` by `x`, `R/4` by `x` and `R/1` by `y` leaves two changes: of
-- `R/1` by `y` and of `R/4` by `x`.
--
-- After the range from `R/1` to `R/3` is deleted, `is_deleted` of `R/1` is false, since it looks only at `Replace`. Two
-- editors that each deleted `R/1`, merged, hold two deletions, and these clash.
use Rattle.std.specs.Prelude.{Bool, cond, List, [], ◌∷◌, ◌++◌, find, filter_map, Option, Some, None, option_map, is_some, is_none}
use Rattle.std.specs.List.{list_any, before_first, after_first}
use Rattle.std.specs.Option.{option_map_or}
use Rattle.cst_core.specs.Element.{same_element}
use Rattle.cst_core.specs.SyntaxElement.{element_of}
use Rattle.cst_core.specs.declared.element.SyntaxElement.{SyntaxElement}
use Rattle.edit_change.specs.declared.position.Position.{Position}
use Rattle.edit_change.specs.declared.change.Change.{Change}
use Rattle.edit_change.specs.declared.change.Change.TheVariants.{Insert, InsertAll, Replace, ReplaceWithMany, ReplaceAll}

-- ---- what stands in the place of an element
abbrev pub are_one : SyntaxElement → SyntaxElement → Bool
are_one e f = same_element (element_of e) (element_of f)

abbrev pub replacement_of : SyntaxElement → Change → Option (Option SyntaxElement)
replacement_of e (Replace t new) = cond (are_one t e) (Some new) None
replacement_of e _ = None

abbrev pub replacements_of : SyntaxElement → List Change → List (Option SyntaxElement)
replacements_of e cs = filter_map (replacement_of e) cs

abbrev pub is_deleted : SyntaxElement → List Change → Bool
is_deleted e cs = list_any is_none (replacements_of e cs)

-- ---- a Replace that takes another one up
-- a Replace with what h makes of the element that it brings
abbrev pub with_replacement : (Option SyntaxElement → Option SyntaxElement) → Change → Change
with_replacement h (Replace t new) = Replace t (h new)
with_replacement h c = c

abbrev pub is_replace_of : SyntaxElement → Change → Bool
is_replace_of e c = is_some (replacement_of e c)

-- The first Replace of the element brings what h makes of what it brought. Where there is none, one that brings `new` stands at the end.
abbrev pub taken_up : (Option SyntaxElement → Option SyntaxElement) → SyntaxElement → Option SyntaxElement → List Change → List Change
taken_up h e new cs =
    option_map_or (λ c. before_first (is_replace_of e) cs ++ with_replacement h c ∷ after_first (is_replace_of e) cs) (find (is_replace_of e) cs) (cs ++ Replace e new ∷ [])

abbrev pub delete : SyntaxElement → List Change → List Change
delete e cs = taken_up (λ _. None) e None cs

-- a deletion stays one
abbrev pub replace : SyntaxElement → SyntaxElement → List Change → List Change
replace e new cs = taken_up (option_map (λ _. new)) e (Some new) cs

-- ---- one more change
abbrev pub insert : Position → SyntaxElement → List Change → List Change
insert at e cs = cs ++ Insert at e ∷ []

abbrev pub insert_all : Position → List SyntaxElement → List Change → List Change
insert_all at es cs = cs ++ InsertAll at es ∷ []

abbrev pub replace_with_many : SyntaxElement → List SyntaxElement → List Change → List Change
replace_with_many e es cs = cs ++ ReplaceWithMany e es ∷ []

abbrev pub delete_all : SyntaxElement → SyntaxElement → List Change → List Change
delete_all first last cs = cond (are_one first last) (delete first cs) (cs ++ ReplaceAll first last [] ∷ [])

abbrev pub replace_all : SyntaxElement → SyntaxElement → List SyntaxElement → List Change → List Change
replace_all first last es cs = cond (are_one first last) (replace_with_many first es cs) (cs ++ ReplaceAll first last es ∷ [])

-- ---- two lists, of changes or of registrations
abbrev pub merged : {X : Type 0} → List X → List X → List X
merged own other = own ++ other
