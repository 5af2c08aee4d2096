-- Changes of one tree, told apart by paths.
--     is_replace                           the change replaces one element by one or by none
--     replacement_at, replacements_at      the payload of a Replace of the element at a path; the payload of each of a list
--     is_replace_at                        the change is such a Replace
--     replace_at, delete_at                the list after the element is replaced or deleted, its first Replace told by its path
--     delete_each_at                       the list after these are deleted, one after the other
use Rattle.std.specs.Prelude.{Bool, true, false, cond, List, [], ◌∷◌, ◌++◌, find, filter_map, Option, Some, None, option_map, is_some}
use Rattle.std.specs.List.{fold, before_first, after_first}
use Rattle.std.specs.Option.{option_map_or}
use Rattle.cst_core.specs.Path.{Path, same_path}
use Rattle.cst_core.specs.SyntaxElement.{element_of}
use Rattle.cst_core.specs.declared.element.SyntaxElement.{SyntaxElement}
use Rattle.edit_change.specs.declared.change.Change.{Change}
use Rattle.edit_change.specs.declared.change.Change.TheVariants.{Replace}
use Rattle.change_list.specs.Recording.{with_replacement}

abbrev pub is_replace : Change → Bool
is_replace (Replace t new) = true
is_replace _ = false

abbrev pub replacement_at : Path → Change → Option (Option SyntaxElement)
replacement_at p (Replace t new) = cond (same_path (element_of t).path p) (Some new) None
replacement_at p _ = None

abbrev pub replacements_at : Path → List Change → List (Option SyntaxElement)
replacements_at p cs = filter_map (replacement_at p) cs

abbrev pub is_replace_at : Path → Change → Bool
is_replace_at p c = is_some (replacement_at p c)

-- ---- lists
abbrev taken_up_at : (Option SyntaxElement → Option SyntaxElement) → SyntaxElement → Option SyntaxElement → List Change → List Change
taken_up_at h e new cs =
    option_map_or (λ c. before_first (is_replace_at (element_of e).path) cs ++ with_replacement h c ∷ after_first (is_replace_at (element_of e).path) cs) (find (is_replace_at (element_of e).path) cs) (cs ++ Replace e new ∷ [])

abbrev pub replace_at : SyntaxElement → SyntaxElement → List Change → List Change
replace_at e new cs = taken_up_at (option_map (λ _. new)) e (Some new) cs

abbrev pub delete_at : SyntaxElement → List Change → List Change
delete_at e cs = taken_up_at (λ _. None) e None cs

abbrev pub delete_each_at : List SyntaxElement → List Change → List Change
delete_each_at es cs = fold (λ ds e. delete_at e ds) cs es
