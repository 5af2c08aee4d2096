-- Which elements an index says are replaced, and what it must say of a list of changes. All changes of a list are
-- of one tree, so paths tell its elements apart.
--     replaced_at                          where the first Replace of a list stands, and whether one of them is a deletion
--     as_deleted                           the same of an element that is deleted now
--     place_of                             the place that an index has for an element
--     Agrees                               an index that says that of each path
--     Notes, NotesReplace                  an index that agreed with a list of n changes agrees with it and these after it; where that is a Replace of an element, by nothing or not
use Rattle.std.specs.Prelude.{◌≡◌, ℕ, Bool, true, List, [], ◌∷◌, ◌++◌, length, position, Option, Some, None, option_map, is_none, Result, OnOk}
use Rattle.std.specs.List.{list_any}
use Rattle.cst_core.specs.Path.{Path}
use Rattle.cst_core.specs.SyntaxElement.{element_of}
use Rattle.cst_core.specs.declared.element.SyntaxElement.{SyntaxElement}
use Rattle.path_table.specs.inner.PathTable.{place_at, value_by_path, IsTree}
use Rattle.path_table.specs.declared.table.PathTable.{PathTable}
use Rattle.edit_change.specs.declared.change.Change.{Change}
use Rattle.edit_change.specs.declared.change.Change.TheVariants.{Replace}
use Rattle.change_list.specs.inner.ByPath.{replacements_at, is_replace_at}
use Rattle.change_list.specs.declared.change_list.Replaced.{Replaced}

abbrev pub replaced_at : Path → List Change → Option Replaced
replaced_at p cs = option_map (λ i. record { first = i; is_deleted = list_any is_none (replacements_at p cs) }) (position (is_replace_at p) cs)

abbrev pub as_deleted : Option Replaced → Option Replaced
as_deleted None = None
as_deleted (Some r) = Some (record { first = r.first; is_deleted = true })

-- ---- the index
abbrev pub place_of : PathTable Replaced → SyntaxElement → Option ℕ
place_of x e = place_at x (element_of e).path

pub record Agrees (x : PathTable Replaced) (cs : List Change) : Type 0 where
  pub says : (p : Path) → value_by_path x p ≡ replaced_at p cs
  pub tree : IsTree x

-- ---- more changes at the end, which an index is told of where the call is not refused
abbrev pub Notes : {A E : Type 0} → Result A E → ℕ → List Change → PathTable Replaced → PathTable Replaced → Type 0
Notes r number more before after = (cs : List Change) → length cs ≡ number → Agrees before cs → OnOk r (Agrees after (cs ++ more))

abbrev pub NotesReplace : {A E : Type 0} → Result A E → ℕ → SyntaxElement → Bool → PathTable Replaced → PathTable Replaced → Type 0
NotesReplace r number e deletes before after =
    (cs : List Change) (new : Option SyntaxElement) → length cs ≡ number → is_none new ≡ deletes → Agrees before cs → OnOk r (Agrees after (cs ++ Replace e new ∷ []))
