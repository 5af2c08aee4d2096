-- Merging one editor into another.
--     AreMergeable                  Two editors have the same root (`same_element`), and each change of the second fits it.
--     IsMerged                      The same root, the changes and registrations of the second after the first's, and a mapping made of
--                                   both, in which the second editor's copies win.
--     MergeRefuses                  Why a merge is refused: `OtherRoot`, if the editors are not mergeable. `Memory` is returned only if
--                                   they are.
--
-- An editor of another tree with the text of `L` cannot be merged into an editor of `R`.
use Rattle.std.specs.Prelude.{◌≡◌, true, [], ◌++◌, Some, unwrap_or, All}
use Rattle.cst_core.specs.Element.{same_element}
use Rattle.edit_map.specs.Mapping.{Mapping}
use Rattle.edit_map.specs.Builder.{IsMadeOf}
use Rattle.edit_plan.specs.Fits.{Fits}
use Rattle.change_list.specs.Recording.{merged}
use Rattle.syntax_editor.specs.Editor.{Editor}
use Rattle.syntax_editor.specs.declared.error.MergeError.{MergeError}
use Rattle.syntax_editor.specs.declared.error.MergeError.TheVariants.{OtherRoot, Memory}

pub record AreMergeable (own other : Editor) : Type 0 where
  pub one_root : same_element own.root other.root ≡ true
  pub fit : All (Fits own.root) other.changes

pub record IsMerged (own other new : Editor) : Type 0 where
  pub root : new.root ≡ own.root
  pub changes : new.changes ≡ merged own.changes other.changes
  pub registrations : new.registrations ≡ merged own.registrations other.registrations
  pub mapping : Mapping
  pub factory : new.factory ≡ Some mapping
  pub copies : IsMadeOf (unwrap_or other.factory [] ++ unwrap_or own.factory []) mapping

abbrev pub MergeRefuses : Editor → Editor → MergeError → Type 0
MergeRefuses own other OtherRoot = AreMergeable own other → ⊥
MergeRefuses own other Memory = AreMergeable own other
