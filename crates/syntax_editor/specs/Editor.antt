-- Editors as contracts see them.
--     Editor, editor_of             The root that is edited, the changes so far, the registrations, and the mapping of the factory, if it
--                                   keeps one; the editor of these.
--     IsEditor                      What holds for every editor: its root is a root, and each change fits it.
--     has_parent                    The element is not the root of its tree.
--     edited_root                   The root that a new editor edits: the node itself, or, if it has a parent, its subtree as a root under
--                                   the next number.
--     new_editor, LacksRootNumber   An editor of that root with nothing recorded; such a number is needed, and the source is spent.
--     after_call, Records           The editor after a call, with the recorded list; a call leaves that editor.
--     Takes                         `refusal` has no reason against a call.
--     RecordRefuses                 Why a call is refused: the reason of `refusal`.
--     MemoryLast                    If a condition is met, as that all arguments are owned, a call returns `Memory` only if `Takes` holds.
--     HasPairs, Maps                A factory has a mapping of new pairs and of those it had before, in which the new ones win; the same of
--                                   an editor, where nothing else changed.
--     with_registrations, registrations_of  An editor with more registrations after those it had; the registrations of some elements with
--                                   one annotation.
--     registered_with, Registers    An editor with some elements also registered with one annotation; a call leaves that editor.
--     plan_of                       The plan of an editor. A factory that keeps no mapping counts as one with an empty mapping.
--     editor_after                  The editor of an edit's new root without changes, in which what the edit annotates is registered (`carried`).
--     FinishRefuses                 Why finishing is refused: as `BuildRefuses` says; `TooLong` and `NoTreeNumber` only where the changes
--                                   are a plan, as `RunRefuses` says.
--
-- A new editor of `R/1` edits a root with the text `1`, under the next number. `replace` of `R` by the token `_` is
-- refused with `RootReplacement`, and the editor is as it was.
--
-- Which calls look for their other reasons before they take memory:
--
-- - `insert` and `insert_all` do: they return `Memory` only if `Takes` holds (clause `memory_last`).
-- - `delete`, `delete_all`, `replace`, `replace_with_many` and `replace_all` do if their elements are passed by value
--   (`E.is_owned`). An element that is passed by reference is copied first, so `Memory` may be returned although
--   another reason holds.
-- - `insert_with_whitespace`, `insert_all_with_whitespace` and `remove_attrs_and_docs` do so for `Foreign`: they return
--   `Memory` only if the position, or the node, is native.
-- - `merge` and `SyntaxMappingBuilder::map_node` do: they return `Memory` only if no other reason holds. `map_children`
--   does so for `MoreInputs` alone.
-- - `SyntaxEditor::new` does: it returns `NoTreeNumber` exactly if `LacksRootNumber` holds.
-- - A level is read without memory of a token that breaks the line or is the first of its tree, and of a node without
--   tokens (`ReadsAtOnce`).
-- - The contracts of `remove_separated`, `plan` and `finish` allow `Memory` whatever other reasons hold, as do those of
--   the calls of `AstNodeEdit`, and of `from_element`, `from_node` and `from_token` of other elements.
use Rattle.std.specs.Prelude.{◌≡◌, ℕ, Bool, true, false, cond, List, [], ◌++◌, map, Option, None, Some, unwrap_or, Result, Err, All, IsTrue}
use Rattle.cst_core.specs.Element.{Element, subtree}
use Rattle.cst_core.specs.Path.{same_path}
use Rattle.cst_core.specs.TreeIds.{IsSpent}
use Rattle.edit_map.specs.Builder.{IsMadeOf}
use Rattle.edit_map.specs.Mapping.{Mapping}
use Rattle.edit_change.specs.declared.change.Change.{Change}
use Rattle.edit_plan.specs.declared.edit_error.EditError.{EditError}
use Rattle.edit_plan.specs.declared.edit_error.EditError.TheVariants.{TooLong, NoTreeNumber}
use Rattle.cst_core.specs.declared.element.SyntaxElement.{SyntaxElement}
use Rattle.edit_plan.specs.Plan.{Plan, Edit, IsPlan, BuildRefuses, RunRefuses}
use Rattle.edit_plan.specs.FurtherPlans.{carried}
use Rattle.edit_plan.specs.Fits.{Fits}
use Rattle.syntax_editor.specs.RecordCall.{RecordCall, recorded, refusal}
use Rattle.syntax_editor.specs.declared.error.RecordError.{RecordError}
use Rattle.syntax_editor.specs.declared.error.RecordError.TheVariants as record_error

pub record Editor : Type 0 where
  pub root : Element
  pub changes : List Change
  pub registrations : List (SyntaxElement × ℕ)
  pub factory : Option Mapping

abbrev pub editor_of : Element → List Change → List (SyntaxElement × ℕ) → Option Mapping → Editor
editor_of root changes registrations factory = record { root = root; changes = changes; registrations = registrations; factory = factory }

pub record IsEditor (e : Editor) : Type 0 where
  pub is_root : e.root.path ≡ []
  pub fit : All (Fits e.root) e.changes

-- ---- a new editor
abbrev pub has_parent : Element → Bool
has_parent e = cond (same_path e.path []) false true

-- a root that has a parent becomes one of a tree of its own
abbrev pub edited_root : ℕ → Element → Element
edited_root number e = cond (has_parent e) (record { number = number; root = subtree e; path = [] }) e

abbrev pub new_editor : ℕ → Element → Editor
new_editor number e = record { root = edited_root number e; changes = []; registrations = []; factory = Some [] }

abbrev pub LacksRootNumber : ℕ → Element → Type 0
LacksRootNumber number e = IsTrue (has_parent e) × IsSpent number

-- ---- recording
abbrev pub after_call : RecordCall → Editor → Editor
after_call call e = record e { changes = recorded call e.changes }

abbrev pub Records : RecordCall → Editor → Editor → Type 0
Records call before after = after ≡ after_call call before

abbrev pub Takes : Editor → RecordCall → Type 0
Takes e call = refusal e.root call ≡ None

-- A call is refused for its first reason, or because memory ran out: what it is given may ask for some before any reason is looked for.
abbrev pub RecordRefuses : RecordCall → Editor → RecordError → Type 0
RecordRefuses call e record_error.Memory = Unit {0}
RecordRefuses call e record_error.LevelTooLarge = ⊥
RecordRefuses call e record_error.NoTreeNumber = ⊥
RecordRefuses call e reason = refusal e.root call ≡ Some reason

-- where a call takes no memory to look for its reasons, as for what it is handed by value, it looks for them first
abbrev pub MemoryLast : Bool → RecordCall → Editor → Result (Unit {0}) RecordError → Type 0
MemoryLast without_memory call e r = IsTrue without_memory → r ≡ Err record_error.Memory → Takes e call

-- ---- mapping
-- a factory that kept no mappings has some then
pub record HasPairs (pairs : Mapping) (before after : Option Mapping) : Type 0 where
  pub mapping : Mapping
  pub factory : after ≡ Some mapping
  pub copies : IsMadeOf (pairs ++ unwrap_or before []) mapping

pub record Maps (pairs : Mapping) (before after : Editor) : Type 0 where
  pub others : after ≡ record before { factory = after.factory }
  pub factory : HasPairs pairs before.factory after.factory

-- ---- registering
abbrev pub with_registrations : List (SyntaxElement × ℕ) → Editor → Editor
with_registrations more e = record e { registrations = e.registrations ++ more }

abbrev pub registrations_of : ℕ → List SyntaxElement → List (SyntaxElement × ℕ)
registrations_of annotation es = map (λ e. (e, annotation)) es

abbrev pub registered_with : ℕ → List SyntaxElement → Editor → Editor
registered_with annotation es e = with_registrations (registrations_of annotation es) e

abbrev pub Registers : ℕ → List SyntaxElement → Editor → Editor → Type 0
Registers annotation es before after = after ≡ registered_with annotation es before

-- ---- a further edit
abbrev pub editor_after : Edit → Editor
editor_after e = record { root = e.new_root; changes = []; registrations = carried e; factory = Some [] }

-- ---- finishing
-- where the factory keeps no mappings, nothing is mapped
abbrev pub plan_of : Editor → Plan
plan_of e = record { root = e.root; changes = e.changes; registrations = e.registrations; mapping = unwrap_or e.factory [] }

-- Only a list that is a plan gets as far as the new tree: a clash comes first, then a place that is missing.
abbrev pub FinishRefuses : Editor → ℕ → EditError → Type 0
FinishRefuses e next TooLong = IsPlan (plan_of e) × RunRefuses (plan_of e) next TooLong
FinishRefuses e next NoTreeNumber = IsPlan (plan_of e) × RunRefuses (plan_of e) next NoTreeNumber
FinishRefuses e next reason = BuildRefuses (plan_of e) reason
