-- What the laws of an editor speak of.
--     asked_for, all_asked_for      What a call asks for in place of an element: a new element, or nothing if it deletes it; no answer for
--                                   other calls. The same of several calls.
--     target_depth                  The number of slots in the path of what a call replaces or deletes; none for an insert.
--     copy_by                       The copy of an address by the mapping of an editor's factory, if it keeps one.
use Rattle.std.specs.Prelude.{ℕ, ◌&&◌, cond, List, [], length, filter_map, Option, Some, None, unwrap_or}
use Rattle.cst_core.specs.Element.{Address, Element}
use Rattle.edit_map.specs.Mapping.{copy}
use Rattle.syntax_editor.specs.Editor.{Editor}
use Rattle.cst_core.specs.SyntaxElement.{element_of}
use Rattle.cst_core.specs.declared.element.SyntaxElement.{SyntaxElement}
use Rattle.change_list.specs.Recording.{are_one}
use Rattle.syntax_editor.specs.RecordCall.{RecordCall, Deleting, Replacing, ReplacingWithMany, DeletingAll, ReplacingAll}

-- ---- calls
abbrev pub asked_for : SyntaxElement → RecordCall → Option (Option SyntaxElement)
asked_for e (Deleting t) = cond (are_one t e) (Some None) None
asked_for e (Replacing t new) = cond (are_one t e) (Some (Some new)) None
asked_for e (DeletingAll first last) = cond (are_one first last && are_one first e) (Some None) None
asked_for e _ = None

abbrev pub all_asked_for : SyntaxElement → List RecordCall → List (Option SyntaxElement)
all_asked_for e calls = filter_map (asked_for e) calls

-- ---- depths
abbrev depth_of : SyntaxElement → Option ℕ
depth_of e = Some (length (element_of e).path)

abbrev pub target_depth : RecordCall → Option ℕ
target_depth (Deleting t) = depth_of t
target_depth (Replacing t e) = depth_of t
target_depth (ReplacingWithMany t es) = depth_of t
target_depth (DeletingAll first last) = depth_of first
target_depth (ReplacingAll first last es) = depth_of first
target_depth _ = None

-- ---- mappings
abbrev pub copy_by : Editor → Address → Option Element
copy_by e x = copy (unwrap_or e.factory []) x
