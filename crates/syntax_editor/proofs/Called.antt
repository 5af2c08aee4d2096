-- An editor after a call, of what the call makes of its list.
--     called          after a call that records
--     exchanged       after any other one that changes the list alone
use Rattle.std.specs.Prelude.{◌≡◌, ℕ, List, Option}
use Rattle.std.proofs.Common.{ap, ◌∙◌}
use Rattle.cst_core.specs.Element.{Element}
use Rattle.cst_core.specs.declared.element.SyntaxElement.{SyntaxElement}
use Rattle.edit_map.specs.Mapping.{Mapping}
use Rattle.edit_change.specs.declared.change.Change.{Change}
use Rattle.syntax_editor.specs.RecordCall.{RecordCall, recorded}
use Rattle.syntax_editor.specs.Editor.{Editor, editor_of, after_call}

pub called : (call : RecordCall) (root : Element) (registrations : List (SyntaxElement × ℕ)) (factory : Option Mapping) (cs ds : List Change) (e : Editor) → ds ≡ recorded call cs → editor_of root cs registrations factory ≡ e → editor_of root ds registrations factory ≡ after_call call e
called call root registrations factory cs ds e list is = ap (λ xs. editor_of root xs registrations factory) list ∙ ap (after_call call) is

pub exchanged : (h : List Change → List Change) (root : Element) (registrations : List (SyntaxElement × ℕ)) (factory : Option Mapping) (cs ds : List Change) (e : Editor) → ds ≡ h cs → editor_of root cs registrations factory ≡ e → editor_of root ds registrations factory ≡ record e { changes = h e.changes }
exchanged h root registrations factory cs ds e list is = ap (λ xs. editor_of root xs registrations factory) list ∙ ap (λ (x : Editor). record x { changes = h x.changes }) is
