-- The state of a script in code, as the definitions see it.
--     roots_of            the roots by name
--     editing_of          what is edited
--     state_of            the whole state
use Rattle.std.specs.Prelude.{option_map}
use Rattle.std.specs.HashMap.{get_by_text}
use Rattle.script_lines.specs.LineValue.{language_of}
use Rattle.syned_script.specs.State.{State, Editing, Roots}
use Rattle.syned_script.specs.declared.roots.Roots as code
use Rattle.syned_script.specs.declared.session.Editing as code_editing
use Rattle.syned_script.specs.declared.session.Session.{Session}

abbrev pub roots_of : code.Roots → Roots
roots_of roots = λ name. get_by_text roots.roots name

abbrev pub editing_of : code_editing.Editing → Editing
editing_of e = record { editor = e.editor; order = option_map (λ v. v.items) e.order; details = e.details }

abbrev pub state_of : Session → State
state_of s = record {
  language = language_of s.language;
  next = s.ids;
  roots = roots_of s.roots;
  words = s.words;
  editing = option_map editing_of s.editing;
}
