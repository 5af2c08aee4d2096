-- A merge once both mappings are one.
--     taken_over                    an editor with the other's changes and registrations after the own ones
use Rattle.change_list.specs.Recording.{merged}
use Rattle.syntax_editor.specs.Editor.{Editor}

abbrev pub taken_over : Editor → Editor → Editor
taken_over own other = record own { changes = merged own.changes other.changes; registrations = merged own.registrations other.registrations }
