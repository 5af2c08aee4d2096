-- What is printed of annotation words in code.
--     note_shown            a word in code with the places of the elements that its annotation is found at
use Rattle.std.specs.Prelude.{Bool, string_bytes}
use Rattle.syntax_editor.specs.Plan.{Edit, found_for}
use Rattle.syned_script.specs.declared.words.Word.{Word}
use Rattle.syned_run.specs.Answer.{Note, places_of}

abbrev pub note_shown : Bool → Edit → Word → Note
note_shown ranges e w = (string_bytes w.text, places_of ranges (found_for e.annotated w.annotation))
