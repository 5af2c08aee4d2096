-- What a refusal of a script's call prints.
--     refusal_text                  What the error prints that a refusal holds, as `Intersecting 0 2`.
use Rattle.std.specs.Prelude.{ℕ, List}
use Rattle.syntax_editor.specs.TreeErrorText.{tree_error_text}
use Rattle.syntax_editor.specs.MapErrorText.{map_error_text}
use Rattle.syntax_editor.specs.RecordErrorText.{record_error_text}
use Rattle.syntax_editor.specs.PlanErrorText.{edit_error_text, execute_error_text}
use Rattle.syned_script.specs.declared.refusal.Refusal.{Refusal}
use Rattle.syned_script.specs.declared.refusal.Refusal.TheVariants.{Tree, Map, Record, Edit, Order}

abbrev pub refusal_text : Refusal → List ℕ
refusal_text (Tree e) = tree_error_text e
refusal_text (Map e) = map_error_text e
refusal_text (Record e) = record_error_text e
refusal_text (Edit e) = edit_error_text e
refusal_text (Order e) = execute_error_text e
