-- Why a script ends at a line, by the error of a call.
--     stop_of_line, stop_of_tree, stop_of_indent, stop_of_wrap, stop_of_map, stop_of_record, stop_of_edit, stop_of_execute  Why a script ends, by the error of the call.
use Rattle.syntax_editor.specs.TreeError.{TreeError}
use Rattle.syntax_editor.specs.TreeError.TheVariants as tree_error
use Rattle.syntax_editor.specs.IndentError.{IndentError}
use Rattle.syntax_editor.specs.IndentError.TheVariants as indent_error
use Rattle.syntax_editor.specs.declared.wrap_error.WrapError.{WrapError}
use Rattle.syntax_editor.specs.declared.wrap_error.WrapError.TheVariants as wrap_error
use Rattle.syntax_editor.specs.MapError.{MapError}
use Rattle.syntax_editor.specs.MapError.TheVariants as map_error
use Rattle.syntax_editor.specs.declared.error.RecordError.{RecordError}
use Rattle.syntax_editor.specs.declared.error.RecordError.TheVariants as record_error
use Rattle.syntax_editor.specs.EditError.{EditError}
use Rattle.syntax_editor.specs.EditError.TheVariants as edit_error
use Rattle.syntax_editor.specs.ExecuteError.{ExecuteError}
use Rattle.syntax_editor.specs.ExecuteError.TheVariants as execute_error
use Rattle.script_lines.specs.declared.error.LineError.{LineError}
use Rattle.script_lines.specs.declared.error.LineError.TheVariants as line_error
use Rattle.syned_script.specs.declared.fault.Reason.TheVariants.{Flaw}
use Rattle.syned_script.specs.declared.refusal.Refusal.TheVariants.{Tree, Map, Record, Edit, Order}
use Rattle.syned_script.specs.declared.stop.Stop.{Stop}
use Rattle.syned_script.specs.declared.stop.Stop.TheVariants.{Bad, Refused, Memory}

abbrev pub stop_of_line : LineError → Stop
stop_of_line (line_error.Bad fault) = Bad (record { at = fault.at; reason = Flaw fault.flaw })
stop_of_line line_error.Memory = Memory

abbrev pub stop_of_tree : TreeError → Stop
stop_of_tree tree_error.Memory = Memory
stop_of_tree e = Refused (Tree e)

abbrev pub stop_of_indent : IndentError → Stop
stop_of_indent indent_error.TooLong = Refused (Tree tree_error.TooLong)
stop_of_indent indent_error.NoTreeNumber = Refused (Tree tree_error.NoTreeNumber)
stop_of_indent _ = Memory

abbrev pub stop_of_wrap : WrapError → Stop
stop_of_wrap wrap_error.TooLong = Refused (Tree tree_error.TooLong)
stop_of_wrap wrap_error.NoTreeNumber = Refused (Tree tree_error.NoTreeNumber)
stop_of_wrap wrap_error.NotYounger = Refused (Map map_error.NotYounger)
stop_of_wrap wrap_error.Foreign = Refused (Record record_error.Foreign)
stop_of_wrap wrap_error.Memory = Memory

abbrev pub stop_of_map : MapError → Stop
stop_of_map map_error.Memory = Memory
stop_of_map e = Refused (Map e)

abbrev pub stop_of_record : RecordError → Stop
stop_of_record record_error.Memory = Memory
stop_of_record e = Refused (Record e)

abbrev pub stop_of_edit : EditError → Stop
stop_of_edit edit_error.Memory = Memory
stop_of_edit e = Refused (Edit e)

abbrev pub stop_of_execute : ExecuteError → Stop
stop_of_execute (execute_error.Edit e) = stop_of_edit e
stop_of_execute e = Refused (Order e)
