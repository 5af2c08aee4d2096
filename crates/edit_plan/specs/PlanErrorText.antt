-- What is printed of what refuses plans and edits.
--     numbers_text                  Two numbers, each after a space
--     edit_error_text               The name of the error's case, and the numbers of the two changes that it names
--     execute_error_text            The same, where an order is not carried out: of the edit's refusal its own text
use Rattle.std.specs.Prelude.{ℕ, List, ◌++◌, codes, decimal}
use Rattle.edit_plan.specs.declared.edit_error.EditError.{EditError}
use Rattle.edit_plan.specs.declared.edit_error.EditError.TheVariants.{Intersecting, MissingMapping, TooLong, NoTreeNumber, Memory}
use Rattle.edit_plan.specs.declared.execute_error.ExecuteError.{ExecuteError}
use Rattle.edit_plan.specs.declared.execute_error.ExecuteError.TheVariants.{NotEachOnce, OwnerTooEarly, GapOutOfOrder, TokenTooEarly, Edit}

abbrev pub numbers_text : ℕ → ℕ → List ℕ
numbers_text m n = codes " " ++ decimal m ++ codes " " ++ decimal n

abbrev pub edit_error_text : EditError → List ℕ
edit_error_text (Intersecting first second) = codes "Intersecting" ++ numbers_text first second
edit_error_text (MissingMapping change owner) = codes "MissingMapping" ++ numbers_text change owner
edit_error_text TooLong = codes "TooLong"
edit_error_text NoTreeNumber = codes "NoTreeNumber"
edit_error_text Memory = codes "Memory"

abbrev pub execute_error_text : ExecuteError → List ℕ
execute_error_text NotEachOnce = codes "NotEachOnce"
execute_error_text OwnerTooEarly = codes "OwnerTooEarly"
execute_error_text GapOutOfOrder = codes "GapOutOfOrder"
execute_error_text TokenTooEarly = codes "TokenTooEarly"
execute_error_text (Edit e) = edit_error_text e
