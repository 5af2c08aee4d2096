-- The slots of a path as they are written.
--     slots_of     what stands between the slashes of a text; nothing, if there is no text
use Rattle.std.specs.Prelude.{ℕ, List, [], Option, None, Some}
use Rattle.std.specs.Borrow.{Bor}
use Rattle.script_lines.specs.Line.{between}

abbrev pub slots_of : Option (Bor (List ℕ)) → List (List ℕ)
slots_of None = []
slots_of (Some text) = between 47 text.now
