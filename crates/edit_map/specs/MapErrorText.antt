-- What an error prints that refuses a pair.
--     map_error_text    The name of the error's case.
use Rattle.std.specs.Prelude.{ℕ, List, codes}
use Rattle.edit_map.specs.declared.map_error.MapError.{MapError}
use Rattle.edit_map.specs.declared.map_error.MapError.TheVariants.{NotAChild, NotYounger, OtherShape, MoreInputs, Memory}

abbrev pub map_error_text : MapError → List ℕ
map_error_text NotAChild = codes "NotAChild"
map_error_text NotYounger = codes "NotYounger"
map_error_text OtherShape = codes "OtherShape"
map_error_text MoreInputs = codes "MoreInputs"
map_error_text Memory = codes "Memory"
