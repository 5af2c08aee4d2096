-- Why a plan is not built, once no two changes clash.
--     PlacesRefuse                  a change has no place in its owner's payload: the first one
use Rattle.std.specs.Prelude.{List}
use Rattle.edit_map.specs.Mapping.{Mapping}
use Rattle.edit_change.specs.Places.{IsFirstUnplaced}
use Rattle.edit_change.specs.declared.change.Change.{Change}
use Rattle.edit_plan.specs.declared.edit_error.EditError.{EditError}
use Rattle.edit_plan.specs.declared.edit_error.EditError.TheVariants.{MissingMapping, Memory}

abbrev pub PlacesRefuse : Mapping → List Change → EditError → Type 0
PlacesRefuse m changes (MissingMapping change owner) = IsFirstUnplaced m changes change owner
PlacesRefuse m changes Memory = Unit {0}
PlacesRefuse m changes _ = ⊥
