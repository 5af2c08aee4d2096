-- How deep changes are, and where the targets of owners stand in their payloads, from a table.
--     depth_of                      the depth of the change at a number
--     owner_at                      the owner of the change at a number, if it has one
--     path_at, places_in            the place of an owner, from a table by its number; the empty path where there is none
--     aim_in_payload                the aim of a change in the payload of its owner, where the owner's target has this place
--     AimsFrom                      with this path in place of its own, a change aims where it is carried out
use Rattle.std.specs.Prelude.{◌≡◌, ℕ, List, [], slice_get, unwrap_or, Option, Some, option_and_then, Vec}
use Rattle.std.specs.Global.{Global}
use Rattle.std.specs.Option.{option_map_or}
use Rattle.cst_core.specs.Path.{Path}
use Rattle.edit_change.specs.Aim.{Aim}
use Rattle.edit_map.specs.Mapping.{path_in}
use Rattle.edit_change.specs.ChangeAim.{aim, aim_path}
use Rattle.edit_change.specs.inner.AimFrom.{aim_from, depth}
use Rattle.edit_change.specs.Nesting.{owner}
use Rattle.edit_change.specs.NewTree.{moved_aim}
use Rattle.edit_change.specs.declared.change.Change.{Change}
use Rattle.edit_change.specs.StagedChange.{staged_aim}

abbrev pub depth_of : List Change → ℕ → ℕ
depth_of changes c = option_map_or depth (slice_get changes c) 0

abbrev pub owner_at : List Change → ℕ → Option ℕ
owner_at changes c = option_and_then (owner changes) (slice_get changes c)

abbrev pub path_at : List (Option (Vec ℕ Global)) → ℕ → Option Path
path_at table c = option_and_then path_in (slice_get table c)

abbrev pub places_in : List (Option (Vec ℕ Global)) → ℕ → Path
places_in table c = unwrap_or (path_at table c) []

abbrev pub aim_in_payload : Change → Path → Change → Aim
aim_in_payload owner place c = moved_aim (aim_path owner) place (aim c)

-- with this path in place of its own, the change at a number aims where it is carried out
abbrev pub AimsFrom : List Change → (ℕ → Path) → ℕ → Path → Type 0
AimsFrom changes places n p = (c : Change) → slice_get changes n ≡ Some c → aim_from p c ≡ staged_aim changes places c
