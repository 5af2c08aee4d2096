-- An editor that another one was merged into.
use Rattle.std.specs.Prelude.{◌≡◌, [], ◌++◌, Option, Some, unwrap_or}
use Rattle.std.proofs.Common.{ap}
use Rattle.edit_map.specs.Mapping.{Mapping}
use Rattle.edit_map.specs.Builder.{IsMadeOf}
use Rattle.syntax_editor.specs.Editor.{Editor}
use Rattle.change_list.specs.Recording.{merged}
use Rattle.syntax_editor.specs.Merging.{IsMerged}

-- it took over what the other one recorded, and got a factory of the mappings of both
pub merged-editor : (own other taken : Editor) (factory : Option Mapping) (m : Mapping) → taken ≡ record own { changes = merged own.changes other.changes; registrations = merged own.registrations other.registrations } → factory ≡ Some m → IsMadeOf (unwrap_or other.factory [] ++ unwrap_or own.factory []) m → IsMerged own other (record taken { factory = factory })
merged-editor own other taken factory m over keeps copies = record {
  root = ap (λ (e : Editor). e.root) over;
  changes = ap (λ (e : Editor). e.changes) over;
  registrations = ap (λ (e : Editor). e.registrations) over;
  mapping = m;
  factory = keeps;
  copies = copies;
}
