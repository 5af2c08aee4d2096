-- What carrying a plan out in one pass adds to a count, where numbers tell trees.
--     all-touched                   all that is touched is counted
use Rattle.std.specs.Prelude.{ℕ}
use Rattle.cst_core.specs.Path.{Path}
use Rattle.cst_core.specs.Element.{NumbersTell}
use Rattle.edit_change.specs.Places.{ArePlaces, elements_held}
use Rattle.edit_change.specs.TouchedNodes.{touched_by}
use Rattle.edit_plan.specs.Plan.{Plan, IsPlan, registered_elements}
use Rattle.edit_plan.specs.Engine.{CountsTouched}
use Rattle.edit_plan.specs.inner.PlanStages.{KeepsShapes}
use Rattle.edit_plan.proofs.AllBuilt.{root-built, payloads-built}
use Rattle.one_pass.specs.inner.Root.{IsAllBuilt, CountsAll}
use Rattle.one_pass.proofs.Counting.{raises-weaker}

pub all-touched : (p : Plan) → IsPlan p → KeepsShapes p → (places : ℕ → Path) → ArePlaces p.mapping p.changes places → (before after : ℕ) → CountsAll p.root p.changes places before after → CountsTouched p before after
all-touched p is keeps places are before after counts =
    let Tell = NumbersTell (elements_held p.root p.changes (registered_elements p.registrations) p.mapping) in
    record {
      places = places;
      are_places = are;
      raises = raises-weaker (IsAllBuilt p.root p.changes places) Tell (touched_by p.changes places p.root) before after (λ tell. record { tree = root-built p.changes p.root is.fit is.is_root; payloads = payloads-built p is keeps tell places are }) counts;
    }
