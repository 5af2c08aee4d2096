use Rattle.std.proofs.Common.{◌≡◌, ◌∷◌, map, take, All}
use Rattle.cst_core.specs.Element.{NumbersTell}
use Rattle.cst_core.specs.SyntaxElement.{element_of}
use Rattle.edit_map.specs.Mapping.{followed, mapped_elements}
use Rattle.edit_plan.proofs.found.registered_copies.Given as goal

abbrev pub invariant-loop-registration : goal.invariant-loop-registration
invariant-loop-registration l =
    All (λ r. NumbersTell (element_of r.0 ∷ mapped_elements l.mapping)) l.registrations → map element_of l.reached.items ≡ map (λ r. followed l.mapping (element_of r.0)) (take l.registration-index l.registrations)
