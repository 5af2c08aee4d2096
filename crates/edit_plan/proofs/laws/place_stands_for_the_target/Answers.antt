use Rattle.std.proofs.Common.{Option, Some, None, IsSome, IsSomeAnd, refl, subst, map, flat_map, ◌∷◌}
use Rattle.std.proofs.lemmas.List.{append_assoc}
use Rattle.cst_core.specs.Tree.{SyntaxTree, at, SameShape}
use Rattle.cst_core.specs.Element.{subtree, NumbersTell}
use Rattle.cst_core.specs.SyntaxElement.{element_of}
use Rattle.edit_map.specs.Mapping.{mapped_elements}
use Rattle.edit_change.specs.Change.{elements}
use Rattle.edit_plan.proofs.NumbersOfTarget.{told-target}
use Rattle.edit_plan.proofs.laws.place_stands_for_the_target.Goals as goal

there : (o : Option SyntaxTree) (t : SyntaxTree) → IsSomeAnd o (SameShape t) → IsSome o
there None t none = absurd none
there (Some u) t same = refl

pub returns-clause-at_a_path : goal.returns-clause-at_a_path
returns-clause-at_a_path c m target payload change p pairs is tell = (
  λ has. (has.0.0, has.1),
  λ stands. ((stands.0, there (at (subtree (element_of payload)) p) (subtree (element_of target)) (c.place_keeps_the_shape.ensures m (element_of payload) (element_of target) p pairs is tell stands.0)), stands.1),
)

pub returns-clause-at_some_path : goal.returns-clause-at_some_path
returns-clause-at_some_path c m target payload change pairs is tell = (
  λ some. (some.0, (returns-clause-at_a_path c m target payload change some.0 pairs is tell).0 some.1),
  λ some. (some.0, (returns-clause-at_a_path c m target payload change some.0 pairs is tell).1 some.1),
)

pub returns-clause-in_a_plan : goal.returns-clause-in_a_plan
returns-clause-in_a_plan c root changes registrations m pairs tell owner target payload at is change p =
    let told : NumbersTell (element_of payload ∷ element_of target ∷ mapped_elements m) = told-target root (map (λ r. r.0) registrations) (mapped_elements m) changes owner target payload (subst (λ es. NumbersTell (root ∷ es)) (append_assoc (flat_map elements changes) (map (λ r. r.0) registrations) (mapped_elements m)) tell) at in
    returns-clause-at_a_path c m target payload change p pairs is told
