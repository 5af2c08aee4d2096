use Rattle.std.specs.List.{AllByRecursion}
use Rattle.std.specs.Prelude.{◌≡◌, List, [], ◌∷◌, Option, Some, None, slice_get, IsSomeAnd}
use Rattle.std.proofs.Common.{ap, sym, ◌∙◌}
use Rattle.std.proofs.lemmas.Bool.{false≢true}
use Rattle.std.proofs.lemmas.Option.{same_Some}
use Rattle.cst_core.specs.Path.{Path, has_path}
use Rattle.edit_change.specs.Nesting.{region, surroundings}
use Rattle.edit_change.specs.declared.change.Change.{Change}
use Rattle.edit_change.proofs.Owners.{owner_region}
use Rattle.edit_plan.proofs.GapOrder.{gap-two}
use Rattle.edit_change.proofs.GivenTrees.{owns_nothing, plain-given}
use Rattle.edit_plan.proofs.laws.inserts_stand_in_order.Goals as goal

no_region : (o : Option Change) (r : Change) → IsSomeAnd o (λ change. region change ≡ []) → o ≡ Some r → region r ≡ []
no_region None r none is = absurd none
no_region (Some c) r none is = ap region (sym (same_Some c r is)) ∙ none

all_units : (ps : List Path) → AllByRecursion (λ q. Unit {0}) ps
all_units [] = tt
all_units (p ∷ ps) = (tt, all_units ps)

pub returns-clause-in_order : goal.returns-clause-in_order
returns-clause-in_order c changes places n insert =
    plain-given changes places n (owns_nothing changes places n (λ i d is by. let found = owner_region (λ q. Unit {0}) changes d n (all_units (surroundings d)) by in false≢true (sym (ap (λ ps. has_path ps found.1) (no_region (slice_get changes n) found.0 insert found.2)) ∙ found.3)))

pub returns-clause-of_two : goal.returns-clause-of_two
returns-clause-of_two c label_at given before between after first second p i aims_first aims_second =
    gap-two label_at given p i before between after first second aims_first aims_second
