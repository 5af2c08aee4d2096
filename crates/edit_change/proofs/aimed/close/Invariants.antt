use Rattle.std.proofs.Common.{◌≡◌, ◌++◌, [], List, false, length}
use Rattle.std.specs.List.{AllByRecursion}
use Rattle.std.specs.Option.{option_map_or}
use Rattle.cst_core.specs.Path.{up_to}
use Rattle.edit_change.specs.Rewriting.{NumberedAim}
use Rattle.edit_change.specs.inner.Aimed.{aims_of}
use Rattle.edit_change.specs.inner.Open.{surrounds}
use Rattle.edit_change.proofs.aimed.close.Given as goal

abbrev pub invariant-loop-last : goal.invariant-loop-last
invariant-loop-last l =
    (gone : List NumberedAim) × (aims_of l.initial.regions.items ≡ aims_of l.regions.items ++ gone) × AllByRecursion (λ g. surrounds (option_map_or (λ p. up_to p.now) l.path []) g.1 ≡ false) gone

abbrev pub decreases-loop-last : goal.decreases-loop-last
decreases-loop-last l = length l.regions.items
