use Rattle.std.proofs.Common.{◌≡◌, ◌-◌, length, drop}
use Rattle.std.specs.Cmp.Lexicographic.{slice_cmp}
use Rattle.std.specs.Ordering.{nat_cmp}
use Rattle.edit_change.specs.inner.Aimed.{aim_in}
use Rattle.edit_change.specs.inner.DocumentOrder.{site}
use Rattle.edit_change.proofs.aimed.Aimed.compare_sites.Given as goal

abbrev pub invariant-loop-one : goal.invariant-loop-one
invariant-loop-one l =
    let xs = site (aim_in l.self.path.now l.self.form) in
    let ys = site (aim_in l.other.path.now l.other.form) in
    slice_cmp nat_cmp xs ys ≡ slice_cmp nat_cmp (drop l.depth xs) (drop l.depth ys)

abbrev pub decreases-loop-one : goal.decreases-loop-one
decreases-loop-one l = length (site (aim_in l.self.path.now l.self.form)) - l.depth
