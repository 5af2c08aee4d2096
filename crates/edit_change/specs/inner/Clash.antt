-- Which changes clash, by their numbers.
--     ClashesBelow                  whether two of those with numbers below one do
--     shares                        two aims replace a path in common
use Rattle.std.specs.Prelude.{◌≡◌, ℕ, ◌<◌, Bool, true, false, List}
use Rattle.std.specs.List.{list_any}
use Rattle.cst_core.specs.Path.{has_path}
use Rattle.edit_change.specs.Aim.{Aim}
use Rattle.edit_change.specs.Nesting.{clashes}
use Rattle.edit_change.specs.inner.Open.{replaced}
use Rattle.edit_change.specs.declared.change.Change.{Change}

abbrev pub shares : Aim → Aim → Bool
shares a b = list_any (has_path (replaced a)) (replaced b)

abbrev pub ClashesBelow : List Change → ℕ → Bool → Type 0
ClashesBelow cs k true = (i : ℕ) × (j : ℕ) × (i < j) × (j < k) × (clashes cs i j ≡ true)
ClashesBelow cs k false = (i j : ℕ) → i < j → j < k → clashes cs i j ≡ false
