-- What becomes of a change in a plan.
--     by_owner                      by its owner, of a change that is not dropped
--     fate                          among these changes
--     owner_in, is_dropped_in       what a fate says
use Rattle.std.specs.Prelude.{ℕ, Bool, true, false, cond, List, Option, Some, None}
use Rattle.edit_change.specs.Nesting.{is_dropped, owner}
use Rattle.edit_change.specs.declared.change.Change.{Change}
use Rattle.edit_change.specs.declared.fate.Fate.{Fate}
use Rattle.edit_change.specs.declared.fate.Fate.TheVariants.{Independent, Dropped, Owned}

abbrev pub by_owner : Option ℕ → Fate
by_owner None = Independent
by_owner (Some d) = Owned d

abbrev pub fate : List Change → Change → Fate
fate cs c = cond (is_dropped cs c) Dropped (by_owner (owner cs c))

abbrev pub owner_in : Fate → Option ℕ
owner_in (Owned d) = Some d
owner_in _ = None

abbrev pub is_dropped_in : Fate → Bool
is_dropped_in Dropped = true
is_dropped_in _ = false
