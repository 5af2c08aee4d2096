-- Which changes wait for which, as code keeps it.
--     one_if                        1 or 0
--     points_at                     a link leads to this number
--     waits_for                     how many links lead to a number from changes that are not done
--     IsCounted                     a table has these numbers, where what waits for a change is not done before it
--     is_settled                    not undone
--     standing_in                   of a fate, before anything is done
--     standing_of                   of a change, where these are done
use Rattle.std.specs.Prelude.{◌≡◌, ◌<◌, ℕ, Bool, true, false, not, ◌&&◌, cond, nat_eq, List, length, count_by, slice_index, Option, Some}
use Rattle.std.specs.List.{enumerate_from}
use Rattle.std.specs.Option.{option_map_or}
use Rattle.edit_change.specs.Nesting.{is_dropped}
use Rattle.edit_change.specs.declared.change.Change.{Change}
use Rattle.edit_change.specs.declared.fate.Fate.{Fate}
use Rattle.edit_change.specs.declared.fate.Fate.TheVariants as fates
use Rattle.edit_steps.specs.inner.Followers.{link, IsLinked}
use Rattle.edit_steps.specs.declared.order.waits.Waits.{Waits}
use Rattle.edit_steps.specs.declared.order.waiting.Standing.{Standing}
use Rattle.edit_steps.specs.declared.order.waiting.Standing.TheVariants.{Dropped, Undone, Done}

abbrev pub one_if : Bool → ℕ
one_if b = cond b 1 0

abbrev pub points_at : ℕ → Option ℕ → Bool
points_at n o = option_map_or (nat_eq n) o false

abbrev pub waits_for : (ℕ → Bool) → List (Option ℕ) → ℕ → ℕ
waits_for done table n = count_by (λ l. points_at n l.1 && not (done l.0)) (enumerate_from 0 table)

pub record IsCounted (f : ℕ → Change → Option ℕ) (cs : List Change) (done : ℕ → Bool) (w : Waits) : Type 0 where
  pub linked : IsLinked f cs w.links.items
  pub long : length w.counts.items ≡ length cs
  pub counted : (n : ℕ) → n < length cs → slice_index w.counts.items n ≡ waits_for done w.links.items n
  pub closed : (n m : ℕ) → link w.links.items n ≡ Some m → done m ≡ true → done n ≡ true

abbrev pub standing_in : Fate → Standing
standing_in fates.Dropped = Dropped
standing_in _ = Undone

abbrev pub is_settled : Standing → Bool
is_settled Undone = false
is_settled _ = true

abbrev pub standing_of : List Change → (ℕ → Bool) → ℕ → Change → Standing
standing_of cs done n c = cond (is_dropped cs c) Dropped (cond (done n) Done Undone)
