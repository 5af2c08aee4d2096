-- Changes that are carried out one at a time.
--     IsWaiting                     what code keeps of them, where these are done
--     HasChange                     there is a change with this number
--     is_done, done_list            a change is done; of each change, whether it is
use Rattle.std.specs.Prelude.{◌≡◌, ◌<◌, ℕ, Bool, true, false, List, map, length, slice_get, slice_index_or, Some, None}
use Rattle.edit_change.specs.Nesting.{first_clash}
use Rattle.edit_change.specs.declared.change.Change.{Change}
use Rattle.edit_steps.specs.inner.Followers.{owner_link, gap_link, token_link}
use Rattle.edit_steps.specs.inner.Waits.{IsCounted, standing_of}
use Rattle.edit_steps.specs.declared.order.waiting.Waiting.{Waiting}
use Rattle.edit_steps.specs.declared.order.waiting.Standing.{Standing}
use Rattle.edit_steps.specs.declared.order.waiting.Standing.TheVariants.{Dropped, Done}

-- Of what is done all that must come before it is done too (`closed` of each part).
pub record IsWaiting (cs : List Change) (done : ℕ → Bool) (w : Waiting) : Type 0 where
  pub long : length w.standings.items ≡ length cs
  pub stands : (n : ℕ) (c : Change) → slice_get cs n ≡ Some c → slice_index_or w.standings.items n Dropped ≡ standing_of cs done n c
  pub apart : first_clash cs ≡ None
  pub owners : IsCounted (owner_link cs) cs done w.owners
  pub gaps : IsCounted (gap_link cs) cs done w.gaps
  pub tokens : IsCounted (token_link cs) cs done w.tokens

abbrev pub HasChange : Waiting → ℕ → Type 0
HasChange w n = (cs : List Change) × (done : ℕ → Bool) × IsWaiting cs done w × (n < length cs)

abbrev pub is_done : Standing → Bool
is_done Done = true
is_done _ = false

-- of what is dropped none is ever done
abbrev pub done_list : Waiting → List Bool
done_list w = map is_done w.standings.items
