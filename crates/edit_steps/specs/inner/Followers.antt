-- Tables of which change has to wait for which.
--     link                          the change that has to wait for this one, if there is one
--     steps                         n links on
--     earlier                       the changes before a number that are not dropped, from the last to the first
--     next_in_gap                   the last one before a number that fills the gap of this aim
--     owner_link, gap_link, token_link      the change that has to wait for this one: its owner; the insert before it in its gap;
--                                   what replaces the token that it stands after
--     StartsAtToken                 the change with this number replaces from a token on; none does
--     IsLinked                      a table has such a link for each change
--     AreFollowers                  three tables have all three
--     AreIndices                     a table has where each number below a count stands in an order
--     HasLinksBelow                 each link leads to a number below this one
--     Keeps                         by these indices each change stands before the one that its link leads to
use Rattle.std.specs.Prelude.{◌≡◌, ◌<◌, ℕ, zero, suc, not, cond, List, take, reverse, filter, find, length, slice_get, slice_index, slice_index_or, Option, None, Some, option_map, option_and_then}
use Rattle.std.specs.List.{enumerate_from}
use Rattle.edit_change.specs.Aim.{Aim, same_gap}
use Rattle.edit_change.specs.ChangeAim.{aim}
use Rattle.edit_change.specs.Nesting.{is_dropped, owner, Numbered}
use Rattle.edit_change.specs.inner.DocumentOrder.{StartsThere}
use Rattle.edit_change.specs.inner.Targets.{target_at}
use Rattle.cst_core.specs.Path.{Path}
use Rattle.edit_change.specs.declared.change.Change.{Change}
use Rattle.edit_steps.specs.Schedule.{anchor_token, index_in}
use Rattle.edit_steps.specs.declared.order.followers.Followers.{Followers}

abbrev pub link : List (Option ℕ) → ℕ → Option ℕ
link table n = slice_index_or table n None

abbrev pub steps : List (Option ℕ) → ℕ → ℕ → Option ℕ
steps table zero n = Some n
steps table (suc k) n = option_and_then (steps table k) (link table n)

abbrev pub earlier : List Change → ℕ → List Numbered
earlier cs n = reverse (filter (λ c. not (is_dropped cs c.1)) (enumerate_from 0 (take n cs)))

abbrev pub next_in_gap : List Change → ℕ → Aim → Option ℕ
next_in_gap cs n a = option_map (λ c. c.0) (find (λ c. same_gap (aim c.1) a) (earlier cs n))

-- ---- links: a dropped change has none
abbrev pub owner_link : List Change → ℕ → Change → Option ℕ
owner_link cs n c = owner cs c

abbrev pub gap_link : List Change → ℕ → Change → Option ℕ
gap_link cs n c = cond (is_dropped cs c) None (next_in_gap cs n (aim c))

abbrev pub token_link : List Change → ℕ → Change → Option ℕ
token_link cs n c = cond (is_dropped cs c) None (option_and_then (target_at cs) (anchor_token c))

-- the change with this number replaces from this token on, and none does
abbrev pub StartsAtToken : List Change → Option Path → Option ℕ → Type 0
StartsAtToken cs None o = o ≡ None
StartsAtToken cs (Some p) o = StartsThere cs p o

pub record IsLinked (f : ℕ → Change → Option ℕ) (cs : List Change) (table : List (Option ℕ)) : Type 0 where
  pub long : length table ≡ length cs
  pub at : (n : ℕ) (c : Change) → slice_get cs n ≡ Some c → link table n ≡ f n c

pub record AreFollowers (cs : List Change) (f : Followers) : Type 0 where
  pub owners : IsLinked (owner_link cs) cs f.owner.items
  pub gaps : IsLinked (gap_link cs) cs f.next_in_gap.items
  pub tokens : IsLinked (token_link cs) cs f.replacement.items

-- ---- orders
abbrev pub HasLinksBelow : ℕ → List (Option ℕ) → Type 0
HasLinksBelow count table = (n m : ℕ) → link table n ≡ Some m → m < count

pub record AreIndices (order : List ℕ) (count : ℕ) (indices : List ℕ) : Type 0 where
  pub long : length indices ≡ count
  pub at : (n : ℕ) → n < count → slice_index indices n ≡ index_in order n

abbrev pub Keeps : List ℕ → List (Option ℕ) → Type 0
Keeps indices table = (n m : ℕ) → link table n ≡ Some m → slice_index indices n < slice_index indices m
