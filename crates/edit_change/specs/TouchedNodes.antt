-- How many nodes a pass from the leaves up builds anew for a plan.
--     touched_each                  The touched elements of several trees, by the same aims, added up.
--     touched_in                    The touched elements of a change's payload, by its dependents.
--     touched_by                    The touched elements of a plan: those of the old tree by the independent changes, and those of every
--                                   payload (`touched_in`).
--     Raises                        A count rises by at most a number, and by exactly that number if a premise holds; at 2^64 - 1 it stays.
--
-- Replacing `R/1` touches one node, and builds it. A replaced root that owns nothing touches none. As aims in one tree,
-- an insert into `R/1` and a replacement of `R/1` touch two nodes, and one of these is built.
use Rattle.std.specs.Prelude.{◌≡◌, ℕ, ◌+◌, ◌≤◌, List, sum_by}
use Rattle.std.specs.List.{enumerate_from}
use Rattle.cst_core.specs.Path.{Path}
use Rattle.cst_core.specs.Element.{Element, subtree}
use Rattle.green_tree.specs.Count.{counted}
use Rattle.edit_change.specs.Effort.{touched, parents_of}
use Rattle.edit_change.specs.Rewriting.{NumberedAim}
use Rattle.edit_change.specs.NewTree.{independents, dependents, payload_of}
use Rattle.edit_change.specs.declared.change.Change.{Change}

abbrev pub touched_each : List NumberedAim → List Element → ℕ
touched_each aims es = sum_by (λ e. touched (subtree e) (parents_of aims)) es

-- a change that owns nothing adds nothing
abbrev pub touched_in : List Change → (ℕ → Path) → ℕ → ℕ
touched_in changes places c = touched_each (dependents changes places c) (payload_of changes c)

abbrev pub touched_by : List Change → (ℕ → Path) → Element → ℕ
touched_by changes places root =
    touched (subtree root) (parents_of (independents changes)) + sum_by (λ c. touched_in changes places c.0) (enumerate_from 0 changes)

pub record Raises (premise : Type 0) (most before after : ℕ) : Type 0 where
  pub further : ℕ
  pub at_most : further ≤ most
  pub raised : after ≡ counted before further
  pub exact : premise → after ≡ counted before most
