-- A way up from a target to a payload.
--     in_tree, at_depth              the address at a path of a tree; that to which the first slots of an address lead
--     Passes                         the address above this one at a depth is free, and is not the payload
--     IsLastStop                     the greatest number below this one of which something does not hold, or that there is none
--     number_at, IsFree              the number that the table has at an address; it has none there
--     cell_of                        the cell of an element, if the table has room for a number at it
--     IsStopAbove                    how many slots lead to the nearest node above one that a table has or that is the payload
--     HasNoCopy                      an address has no copy
--     IsNumbered                     a table that has the numbers of these pairs, each at the address of its first element, and no others
--     IsKept                         a mapping, and the table of its pairs' numbers
use Rattle.std.specs.Prelude.{◌≡◌, ◌≢◌, ℕ, ◌<◌, take, length, slice_get, Option, Some, None, MatchOption, IsSomeAnd}
use Rattle.cst_core.specs.Path.{Path}
use Rattle.cst_core.specs.Element.{Address, Element, address}
use Rattle.cst_core.specs.inner.InTree.{address_path}
use Rattle.path_table.specs.inner.PathTable.{value_by_path, place_at, IsTree}
use Rattle.edit_map.specs.Mapping.{Mapping, copy}
use Rattle.edit_map.specs.Builder.{IsMapping}
use Rattle.path_table.specs.declared.table.PathTable.{PathTable}

abbrev pub in_tree : ℕ → Path → Address
in_tree n p = record { number = n; path = p }

abbrev pub at_depth : Address → ℕ → Address
at_depth x k = in_tree x.number (take k x.path)

abbrev pub Passes : (Address → Type 0) → Address → Address → ℕ → Type 0
Passes free payload x k = free (at_depth x k) × (at_depth x k ≢ payload)

abbrev pub IsLastStop : (ℕ → Type 0) → ℕ → Option ℕ → Type 0
IsLastStop passes n stop =
    MatchOption stop ((k : ℕ) → k < n → passes k) (λ d. (d < n) × ((k : ℕ) → d < k → k < n → passes k))

abbrev pub number_at : PathTable ℕ → Address → Option ℕ
number_at numbers x = value_by_path numbers (address_path x)

abbrev pub IsFree : PathTable ℕ → Address → Type 0
IsFree numbers x = number_at numbers x ≡ None

abbrev pub cell_of : PathTable ℕ → Element → Option ℕ
cell_of numbers e = place_at numbers (address_path (address e))

abbrev pub IsStopAbove : PathTable ℕ → Element → Element → Option ℕ → Type 0
IsStopAbove numbers node payload stop =
    IsLastStop (Passes (IsFree numbers) (address payload) (address node)) (length node.path) stop

abbrev pub HasNoCopy : Mapping → Address → Type 0
HasNoCopy m x = copy m x ≡ None

pub record IsNumbered (m : Mapping) (numbers : PathTable ℕ) : Type 0 where
  pub tree : IsTree numbers
  pub told : (i : ℕ) (pair : Element × Element) → slice_get m i ≡ Some pair → number_at numbers (address pair.0) ≡ Some i
  pub leads : (x : Address) (i : ℕ) → number_at numbers x ≡ Some i → IsSomeAnd (slice_get m i) (λ pair. address pair.0 ≡ x)

pub record IsKept (m : Mapping) (numbers : PathTable ℕ) : Type 0 where
  pub mapping : IsMapping m
  pub numbered : IsNumbered m numbers
