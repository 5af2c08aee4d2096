-- Values by path, as a table in code has them.
--     cell_below, next_cell       the cell below a cell, at a slot; below a cell that may be missing
--     cell_further, cell_at       the cell that a path leads to from a cell that may be missing; from the top, if there is one
--     value_in, value_by_path     the value of a cell that may be missing; that of the cell of a path
--     with_room, place_at         a cell, if there is room for a value at it; that of a path
--     KeepsPlaces, SameValues     each path has the place that it had, if it had one; two tables have the same value at each path
--     IsPut                       one path has this value now, and the others what they had
--     size                        how many cells there are below the top
--     HasPaths                    each cell can be told its path, which is that of the cell above it with one slot more
--     IsTree                      such a table, in which no other cells are named than there are, and the way leads through its cells
--     IsGrown                     with more cells, which have no value, and more room
use Rattle.std.specs.Prelude.{◌≡◌, ℕ, ◌≤◌, cond, [], ◌∷◌, ◌++◌, length, slice_get, option_and_then, option_map, Option, Some}
use Rattle.std.specs.List.{fold}
use Rattle.std.specs.Option.{option_flatten}
use Rattle.green_tree.specs.Path.{Path, same_path}
use Rattle.path_table.specs.inner.Steps.{step, IsWay}
use Rattle.path_table.specs.declared.table.PathTable.{PathTable}

abbrev pub cell_below : {V : Type 0} → PathTable V → ℕ → ℕ → Option ℕ
cell_below t n i = step t.steps n i

abbrev pub next_cell : {V : Type 0} → PathTable V → Option ℕ → ℕ → Option ℕ
next_cell t cell i = option_and_then (λ n. cell_below t n i) cell

abbrev pub cell_further : {V : Type 0} → PathTable V → Option ℕ → Path → Option ℕ
cell_further t cell p = fold (next_cell t) cell p

abbrev pub cell_at : {V : Type 0} → PathTable V → Path → Option ℕ
cell_at t p = cell_further t (Some 0) p

abbrev pub value_in : {V : Type 0} → PathTable V → Option ℕ → Option V
value_in t cell = option_and_then (λ n. option_flatten (slice_get t.values.items n)) cell

abbrev pub value_by_path : {V : Type 0} → PathTable V → Path → Option V
value_by_path t p = value_in t (cell_at t p)

abbrev pub with_room : {V : Type 0} → PathTable V → ℕ → Option ℕ
with_room t n = option_map (λ _. n) (slice_get t.values.items n)

abbrev pub place_at : {V : Type 0} → PathTable V → Path → Option ℕ
place_at t p = option_and_then (with_room t) (cell_at t p)

abbrev pub KeepsPlaces : {V : Type 0} → PathTable V → PathTable V → Type 0
KeepsPlaces before after = (p : Path) (n : ℕ) → place_at before p ≡ Some n → place_at after p ≡ Some n

abbrev pub SameValues : {V : Type 0} → PathTable V → PathTable V → Type 0
SameValues before after = (p : Path) → value_by_path after p ≡ value_by_path before p

abbrev pub IsPut : {V : Type 0} → PathTable V → PathTable V → Path → V → Type 0
IsPut before after p v = (q : Path) → value_by_path after q ≡ cond (same_path p q) (Some v) (value_by_path before q)

abbrev pub size : {V : Type 0} → PathTable V → ℕ
size t = length t.steps

abbrev pub HasPaths : {V : Type 0} → PathTable V → Type 0
HasPaths t = (path_of : ℕ → Path) × (path_of 0 ≡ []) × ((n i m : ℕ) → cell_below t n i ≡ Some m → path_of m ≡ path_of n ++ i ∷ [])

pub record IsTree {V : Type 0} (t : PathTable V) : Type 0 where
  pub steps : (n i m : ℕ) → cell_below t n i ≡ Some m → (n ≤ size t) × (m ≤ size t)
  pub values : (n : ℕ) (v : V) → value_in t (Some n) ≡ Some v → n ≤ size t
  pub paths : HasPaths t
  pub way : IsWay t.steps 0 t.way.items

pub record IsGrown {V : Type 0} (before after : PathTable V) : Type 0 where
  pub steps : (n i m : ℕ) → cell_below before n i ≡ Some m → cell_below after n i ≡ Some m
  pub room : length before.values.items ≤ length after.values.items
  pub stay : (p : Path) (m : ℕ) → cell_at before p ≡ Some m → cell_at after p ≡ Some m
  pub values : SameValues before after
  pub tree : IsTree after
