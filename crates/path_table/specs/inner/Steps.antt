-- The steps from cells to those below them.
--     Steps                         a cell and a slot, and the cell below it there
--     step                          the cell below a cell, at a slot
--     IsEntered                     after a cell was entered at a slot: it is below now, the other steps are as before
--     latest_from                   one step from a cell, with its slot, of a list that has some by cell
--     AreAmong                      these are some of the steps
--     Way                           the slots of a path, each with a cell
--     slots_of, way_end             its slots; the cell at its end, from a cell on
--     IsWay                         each cell of a way is that to which the slots up to it lead, from a cell on
use Rattle.std.specs.Prelude.{◌≡◌, ℕ, ⊤, ◌+◌, ◌&&◌, cond, nat_eq, List, [], ◌∷◌, map, length, slice_get, Option, Some, unwrap_or, is_some, if◌then◌else◌}
use Rattle.std.specs.Map.{lookup}
use Rattle.std.specs.Option.{option_flatten}

abbrev pub Steps : Type 0
Steps = List ((ℕ × ℕ) × ℕ)

abbrev pub step : Steps → ℕ → ℕ → Option ℕ
step s n i = lookup (λ k. nat_eq n k.0 && nat_eq i k.1) s

pub record IsEntered (before after : Steps) (n i m : ℕ) : Type 0 where
  pub made : m ≡ unwrap_or (step before n i) (length before + 1)
  pub steps : (a j : ℕ) → step after a j ≡ cond (nat_eq n a && nat_eq i j) (Some m) (step before a j)
  pub long : length after ≡ length before + (if is_some (step before n i) then 0 else 1)

abbrev pub latest_from : List (Option (ℕ × ℕ)) → ℕ → Option (ℕ × ℕ)
latest_from latest n = option_flatten (slice_get latest n)

abbrev pub AreAmong : Steps → List (Option (ℕ × ℕ)) → Type 0
AreAmong s latest = (n i m : ℕ) → latest_from latest n ≡ Some (i, m) → step s n i ≡ Some m

-- ---- a way
abbrev pub Way : Type 0
Way = List (ℕ × ℕ)

abbrev pub slots_of : Way → List ℕ
slots_of way = map (λ x. x.0) way

abbrev pub way_end : ℕ → Way → ℕ
way_end n [] = n
way_end n (x ∷ way) = way_end x.1 way

abbrev pub IsWay : Steps → ℕ → Way → Type 0
IsWay s n [] = ⊤
IsWay s n (x ∷ way) = (step s n x.0 ≡ Some x.1) × IsWay s x.1 way
