-- How many bytes a run takes from its reader.
--     script_limit                  How many bytes a script of the dialect `Syned` has at most: 1,048,576.
--     IsFrontOf                     These bytes are the first n of a reader, or all if it has fewer.
--     TakesFront, TakesAtMost       A call took the first n bytes of a reader, or all if it has fewer; it took at most n from the front.
--
-- All this is said of the bytes of a reader or a writer only where they are known.
use Rattle.std.specs.Prelude.{◌≡◌, ℕ, ◌≤◌, List, length, take, Option, IfSome}
use Rattle.std.specs.Io.KnownBytes.{Consumes}

abbrev pub script_limit : ℕ
script_limit = 1048576

abbrev pub IsFrontOf : Option (List ℕ) → ℕ → List ℕ → Type 0
IsFrontOf left n bytes = IfSome left (λ all. bytes ≡ take n all)

abbrev pub TakesFront : Option (List ℕ) → Option (List ℕ) → ℕ → Type 0
TakesFront left left' n = (bytes : List ℕ) × Consumes left left' bytes × IsFrontOf left n bytes

abbrev pub TakesAtMost : Option (List ℕ) → Option (List ℕ) → ℕ → Type 0
TakesAtMost left left' limit = (bytes : List ℕ) × Consumes left left' bytes × (length bytes ≤ limit)
