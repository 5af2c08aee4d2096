-- Paths as numbers below 2^64, which are hashed in their place.
--     path_digest, digest_below     That number of a path; that of a path with one more slot.
use Rattle.std.specs.Prelude.{ℕ, ◌+◌, ◌*◌, ◌%◌, ◌^◌}
use Rattle.std.specs.List.{fold}
use Rattle.green_tree.specs.Path.{Path}

abbrev pub digest_below : ℕ → ℕ → ℕ
digest_below digest slot = ((digest + slot) % 2 ^ 64 * 11400714819323198485) % 2 ^ 64

abbrev pub path_digest : Path → ℕ
path_digest p = fold digest_below 1 p
