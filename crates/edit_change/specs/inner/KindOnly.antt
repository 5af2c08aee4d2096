-- Trees as code rewrites them: what is kept is labelled by its kind alone.
--     kind_only                     that label
use Rattle.std.specs.Prelude.{ℕ}
use Rattle.cst_core.specs.Path.{Path}

abbrev pub kind_only : Path → ℕ → ℕ
kind_only p k = k
