-- What changes replace, by path.
--     target_at                     the first change that replaces what is at a path
use Rattle.std.specs.Prelude.{ℕ, List, position, Option}
use Rattle.cst_core.specs.Path.{Path, has_path}
use Rattle.edit_change.specs.Change.{targets}
use Rattle.edit_change.specs.declared.change.Change.{Change}

abbrev pub target_at : List Change → Path → Option ℕ
target_at cs p = position (λ c. has_path (targets c) p) cs
