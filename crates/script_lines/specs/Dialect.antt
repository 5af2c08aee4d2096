-- The dialects of scripts, and what their lines are read with.
--     bytes_in, depth_in            How many bytes a script has at most: 1,048,576 in the dialect `Syned`, 4,294,967,295 in `Wide`; how many
--                                   parentheses of a tree expression may be open at once: 200, or as many as a script has bytes.
--     is_wide                       Lines may have the words of the dialect `Wide` alone.
--     Language, new_language        What a line is read with: a dialect, and the names that lines before it gave to kinds; that of the first
--                                   line.
use Rattle.std.specs.Prelude.{ℕ, Bool, true, false, List, []}
use Rattle.tree_text.specs.Depth.{depth_limit}
use Rattle.tree_text.specs.KindNames.{KindName}
use Rattle.script_lines.specs.declared.dialect.Dialect.{Dialect}
use Rattle.script_lines.specs.declared.dialect.Dialect.TheVariants.{Syned, Wide}

abbrev pub bytes_in : Dialect → ℕ
bytes_in Syned = 1048576
bytes_in Wide = 4294967295

abbrev pub depth_in : Dialect → ℕ
depth_in Syned = depth_limit
depth_in Wide = bytes_in Wide

abbrev pub is_wide : Dialect → Bool
is_wide Syned = false
is_wide Wide = true

pub record Language : Type 0 where
  pub dialect : Dialect
  pub kinds : List KindName

abbrev pub new_language : Dialect → Language
new_language dialect = record { dialect = dialect; kinds = [] }
