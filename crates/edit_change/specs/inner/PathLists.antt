-- Lists of paths in code.
--     path_lists                    the paths of each list
use Rattle.std.specs.Prelude.{ℕ, List, map, Vec}
use Rattle.std.specs.Global.{Global}
use Rattle.green_tree.specs.Path.{Path}
use Rattle.edit_change.specs.Topmost.{paths_of}

abbrev pub path_lists : List (Vec (Vec ℕ Global) Global) → List (List Path)
path_lists ls = map (λ l. paths_of l.items) ls
