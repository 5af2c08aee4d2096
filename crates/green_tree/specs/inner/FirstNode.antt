-- The first node of a kind that starts somewhere.
--     starts_as                     where a tree begins at an offset, what is at a path in it has a kind and starts at another offset
--     first_from                    the path of the first such node, in document order
use Rattle.std.specs.Prelude.{ℕ, ◌+◌, nat_eq, ◌&&◌, Bool, false, find, Option}
use Rattle.std.specs.Option.{option_map_or}
use Rattle.green_tree.specs.Path.{Path}
use Rattle.green_tree.specs.Tree.{SyntaxTree, label, at}
use Rattle.green_tree.specs.Order.{node_paths, start}

abbrev pub starts_as : ℕ → ℕ → ℕ → SyntaxTree → Path → Bool
starts_as kind begin offset t p = option_map_or (λ e. nat_eq (label e) kind) (at t p) false && nat_eq (begin + start t p) offset

abbrev pub first_from : ℕ → ℕ → ℕ → SyntaxTree → Option Path
first_from kind begin offset t = find (starts_as kind begin offset t) (node_paths t)
