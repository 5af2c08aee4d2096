use Rattle.std.proofs.Common.{◌≡◌, drop, nat_eq}
use Rattle.std.specs.Map.{lookup}
use Rattle.tree_text.proofs.Names.{entries}
use Rattle.tree_text.proofs.kind_names.KindNames.name.Given as goal

abbrev pub invariant-loop-given : goal.invariant-loop-given
invariant-loop-given l = lookup (nat_eq l.kind.0) (entries (drop l.given-index l.given-items)) ≡ lookup (nat_eq l.kind.0) l.self
