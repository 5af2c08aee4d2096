use Rattle.std.proofs.Common.{◌≡◌, ◌++◌, drop, flat_map, string_bytes}
use Rattle.cst_core.specs.Tree.{text}
use Rattle.one_pass.specs.inner.Pass.{given_trees}
use Rattle.one_pass.proofs.text_changes.given_text.Given as goal

abbrev pub invariant-loop-one : goal.invariant-loop-one
invariant-loop-one l = string_bytes l.out ++ flat_map text (given_trees (drop l.one-index l.one-items)) ≡ flat_map text (given_trees l.one-items)
