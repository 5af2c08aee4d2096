use Rattle.std.proofs.Common.{◌≡◌, ◌++◌, All}
use Rattle.std.specs.List.{zip}
use Rattle.edit_map.specs.Builder.{IsPairUnder}
use Rattle.edit_map.proofs.builder.pairs_under.Given as goal

abbrev pub invariant-loop-input : goal.invariant-loop-input
invariant-loop-input l = record {
  left : l.pairs.items ++ zip l.input-iterator.a.rest.now l.input-iterator.b.rest.now ≡ zip l.inputs l.outputs;
  taken : All (IsPairUnder l.parent) l.pairs.items;
}
