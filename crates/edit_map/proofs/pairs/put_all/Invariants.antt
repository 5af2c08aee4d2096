use Rattle.std.proofs.Common.{◌≡◌, ◌≤◌, ◌+◌, ◌++◌, Some, length, map, reverse}
use Rattle.std.specs.Vec.{vec_len, vec_capacity}
use Rattle.edit_map.specs.Builder.{IsMadeOf}
use Rattle.edit_map.specs.inner.Climbing.{cell_of, IsNumbered}
use Rattle.edit_map.proofs.pairs.put_all.Given as goal

abbrev pub invariant-loop-cell : goal.invariant-loop-cell
invariant-loop-cell l = record {
  numbered : IsNumbered l.pairs.items l.numbers;
  has_room : vec_len l.pairs + length l.cell-iterator.b.rest.items ≤ vec_capacity l.pairs;
  cells : map (λ k. Some k) l.cell-iterator.a.rest.now ≡ map (λ pair. cell_of l.numbers pair.0) l.cell-iterator.b.rest.items;
  made : (m : _) → IsMadeOf (reverse l.cell-iterator.b.rest.items ++ l.pairs.items) m → IsMadeOf (reverse l.fn.new.items ++ l.fn.pairs.items) m;
}
