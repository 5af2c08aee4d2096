use Rattle.std.proofs.Common.{◌≡◌, ◌≤◌, ◌+◌, Some, length, map}
use Rattle.std.specs.Vec.{vec_len, vec_capacity}
use Rattle.change_list.specs.inner.ByPath.{delete_each_at}
use Rattle.change_list.specs.inner.Indexing.{place_of, Agrees}
use Rattle.change_list.proofs.change_list.delete_elements.Given as goal

abbrev pub invariant-loop-place : goal.invariant-loop-place
invariant-loop-place l = record {
  agrees : Agrees l.replaced l.changes.items;
  has_room : vec_len l.changes + length l.place-iterator.b.rest.items ≤ vec_capacity l.changes;
  places : map (λ k. Some k) l.place-iterator.a.rest.now ≡ map (place_of l.replaced) l.place-iterator.b.rest.items;
  list : delete_each_at l.place-iterator.b.rest.items l.changes.items ≡ delete_each_at l.fn.elements.items l.fn.changes.items;
}
