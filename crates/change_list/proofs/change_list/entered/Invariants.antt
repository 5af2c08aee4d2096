use Rattle.std.proofs.Common.{◌≡◌, Some, map, take}
use Rattle.path_table.specs.inner.PathTable.{SameValues, IsTree}
use Rattle.change_list.specs.inner.Indexing.{place_of}
use Rattle.change_list.proofs.change_list.entered.Given as goal

abbrev pub invariant-loop-element : goal.invariant-loop-element
invariant-loop-element l = record {
  tree : IsTree l.replaced;
  places : map Some l.places.items ≡ map (place_of l.replaced) (take l.element-index l.elements);
  said : SameValues l.initial.replaced l.replaced;
}
