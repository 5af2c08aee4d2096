use Rattle.std.proofs.Common.{◌≡◌, ◌++◌, [], ◌∷◌, map, flat_map, take, drop}
use Rattle.one_pass.specs.declared.mark.Sought.{Sought}
use Rattle.one_pass.specs.inner.Marked.{mark_below, marks_of}
use Rattle.one_pass.proofs.open_nodes.open_node.Given as goal

abbrev pub invariant-loop-mark : goal.invariant-loop-mark
invariant-loop-mark l = record {
  path : l.walk.path.items ≡ l.fn.walk.path.items;
  count : l.walk.builds ≡ l.fn.walk.builds;
  marks : marks_of l.walk.found.items ++ map (mark_below l.fn.walk.path.items) (flat_map (λ (s : Sought). (s.number, []) ∷ []) (drop l.mark-index (take l.here l.sought))) ≡ marks_of l.fn.walk.found.items ++ map (mark_below l.fn.walk.path.items) (flat_map (λ (s : Sought). (s.number, []) ∷ []) (take l.here l.sought));
}
