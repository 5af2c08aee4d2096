use Rattle.std.proofs.Common.{◌≡◌, drop}
use Rattle.callers.specs.Rewritten.{with_blocks}
use Rattle.callers.proofs.search_replace.wrap_blocks.Given as goal

abbrev pub invariant-loop-node : goal.invariant-loop-node
invariant-loop-node l = record {
  list : with_blocks (drop l.node-index l.nodes) (l.ids, l.editor.changes) ≡ with_blocks l.nodes (l.initial.ids, l.initial.editor.changes);
  kept : l.editor ≡ record l.initial.editor { changes = l.editor.changes; factory = l.editor.factory };
}
