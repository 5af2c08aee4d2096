use Rattle.std.proofs.Common.{◌≡◌, drop}
use Rattle.callers.specs.Rewritten.{with_matches}
use Rattle.callers.proofs.search_replace.replace_matches.Given as goal

abbrev pub invariant-loop-node : goal.invariant-loop-node
invariant-loop-node l =
    record l.editor { changes = with_matches l.pattern l.new (drop l.node-index l.nodes) l.editor.changes } ≡ record l.initial.editor { changes = with_matches l.pattern l.new l.nodes l.initial.editor.changes }
