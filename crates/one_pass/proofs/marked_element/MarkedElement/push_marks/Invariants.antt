use Rattle.std.proofs.Common.{◌≡◌, ◌++◌, map, drop}
use Rattle.one_pass.specs.inner.Marked.{mark_below, marks_of}
use Rattle.one_pass.proofs.marked_element.MarkedElement.push_marks.Given as goal

abbrev pub invariant-loop-mark : goal.invariant-loop-mark
invariant-loop-mark l = marks_of l.found.items ++ map (mark_below l.path) (marks_of (drop l.mark-index l.mark-items)) ≡ marks_of l.initial.found.items ++ map (mark_below l.path) (marks_of l.mark-items)
