use Rattle.std.proofs.Common.{◌≡◌, ◌++◌, map, drop}
use Rattle.green_tree.specs.GreenElement.{element_tree}
use Rattle.one_pass.specs.inner.Marked.{mark_below, marks_of, marks_seen, kept_in}
use Rattle.one_pass.proofs.mark.push_kept.Given as goal

abbrev pub invariant-loop-mark : goal.invariant-loop-mark
invariant-loop-mark l =
    marks_of l.found.items ++ map (mark_below l.path) (kept_in (element_tree l.element) (marks_seen l.depth (drop l.mark-index l.sought))) ≡ marks_of l.initial.found.items ++ map (mark_below l.path) (kept_in (element_tree l.element) (marks_seen l.depth l.sought))
