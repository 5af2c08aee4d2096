use Rattle.std.proofs.Common.{◌≡◌, ℕ, ◌<◌, ◌++◌, length, get_or, Vec}
use Rattle.std.specs.Global.{Global}
use Rattle.one_pass.specs.inner.Marked.{marks_of}
use Rattle.edit_change.specs.Topmost.{paths_of}
use Rattle.one_pass.specs.inner.Marks.{paths_of_mark}
use Rattle.one_pass.proofs.mark.mark_paths.Given as goal

abbrev pub invariant-loop-mark : goal.invariant-loop-mark
invariant-loop-mark l = record {
  size : length l.lists.items ≡ l.fn.count;
  lists : (k : ℕ) (d : Vec (Vec ℕ Global) Global) → k < l.fn.count → paths_of (get_or l.lists.items k d).items ++ paths_of_mark k (marks_of l.mark-iterator.rest.items) ≡ paths_of_mark k (marks_of l.fn.marks.items);
}
