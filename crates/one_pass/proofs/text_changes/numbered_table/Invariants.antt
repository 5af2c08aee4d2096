use Rattle.std.proofs.Common.{◌≡◌, ◌∷◌, [], length, ℕ, Some, None, slice_get, Vec}
use Rattle.std.specs.Global.{Global}
use Rattle.green_tree.specs.Tree.{Token}
use Rattle.one_pass.specs.inner.Pass.{AreMarked}
use Rattle.one_pass.specs.declared.marked_element.MarkedElement.{MarkedElement}
use Rattle.one_pass.proofs.text_changes.numbered_table.Given as goal

abbrev pub invariant-loop-number : goal.invariant-loop-number
invariant-loop-number l = record {
  long : length l.entries.items ≡ l.number;
  each : (c : ℕ) (v : Vec MarkedElement Global) → slice_get l.entries.items c ≡ Some v → AreMarked None v.items (Token (c ∷ []) [] ∷ []);
}
