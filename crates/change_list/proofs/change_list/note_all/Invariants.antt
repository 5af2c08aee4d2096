use Rattle.std.proofs.Common.{◌≡◌, ◌+◌, ◌++◌, List, length, take}
use Rattle.edit_change.specs.declared.change.Change.{Change}
use Rattle.path_table.specs.inner.PathTable.{IsTree}
use Rattle.change_list.specs.inner.Indexing.{Agrees}
use Rattle.change_list.proofs.change_list.note_all.Given as goal

abbrev pub invariant-loop-change : goal.invariant-loop-change
invariant-loop-change l = record {
  number : l.number ≡ l.fn.before + l.change-index;
  tree : IsTree l.index;
  agrees : (cs : List Change) → length cs ≡ l.fn.before → Agrees l.initial.index cs → Agrees l.index (cs ++ take l.change-index l.changes);
}
