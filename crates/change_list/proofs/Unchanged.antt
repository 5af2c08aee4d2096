-- What a call that may be refused leaves.
--     no-ok, no-value, on-err              of a result that is an error, and of the value that it lacks; what holds anyway
--     agrees-kept                          an index with more places still agrees with the list
use Rattle.std.specs.Prelude.{◌≡◌, List, Result, Ok, Err, IfOk, OnOk, OnErr}
use Rattle.std.specs.Result.{IsErr}
use Rattle.std.proofs.Common.{ap, sym, ◌∙◌}
use Rattle.std.proofs.lemmas.Bool.{false≢true}
use Rattle.edit_change.specs.declared.change.Change.{Change}
use Rattle.path_table.specs.inner.PathTable.{SameValues, IsTree}
use Rattle.path_table.specs.declared.table.PathTable.{PathTable}
use Rattle.change_list.specs.declared.change_list.Replaced.{Replaced}
use Rattle.change_list.specs.inner.Indexing.{replaced_at, Agrees}

pub no-ok : {T E : Type 0} (P : Type 0) (r : Result T E) → IsErr r → OnOk r P
no-ok P (Ok x) h = absurd (false≢true h)
no-ok P (Err e) h = tt

pub no-value : {T E : Type 0} (P : T → Type 0) (r : Result T E) → IsErr r → IfOk r P
no-value P (Ok x) h = absurd (false≢true h)
no-value P (Err e) h = tt

pub on-err : {T E : Type 0} (P : Type 0) (r : Result T E) → P → OnErr r P
on-err P (Ok x) h = tt
on-err P (Err e) h = h

pub agrees-kept : (before after : PathTable Replaced) (cs ds : List Change) → Agrees before cs → SameValues before after → IsTree after → ds ≡ cs → Agrees after ds
agrees-kept before after cs ds agrees same tree is = record {
  says = λ p. same p ∙ agrees.says p ∙ sym (ap (replaced_at p) is);
  tree = tree;
}
