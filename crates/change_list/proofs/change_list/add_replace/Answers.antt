use Rattle.std.proofs.Common.{◌≡◌, Bool, true, false, not, Option, None, Some, is_some, is_none, length, arith, refl, sym, ◌∙◌, ap}
use Rattle.cst_core.specs.SyntaxElement.{element_of}
use Rattle.path_table.specs.inner.PathTable.{value_by_path}
use Rattle.change_list.specs.inner.Indexing.{replaced_at}
use Rattle.change_list.proofs.Indexed.{added-agrees}
use Rattle.change_list.proofs.change_list.add_replace.Goals as goal

is_none-from : {X : Type 0} (o : Option X) (b : Bool) → is_some o ≡ not b → b ≡ is_none o
is_none-from None true h = refl
is_none-from None false h = h
is_none-from (Some x) true h = h
is_none-from (Some x) false h = refl

pub returns-clause-agrees : goal.returns-clause-agrees
returns-clause-agrees c =
    let e = c.args.element in
    let p = (element_of e).path in
    let cs = c.args.changes.now.items in
    let first : c.len-first.result ≡ length cs = omega (arith, c.len-first.ensures, c.args.changes.now.ok.0) in
    record {
      says = λ q. added-agrees e c.args.new cs (value_by_path c.args.replaced.now) (value_by_path c.set.new.self) p c.len-first.result c.is_none-is_deleted.result refl first (is_none-from c.args.new c.is_none-is_deleted.result c.is_none-is_deleted.ensures) c.requires.first c.requires.agrees.says (c.set.ensures.put p c.requires.place) q ∙ ap (replaced_at q) (sym c.push_reserved.ensures.items);
      tree = c.set.ensures.tree;
    }
