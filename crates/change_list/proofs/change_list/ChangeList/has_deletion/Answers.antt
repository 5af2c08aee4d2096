use Rattle.std.proofs.Common.{◌≡◌, None, is_none, sym, ◌∙◌, ap}
use Rattle.std.specs.List.{list_any}
use Rattle.change_list.specs.inner.ByPath.{replacements_at}
use Rattle.change_list.specs.inner.Indexing.{replaced_at}
use Rattle.change_list.proofs.Indexed.{nothing-deleted}
use Rattle.change_list.proofs.change_list.ChangeList.has_deletion.Goals as goal

pub returns-in-None : goal.returns-in-None
returns-in-None c =
    let p = c.args.path.now in
    let cs = c.self.inside.changes.items in
    let none : replaced_at p cs ≡ None = sym (c.self.invariant.says p) ∙ sym c.get.ensures ∙ c.in-None.is in
    sym (nothing-deleted p cs none) ∙ ap (λ ds. list_any is_none (replacements_at p ds)) c.self.view_is
