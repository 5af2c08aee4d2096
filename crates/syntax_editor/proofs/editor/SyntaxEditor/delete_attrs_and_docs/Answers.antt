use Rattle.std.proofs.Common.{◌≡◌, false, not, All, sym, ◌∙◌, ap, subst}
use Rattle.std.specs.List.{list_any}
use Rattle.edit_plan.specs.Fits.{Fits, is_native}
use Rattle.change_list.specs.inner.ByPath.{delete_each_at}
use Rattle.syntax_editor.specs.AttrsAndDocs.{removed_children, remove_attrs_and_docs}
use Rattle.syntax_editor.proofs.Removed.{removed_native, kept_fitting}
use Rattle.syntax_editor.proofs.Called.{exchanged}
use Rattle.syntax_editor.proofs.editor.SyntaxEditor.delete_attrs_and_docs.Goals as goal

pub invariant_of-self-2 : goal.invariant_of-self-2
invariant_of-self-2 c =
    let root = c.self.inside.root in
    let cs = c.self.inside.changes in
    let n = c.args.node.now in
    let all = c.deref.ensures.value ∙ c.in_ok-removed.ensures in
    let none : list_any (λ e. not (is_native root e)) (removed_children n) ≡ false = sym (ap (list_any (λ e. not (is_native root e))) all) ∙ sym c.has_foreign.ensures ∙ c.if-has_foreign.false in
    let kept = kept_fitting root (removed_children n) cs (removed_native root n none) c.self.invariant.fit in
    let list : c.delete_each.new.self ≡ remove_attrs_and_docs n cs = c.in_ok-delete_each.ensures.ok ∙ ap (λ es. delete_each_at es cs) c.in_ok-removed.ensures ∙ kept.by_path in
    record {
      is_root = c.self.invariant.is_root;
      fit = subst (All (Fits root)) (sym list) kept.fit;
    }

pub returns-clause-recorded : goal.returns-clause-recorded
returns-clause-recorded c =
    let root = c.self.inside.root in
    let cs = c.self.inside.changes in
    let n = c.args.node.now in
    let all = c.deref.ensures.value ∙ c.in_ok-removed.ensures in
    let none : list_any (λ e. not (is_native root e)) (removed_children n) ≡ false = sym (ap (list_any (λ e. not (is_native root e))) all) ∙ sym c.has_foreign.ensures ∙ c.if-has_foreign.false in
    let kept = kept_fitting root (removed_children n) cs (removed_native root n none) c.self.invariant.fit in
    let list : c.delete_each.new.self ≡ remove_attrs_and_docs n cs = c.in_ok-delete_each.ensures.ok ∙ ap (λ es. delete_each_at es cs) c.in_ok-removed.ensures ∙ kept.by_path in
    exchanged (remove_attrs_and_docs n) root c.self.inside.registrations.items c.self.inside.factory cs c.delete_each.new.self c.args.self.now list c.self.view_is
