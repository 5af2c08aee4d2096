use Rattle.std.proofs.Common.{◌≡◌, true, ◌++◌, ◌∷◌, [], All, sym, ◌∙◌, subst, None}
use Rattle.std.proofs.lemmas.Bool.{cond-true}
use Rattle.edit_plan.specs.Fits.{Fits}
use Rattle.edit_change.specs.declared.change.Change.TheVariants.{ReplaceAll}
use Rattle.change_list.specs.Recording.{are_one, delete, delete_all}
use Rattle.syntax_editor.specs.RecordCall.{DeletingAll, refusal}
use Rattle.syntax_editor.specs.Editor.{Editor}
use Rattle.syntax_editor.proofs.Fitting.{recorded_fits, native_number, deleted_native, deleted_range}
use Rattle.syntax_editor.proofs.Called.{called}
use Rattle.syntax_editor.proofs.ByPath.{delete-by-path}
use Rattle.syntax_editor.proofs.editor.SyntaxEditor.delete_range.Goals as goal

pub invariant_of-self-then-eq : goal.invariant_of-self-then-eq
invariant_of-self-then-eq c =
    let root = c.self.inside.root in
    let cs = c.self.inside.changes in
    let taken : refusal root (DeletingAll c.args.first c.args.last) ≡ None = subst (λ (e : Editor). refusal e.root (DeletingAll c.args.first c.args.last) ≡ None) (sym c.self.view_is) c.in_ok-test_deleting_all.ensures.taken in
    let one : are_one c.args.first c.args.last ≡ true = sym c.eq.ensures ∙ c.if-eq.true in
    let as_delete : delete_all c.args.first c.args.last cs ≡ delete c.args.first cs = cond-true (are_one c.args.first c.args.last) (delete c.args.first cs) (cs ++ ReplaceAll c.args.first c.args.last [] ∷ []) one in
    let list : c.delete.new.self ≡ delete c.args.first cs = c.in_ok-delete.ensures.ok ∙ sym (delete-by-path root c.args.first (native_number root c.args.first (deleted_native root c.args.first c.args.last taken)) cs c.self.invariant.fit) in
    record {
      is_root = c.self.invariant.is_root;
      fit = subst (All (Fits root)) (as_delete ∙ sym list) (recorded_fits root (DeletingAll c.args.first c.args.last) cs taken c.self.invariant.fit);
    }

pub returns-then-eq-clause-recorded : goal.returns-then-eq-clause-recorded
returns-then-eq-clause-recorded c =
    let root = c.self.inside.root in
    let cs = c.self.inside.changes in
    let taken : refusal root (DeletingAll c.args.first c.args.last) ≡ None = subst (λ (e : Editor). refusal e.root (DeletingAll c.args.first c.args.last) ≡ None) (sym c.self.view_is) c.in_ok-test_deleting_all.ensures.taken in
    let one : are_one c.args.first c.args.last ≡ true = sym c.eq.ensures ∙ c.if-eq.true in
    let as_delete : delete_all c.args.first c.args.last cs ≡ delete c.args.first cs = cond-true (are_one c.args.first c.args.last) (delete c.args.first cs) (cs ++ ReplaceAll c.args.first c.args.last [] ∷ []) one in
    let list : c.delete.new.self ≡ delete c.args.first cs = c.in_ok-delete.ensures.ok ∙ sym (delete-by-path root c.args.first (native_number root c.args.first (deleted_native root c.args.first c.args.last taken)) cs c.self.invariant.fit) in
    called (DeletingAll c.args.first c.args.last) root c.self.inside.registrations.items c.self.inside.factory cs c.delete.new.self c.args.self.now (list ∙ sym as_delete) c.self.view_is

pub record-requires-clause-fits : goal.record-requires-clause-fits
record-requires-clause-fits c =
    deleted_range c.args.self.now.root c.args.first c.args.last c.in_ok-test_deleting_all.ensures.taken (sym c.eq.ensures ∙ c.if-eq.false)
