use Rattle.std.proofs.Common.{◌≡◌, false, not, None, All, sym, ◌∙◌, ap, subst}
use Rattle.edit_plan.specs.Fits.{Fits, is_native, is_root}
use Rattle.syntax_editor.specs.declared.error.RecordError.TheVariants.{Foreign, DeletesRoot}
use Rattle.change_list.specs.Recording.{delete}
use Rattle.syntax_editor.specs.RecordCall.{Deleting, refusal}
use Rattle.syntax_editor.proofs.Fitting.{recorded_fits, native_number, no-line}
use Rattle.syntax_editor.proofs.Called.{called}
use Rattle.syntax_editor.proofs.ByPath.{delete-by-path}
use Rattle.syntax_editor.proofs.editor.SyntaxEditor.delete_element.Goals as goal

pub invariant_of-self-2 : goal.invariant_of-self-2
invariant_of-self-2 c =
    let root = c.self.inside.root in
    let call = Deleting c.args.element in
    let native : not (is_native root c.args.element) ≡ false = ap not (sym c.is_native.ensures ∙ c.if-not-is_native.false) in
    let below : is_root c.args.element ≡ false = sym c.is_root.ensures ∙ c.if-is_root.false in
    let accepted : refusal root call ≡ None = no-line (not (is_native root c.args.element)) (is_root c.args.element) Foreign DeletesRoot native below in
    let list : c.delete.new.self ≡ delete c.args.element c.self.inside.changes = c.in_ok-delete.ensures.ok ∙ sym (delete-by-path root c.args.element (native_number root c.args.element (sym c.is_native.ensures ∙ c.if-not-is_native.false)) c.self.inside.changes c.self.invariant.fit) in
    record {
      is_root = c.self.invariant.is_root;
      fit = subst (All (Fits root)) (sym list) (recorded_fits root call c.self.inside.changes accepted c.self.invariant.fit);
    }

pub returns-clause-recorded : goal.returns-clause-recorded
returns-clause-recorded c =
    let list : c.delete.new.self ≡ delete c.args.element c.self.inside.changes = c.in_ok-delete.ensures.ok ∙ sym (delete-by-path c.self.inside.root c.args.element (native_number c.self.inside.root c.args.element (sym c.is_native.ensures ∙ c.if-not-is_native.false)) c.self.inside.changes c.self.invariant.fit) in
    called (Deleting c.args.element) c.self.inside.root c.self.inside.registrations.items c.self.inside.factory c.self.inside.changes c.delete.new.self c.args.self.now list c.self.view_is
