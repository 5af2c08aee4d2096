use Rattle.std.proofs.Common.{◌≡◌, false, not, ◌&&◌, [], ◌∷◌, None, All, sym, ◌∙◌, ap, subst}
use Rattle.std.proofs.lemmas.Bool.{and_left, and_right}
use Rattle.edit_plan.specs.Fits.{Fits, is_native, is_root, is_one_node}
use Rattle.syntax_editor.specs.declared.error.RecordError.TheVariants.{Foreign, RootReplacement}
use Rattle.change_list.specs.Recording.{replace}
use Rattle.syntax_editor.specs.RecordCall.{Replacing, refusal}
use Rattle.syntax_editor.proofs.Fitting.{recorded_fits, native_number, no-line}
use Rattle.syntax_editor.proofs.Called.{called}
use Rattle.syntax_editor.proofs.ByPath.{replace-by-path}
use Rattle.syntax_editor.proofs.editor.SyntaxEditor.replace_element.Goals as goal
use Rattle.syntax_editor.proofs.editor.SyntaxEditor.replace_element.Goals.{else-is_root-via-then-is_root+else-not-is_node, else-is_root-via-else-is_root}

pub invariant_of-self-2 : goal.invariant_of-self-2
invariant_of-self-2 c =
    let root = c.self.inside.root in
    let call = Replacing c.args.element c.args.new in
    let native : not (is_native root c.args.element) ≡ false = ap not (sym c.is_native.ensures ∙ c.if-not-is_native.false) in
    let by_node : (is_root c.args.element && not (is_one_node (c.args.new ∷ []))) ≡ false = elim c.else-is_root.branch [
      | else-is_root-via-then-is_root+else-not-is_node w ↦ and_right (is_root c.args.element) _ (ap not (sym w.is_node.ensures ∙ w.if-not-is_node.false))
      | else-is_root-via-else-is_root w ↦ and_left (is_root c.args.element) _ (sym c.is_root.ensures ∙ w.if-is_root.false)
    ] in
    let accepted : refusal root call ≡ None = no-line (not (is_native root c.args.element)) (is_root c.args.element && not (is_one_node (c.args.new ∷ []))) Foreign RootReplacement native by_node in
    let list : c.replace.new.self ≡ replace c.args.element c.args.new c.self.inside.changes = c.in_ok-replace.ensures.ok ∙ sym (replace-by-path root c.args.element (native_number root c.args.element (sym c.is_native.ensures ∙ c.if-not-is_native.false)) c.args.new c.self.inside.changes c.self.invariant.fit) in
    record {
      is_root = c.self.invariant.is_root;
      fit = subst (All (Fits root)) (sym list) (recorded_fits root call c.self.inside.changes accepted c.self.invariant.fit);
    }

pub returns-clause-recorded : goal.returns-clause-recorded
returns-clause-recorded c =
    let list : c.replace.new.self ≡ replace c.args.element c.args.new c.self.inside.changes = c.in_ok-replace.ensures.ok ∙ sym (replace-by-path c.self.inside.root c.args.element (native_number c.self.inside.root c.args.element (sym c.is_native.ensures ∙ c.if-not-is_native.false)) c.args.new c.self.inside.changes c.self.invariant.fit) in
    called (Replacing c.args.element c.args.new) c.self.inside.root c.self.inside.registrations.items c.self.inside.factory c.self.inside.changes c.replace.new.self c.args.self.now list c.self.view_is
