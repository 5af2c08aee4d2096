use Rattle.std.specs.Prelude.{◌≡◌, [], None, All}
use Rattle.std.proofs.Common.{ap, ap₂, sym, subst, ◌∙◌}
use Rattle.cst_core.specs.Element.{subtree}
use Rattle.syntax_editor.specs.Nesting.{owner}
use Rattle.syntax_editor.specs.RewritingLaws.{changed_text}
use Rattle.syntax_editor.specs.RecordCall.{recorded}
use Rattle.syntax_editor.specs.Editor.{Editor, plan_of}
use Rattle.list_removal.specs.Removal.{removal, removed_run}
use Rattle.list_removal.proofs.Alone.{range_text, whole}
use Rattle.list_removal.proofs.laws.removal_cuts_the_text.Goals as goal

pub returns : goal.returns
returns c before after separator e number edit editor none takes records makes =
    let told = range_text before.root (removed_run separator e).0 (removed_run separator e).1 takes in
    let list : after.changes ≡ recorded (removal separator e) [] = ap (λ (x : Editor). x.changes) records ∙ ap (recorded (removal separator e)) none in
    let tree : subtree after.root ≡ before.root.root = ap (λ (x : Editor). subtree x.root) records ∙ whole before.root editor.is_root in
    c.edit_text_is_filled.ensures (plan_of after) number edit makes (subst (λ cs. All (λ d. owner cs d ≡ None) cs) (sym list) told.unowned)
    ∙ ap₂ changed_text list tree
    ∙ told.text_is
