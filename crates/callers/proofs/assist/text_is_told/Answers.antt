use Rattle.std.specs.Prelude.{◌≡◌, List, None, All}
use Rattle.std.proofs.Common.{ap, sym, subst, ◌∙◌}
use Rattle.syntax_editor.specs.Kinds.{COMMA}
use Rattle.syntax_editor.specs.ElementForms.TheVariants.{Node}
use Rattle.syntax_editor.specs.ChangeForms.{Change}
use Rattle.syntax_editor.specs.Nesting.{owner}
use Rattle.syntax_editor.specs.RecordCall.{recorded, all_recorded, Replacing}
use Rattle.syntax_editor.specs.Editor.{Editor, plan_of}
use Rattle.list_removal.specs.Removal.{removal}
use Rattle.callers.specs.Rearranged.{calls}
use Rattle.callers.proofs.Depths.{calls_depth}
use Rattle.callers.proofs.assist.text_is_told.Goals as goal

pub returns : goal.returns
returns k editor after number edit top none rearranges makes =
    let a = rearranges.first in
    let b = rearranges.second in
    let c = rearranges.third in
    let list : after.changes ≡ all_recorded (calls a b c) =
    ap (λ (e : Editor). e.changes) rearranges.recorded
    ∙ ap (λ cs. recorded (removal COMMA (Node c)) (recorded (Replacing (Node b) (Node a)) (recorded (Replacing (Node a) (Node b)) cs))) none in
    let unowned : All (λ d. owner (all_recorded (calls a b c)) d ≡ None) (all_recorded (calls a b c)) =
    k.calls_at_one_depth_own_nothing.ensures 1 (calls a b c) (calls_depth editor.root a b c top rearranges.arguments (k.children_are_one_level_below.ensures.nodes editor.root) (k.removal_is_at_the_depth_of_the_element.ensures COMMA (Node c))) in
    k.edit_text_is_filled.ensures (plan_of after) number edit makes (subst (λ (cs : List Change). All (λ d. owner cs d ≡ None) cs) (sym list) unowned)
