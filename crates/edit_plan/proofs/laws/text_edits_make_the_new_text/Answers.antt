use Rattle.std.specs.Prelude.{ℕ, [], flat_map, None, refl}
use Rattle.std.proofs.Common.{ap, ap₂, sym, ◌∙◌}
use Rattle.std.proofs.lemmas.List.{append-nil}
use Rattle.cst_core.specs.Tree.{text}
use Rattle.cst_core.specs.Element.{address, subtree}
use Rattle.edit_change.specs.NewTree.{origin, independents, given, new_tree}
use Rattle.edit_change.specs.RewritingLaws.{text_filled}
use Rattle.text_edit.specs.TextPiece.{applied}
use Rattle.one_pass.specs.TextEdits.{text_pieces}
use Rattle.edit_plan.proofs.Filled.{text-rewritten_whole}
use Rattle.edit_plan.proofs.Unowned.{text_of_made}
use Rattle.edit_plan.proofs.MadeByChanges.{made-whole}
use Rattle.edit_plan.proofs.EditsOfPlan.{edits-apart}
use Rattle.edit_plan.proofs.laws.text_edits_make_the_new_text.Goals as goal

pub returns-clause-apart : goal.returns-clause-apart
returns-clause-apart c = edits-apart

pub returns-clause-makes : goal.returns-clause-makes
returns-clause-makes c plan number edit edits is_plan makes are =
    let cs = plan.changes in
    let root = plan.root in
    let places = makes.would.places in
    let new = λ (n : ℕ). flat_map text (given cs places n) in
    let old = text (subtree root) in
    let whole = made-whole root cs is_plan.fit is_plan.apart new is_plan.is_root in
    let made_is = text-rewritten_whole (origin (address root) None) (given cs places) new (λ n. refl) (independents cs) (subtree root) in
    let told = are places makes.would.are_places in
    let law = whole.law [] [] tt in
    let new_is = ap text makes.tree_is ∙ text_of_made makes.made (new_tree cs places root) makes.would.is_new ∙ made_is in
    ap (λ es. applied es old) told ∙ ap₂ (λ es s. applied es s) (sym (append-nil (text_pieces root cs places))) (sym (append-nil old)) ∙ law ∙ append-nil (text_filled new (independents cs) (subtree root)) ∙ sym new_is
