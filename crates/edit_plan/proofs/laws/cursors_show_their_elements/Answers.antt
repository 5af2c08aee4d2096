use Rattle.std.proofs.Common.{◌≡◌, ◌∙◌, Some, map, ap, sym, slice_range}
use Rattle.cst_core.specs.Tree.{text}
use Rattle.cst_core.specs.Order.{start}
use Rattle.cst_core.specs.AtOffset.{end_of}
use Rattle.cst_core.specs.Element.{Element, element_at, subtree}
use Rattle.text_edit.specs.TextPiece.{as_piece}
use Rattle.text_edit.specs.Cursor.{cursor}
use Rattle.text_edit.proofs.Holding.{cursor-shows}
use Rattle.edit_plan.proofs.ElementTexts.{text-stands, element-there}
use Rattle.edit_plan.proofs.laws.cursors_show_their_elements.Goals as goal

pub returns : goal.returns
returns c plan number edit edits p x d is_plan makes are there found =
    let es = map as_piece edits in
    let old = text (subtree plan.root) in
    let new = edit.new_root in
    let e = element-there new p x there in
    let from = start new.root p in
    let to = end_of (element_at new p) in
    let law = c.text_edits_make_the_new_text.ensures in
    let held : cursor es from to ≡ Some d = ap (λ (y : Element). cursor es (start y.root y.path) (end_of y)) (sym e.0) ∙ found in
    cursor-shows es from to d old (law.apart plan edits is_plan are) held ∙ ap (λ s. slice_range s from to) (law.makes plan number edit edits is_plan makes are) ∙ text-stands new.root p (subtree (element_at new p)) e.1 ∙ ap (λ y. text (subtree y)) (sym e.0)
