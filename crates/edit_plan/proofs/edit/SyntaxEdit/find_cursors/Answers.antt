use Rattle.std.proofs.Common.{[], ◌∷◌, ◌++◌, ap, ap₂, map, sym, ◌∙◌}
use Rattle.std.proofs.lemmas.List.{map_more, take_all}
use Rattle.edit_plan.specs.ElementCursor.{element_cursor}
use Rattle.edit_plan.proofs.edit.SyntaxEdit.find_cursors.Goals as goal

pub loop-element-init : goal.loop-element-init
loop-element-init c = c.in_ok-cursors.ensures.items

pub loop-element-preserved : goal.loop-element-preserved
loop-element-preserved c =
    let es = c.args.edits.now in
    let all = c.find_annotation-elements.result.now in
    c.in_ok-push.ensures.items
    ∙ ap₂ (λ xs x. xs ++ x ∷ []) c.loop-element.invariant (c.cursor_of.ensures ∙ ap (element_cursor es) c.element-item.is)
    ∙ sym (map_more (element_cursor es) all c.loop-element.element-index c.element-item.result c.loop-element-test.true)

pub returns : goal.returns
returns c =
    let cursors = map (element_cursor c.args.edits.now) in
    c.loop-element.invariant
    ∙ ap cursors (take_all c.loop-element.element-index c.find_annotation-elements.result.now c.loop-element-test.false)
    ∙ ap cursors c.find_annotation-elements.ensures
