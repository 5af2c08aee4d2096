use Rattle.std.proofs.Common.{◌≡◌, ◌+◌, ◌++◌, List, map, flat_map, drop, ap, sym, ◌∙◌}
use Rattle.std.proofs.lemmas.List.{append_assoc, append-nil, at_drop_more, at_drop_all}
use Rattle.text_edit.specs.TextPiece.{as_piece}
use Rattle.one_pass.specs.declared.mark.Mark.{Mark}
use Rattle.one_pass.specs.inner.TextOrder.{pieces_by}
use Rattle.one_pass.proofs.TextOrders.{flat_map-map}
use Rattle.one_pass.proofs.text_changes.edits_in_order.Goals as goal

pub loop-mark-init : goal.loop-mark-init
loop-mark-init c = ap (λ es. map as_piece es ++ flat_map (λ (m : Mark). pieces_by c.args.root.now c.args.changes.now c.args.given.now m.number) c.args.marks.now) c.new-edits.ensures.items

pub loop-mark-preserved : goal.loop-mark-preserved
loop-mark-preserved c =
    let own = λ (m : Mark). pieces_by c.args.root.now c.args.changes.now c.args.given.now m.number in
    let ms : List Mark = c.args.marks.now in
    let i = c.loop-mark.mark-index in
    let before = map as_piece c.loop-mark.edits.items in
    let rest = flat_map own (drop (i + 1) ms) in
    let m = c.mark-item.result in
    let piece : map as_piece c.push_edit.new.edits.items ≡ before ++ own m = c.in_ok-push_edit.ensures in
    ap (λ ps. ps ++ rest) piece ∙ append_assoc before (own m) rest ∙ ap (λ (n : Mark). before ++ (own n ++ rest)) c.mark-item.is ∙ ap (λ ps. before ++ ps) (sym (at_drop_more (flat_map own) ms i m c.loop-mark-test.true)) ∙ c.loop-mark.invariant

pub returns : goal.returns
returns c =
    let own = pieces_by c.args.root.now c.args.changes.now c.args.given.now in
    let done = map as_piece c.loop-mark.edits.items in
    sym (append-nil done) ∙ ap (λ ps. done ++ ps) (sym (at_drop_all (flat_map (λ (m : Mark). own m.number)) c.args.marks.now c.loop-mark.mark-index c.loop-mark-test.false)) ∙ c.loop-mark.invariant ∙ sym (flat_map-map own (λ (m : Mark). m.number) c.args.marks.now)
