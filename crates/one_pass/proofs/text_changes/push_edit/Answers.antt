use Rattle.std.proofs.Common.{◌≡◌, ◌+◌, [], ◌∷◌, ◌++◌, map, length, string_bytes, ap, ap₂, sym, ◌∙◌, refl, rules}
use Rattle.std.proofs.lemmas.List.{append-nil, map-append}
use Rattle.std.proofs.lemmas.Option.{slice_get_past, slice_get_read}
use Rattle.cst_core.specs.Path.{same_path}
use Rattle.text_edit.specs.TextPiece.{as_piece}
use Rattle.one_pass.proofs.TextOrders.{pieces-none, pieces-same, pieces-other, piece-is}
use Rattle.one_pass.proofs.text_changes.push_edit.Goals as goal

pub returns-in_default : goal.returns-in_default
returns-in_default c =
    let before = map as_piece c.args.edits.now.items in
    sym (append-nil before) ∙ ap (λ ps. before ++ ps) (sym (pieces-none c.args.root.now c.args.changes.now c.args.given.now c.args.number (slice_get_past c.args.changes.now c.args.number c.in_default.ensures.lookup.3)))

pub returns-then-eq : goal.returns-then-eq
returns-then-eq c =
    let before = map as_piece c.args.edits.now.items in
    let found = c.in-Some.ensures.lookup in
    let there = slice_get_read c.args.changes.now (length c.args.changes.now) c.args.number c.in-Some.change.now refl found.3.0 found.1 in
    let same = ap₂ same_path (sym c.in_ok-old.ensures) (sym c.in_ok-text.ensures) ∙ sym c.eq.ensures ∙ c.if-eq.true in
    sym (append-nil before) ∙ ap (λ ps. before ++ ps) (sym (pieces-same c.args.root.now c.args.changes.now c.args.given.now c.args.number c.in-Some.change.now there same))

pub returns : goal.returns
returns c =
    let before = c.args.edits.now.items in
    let found = c.in-Some.ensures.lookup in
    let there = slice_get_read c.args.changes.now (length c.args.changes.now) c.args.number c.in-Some.change.now refl found.3.0 found.1 in
    let other = ap₂ same_path (sym c.in_ok-old.ensures) (sym c.in_ok-text.ensures) ∙ sym c.eq.ensures ∙ c.if-eq.false in
    let long : c.len.result ≡ length (string_bytes c.in_ok-old.old) = search rules in
    let stop = ap₂ (λ a b. a + b) c.in_ok-start.ensures.is (long ∙ ap length c.in_ok-old.ensures) in
    let own = piece-is c.args.root.now c.in-Some.change.now c.in_ok-start.start _ _ _ c.in_ok-start.ensures.is stop c.in_ok-text.ensures in
    ap (map as_piece) c.in_ok-push.ensures.items ∙ map-append as_piece before (_ ∷ []) ∙ ap (λ p. map as_piece before ++ p ∷ []) own ∙ ap (λ ps. map as_piece before ++ ps) (sym (pieces-other c.args.root.now c.args.changes.now c.args.given.now c.args.number c.in-Some.change.now there other))
