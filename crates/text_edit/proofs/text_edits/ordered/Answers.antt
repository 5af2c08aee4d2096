use Rattle.std.proofs.Common.{◌≡◌, ◌+◌, ◌≤◌, ◌∙◌, List, length, take, arith, refl, ap, sym, subst}
use Rattle.std.proofs.lemmas.Result.{err_from_is_err_and}
use Rattle.std.proofs.lemmas.List.{take_all, length-map}
use Rattle.text_edit.specs.TextPiece.{TextPiece, as_piece, pieces, AreApart}
use Rattle.text_edit.specs.OrderRefusal.{nothing, piece_before}
use Rattle.text_edit.proofs.Pieces.{piece-is, pieces-inside, take-piece}
use Rattle.text_edit.proofs.Ordered.{AreApart-push, AreApart-further, refuses-at, piece_before-next}
use Rattle.text_edit.proofs.text_edits.ordered.Goals as goal

pub loop-index-init : goal.loop-index-init
loop-index-init c = record { apart = omega arith; within = omega arith; start_is = refl; end_is = refl }

pub returns-in_err-follows-clause-refused : goal.returns-in_err-follows-clause-refused
returns-in_err-follows-clause-refused c =
    let p = err_from_is_err_and c.from_residual.result c.from_residual.ensures.1 in
    let es = c.args.edits.now in
    let x = c.index-edits-index.result in
    let inside = c.loop-index-test.true in
    let i = c.loop-index.index in
    let v = c.loop-index.invariant in
    rw (p.1, p.2) (refuses-at c.args.len (pieces es) i (piece_before (pieces es) i) (as_piece x) (pieces-inside es i x inside c.index-edits-index.is)
    (AreApart-further 0 (take i (pieces es)) c.loop-index.end c.args.len v.apart v.within) refl (piece-is es i x inside c.index-edits-index.is nothing) _
    (rw (v.start_is, v.end_is) c.in_err-follows.ensures.refused))

pub loop-index-preserved : goal.loop-index-preserved
loop-index-preserved c =
    let es = c.args.edits.now in
    let x = c.index-edits-index.result in
    let i = c.loop-index.index in
    let v = c.loop-index.invariant in
    let ok = c.in_ok-follows.ensures.ok in
    let is = c.index-edits-index.is in
    let inside = c.loop-index-test.true in
    let before : piece_before (pieces es) (i + 1) ≡ as_piece x = piece_before-next (pieces es) i ∙ piece-is es i x inside is nothing in
    record {
      apart = (let P : List TextPiece → Type 0 = λ t. AreApart 0 t x.end in subst P (sym (take-piece es i x inside is)) (AreApart-push 0 (take i (pieces es)) c.loop-index.end (as_piece x) v.apart ok.1 ok.2));
      within = ok.3;
      start_is = ap (λ e. e.first) before;
      end_is = ap (λ e. e.stop) before;
    }

pub returns-clause-ok : goal.returns-clause-ok
returns-clause-ok c =
    let v = c.loop-index.invariant in
    let es = pieces c.args.edits.now in
    let n : length es ≤ c.loop-index.index = rw (length-map c.args.edits.now as_piece) c.loop-index-test.false in
    (let P : List TextPiece → Type 0 = λ t. AreApart 0 t c.args.len in subst P (take_all c.loop-index.index es n) (AreApart-further 0 (take c.loop-index.index es) c.loop-index.end c.args.len v.apart v.within))
