use Rattle.std.proofs.Common.{◌≤◌, List, length, take, sym, subst}
use Rattle.std.proofs.lemmas.Result.{err_from_is_err_and}
use Rattle.std.proofs.lemmas.List.{take_all, length-map}
use Rattle.std.proofs.lemmas.List.Elements.{All-nil, All-push}
use Rattle.text_edit.specs.TextPiece.{TextPiece, as_piece, pieces, FitsText, FitText}
use Rattle.text_edit.specs.OrderRefusal.{nothing}
use Rattle.text_edit.proofs.Pieces.{piece-is, pieces-inside, take-piece}
use Rattle.text_edit.proofs.Fitting.{refuses-unfit}
use Rattle.text_edit.proofs.apply.tested.Goals as goal

pub loop-index-init : goal.loop-index-init
loop-index-init c = All-nil (FitsText c.args.text.now)

pub returns-in_err-fits-clause-refused : goal.returns-in_err-fits-clause-refused
returns-in_err-fits-clause-refused c =
    let p = err_from_is_err_and c.from_residual.result c.from_residual.ensures.1 in
    let es = c.args.edits.now in
    let x = c.index-edits-index.result in
    let is = c.index-edits-index.is in
    let inside = c.loop-index-test.true in
    let i = c.loop-index.index in
    rw (p.1, p.2) (refuses-unfit c.args.text.now (pieces es) i (as_piece x) (pieces-inside es i x inside is) c.loop-index.invariant (piece-is es i x inside is nothing) _ c.in_err-fits.ensures.refused)

pub loop-index-preserved : goal.loop-index-preserved
loop-index-preserved c =
    let es = c.args.edits.now in
    let x = c.index-edits-index.result in
    let i = c.loop-index.index in
    (let P : List TextPiece → Type 0 = FitText c.args.text.now in subst P (sym (take-piece es i x c.loop-index-test.true c.index-edits-index.is)) (All-push (FitsText c.args.text.now) (take i (pieces es)) (as_piece x) c.loop-index.invariant c.in_ok-fits.ensures.ok))

pub returns-clause-ok : goal.returns-clause-ok
returns-clause-ok c =
    let es = pieces c.args.edits.now in
    let n : length es ≤ c.loop-index.index = rw (length-map c.args.edits.now as_piece) c.loop-index-test.false in
    (let P : List TextPiece → Type 0 = FitText c.args.text.now in subst P (take_all c.loop-index.index es n) c.loop-index.invariant)
