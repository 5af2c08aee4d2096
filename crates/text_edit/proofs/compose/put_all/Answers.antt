use Rattle.std.proofs.Common.{◌+◌, ◌≤◌, ◌^◌, ℕ, List, length, drop, subst}
use Rattle.std.proofs.lemmas.List.{length-map, drop_all}
use Rattle.text_edit.specs.TextPiece.{TextPiece, as_piece, pieces, AreApart}
use Rattle.text_edit.specs.inner.Composing.{Puts, PutsSome}
use Rattle.text_edit.proofs.Pieces.{drop-piece}
use Rattle.text_edit.proofs.Ordered.{AreApart-further}
use Rattle.text_edit.proofs.Carrying.{PutsSome-start, PutsSome-put, PutsSome-all}
use Rattle.text_edit.proofs.compose.put_all.Goals as goal

pub loop-edit-init : goal.loop-edit-init
loop-edit-init c = PutsSome-start (pieces c.args.out.now.items) c.args.at (pieces c.args.edits.now) c.requires.before c.requires.behind

pub put-requires-clause-apart : goal.put-requires-clause-apart
put-requires-clause-apart c =
    let v = c.loop-edit.invariant in
    let A : List TextPiece → Type 0 = λ t. AreApart v.0 t (2 ^ 64) in
    let behind = subst A (drop-piece c.args.edits.now c.loop-edit.edit-index c.edit-item.result c.loop-edit-test.true c.edit-item.is) v.2 in
    AreApart-further 0 (pieces c.loop-edit.out.items) v.0 c.edit-item.result.start v.1 behind.0

pub put-requires-clause-ends : goal.put-requires-clause-ends
put-requires-clause-ends c =
    let v = c.loop-edit.invariant in
    let A : List TextPiece → Type 0 = λ t. AreApart v.0 t (2 ^ 64) in
    (subst A (drop-piece c.args.edits.now c.loop-edit.edit-index c.edit-item.result c.loop-edit-test.true c.edit-item.is) v.2).1

pub loop-edit-preserved : goal.loop-edit-preserved
loop-edit-preserved c =
    let es = c.args.edits.now in
    let x = c.edit-item.result in
    let i = c.loop-edit.edit-index in
    let old = pieces c.args.out.now.items in
    let out = pieces c.loop-edit.out.items in
    let new = pieces c.put.new.out.items in
    let rest = drop (i + 1) (pieces es) in
    let here = drop-piece es i x c.loop-edit-test.true c.edit-item.is in
    let P : List TextPiece → Type 0 = λ t. PutsSome old out c.args.at (pieces es) t in
    let v = subst P here c.loop-edit.invariant in
    let Q : List ℕ → Type 0 = λ t. Puts out new x.start x.end t in
    PutsSome-put old out new c.args.at v.0 (pieces es) rest (as_piece x) v.1 v.2 v.3 (subst Q c.deref.ensures c.in_ok-put.ensures)

pub returns : goal.returns
returns c =
    let es = pieces c.args.edits.now in
    let n : length es ≤ c.loop-edit.edit-index = rw (length-map c.args.edits.now as_piece) c.loop-edit-test.false in
    let old = pieces c.args.out.now.items in
    let out = pieces c.loop-edit.out.items in
    let P : List TextPiece → Type 0 = λ t. PutsSome old out c.args.at es t in
    PutsSome-all old out c.args.at es (subst P (drop_all c.loop-edit.edit-index es n) c.loop-edit.invariant)
