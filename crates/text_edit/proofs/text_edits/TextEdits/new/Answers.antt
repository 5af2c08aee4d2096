use Rattle.std.proofs.Common.{◌^◌, arith}
use Rattle.std.proofs.lemmas.Result.{err_from_is_err_and}
use Rattle.text_edit.specs.TextPiece.{pieces}
use Rattle.text_edit.proofs.Ordered.{AreApart-further, refuses-broken}
use Rattle.text_edit.proofs.text_edits.TextEdits.new.Goals as goal

pub invariant_of-result : goal.invariant_of-result
invariant_of-result c = AreApart-further 0 (pieces c.args.edits.items) c.args.len (2 ^ 64) (rw c.deref.ensures.value at c.in_ok-ordered.ensures.ok) (omega arith)

pub returns-in_err-ordered-clause-err : goal.returns-in_err-ordered-clause-err
returns-in_err-ordered-clause-err c =
    let p = err_from_is_err_and c.from_residual.result c.from_residual.ensures.1 in
    rw p.1 (refuses-broken c.args.len (pieces c.args.edits.items) _ (rw c.deref.ensures.value at c.in_err-ordered.ensures.refused))
