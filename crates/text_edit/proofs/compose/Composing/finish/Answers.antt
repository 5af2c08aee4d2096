use Rattle.text_edit.specs.TextPiece.{pieces}
use Rattle.text_edit.proofs.Carrying.{Finishes-all}
use Rattle.text_edit.proofs.compose.Composing.finish.Goals as goal

pub returns : goal.returns
returns c =
    let p = c.args.self in
    Finishes-all p.left.now p.at (pieces p.rest.now) (pieces p.out.items) (pieces c.put.new.out.items) (pieces c.put_all.new.out.items) c.in_ok-put.ensures c.in_ok-put_all.ensures
