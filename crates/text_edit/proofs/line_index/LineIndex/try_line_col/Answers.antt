use Rattle.std.proofs.Common.{◌-◌, arith}
use Rattle.std.proofs.lemmas.Grind.{common_steps}
use Rattle.text_edit.specs.Lines.{IsAt}
use Rattle.text_edit.specs.declared.line_index.LineCol.{LineCol}
use Rattle.text_edit.proofs.LinePlaces.{IsAt-only}
use Rattle.text_edit.proofs.line_index.LineIndex.try_line_col.Goals as goal

pub returns-clause-only : goal.returns-clause-only
returns-clause-only c q at =
    let p : LineCol = record { line = c.line_at-line.result; col = c.args.offset - c.index.result.now } in
    let here : IsAt c.args.self.now p c.args.offset = grind (arith, common_steps) in
    IsAt-only c.args.self.now p q c.args.offset here at
