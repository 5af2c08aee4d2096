use Rattle.std.proofs.Common.{sym, ◌∙◌}
use Rattle.whitespace.proofs.Shifted.{token_kept}
use Rattle.whitespace.proofs.shift.shifted_token.Goals as goal

pub returns-then-not-breaks_line-clause-ok : goal.returns-then-not-breaks_line-clause-ok
returns-then-not-breaks_line-clause-ok c = token_kept c.args.shift c.args.token.now.kind c.args.token.now.text (sym c.breaks_line.ensures ∙ c.if-not-breaks_line.true)
