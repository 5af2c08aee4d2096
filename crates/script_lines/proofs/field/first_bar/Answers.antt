use Rattle.std.proofs.Common.{sym, ◌∙◌}
use Rattle.std.proofs.lemmas.Slice.Eq.{bytes_eq-Decides}
use Rattle.script_lines.proofs.RoundBar.{bar-here}
use Rattle.script_lines.proofs.field.first_bar.Goals as goal

pub returns-then-eq-clause-first : goal.returns-then-eq-clause-first
returns-then-eq-clause-first c = bar-here c.args.fields.now c.loop-index.index _ c.loop-index-test.true c.loop-index.invariant ((bytes_eq-Decides _ _).0 (sym c.eq.ensures ∙ c.if-eq.true))
