use Rattle.std.proofs.Common.{refl, sym, ◌∙◌, subst, ap}
use Rattle.whitespace.specs.Level.{level_after}
use Rattle.whitespace.specs.LevelCalls.{ReadsLevel}
use Rattle.whitespace.proofs.TokensBefore.{level_here, back_one, zero_first, zero_read}
use Rattle.whitespace.proofs.level.IndentLevel.from_token.Goals as goal

pub returns-then-breaks_line-clause-level : goal.returns-then-breaks_line-clause-level
returns-then-breaks_line-clause-level c =
    subst (λ n. ReadsLevel n c.level_after.result) (ap level_after c.text.ensures ∙ sym (level_here c.args.token.now (sym c.breaks_line.ensures ∙ c.if-breaks_line.true))) c.level_after.ensures.level

pub returns-in-Some-clause-level : goal.returns-in-Some-clause-level
returns-in-Some-clause-level c =
    subst (λ n. ReadsLevel n c.level_back.result) (sym (back_one c.args.token.now c.in-Some.before _ _ c.breaks_line.ensures c.if-breaks_line.false c.in_ok-before.ensures.ok c.in-Some.is).same) c.level_back.ensures

pub returns-in-None-clause-level : goal.returns-in-None-clause-level
returns-in-None-clause-level c = zero_read _ c.zero.result (zero_first _ c.args.token.now _ _ refl c.breaks_line.ensures c.if-breaks_line.false c.in_ok-before.ensures.ok c.in-None.is) c.zero.ensures
