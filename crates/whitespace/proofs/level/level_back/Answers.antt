use Rattle.std.proofs.Common.{sym, ◌∙◌, subst, ap}
use Rattle.whitespace.specs.Level.{level_after}
use Rattle.whitespace.specs.LevelCalls.{ReadsLevel}
use Rattle.whitespace.proofs.TokensBefore.{OneBack, level_here, back_one, zero_first, zero_read}
use Rattle.whitespace.proofs.level.level_back.Goals as goal

pub returns-in_default : goal.returns-in_default
returns-in_default c = zero_read _ c.zero.result (zero_first _ c.back.current _ _ c.back.invariant c.breaks_line.ensures c.back-test.true c.in_ok-before.ensures.ok c.in_default.is) c.zero.ensures

abbrev back : (c : goal.After-drop-current-in-back) → OneBack c.back.current c.in-Some.before
back c = back_one c.back.current c.in-Some.before _ _ c.breaks_line.ensures c.back-test.true c.in_ok-before.ensures.ok c.in-Some.is

pub back-smaller : goal.back-smaller
back-smaller c = (back c).fewer

pub back-preserved : goal.back-preserved
back-preserved c = c.back.invariant ∙ (back c).same

pub returns : goal.returns
returns c =
    subst (λ n. ReadsLevel n c.level_after.result)
    (ap level_after c.text.ensures ∙ sym (level_here c.back.current (sym c.breaks_line.ensures ∙ c.back-test.false)) ∙ sym c.back.invariant)
    c.level_after.ensures.level
