use Rattle.std.proofs.Common.{◌≡◌, true, sym, ◌∙◌, subst}
use Rattle.std.specs.List.{list_all}
use Rattle.script_lines.specs.Line.{is_blank}
use Rattle.syned_script.specs.inner.SessionState.{state_of}
use Rattle.syned_script.proofs.TextLines.{rest-texts}
use Rattle.syned_script.proofs.LinesCarried.{bad-after}
use Rattle.syned_script.proofs.carried_out.test_end.Goals as goal

pub returns-in-None-clause-good : goal.returns-in-None-clause-good
returns-in-None-clause-good c =
    (sym c.is_editing.ensures ∙ c.if-not-is_editing.false, subst (λ l. list_all is_blank l ≡ true) (rest-texts c.args.number c.args.lines.now) c.in-None.ensures.none)

pub returns-in-Some-clause-err : goal.returns-in-Some-clause-err
returns-in-Some-clause-err c =
    bad-after (state_of c.args.session.now) c.args.lines.now c.args.number c.in-Some.index c.at-in-Some.result c.bad-in-Some.result _ c.at-in-Some.ensures c.bad-in-Some.ensures
    (sym c.is_editing.ensures ∙ c.if-not-is_editing.false) c.in-Some.ensures.some c.in-Some.ensures.first
