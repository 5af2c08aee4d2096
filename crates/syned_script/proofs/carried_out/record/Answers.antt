-- What the line of this turn gives, after those before it were carried out.
use Rattle.std.proofs.Common.{ℕ, ◌+◌, List, [], Ok, Err, true, false, get_or, length, ◌≤◌, sym, ◌∙◌, ap, subst, arith}
use denote.Ref.{Bor}
use Rattle.syned_script.specs.Script.{EndsSo, BadLine, StopsSo}
use Rattle.syned_script.specs.inner.SessionState.{state_of}
use Rattle.syned_script.specs.inner.Run.{texts_in, TextGives}
use Rattle.syned_script.proofs.TextLines.{item-text, is-text, texts-length}
use Rattle.syned_script.proofs.LinesCarried.{reached-at, next-carried, stops-at, no-finish}
use Rattle.syned_script.proofs.carried_out.record.Goals as goal

abbrev item : List (Bor (List ℕ)) → ℕ → List ℕ
item lines i = (get_or lines i (record { ref_ptr = (0, 0); now = [] })).now

pub returns-in-Ok-true-clause-reached : goal.returns-in-Ok-true-clause-reached
returns-in-Ok-true-clause-reached c =
    let lines = c.args.lines.now in
    let i = c.loop-index.index in
    let s = state_of c.loop-index.session in
    let t = state_of c.carry_out_line.new.session in
    let gives : TextGives s (item lines i) (Ok true) t = subst (λ r. TextGives s (item lines i) r t) (c.in-Ok-true.is ∙ ap Ok c.in-Ok-true.field-0-test) c.carry_out_line.ensures in
    reached-at c.args.session.now.language.dialect (texts_in lines) i (item lines i) s t (is-text lines i c.loop-index-test.true) (item-text lines i _ c.loop-index-test.true) c.loop-index.invariant gives.0 gives.1

pub loop-index-preserved : goal.loop-index-preserved
loop-index-preserved c =
    let lines = c.args.lines.now in
    let i = c.loop-index.index in
    let s = state_of c.loop-index.session in
    let t = state_of c.carry_out_line.new.session in
    let gives : TextGives s (item lines i) (Ok false) t = subst (λ r. TextGives s (item lines i) r t) (c.in-Ok-false.is ∙ ap Ok c.in-Ok-false.field-0-test) c.carry_out_line.ensures in
    next-carried c.args.session.now.language.dialect (texts_in lines) i (item lines i) s t (is-text lines i c.loop-index-test.true) (item-text lines i _ c.loop-index-test.true) c.loop-index.invariant gives

pub returns-in-Err-clause-err : goal.returns-in-Err-clause-err
returns-in-Err-clause-err c =
    let lines = c.args.lines.now in
    let i = c.loop-index.index in
    let s = state_of c.loop-index.session in
    let t = state_of c.carry_out_line.new.session in
    let gives : TextGives s (item lines i) (Err c.in-Err.stop) t = subst (λ r. TextGives s (item lines i) r t) c.in-Err.is c.carry_out_line.ensures in
    subst (λ r. StopsSo c.args.session.now.language.dialect (texts_in lines) r.line r.stop) (sym c.at.ensures) (stops-at c.args.session.now.language.dialect (texts_in lines) i (item lines i) s c.in-Err.stop (is-text lines i c.loop-index-test.true) (item-text lines i _ c.loop-index-test.true) c.loop-index.invariant gives)

pub returns-clause-err : goal.returns-clause-err
returns-clause-err c =
    let lines = c.args.lines.now in
    let texts = texts_in lines in
    let i = c.loop-index.index in
    let past : length texts ≤ i = let l = texts-length lines in omega (arith, c.loop-index-test.false) in
    let ends = subst (λ n. EndsSo c.args.session.now.language.dialect texts (BadLine (n + 1))) (texts-length lines) (no-finish c.args.session.now.language.dialect texts i (state_of c.loop-index.session) past c.loop-index.invariant) in
    subst (λ r. StopsSo c.args.session.now.language.dialect texts r.line r.stop) (sym c.at-2.ensures) (subst (λ x. StopsSo c.args.session.now.language.dialect texts (length lines + 1) x) (sym c.bad.ensures) ends)
