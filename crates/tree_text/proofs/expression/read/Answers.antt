use Rattle.std.proofs.Common.{◌≤◌, length, refl, subst, rules}
use Rattle.std.specs.Prelude.{encode_utf8}
use Rattle.std.proofs.lemmas.Result.{IfOk-weaker, IfErr-weaker}
use Rattle.cst_core.specs.Green.{branch_tree}
use Rattle.tree_text.specs.Depth.{depth}
use Rattle.tree_text.specs.Refusals.{ReadRefusesFor}
use Rattle.tree_text.specs.inner.Gap.{is_gap}
use Rattle.tree_text.specs.inner.Reading.{reading}
use Rattle.tree_text.proofs.Refusing.{passed-on}
use Rattle.tree_text.proofs.WholeTexts.{nothing-read, one-more-read, more-read, stuck-there, refused-run, refused-end, end-on, end-back}
use Rattle.tree_text.proofs.expression.read.Goals as goal

pub loop-c-init : goal.loop-c-init
loop-c-init c = record {
  is_text = search rules;
  read = nothing-read c.args.names.now c.args.gaps c.args.limit c.args.expression.now c.args.expression.now (reading c.new-reader.result) refl c.new-reader.ensures.first c.new-reader.ensures.reading;
}

pub step-requires : goal.step-requires
step-requires c = c.loop-c.invariant.read.sound

pub run-requires : goal.run-requires
run-requires c = c.in_ok-step.ensures.ok.sound

pub loop-c-preserved : goal.loop-c-preserved
loop-c-preserved c =
    let stepped = one-more-read c.args.names.now c.args.gaps c.args.limit c.args.expression.now (encode_utf8 c.in-Some.c) c.loop-c.rest.now c.in-Some.behind.now (reading c.loop-c.reader) (reading c.step.new.self) c.in-Some.ensures.some c.loop-c.invariant.read c.in_ok-step.ensures.ok in
    record {
      is_text = search rules;
      read = more-read c.args.names.now c.args.gaps c.args.limit c.args.expression.now c.in-Some.behind.now c.in_ok-rest.rest.now (reading c.step.new.self) (reading c.run.new.self) stepped c.in_ok-rest.ensures.ok;
    }

pub returns-in_err-step-clause-refused : goal.returns-in_err-step-clause-refused
returns-in_err-step-clause-refused c =
    passed-on c.from_residual.result c.in_err-step.field-0.0 (ReadRefusesFor c.args.limit c.args.names.now (is_gap c.args.gaps) c.args.expression.now) c.from_residual.ensures.1 (stuck-there c.args.names.now c.args.gaps c.args.limit c.args.expression.now c.loop-c.rest.now (reading c.loop-c.reader) c.loop-c.invariant.read c.saturating_sub.result c.in-Some.c c.in-Some.behind.now c.in_err-step.field-0.0 c.saturating_sub.ensures c.in-Some.ensures.some c.in_err-step.ensures.err)

pub returns-in_err-rest-clause-refused : goal.returns-in_err-rest-clause-refused
returns-in_err-rest-clause-refused c =
    passed-on c.from_residual-in_err-rest.result c.in_err-rest.field-0.0 (ReadRefusesFor c.args.limit c.args.names.now (is_gap c.args.gaps) c.args.expression.now) c.from_residual-in_err-rest.ensures.1 (refused-run c.args.names.now c.args.gaps c.args.limit c.args.expression.now c.in_err-rest.field-0.0 c.in_err-rest.ensures.err)

pub finish-requires : goal.finish-requires
finish-requires c = c.loop-c.invariant.read.sound

pub returns-clause-limited : goal.returns-clause-limited
returns-clause-limited c =
    IfOk-weaker c.finish.result _ _ (λ n within. subst (λ l. depth (branch_tree n) ≤ l) c.loop-c.invariant.read.limited within) c.finish.ensures.limited

pub returns-clause-found : goal.returns-clause-found
returns-clause-found c =
    let none = c.in_default.ensures.none refl in
    IfOk-weaker c.finish.result _ _ (λ n left. end-back c.args.names.now c.args.gaps c.args.limit c.args.expression.now c.loop-c.rest.now (reading c.loop-c.reader) c.loop-c.invariant.read (branch_tree n) none left) c.finish.ensures.found

pub returns-clause-only : goal.returns-clause-only
returns-clause-only c =
    let none = c.in_default.ensures.none refl in
    λ t expression. c.finish.ensures.only t (end-on c.args.names.now c.args.gaps c.args.limit c.args.expression.now c.loop-c.rest.now (reading c.loop-c.reader) c.loop-c.invariant.read t none expression)

pub returns-clause-refused : goal.returns-clause-refused
returns-clause-refused c =
    let none = c.in_default.ensures.none refl in
    IfErr-weaker c.finish.result _ _ (λ e h. refused-end c.args.names.now c.args.gaps c.args.limit c.args.expression.now c.loop-c.rest.now (reading c.loop-c.reader) c.loop-c.invariant.read (length c.args.expression.now) e refl none h) c.finish.ensures.err
