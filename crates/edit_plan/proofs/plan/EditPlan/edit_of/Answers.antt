use Rattle.std.proofs.Common.{◌≡◌, ◌<◌, [], map, Err, sym, ◌∙◌, ap, subst}
use Rattle.cst_core.specs.Green.{branch_tree, length_limit}
use Rattle.cst_core.specs.Tree.{text_length}
use Rattle.cst_core.specs.TreeIds.{IsSpent}
use Rattle.edit_change.specs.Topmost.{paths_of}
use Rattle.edit_plan.specs.Plan.{RunRefuses}
use Rattle.edit_plan.specs.inner.PlanRun.{IsOfRoot}
use Rattle.edit_plan.specs.declared.edit_error.EditError.TheVariants.{Memory}
use Rattle.edit_plan.specs.Engine.{annotated_path}
use Rattle.edit_plan.specs.EditRefusal.{of_tree}
use Rattle.edit_plan.proofs.PromisesOfRuns.{makes, refuses, of-root, err-gives, ok-no-err, drawn-next}
use Rattle.edit_plan.proofs.PathsOfResults.{changed-there, annotated-there}
use Rattle.edit_plan.proofs.plan.EditPlan.edit_of.Goals as goal

pub at_paths-requires : goal.at_paths-requires
at_paths-requires c =
    let rewritten = c.args.rewritten in
    annotated-there c.args.self.now (branch_tree rewritten.green) (paths_of rewritten.changed.items) (map annotated_path rewritten.annotated.items) c.requires.rewritten c.in_ok-new_root.new_root (ap (λ x. x.root) c.in_ok-new_root.ensures.ok)

pub returns-in_err-new_root-clause-refused : goal.returns-in_err-new_root-clause-refused
returns-in_err-new_root-clause-refused c =
    let rewritten = c.args.rewritten in
    let own : c.trial_source-drawn.result ≡ c.args.ids.now = c.trial_source-drawn.ensures in
    let r = refuses c.args.self.now rewritten.green (paths_of rewritten.changed.items) (map annotated_path rewritten.annotated.items) c.requires.rewritten c.args.ids.now c.in_err-new_root.field-0.0 c.requires.short (λ e. c.in_err-new_root.ensures.too_long.0 (ap Err e)) (λ e. let s = c.in_err-new_root.ensures.no_number.0 (ap Err e) in (sym own ∙ s.0, s.1)) in
    err-gives (RunRefuses c.args.self.now c.args.ids.now) c.from_residual.result (of_tree c.in_err-new_root.field-0.0) c.from_residual.ensures.1 r

pub returns-in_err-new_root-clause-fits : goal.returns-in_err-new_root-clause-fits
returns-in_err-new_root-clause-fits c =
    let error = c.in_err-new_root.field-0.0 in
    err-gives IsOfRoot c.from_residual.result (of_tree error) c.from_residual.ensures.1 (of-root error (text_length (branch_tree c.args.rewritten.green)) c.requires.short (λ e. c.in_err-new_root.ensures.too_long.0 (ap Err e)))

pub returns-clause-ok : goal.returns-clause-ok
returns-clause-ok c =
    let rewritten = c.args.rewritten in
    let root = c.in_ok-new_root.new_root in
    let own : c.trial_source-drawn.result ≡ c.args.ids.now = c.trial_source-drawn.ensures in
    let there = changed-there c.args.self.now (branch_tree rewritten.green) (paths_of rewritten.changed.items) (map annotated_path rewritten.annotated.items) c.requires.rewritten root (ap (λ x. x.root) c.in_ok-new_root.ensures.ok) in
    makes c.args.self.now rewritten.green (paths_of rewritten.changed.items) (map annotated_path rewritten.annotated.items) c.requires.rewritten c.args.ids.now _ (c.in_ok-old_root.ensures ∙ ap (λ x. x.root) c.self.view_is) (c.in_ok-new_root.ensures.ok ∙ ap (λ n. record { number = n; root = branch_tree rewritten.green; path = [] }) own) (c.in_ok-changed.ensures there) c.in_ok-annotated.ensures

pub returns-clause-short : goal.returns-clause-short
returns-clause-short c = subst (λ t. text_length t < length_limit) (sym (ap (λ x. x.root) c.in_ok-new_root.ensures.ok)) c.requires.short

pub returns-in_err-changed-clause-refused : goal.returns-in_err-changed-clause-refused
returns-in_err-changed-clause-refused c =
    err-gives (RunRefuses c.args.self.now c.args.ids.now) c.from_residual-in_err-changed.result Memory c.from_residual-in_err-changed.ensures.1 tt

pub returns-in_err-changed-clause-fits : goal.returns-in_err-changed-clause-fits
returns-in_err-changed-clause-fits c =
    err-gives IsOfRoot c.from_residual-in_err-changed.result Memory c.from_residual-in_err-changed.ensures.1 tt

pub returns-in_err-annotated-clause-refused : goal.returns-in_err-annotated-clause-refused
returns-in_err-annotated-clause-refused c =
    err-gives (RunRefuses c.args.self.now c.args.ids.now) c.from_residual-in_err-annotated.result Memory c.from_residual-in_err-annotated.ensures.1 tt

pub returns-in_err-annotated-clause-fits : goal.returns-in_err-annotated-clause-fits
returns-in_err-annotated-clause-fits c =
    err-gives IsOfRoot c.from_residual-in_err-annotated.result Memory c.from_residual-in_err-annotated.ensures.1 tt

pub returns-in_err-old_root-clause-refused : goal.returns-in_err-old_root-clause-refused
returns-in_err-old_root-clause-refused c =
    err-gives (RunRefuses c.args.self.now c.args.ids.now) c.from_residual-in_err-old_root.result Memory c.from_residual-in_err-old_root.ensures.1 tt

pub returns-in_err-old_root-clause-fits : goal.returns-in_err-old_root-clause-fits
returns-in_err-old_root-clause-fits c =
    err-gives IsOfRoot c.from_residual-in_err-old_root.result Memory c.from_residual-in_err-old_root.ensures.1 tt

pub invariant_of-result : goal.invariant_of-result
invariant_of-result c =
    let ok = c.in_ok-new_root.ensures.ok in
    record {
      is_root = ap (λ x. x.path) ok;
      fits = subst (λ t. text_length t < length_limit) (sym (ap (λ x. x.root) ok)) c.requires.short;
    }

pub returns-clause-drawn : goal.returns-clause-drawn
returns-clause-drawn c =
    drawn-next c.next.result c.args.ids.now c.next.new.self c.next.ensures.spent.0 (λ (s : IsSpent c.args.ids.now). ok-no-err _ _ (c.in_ok-new_root.ensures.no_number.1 (c.trial_source-drawn.ensures ∙ s, c.requires.short))) c.next.ensures.given
