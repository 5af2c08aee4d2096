use Rattle.std.proofs.Common.{◌≡◌, ◌-◌, ◌<◌, ℕ, suc, Some, take, drop, length, ap, ap₂, sym, subst, ◌∙◌, arith}
use Rattle.std.specs.Prelude.{slice_get}
use Rattle.cst_core.specs.Tree.{text}
use Rattle.cst_core.specs.Element.{subtree}
use Rattle.edit_chain.specs.Chain.{IsStep, AreSteps, root_after}
use Rattle.edit_chain.specs.ChainText.{DoAll, TextRefuses}
use Rattle.edit_chain.specs.inner.StepText.{Precedes}
use Rattle.edit_chain.proofs.Steps.{steps-of, roots-of, step-at, item-at}
use Rattle.edit_chain.proofs.TextOfSteps.{err-gives, refused-at, last-at, later-at, all-from}
use Rattle.edit_chain.proofs.chain.EditChain.text_edits.Goals as goal

pub fitting_edits-requires-clause-planned : goal.fitting_edits-requires-clause-planned
fitting_edits-requires-clause-planned c =
    let root = c.first_root-root.result.now in
    let steps = c.steps-steps.result.now in
    let before = c.in-Some.before.now in
    let last = c.in-Some.last.now in
    let are = steps-of c.args.self.now root steps c.first_root-root.ensures c.steps-steps.ensures.steps c.steps-steps.ensures.is_chain in
    (step-at root steps (length before) last are (last-at root steps before last c.in-Some.ensures.cases.0)).planned

pub fitting_edits-requires-clause-makes : goal.fitting_edits-requires-clause-makes
fitting_edits-requires-clause-makes c =
    let root = c.first_root-root.result.now in
    let steps = c.steps-steps.result.now in
    let before = c.in-Some.before.now in
    let last = c.in-Some.last.now in
    let are = steps-of c.args.self.now root steps c.first_root-root.ensures c.steps-steps.ensures.steps c.steps-steps.ensures.is_chain in
    (step-at root steps (length before) last are (last-at root steps before last c.in-Some.ensures.cases.0)).makes

pub fitting_edits-requires-clause-short : goal.fitting_edits-requires-clause-short
fitting_edits-requires-clause-short c =
    let root = c.first_root-root.result.now in
    let steps = c.steps-steps.result.now in
    let before = c.in-Some.before.now in
    let last = c.in-Some.last.now in
    let are = steps-of c.args.self.now root steps c.first_root-root.ensures c.steps-steps.ensures.steps c.steps-steps.ensures.is_chain in
    (step-at root steps (length before) last are (last-at root steps before last c.in-Some.ensures.cases.0)).short

pub returns-in_err-all-clause-refused : goal.returns-in_err-all-clause-refused
returns-in_err-all-clause-refused c =
    let own = c.args.self.now in
    let root = c.first_root-root.result.now in
    let steps = c.steps-steps.result.now in
    let before = c.in-Some.before.now in
    let last = c.in-Some.last.now in
    let n = length before in
    let at = ap (λ ss. slice_get ss n) (sym c.steps-steps.ensures.steps) ∙ last-at root steps before last c.in-Some.ensures.cases.0 in
    let old = c.deref.ensures ∙ c.in_ok-text.ensures ∙ ap (λ r. text (subtree r)) (c.root_before.ensures ∙ roots-of own root steps n c.first_root-root.ensures c.steps-steps.ensures.steps) in
    let error = c.in_err-all.field-0.0 in
    err-gives (TextRefuses own) c.from_residual-in_err-all.result error c.from_residual-in_err-all.ensures.1 (refused-at own n last c.deref.result.now error at old c.in_err-all.ensures.refused)

pub with_step-requires-clause-step : goal.with_step-requires-clause-step
with_step-requires-clause-step c =
    let root = c.first_root-root.result.now in
    let steps = c.steps-steps.result.now in
    let i = c.loop-index.index - 1 in
    let s = c.index-steps-index.result in
    let are = steps-of c.args.self.now root steps c.first_root-root.ensures c.steps-steps.ensures.steps c.steps-steps.ensures.is_chain in
    let within : i < length steps = omega (arith, c.loop-index.invariant.within) in
    subst (λ r. IsStep r s) (sym c.root_before-in-loop-index.ensures) (step-at root steps i s are (item-at steps i s within c.index-steps-index.is))

pub with_step-requires-clause-later : goal.with_step-requires-clause-later
with_step-requires-clause-later c =
    let root = c.first_root-root.result.now in
    let steps = c.steps-steps.result.now in
    let i = c.loop-index.index - 1 in
    let s = c.index-steps-index.result in
    let within : i < length steps = omega (arith, c.loop-index.invariant.within) in
    let next : c.loop-index.index ≡ suc i = omega (arith, c.loop-index-test.true) in
    let does = subst (λ n. DoAll (root_after root (take n steps)) (drop n steps) c.loop-index.all) next c.loop-index.invariant.does in
    (later-at root steps i s c.loop-index.all (item-at steps i s within c.index-steps-index.is) does).fit

pub returns-in_err-all-2-clause-refused : goal.returns-in_err-all-2-clause-refused
returns-in_err-all-2-clause-refused c =
    let own = c.args.self.now in
    let root = c.first_root-root.result.now in
    let steps = c.steps-steps.result.now in
    let i = c.loop-index.index - 1 in
    let s = c.index-steps-index.result in
    let within : i < length steps = omega (arith, c.loop-index.invariant.within) in
    let at = ap (λ ss. slice_get ss i) (sym c.steps-steps.ensures.steps) ∙ item-at steps i s within c.index-steps-index.is in
    let old = ap (λ r. text (subtree r)) (c.root_before-in-loop-index.ensures ∙ roots-of own root steps i c.first_root-root.ensures c.steps-steps.ensures.steps) in
    let error = c.in_err-all-2.field-0.0 in
    err-gives (TextRefuses own) c.from_residual-in_err-all-2.result error c.from_residual-in_err-all-2.ensures.1 (refused-at own i s (text (subtree c.root_before-in-loop-index.result.now)) error at old c.in_err-all-2.ensures.refused)

pub loop-index-preserved : goal.loop-index-preserved
loop-index-preserved c =
    let root = c.first_root-root.result.now in
    let steps = c.steps-steps.result.now in
    let i = c.loop-index.index - 1 in
    let s = c.index-steps-index.result in
    let within : i < length steps = omega (arith, c.loop-index.invariant.within) in
    let next : c.loop-index.index ≡ suc i = omega (arith, c.loop-index-test.true) in
    let behind : suc i < length steps = omega (arith, c.loop-index.invariant.within, c.loop-index-test.true) in
    let does = subst (λ n. DoAll (root_after root (take n steps)) (drop n steps) c.loop-index.all) next c.loop-index.invariant.does in
    let precedes = subst (λ r. Precedes (text (subtree r)) s c.loop-index.all c.in_ok-all-2.all) c.root_before-in-loop-index.ensures c.in_ok-all-2.ensures.all in
    record {
      within = within;
      does = all-from root steps i s c.loop-index.all c.in_ok-all-2.all (item-at steps i s within c.index-steps-index.is) behind precedes does;
    }
