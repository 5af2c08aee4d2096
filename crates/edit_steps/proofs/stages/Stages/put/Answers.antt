use Rattle.std.proofs.Common.{◌≡◌, ◌<◌, ◌^◌, ◌∷◌, [], false, List, Option, Some, Result, Ok, Err, OnOk, MatchBool, IsSomeAnd, refl, sym, subst, ◌∙◌, arith}
use Rattle.std.proofs.lemmas.Result.{on_ok_weaker, on_err_weaker}
use Rattle.green_tree.specs.Path.{has_path}
use Rattle.green_tree.specs.Tree.{SyntaxTree}
use Rattle.green_tree.specs.Green.{Branch, branch_tree}
use Rattle.edit_change.specs.Change.{targets}
use Rattle.edit_change.specs.declared.change.Change.{Change}
use Rattle.edit_change.specs.inner.Aimed.{numbered}
use Rattle.edit_steps.specs.inner.Splicing.{CanSplice, PutsRoot}
use Rattle.edit_steps.proofs.RootSteps.{top-splices, top-counts}
use Rattle.edit_steps.proofs.stages.Stages.put.Goals as goal

-- the root stays
root-stays : {T E : Type 0} (r : Result T E) (c : Change) (ts : List SyntaxTree) (root : Option Branch) → false ≡ has_path (targets c) []
    → OnOk r (PutsRoot c ts root root)
root-stays (Ok x) c ts root other = subst (λ b. MatchBool b (IsSomeAnd root (λ node. ts ≡ branch_tree node ∷ [])) (root ≡ root)) other refl
root-stays (Err e) c ts root other = tt

pub returns-then-replaces_root-clause-done : goal.returns-then-replaces_root-clause-done
returns-then-replaces_root-clause-done c =
    let top = c.requires.top (sym c.replaces_root.ensures ∙ c.if-replaces_root.true) in
    top-splices c.args.aim.now top.1 c.args.self.now (Some c.only_node.result) c.args.owner top.0 _

pub returns-then-replaces_root-clause-count : goal.returns-then-replaces_root-clause-count
returns-then-replaces_root-clause-count c =
    let top = c.requires.top (sym c.replaces_root.ensures ∙ c.if-replaces_root.true) in
    let fits : c.args.self.now.builds < 2 ^ 64 = omega arith in
    top-counts c.args.aim.now top.1 c.args.self.now (Some c.only_node.result) c.args.owner top.0 fits

pub step_in_payload-requires-clause-there : goal.step_in_payload-requires-clause-there
step_in_payload-requires-clause-there c = (subst (λ o. CanSplice c.args.self.now o (numbered c.args.aim.now)) c.in-Some.is c.requires.can).0

pub step_in_payload-requires-clause-can : goal.step_in_payload-requires-clause-can
step_in_payload-requires-clause-can c = (subst (λ o. CanSplice c.args.self.now o (numbered c.args.aim.now)) c.in-Some.is c.requires.can).1

pub returns-in-Some-clause-done : goal.returns-in-Some-clause-done
returns-in-Some-clause-done c =
    let step = c.step_in_payload in
    rw c.in-Some.is (on_ok_weaker step.result (λ steps. (refl, step.ensures.others, steps)) step.ensures.done)

pub returns-in-Some-clause-count : goal.returns-in-Some-clause-count
returns-in-Some-clause-count c = rw c.in-Some.is c.step_in_payload.ensures.count

pub returns-in-Some-clause-root : goal.returns-in-Some-clause-root
returns-in-Some-clause-root c = root-stays c.step_in_payload.result c.args.change.now _ _ c.if-replaces_root.ensures

pub returns-in-Some-clause-refused : goal.returns-in-Some-clause-refused
returns-in-Some-clause-refused c =
    let step = c.step_in_payload in
    rw c.in-Some.is (on_err_weaker step.result (λ stays. (refl, step.ensures.others, stays)) step.ensures.refused)

pub returns-in-None-clause-done : goal.returns-in-None-clause-done
returns-in-None-clause-done c =
    let step = c.step in
    rw c.in-None.is (on_ok_weaker step.result (λ takes. (refl, step.ensures.old, takes)) step.ensures.done)

pub returns-in-None-clause-count : goal.returns-in-None-clause-count
returns-in-None-clause-count c = rw c.in-None.is c.step.ensures.count

pub returns-in-None-clause-root : goal.returns-in-None-clause-root
returns-in-None-clause-root c = root-stays c.step.result c.args.change.now _ _ c.if-replaces_root.ensures

pub returns-in-None-clause-refused : goal.returns-in-None-clause-refused
returns-in-None-clause-refused c =
    let step = c.step in
    rw c.in-None.is (on_err_weaker step.result (λ stays. (refl, step.ensures.old, stays)) step.ensures.refused)

pub returns-in-None-clause-refused_count : goal.returns-in-None-clause-refused_count
returns-in-None-clause-refused_count c = c.step.ensures.refused_count
