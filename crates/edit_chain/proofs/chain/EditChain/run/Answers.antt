use Rattle.std.proofs.Common.{◌≡◌, ◌++◌, [], ◌∷◌, ap, sym, subst, ◌∙◌, rules}
use Rattle.std.specs.Prelude.{List}
use Rattle.cst_core.specs.Element.{address}
use Rattle.edit_plan.specs.Plan.{Makes}
use Rattle.edit_chain.specs.Chain.{Chain, IsStep, AreSteps, root_after, last_root, with_step}
use Rattle.edit_chain.specs.declared.step.Step.{Step}
use Rattle.edit_chain.proofs.Steps.{steps-append}
use Rattle.edit_chain.proofs.chain.EditChain.run.Goals as goal

pub invariant_of-self-2 : goal.invariant_of-self-2
invariant_of-self-2 c =
    let own = c.self.inside in
    let ss = own.steps.items in
    let plan = c.args.plan in
    let edit = c.in_ok-edit.edit in
    let s : Step = record { plan = plan; edit = edit } in
    let begins : address plan.root ≡ address (last_root c.args.self.now) = search rules in
    let step : IsStep (root_after own.first ss) s = record {
      begins = begins ∙ sym (ap (λ x. address (last_root x)) c.self.view_is);
      planned = c.root.ensures.planned;
      makes = subst (λ n. Makes plan n edit) (sym c.in_ok-edit.ensures.ok.number_is) c.in_ok-edit.ensures.ok;
      short = c.in_ok-edit.ensures.short;
    } in
    let list : c.push_reserved.new.self.items ≡ ss ++ s ∷ [] = c.push_reserved.ensures.items ∙ ap (λ xs. xs ++ s ∷ []) c.reserve.ensures.items in
    subst (AreSteps own.first) (sym list) (steps-append own.first ss (s ∷ []) c.self.invariant (step, tt))

pub returns-clause-ok : goal.returns-clause-ok
returns-clause-ok c =
    let own = c.self.inside in
    let s : Step = record { plan = c.args.plan; edit = c.in_ok-edit.edit } in
    let begins : address c.args.plan.root ≡ address (last_root c.args.self.now) = search rules in
    let list = c.push_reserved.ensures.items ∙ ap (λ xs. xs ++ s ∷ []) c.reserve.ensures.items in
    let with : List Step → Chain = λ ss. record { first = own.first; steps = ss } in
    record {
      begins = begins;
      edit = c.in_ok-edit.edit;
      makes = c.in_ok-edit.ensures.ok;
      after_is = ap with list ∙ ap (λ x. with_step x s) c.self.view_is;
    }
