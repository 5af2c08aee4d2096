use Rattle.std.proofs.Common.{◌≡◌, ◌++◌, ap, sym, subst, ◌∙◌, rules}
use Rattle.cst_core.specs.Element.{address}
use Rattle.edit_chain.specs.Chain.{Chain, AreSteps, root_after, last_root}
use Rattle.edit_chain.proofs.Steps.{steps-append, steps-from, appended}
use Rattle.edit_chain.proofs.chain.EditChain.then.Goals as goal

pub invariant_of-self-2 : goal.invariant_of-self-2
invariant_of-self-2 c =
    let own = c.self.inside in
    let ss = own.steps.items in
    let other = c.other.inside in
    let ts = other.steps.items in
    let follows : address c.args.other.first ≡ address (last_root c.args.self.now) = search rules in
    let here : address other.first ≡ address (root_after own.first ss) = ap (λ (x : Chain). address x.first) c.other.view_is ∙ follows ∙ sym (ap (λ x. address (last_root x)) c.self.view_is) in
    let list : c.append.new.self.items ≡ ss ++ ts = appended c.append.result ss ts c.append.new.self.items c.append.ensures.items (sym c.is_err.ensures.value ∙ c.if-is_err.false) in
    subst (AreSteps own.first) (sym list) (steps-append own.first ss ts c.self.invariant (steps-from other.first (root_after own.first ss) ts here c.other.invariant))
