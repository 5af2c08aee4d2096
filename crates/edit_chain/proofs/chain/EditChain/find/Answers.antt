use Rattle.std.proofs.Common.{◌≡◌, ◌∷◌, ◌++◌, [], All, take, ap, sym, subst, ◌∙◌}
use Rattle.std.proofs.lemmas.List.{take_all}
use Rattle.cst_core.specs.Element.{NumbersTell}
use Rattle.cst_core.specs.SyntaxElement.{element_of}
use Rattle.edit_map.specs.Mapping.{mapped_elements}
use Rattle.edit_chain.specs.Chain.{AreSteps}
use Rattle.edit_chain.specs.Found.{EachCopied, AreFound, roots_and_mapped}
use Rattle.edit_chain.proofs.Steps.{step-at, item-at}
use Rattle.edit_chain.proofs.FoundInSteps.{none-so-far, one-more-step}
use Rattle.edit_chain.proofs.chain.EditChain.find.Goals as goal

pub loop-step-init : goal.loop-step-init
loop-step-init c tell =
    none-so-far c.args.element.now c.steps-step-items.result.now c.push.new.self.items (c.in_ok-push.ensures.items ∙ ap (λ xs. xs ++ c.in_ok-try_clone.field-0 ∷ []) c.in_ok-found.ensures.items ∙ ap (λ e. e ∷ []) c.in_ok-try_clone.ensures)

pub copies_of_each-requires : goal.copies_of_each-requires
copies_of_each-requires c =
    let steps = c.steps-step-items.result.now in
    let i = c.loop-step.step-index in
    let s = c.step-item.result in
    let are = subst (AreSteps c.args.self.now.first) (sym c.steps-step-items.ensures.steps) c.steps-step-items.ensures.is_chain in
    (step-at c.args.self.now.first steps i s are (item-at steps i s c.loop-step-test.true c.step-item.is)).makes

pub loop-step-preserved : goal.loop-step-preserved
loop-step-preserved c tell =
    let steps = c.steps-step-items.result.now in
    let i = c.loop-step.step-index in
    let s = c.step-item.result in
    let copied = subst (λ es. All (λ e. NumbersTell (element_of e ∷ mapped_elements s.plan.mapping)) es → EachCopied s es c.in_ok-found-2.found.items) c.deref.ensures.value c.in_ok-found-2.ensures in
    one-more-step c.args.element.now steps i s c.loop-step.found.items c.in_ok-found-2.found.items (item-at steps i s c.loop-step-test.true c.step-item.is) tell copied (c.loop-step.invariant tell)

pub returns : goal.returns
returns c tell =
    let steps = c.steps-step-items.result.now in
    let own = c.args.self.now.steps in
    let first = c.args.element.now in
    let found = c.loop-step.found.items in
    let is : steps ≡ own = c.steps-step-items.ensures.steps in
    let told = subst (λ ss. NumbersTell (element_of first ∷ roots_and_mapped ss)) (sym is) tell in
    let all : take c.loop-step.step-index steps ≡ steps = take_all c.loop-step.step-index steps c.loop-step-test.false in
    subst (λ ss. AreFound ss (first ∷ []) found) (all ∙ is) (c.loop-step.invariant told).are
