use Rattle.std.proofs.Common.{◌≡◌, ℕ, List, [], ap, ap₂, ◌∙◌, inl, inr, arith}
use Rattle.std.proofs.lemmas.Grind.{common_steps}
use Rattle.std.specs.List.{zip}
use Rattle.std.proofs.lemmas.List.{nil_from_length}
use Rattle.cst_core.specs.declared.element.SyntaxElement.{SyntaxElement}
use Rattle.edit_plan.proofs.FoundElements.{none-zipped, all-registered}
use Rattle.edit_plan.proofs.found.AnnotatedElements.registrations.Goals as goal

pub returns : goal.returns
returns c =
    let ns : List ℕ = c.loop-annotation.annotation-iterator.a.rest.now in
    let es : List SyntaxElement = c.loop-annotation.annotation-iterator.b.rest.now in
    let none : zip ns es ≡ [] = elim c.in-None.ensures.steps [
      | inl e ↦ ap (λ xs. zip xs es) (nil_from_length ns e.1.0)
      | inr e ↦ none-zipped ns es (nil_from_length es e.1.0)
    ] in
    let made = c.into_iter-annotation-iterator.ensures.into_iter_gives in
    let first = ap (λ i. i.a.rest.now) made ∙ ap (λ i. i.rest.now) c.zip-annotation-items.ensures.first ∙ c.iter.ensures.rest ∙ c.deref.ensures.value in
    let second = ap (λ i. i.b.rest.now) made ∙ ap (λ i. i.rest.now) c.zip-annotation-items.ensures.second ∙ c.iter-2.ensures.rest ∙ c.deref-2.ensures.value in
    all-registered c.loop-annotation.all.items (zip ns es) (zip c.into_iter-annotation-iterator.result.a.rest.now c.into_iter-annotation-iterator.result.b.rest.now) c.args.self.now none c.loop-annotation.invariant (ap₂ zip first second ∙ c.self.view_is)

pub loop-annotation-preserved : goal.loop-annotation-preserved
loop-annotation-preserved c = grind (arith, common_steps)
