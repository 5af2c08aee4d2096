use Rattle.std.proofs.Common.{◌≡◌, [], ◌∷◌, ◌++◌, map, All, Some, sym, ◌∙◌, ap, subst, append_assoc}
use Rattle.std.proofs.lemmas.List.{map-append}
use Rattle.std.proofs.lemmas.List.Elements.{All-tail}
use Rattle.cst_core.specs.Element.{IsElement, element_at}
use Rattle.cst_core.specs.SyntaxElement.{syntax_at}
use Rattle.edit_change.specs.Topmost.{paths_of}
use Rattle.edit_plan.proofs.found.elements_at.Goals as goal

pub loop-path-preserved-in-Continue-branch-4 : goal.loop-path-preserved-in-Continue-branch-4
loop-path-preserved-in-Continue-branch-4 c all =
    let root = c.args.root.now in
    let rest = c.next.new.self.rest.items in
    let before = c.loop-path.invariant all in
    let there = subst (λ vs. All (λ p. IsElement (element_at root p)) (paths_of vs)) c.in-Some.ensures.steps.0 before.1 in
    let found : Some c.in-Some-2.element ≡ syntax_at root c.in-Some.path.items = sym c.in-Some-2.is ∙ c.in_ok-element.ensures.ok in (
      ap (λ es. map (λ x. Some x) es ++ map (syntax_at root) (paths_of rest)) c.in_ok-push.ensures.items ∙ ap (λ os. os ++ map (syntax_at root) (paths_of rest)) (map-append (λ x. Some x) c.loop-path.elements.items (c.in-Some-2.element ∷ [])) ∙ append_assoc (map (λ x. Some x) c.loop-path.elements.items) (Some c.in-Some-2.element ∷ []) (map (syntax_at root) (paths_of rest)) ∙ ap (λ o. map (λ x. Some x) c.loop-path.elements.items ++ o ∷ map (syntax_at root) (paths_of rest)) found ∙ ap (λ vs. map (λ x. Some x) c.loop-path.elements.items ++ map (syntax_at root) (paths_of vs)) (sym c.in-Some.ensures.steps.0) ∙ before.0,
      All-tail (λ p. IsElement (element_at root p)) c.in-Some.path.items (paths_of rest) there,
    )
