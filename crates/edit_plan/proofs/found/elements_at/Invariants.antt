use Rattle.std.proofs.Common.{◌≡◌, ◌++◌, map, All, Some}
use Rattle.cst_core.specs.Element.{IsElement, element_at}
use Rattle.cst_core.specs.SyntaxElement.{syntax_at}
use Rattle.edit_change.specs.Topmost.{paths_of}
use Rattle.edit_plan.proofs.found.elements_at.Given as goal

abbrev pub invariant-loop-path : goal.invariant-loop-path
invariant-loop-path l =
    All (λ p. IsElement (element_at l.root p)) (paths_of l.fn.paths.items) → (map Some l.elements.items ++ map (syntax_at l.root) (paths_of l.path-iterator.rest.items) ≡ map (syntax_at l.root) (paths_of l.fn.paths.items)) × All (λ p. IsElement (element_at l.root p)) (paths_of l.path-iterator.rest.items)
