-- To which element a node or a token is followed.
-- Only nodes are mapped. Where trees of one number differ, a path may lead nowhere in a copy.
--
--     asked_paths                   The paths of the nodes that may be mapped: those above an element, and that of a node itself.
--     step_among                    The lowest of the nodes at some paths that has a copy, exchanged for that copy; the path below is kept.
--     syntax_step                   `step_among` the asked paths, if the path below leads to an element in the copy.
--     LeadsTo                       If equal numbers mean equal trees, the second element is what the first is `followed` to.
--     SyntaxSteps, IsReached        n of these steps lead from one element to another; some number of them does, and no further one is
--                                   possible.
--
-- With `R/1` mapped to child 1 of `(7)`, the token `R/1/0` is followed to the token `1/0` of `(7)`. `R/4` is followed
-- to itself.
use Rattle.std.specs.Prelude.{◌≡◌, ℕ, zero, suc, List, ◌∷◌, filter_map, Option, None, option_map, option_and_then, IsSomeAnd}
use Rattle.cst_core.specs.Path.{Path, above, up_to, last_item}
use Rattle.cst_core.specs.Element.{Element, NumbersTell}
use Rattle.cst_core.specs.SyntaxElement.{element_of, syntax_at}
use Rattle.cst_core.specs.declared.element.SyntaxElement.{SyntaxElement}
use Rattle.cst_core.specs.declared.element.SyntaxElement.TheVariants.{Node, Token}
use Rattle.edit_map.specs.Mapping.{Mapping, copy, below_copy, followed, mapped_elements}

abbrev pub asked_paths : SyntaxElement → List Path
asked_paths (Node e) = up_to e.path
asked_paths (Token e) = above e.path

abbrev pub step_among : Mapping → Element → List Path → Option Element
step_among m e ps = last_item (filter_map (λ p. option_map (below_copy e p) (copy m (record { number = e.number; path = p }))) ps)

abbrev pub syntax_step : Mapping → SyntaxElement → Option SyntaxElement
syntax_step m e = option_and_then (λ g. syntax_at g g.path) (step_among m (element_of e) (asked_paths e))

abbrev pub SyntaxSteps : Mapping → ℕ → SyntaxElement → SyntaxElement → Type 0
SyntaxSteps m zero e f = e ≡ f
SyntaxSteps m (suc n) e f = IsSomeAnd (syntax_step m e) (λ g. SyntaxSteps m n g f)

pub record IsReached (m : Mapping) (e f : SyntaxElement) : Type 0 where
  pub reached : (n : ℕ) × SyntaxSteps m n e f
  pub ends : syntax_step m f ≡ None

abbrev pub LeadsTo : Mapping → SyntaxElement → SyntaxElement → Type 0
LeadsTo m e f = NumbersTell (element_of e ∷ mapped_elements m) → element_of f ≡ followed m (element_of e)

-- what such a copy and n slots make of any element at the node or below it is the step of that element among these
