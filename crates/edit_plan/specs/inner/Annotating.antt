-- Annotated paths and elements, as code keeps them.
--     numbered_paths, AreNumbered   each number with each path of its list; each annotation with each path of its list
--     AreByAnnotation               there are as many elements as annotations, and these do not fall
--     LeadByAnnotation              elements with annotations are those that annotated paths lead to, for each annotation
--     TellOf, AreFollowed           equal numbers have equal trees, as far as each registered element and the mapping go; elements are
--                                   those that registered ones are followed to
use Rattle.std.specs.Prelude.{◌≡◌, ℕ, List, [], ◌∷◌, ◌++◌, map, length, All, Some, Vec}
use Rattle.std.specs.Global.{Global}
use Rattle.std.specs.List.Sorted.{IsNonDecreasing}
use Rattle.cst_core.specs.Path.{Path}
use Rattle.cst_core.specs.Element.{Element, NumbersTell}
use Rattle.cst_core.specs.SyntaxElement.{element_of, syntax_at}
use Rattle.cst_core.specs.declared.element.SyntaxElement.{SyntaxElement}
use Rattle.edit_map.specs.Mapping.{Mapping, followed, mapped_elements}
use Rattle.edit_change.specs.Results.{paths_with}
use Rattle.edit_change.specs.inner.PathLists.{path_lists}
use Rattle.edit_plan.specs.Plan.{found_for}
use Rattle.edit_plan.specs.Engine.{annotated_path}

abbrev pub numbered_paths : List ℕ → List (List Path) → List (ℕ × Path)
numbered_paths [] ls = []
numbered_paths (n ∷ ns) [] = []
numbered_paths (n ∷ ns) (ps ∷ ls) = map (λ p. (n, p)) ps ++ numbered_paths ns ls

abbrev pub AreNumbered : List ℕ → List (Vec (Vec ℕ Global) Global) → Vec (ℕ × Vec ℕ Global) Global → Type 0
AreNumbered ns copies found = map annotated_path found.items ≡ numbered_paths ns (path_lists copies)

pub record AreByAnnotation (annotations : List ℕ) (elements : List SyntaxElement) : Type 0 where
  pub rise : IsNonDecreasing annotations
  pub long : length elements ≡ length annotations

abbrev pub LeadByAnnotation : Element → List (ℕ × Path) → List (ℕ × SyntaxElement) → Type 0
LeadByAnnotation root paths annotated =
    (a : ℕ) → map Some (found_for annotated a) ≡ map (syntax_at root) (paths_with a paths)

abbrev pub TellOf : Mapping → List (SyntaxElement × ℕ) → Type 0
TellOf m rs = All (λ r. NumbersTell (element_of r.0 ∷ mapped_elements m)) rs

abbrev pub AreFollowed : Mapping → List (SyntaxElement × ℕ) → Vec SyntaxElement Global → Type 0
AreFollowed m rs es = map element_of es.items ≡ map (λ r. followed m (element_of r.0)) rs
