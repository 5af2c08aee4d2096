-- What comes of an edit for a plan after it.
--     carried                       The annotated elements of an edit as registrations, each with its annotation, in order.
--     AreCopies                     Elements are the copies of another one in the tree that a plan makes, in document order: of what it is
--                                   followed to, as if it were the one registered element.
--
-- After an insert of `x` before `R/1`, the one copy of `R/1` is at `2`, and that of `R/1/0` at `2/0`. After an insert of
-- `R/1` after `R/4`, the copies of `R/1` are at `1` and `5`. After the deletion of `R/1` it has none.
use Rattle.std.specs.Prelude.{◌≡◌, ℕ, List, map, Some}
use Rattle.cst_core.specs.Element.{address}
use Rattle.cst_core.specs.SyntaxElement.{element_of, syntax_at}
use Rattle.cst_core.specs.declared.element.SyntaxElement.{SyntaxElement}
use Rattle.edit_map.specs.Mapping.{followed}
use Rattle.edit_change.specs.NewTree.{OriginTree}
use Rattle.edit_change.specs.Results.{copies_of}
use Rattle.edit_plan.specs.Plan.{Plan, Edit, WouldMake}

abbrev pub carried : Edit → List (SyntaxElement × ℕ)
carried e = map (λ a. (a.1, a.0)) e.annotated

pub record AreCopies (p : Plan) (edit : Edit) (e : SyntaxElement) (found : List SyntaxElement) : Type 0 where
  pub made : OriginTree
  pub would : WouldMake p made
  pub found_are : map Some found ≡ map (syntax_at edit.new_root) (copies_of made (address (followed p.mapping (element_of e))))
