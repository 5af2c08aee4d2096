-- Where the copies of an element are, before there are values of them.
--     AreCopyPaths                  paths lead to elements of the tree that a plan makes, and where equal numbers have equal trees, as far as the
--                                   element and the mapping go, they are those of its copies
use Rattle.std.specs.Prelude.{◌≡◌, List, ◌∷◌, All, IsSome}
use Rattle.cst_core.specs.Path.{Path}
use Rattle.cst_core.specs.Tree.{at}
use Rattle.cst_core.specs.Element.{Element, NumbersTell, address}
use Rattle.edit_map.specs.Mapping.{followed, mapped_elements}
use Rattle.edit_change.specs.NewTree.{OriginTree, plain}
use Rattle.edit_change.specs.Results.{copies_of}
use Rattle.edit_plan.specs.Plan.{Plan, WouldMake}

pub record AreCopyPaths (p : Plan) (e : Element) (found : List Path) : Type 0 where
  pub made : OriginTree
  pub would : WouldMake p made
  pub lead : All (λ q. IsSome (at (plain made) q)) found
  pub copies_are : NumbersTell (e ∷ mapped_elements p.mapping) → found ≡ copies_of made (address (followed p.mapping e))
