use Rattle.std.proofs.Common.{◌∷◌}
use Rattle.cst_core.specs.Element.{NumbersTell}
use Rattle.cst_core.specs.SyntaxElement.{element_of}
use Rattle.edit_map.specs.Mapping.{mapped_elements, IsFollowed}
use Rattle.edit_map.specs.Following.{IsReached}
use Rattle.edit_map.proofs.Followed.{counted}
use Rattle.edit_map.proofs.Reached.{Standing}
use Rattle.edit_map.proofs.Shapes.{IsTold}
use Rattle.edit_map.proofs.mapping.SyntaxMapping.follow.Given as goal

abbrev pub invariant-steps : goal.invariant-steps
invariant-steps l = record {
  standing : Standing l.here;
  reached : (f : _) → IsReached l.fn.self l.here f → IsReached l.fn.self l.fn.element f;
  told : NumbersTell (element_of l.fn.element ∷ mapped_elements l.fn.self) → IsTold (element_of l.fn.element ∷ mapped_elements l.fn.self) (element_of l.here);
  followed : NumbersTell (element_of l.fn.element ∷ mapped_elements l.fn.self) → (f : _) → IsFollowed l.fn.self (element_of l.here) f → IsFollowed l.fn.self (element_of l.fn.element) f;
}

abbrev pub decreases-steps : goal.decreases-steps
decreases-steps l = counted (element_of l.here).number l.fn.self
