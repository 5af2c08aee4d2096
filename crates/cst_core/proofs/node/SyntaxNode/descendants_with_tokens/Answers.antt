use Rattle.std.proofs.Common.{◌≡◌, [], ◌∷◌, Some, refl, length, append_assoc, ap, arith}
use Rattle.std.specs.Prelude.{flat_map, reverse}
use Rattle.std.proofs.lemmas.List.{append-nil}
use Rattle.green_tree.specs.Tree.{at, forest}
use Rattle.green_tree.specs.Green.{branch_tree}
use Rattle.cst_core.specs.SyntaxElement.{child_elements}
use Rattle.cst_core.specs.declared.element.SyntaxElement.TheVariants.{Node, Token}
use Rattle.cst_core.proofs.Elements.{listed, elements-children}
use Rattle.cst_core.proofs.Walks.{next_listed}
use Rattle.cst_core.proofs.node.SyntaxNode.descendants_with_tokens.Goals as goal
use Rattle.cst_core.proofs.node.SyntaxNode.descendants_with_tokens.Goals.{in-Node+in_ok-push_children, in_default-element}

next : (c : goal.In_ok-push-2) → flat_map listed (reverse c.walk.waiting.items) ≡ c.in-Some.element ∷ flat_map listed (reverse c.match-element.waiting.items)
next c = elim c.match-element.branch [
  | in-Node+in_ok-push_children w ↦
      let there : at w.in-Node.node.root w.in-Node.node.path ≡ Some (branch_tree w.node.inside.green) = rw (← w.node.view_is) w.node.invariant.there in
      let parts = elements-children w.in-Node.node w.node.inside.green.kind (forest w.node.inside.green.children) there in
      rw (c.in-Some.ensures.items, w.waiting-is, w.in_ok-push_children.ensures, w.lent.ensures, w.in-Node.is) (next_listed listed (Node w.in-Node.node) (child_elements w.in-Node.node) (Node w.in-Node.node) c.pop.new.self.items parts)
  | in_default-element w ↦
      rw (c.in-Some.ensures.items, w.waiting-is, w.in_default-element.is) (rw (append-nil c.pop.new.self.items) at (next_listed listed (Token w.in_default-element.field-0) [] (Token w.in_default-element.field-0) c.pop.new.self.items refl))
]

pub walk-preserved : goal.walk-preserved
walk-preserved c = rw (c.in_ok-push-2.ensures.items, append_assoc, ← next c) c.walk.invariant

pub walk-smaller : goal.walk-smaller
walk-smaller c = omega (arith, ap length (next c))
