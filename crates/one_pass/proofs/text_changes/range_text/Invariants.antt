use Rattle.std.proofs.Common.{◌≡◌, ◌++◌, ◌∷◌, [], flat_map, string_bytes, ◌-◌}
use Rattle.cst_core.specs.Tree.{text}
use Rattle.cst_core.specs.Element.{element_at, subtree}
use Rattle.cst_core.specs.SyntaxElement.{element_of}
use Rattle.one_pass.proofs.text_changes.range_text.Given as goal
use Rattle.std.proofs.Common.{suc}
use Rattle.cst_core.specs.Path.{counted_from, last_slot, parent_path}

abbrev pub invariant-loop-slot : goal.invariant-loop-slot
invariant-loop-slot l = string_bytes l.out ++ flat_map (λ i. text (subtree (element_at l.root (parent_path (element_of l.first).path ++ i ∷ [])))) (counted_from l.slot (l.slot-end - l.slot)) ≡ flat_map (λ i. text (subtree (element_at l.root (parent_path (element_of l.first).path ++ i ∷ [])))) (counted_from (last_slot (element_of l.first).path) (suc (last_slot (element_of l.last).path) - last_slot (element_of l.first).path))
