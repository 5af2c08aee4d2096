use Rattle.std.proofs.Common.{◌≡◌, true, false, length, sym, ◌∙◌, ap, arith}
use Rattle.cst_core.specs.Element.{subtree}
use Rattle.cst_core.specs.Green.{branch_tree}
use Rattle.cst_core.proofs.Children.{length_children, child_there, no_more_child}
use Rattle.syntax_editor.specs.AttrsAndDocs.{is_removed}
use Rattle.syntax_editor.proofs.Removed.{one_removed, none_removed}
use Rattle.syntax_editor.proofs.attrs_owner_edit.removed_children.Goals as goal
use Rattle.syntax_editor.proofs.attrs_owner_edit.removed_children.Goals.{in-Some+in_ok-push, in_default}

pub loop-slot-preserved-then-not-is_removed : goal.loop-slot-preserved-then-not-is_removed
loop-slot-preserved-then-not-is_removed c =
    let slot = c.loop-slot.slot in
    let stays : is_removed (subtree c.args.node.now) slot ≡ false = ap (λ t. is_removed t slot) (sym c.as_green-green.ensures.tree) ∙ sym c.is_removed.ensures ∙ c.if-not-is_removed.true in
    c.loop-slot.invariant ∙ none_removed c.args.node.now slot stays

pub loop-slot-preserved : goal.loop-slot-preserved
loop-slot-preserved c =
    let n = c.args.node.now in
    let green = c.as_green-green.result.now in
    let slot = c.loop-slot.slot in
    let count = length_children n green c.children-slot-end.result.now c.as_green-green.ensures.tree c.children-slot-end.ensures in
    let there = child_there n (branch_tree green) slot c.as_green-green.ensures.there (omega arith) in
    let goes : is_removed (subtree n) slot ≡ true = ap (λ t. is_removed t slot) (sym c.as_green-green.ensures.tree) ∙ sym c.is_removed.ensures ∙ c.if-not-is_removed.false in
    elim c.match-branch-2.branch [
      | in-Some+in_ok-push w ↦ rw (w.removed-is, w.in_ok-push.ensures.items, c.loop-slot.invariant) (one_removed n slot w.in-Some.child goes (sym w.in-Some.is ∙ c.in_ok-child.ensures.ok ∙ there))
      | in_default w ↦ absurd (no_more_child n slot (sym w.in_default.is ∙ c.in_ok-child.ensures.ok ∙ there))
    ]

pub returns : goal.returns
returns c =
    let n = c.args.node.now in
    let count = length_children n c.as_green-green.result.now c.children-slot-end.result.now c.as_green-green.ensures.tree c.children-slot-end.ensures in
    let at_end : c.loop-slot.slot ≡ length c.children-slot-end.result.now = omega arith in
    rw (count, ← at_end) c.loop-slot.invariant
