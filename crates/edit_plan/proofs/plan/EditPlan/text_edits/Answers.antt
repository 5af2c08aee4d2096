use Rattle.std.proofs.Common.{◌≡◌, ℕ, List, length, ap, sym, subst, ◌∙◌}
use Rattle.cst_core.specs.Tree.{text, text_length}
use Rattle.cst_core.specs.Element.{IsNode, subtree}
use Rattle.edit_change.specs.Nesting.{first_clash}
use Rattle.edit_change.specs.inner.DocumentOrder.{IsDocumentOrder}
use Rattle.edit_change.specs.inner.OwnerPlaces.{places_in}
use Rattle.text_edit.specs.TextPiece.{TextPiece, pieces, AreApart}
use Rattle.edit_plan.specs.Plan.{Plan}
use Rattle.edit_plan.proofs.EditsOfPlan.{edits-told, edits-apart}
use Rattle.edit_plan.proofs.plan.EditPlan.text_edits.Goals as goal

pub text_edits-requires-clause-node : goal.text_edits-requires-clause-node
text_edits-requires-clause-node c = subst IsNode (sym c.planned.ensures.root) c.planned.ensures.is.is_plan.is_node

pub text_edits-requires-clause-apart : goal.text_edits-requires-clause-apart
text_edits-requires-clause-apart c = ap first_clash c.planned.ensures.changes ∙ c.planned.ensures.is.is_plan.apart

pub text_edits-requires-clause-order : goal.text_edits-requires-clause-order
text_edits-requires-clause-order c =
    subst (λ cs. IsDocumentOrder cs c.planned.result.order.now) (sym c.planned.ensures.changes) c.planned.ensures.is.order_is

pub one_list-requires : goal.one_list-requires
one_list-requires c =
    let plan = c.args.self.now in
    let told = c.planned.result in
    let edits = c.in_ok-edits.edits.items in
    let are = edits-told plan told.root.now told.changes.now (places_in told.places.now) edits c.agree_on_places.ensures c.planned.ensures.is.placed c.planned.ensures.root c.planned.ensures.changes c.in_ok-edits.ensures in
    let long : c.text_len.result ≡ text_length (subtree plan.root) = c.text_len.ensures.length ∙ ap (λ (p : Plan). text_length (subtree p.root)) c.self.view_is in
    let P : ℕ → Type 0 = λ n. AreApart 0 (pieces edits) n in
    subst P (sym long) (edits-apart plan edits c.planned.ensures.is.is_plan are)

pub returns : goal.returns
returns c =
    let plan = c.args.self.now in
    let told = c.planned.result in
    let edits = c.in_ok-edits.edits.items in
    let are = edits-told plan told.root.now told.changes.now (places_in told.places.now) edits c.agree_on_places.ensures c.planned.ensures.is.placed c.planned.ensures.root c.planned.ensures.changes c.in_ok-edits.ensures in
    let P : List TextPiece → Type 0 = λ es. AreApart 0 es (length (text (subtree plan.root))) in
    record {
      edits = λ es is places there. is ∙ c.one_list.ensures ∙ are places there;
      apart = subst P (sym c.one_list.ensures) (edits-apart plan edits c.planned.ensures.is.is_plan are);
    }
