-- The text edits of a plan.
--     edits-told                    what the changes do by one table of places
--     edits-apart                   they are in order and apart, and end within the old text
use Rattle.std.specs.Prelude.{ℕ, List, flat_map}
use Rattle.std.proofs.Common.{◌≡◌, ◌+◌, length, arith, ap₂, sym, subst, ◌∙◌}
use Rattle.cst_core.specs.Path.{Path}
use Rattle.cst_core.specs.Tree.{text}
use Rattle.cst_core.specs.Element.{Element, subtree}
use Rattle.edit_change.specs.declared.change.Change.{Change}
use Rattle.edit_change.specs.NewTree.{given}
use Rattle.edit_change.specs.Places.{ArePlaces}
use Rattle.text_edit.specs.TextPiece.{pieces, AreApart}
use Rattle.text_edit.specs.declared.text_edit.TextEdit.{TextEdit}
use Rattle.one_pass.specs.TextEdits.{text_pieces}
use Rattle.edit_plan.specs.Plan.{Plan, IsPlan}
use Rattle.edit_plan.specs.PlanTextEdits.{AreTextEdits}
use Rattle.edit_plan.specs.inner.PlanStages.{AgreeOnPlaces}
use Rattle.edit_plan.proofs.TwoPlaces.{pieces-agree}
use Rattle.edit_plan.proofs.MadeByChanges.{made-whole}

pub edits-told : (plan : Plan) (root : Element) (changes : List Change) (own : ℕ → Path) (edits : List TextEdit) → AgreeOnPlaces plan → ArePlaces plan.mapping plan.changes own → root ≡ plan.root → changes ≡ plan.changes → pieces edits ≡ text_pieces root changes own → AreTextEdits plan edits
edits-told plan root changes own edits agree placed root_is changes_are told places are =
    told ∙ ap₂ (λ r cs. text_pieces r cs own) root_is changes_are ∙ pieces-agree plan.changes own places (agree own places placed are) plan.root

pub edits-apart : (plan : Plan) (edits : List TextEdit) → IsPlan plan → AreTextEdits plan edits → AreApart 0 (pieces edits) (length (text (subtree plan.root)))
edits-apart plan edits is_plan are =
    let cs = plan.changes in
    let root = plan.root in
    let new = λ (n : ℕ). flat_map text (given cs is_plan.places n) in
    let whole = made-whole root cs is_plan.fit is_plan.apart new is_plan.is_root in
    let end : 0 + length (text (subtree root)) ≡ length (text (subtree root)) = omega arith in
    subst (λ es. AreApart 0 es (length (text (subtree root)))) (sym (are is_plan.places is_plan.placed)) (subst (AreApart 0 (text_pieces root cs is_plan.places)) end whole.rises)
