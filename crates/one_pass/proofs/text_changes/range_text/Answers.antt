use Rattle.std.proofs.Common.{◌≡◌, ◌++◌, ◌∷◌, [], flat_map, string_bytes, ℕ, ◌+◌, ◌-◌}
use Rattle.cst_core.specs.Tree.{text}
use Rattle.cst_core.specs.Element.{element_at, subtree}
use Rattle.cst_core.specs.SyntaxElement.{element_of}
use Rattle.one_pass.proofs.text_changes.range_text.Goals as goal
use Rattle.std.proofs.Common.{suc, ap, ap₂, sym, ◌∙◌}
use Rattle.std.proofs.lemmas.List.{append_assoc, append-nil}
use Rattle.cst_core.specs.Path.{counted_from, last_slot, parent_path}
use Rattle.one_pass.proofs.TextOrders.{range-next, range-none, flat_map-map}

pub loop-slot-init : goal.loop-slot-init
loop-slot-init c =
    let own = λ (i : ℕ). text (subtree (element_at c.args.root.now (parent_path (element_of c.args.first.now).path ++ i ∷ []))) in
    ap (λ s. s ++ flat_map own (counted_from c.index-slot.result (c.slot_after-slot-end.result - c.index-slot.result))) c.new-out.ensures.bytes ∙ ap₂ (λ i n. flat_map own (counted_from i (n - i))) c.index-slot.ensures c.slot_after-slot-end.ensures

pub loop-slot-preserved : goal.loop-slot-preserved
loop-slot-preserved c =
    let root = c.args.root.now in
    let own = λ (i : ℕ). text (subtree (element_at root (parent_path (element_of c.args.first.now).path ++ i ∷ []))) in
    let i = c.loop-slot.slot in
    let n = c.slot_after-slot-end.result in
    let before = string_bytes c.loop-slot.out in
    let rest = flat_map own (counted_from (i + 1) (n - (i + 1))) in
    let path = c.in_ok-sibling.ensures ∙ ap (λ p. parent_path p ++ i ∷ []) c.slots.ensures in
    let told = c.in_ok-text.ensures ∙ ap (λ p. text (subtree (element_at root p))) path in
    let piece : string_bytes c.push_str.new.self ≡ before ++ own i = c.in_ok-push_str.ensures.bytes ∙ ap (λ s. before ++ s) (c.deref.ensures ∙ told) in
    ap (λ s. s ++ rest) piece ∙ append_assoc before (own i) rest ∙ ap (λ s. before ++ s) (sym (range-next own i n c.loop-slot-test.true)) ∙ c.loop-slot.invariant

pub returns : goal.returns
returns c =
    let own = λ (i : ℕ). text (subtree (element_at c.args.root.now (parent_path (element_of c.args.first.now).path ++ i ∷ []))) in
    let is = counted_from (last_slot (element_of c.args.first.now).path) (suc (last_slot (element_of c.args.last.now).path) - last_slot (element_of c.args.first.now).path) in
    sym (append-nil (string_bytes c.loop-slot.out)) ∙ ap (λ s. string_bytes c.loop-slot.out ++ s) (sym (range-none own c.loop-slot.slot c.slot_after-slot-end.result c.loop-slot-test.false)) ∙ c.loop-slot.invariant ∙ sym (flat_map-map (λ p. text (subtree (element_at c.args.root.now p))) (λ i. parent_path (element_of c.args.first.now).path ++ i ∷ []) is)
