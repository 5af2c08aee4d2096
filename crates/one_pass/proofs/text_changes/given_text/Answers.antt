use Rattle.std.proofs.Common.{◌≡◌, ◌+◌, ◌++◌, [], drop, flat_map, length, slice_get, string_bytes, refl, ap, sym, ◌∙◌}
use Rattle.std.specs.Option.{option_map_or}
use Rattle.std.proofs.lemmas.List.{append-nil, append_assoc, at_drop_all, at_drop_more}
use Rattle.std.proofs.lemmas.Option.{slice_get_past, slice_get_read}
use Rattle.cst_core.specs.Tree.{text}
use Rattle.cst_core.specs.GreenElement.{element_tree}
use Rattle.one_pass.specs.declared.marked_element.MarkedElement.{MarkedElement}
use Rattle.one_pass.specs.inner.Pass.{given_trees, entry_in}
use Rattle.one_pass.proofs.text_changes.given_text.Goals as goal

pub returns : goal.returns
returns c =
    let es = c.deref-one-items.result.now in
    let out = string_bytes c.loop-one.out in
    let found = c.in-Some.ensures.lookup in
    let there = ap (λ xs. slice_get xs c.args.change) (sym c.deref.ensures.value) ∙ slice_get_read c.deref.result.now (length c.deref.result.now) c.args.change c.in-Some.entry.now refl found.3.0 found.1 in
    let own : es ≡ entry_in c.args.given.now c.args.change = c.deref-one-items.ensures.value ∙ ap (λ o. option_map_or (λ w. w.items) o []) (sym there) in
    sym (append-nil out) ∙ sym (at_drop_all (λ xs. out ++ flat_map text (given_trees xs)) es c.loop-one.one-index c.loop-one-test.false) ∙ c.loop-one.invariant ∙ ap (λ xs. flat_map text (given_trees xs)) own

pub loop-one-init : goal.loop-one-init
loop-one-init c =
    ap (λ s. s ++ flat_map text (given_trees c.deref-one-items.result.now)) c.new-out.ensures.bytes

pub loop-one-preserved : goal.loop-one-preserved
loop-one-preserved c =
    let es = c.deref-one-items.result.now in
    let i = c.loop-one.one-index in
    let one = c.one-item.result in
    let out = string_bytes c.loop-one.out in
    let rest = flat_map text (given_trees (drop (i + 1) es)) in
    let own = c.deref-in-loop-one.ensures ∙ c.in_ok-text.ensures.ok in
    ap (λ s. s ++ rest) c.in_ok-push_str.ensures.bytes
    ∙ append_assoc out c.deref-in-loop-one.result.now rest
    ∙ ap (λ s. out ++ (s ++ rest)) own
    ∙ ap (λ (x : MarkedElement). out ++ (text (element_tree x.element) ++ rest)) c.one-item.is
    ∙ sym (at_drop_more (λ us. out ++ flat_map text (given_trees us)) es i one c.loop-one-test.true)
    ∙ c.loop-one.invariant

pub returns-in_default : goal.returns-in_default
returns-in_default c =
    let past = ap (λ xs. slice_get xs c.args.change) (sym c.deref.ensures.value) ∙ slice_get_past c.deref.result.now c.args.change c.in_default.ensures.lookup.3 in
    c.new-out.ensures.bytes ∙ sym (ap (λ o. flat_map text (given_trees (option_map_or (λ w. w.items) o []))) past)
