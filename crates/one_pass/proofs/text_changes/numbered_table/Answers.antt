use Rattle.std.proofs.Common.{◌≡◌, ◌∷◌, ◌+◌, [], ℕ, length, Some, None, Vec, slice_get, arith, ap, ap₂, sym, subst, refl, ◌∙◌}
use Rattle.std.specs.Global.{Global}
use Rattle.std.proofs.lemmas.List.{length-append}
use Rattle.std.proofs.lemmas.Option.{none-some}
use Rattle.green_tree.specs.Tree.{Token}
use Rattle.one_pass.specs.inner.Marked.{marks_of}
use Rattle.one_pass.specs.inner.Pass.{AreMarked}
use Rattle.one_pass.specs.declared.marked_element.MarkedElement.{MarkedElement}
use Rattle.one_pass.proofs.TextOrders.{pushed-each, one-marked, all-marked}
use Rattle.one_pass.proofs.text_changes.numbered_table.Goals as goal

pub loop-number-init : goal.loop-number-init
loop-number-init c = record {
  long = ap length c.in_ok-entries.ensures.items;
  each = λ n v h. absurd (none-some v (ap (λ xs. slice_get xs n) (sym c.in_ok-entries.ensures.items) ∙ h));
}

pub loop-number-preserved : goal.loop-number-preserved
loop-number-preserved c =
    let before = c.loop-number.entries.items in
    let marks_are = ap marks_of c.in_ok-vec.ensures.items ∙ ap₂ (λ k p. (k, p) ∷ []) (sym c.loop-number.invariant.long) c.new.ensures.items in
    record {
      long = ap length c.in_ok-push.ensures.items ∙ length-append before (_ ∷ []) ∙ ap (λ k. k + 1) c.loop-number.invariant.long;
      each = subst (λ xs. (m : ℕ) (v : Vec MarkedElement Global) → slice_get xs m ≡ Some v → AreMarked None v.items (Token (m ∷ []) [] ∷ [])) (sym c.in_ok-push.ensures.items) (pushed-each (λ m (v : Vec MarkedElement Global). AreMarked None v.items (Token (m ∷ []) [] ∷ [])) before _ c.loop-number.invariant.each (one-marked _ _ (length before) c.in_ok-vec-2.ensures.items marks_are));
    }

pub returns : goal.returns
returns c =
    all-marked (record { entries = c.loop-number.entries; top = None }) c.args.changes.now refl (omega (arith, c.loop-number.invariant.long, c.loop-number.auto.number-end)) c.loop-number.invariant.each
