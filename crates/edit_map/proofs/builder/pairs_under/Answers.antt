use Rattle.std.proofs.Common.{◌≡◌, ◌++◌, [], ap, ap₂, sym, ◌∙◌, inl, inr, append_assoc, append-nil}
use Rattle.std.specs.List.{zip}
use Rattle.std.proofs.lemmas.List.Elements.{All-push}
use Rattle.edit_map.specs.Builder.{IsPairUnder, RefusesChildren}
use Rattle.edit_map.proofs.Refusals.{err-given, zip-left, zip-right, first-refused}
use Rattle.edit_map.proofs.builder.pairs_under.Goals as goal

pub returns-in_err-test_pair-clause-refused : goal.returns-in_err-test_pair-clause-refused
returns-in_err-test_pair-clause-refused c =
    let here = ap₂ zip c.in-Some.ensures.steps.0 c.in-Some.ensures.steps.1 in
    let left = sym c.loop-input.invariant.left ∙ ap (λ ps. c.loop-input.pairs.items ++ ps) here in
    err-given (RefusesChildren c.args.parent.now c.args.inputs.now c.args.outputs.now) c.in_err-test_pair.field-0.0 (first-refused c.args.parent.now c.args.inputs.now c.args.outputs.now c.requires c.loop-input.pairs.items (c.in-Some.input.now, c.in-Some.output.now) (zip c.next.new.self.a.rest.now c.next.new.self.b.rest.now) left c.loop-input.invariant.taken c.in_err-test_pair.field-0.0 c.in_err-test_pair.ensures.err) _ c.from_residual-in_err-test_pair.ensures.1

pub loop-input-preserved : goal.loop-input-preserved
loop-input-preserved c =
    let here = ap₂ zip c.in-Some.ensures.steps.0 c.in-Some.ensures.steps.1 in
    record {
      left = rw (c.in_ok-push_clones.ensures, append_assoc) (ap (λ ps. c.loop-input.pairs.items ++ ps) (sym here) ∙ c.loop-input.invariant.left);
      taken = rw c.in_ok-push_clones.ensures (All-push (IsPairUnder c.args.parent.now) c.loop-input.pairs.items (c.in-Some.input.now, c.in-Some.output.now) c.loop-input.invariant.taken c.in_ok-test_pair.ensures.ok);
    }

pub returns-clause-ok : goal.returns-clause-ok
returns-clause-ok c =
    let none : zip c.loop-input.input-iterator.a.rest.now c.loop-input.input-iterator.b.rest.now ≡ [] = elim c.in-None.ensures.steps [ inl e ↦ zip-left _ _ e.1.0 | inr e ↦ zip-right _ _ e.1.0 ] in
    sym (ap (λ ps. c.loop-input.pairs.items ++ ps) none ∙ append-nil _) ∙ c.loop-input.invariant.left
