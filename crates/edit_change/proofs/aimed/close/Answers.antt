use Rattle.std.proofs.Common.{◌≡◌, ap, sym, ◌∙◌, ◌-◌, ◌∷◌, [], length, Some, slice_get}
use Rattle.std.specs.Option.{option_map_or}
use Rattle.std.proofs.lemmas.Option.{same_Some}
use Rattle.cst_core.specs.Path.{up_to}
use Rattle.edit_change.specs.inner.Aimed.{numbered}
use Rattle.edit_change.specs.inner.Open.{surrounds}
use Rattle.edit_change.specs.Rewriting.{NumberedAim}
use Rattle.edit_change.proofs.Closing.{mapped-last, one-less}
use Rattle.edit_change.proofs.aimed.close.Goals as goal

pub returns-then-surrounds : goal.returns-then-surrounds
returns-then-surrounds c =
    let i = c.loop-last.invariant in
    let xs = c.loop-last.regions.items in
    let x = c.in-Some.last.now in
    let there : slice_get xs (length xs - 1) ≡ Some x = ap (λ ys. slice_get ys (length ys - 1)) (sym c.deref.ensures.value) ∙ sym c.in-Some.ensures.value in
    record {
      gone = i.0;
      is = i.1;
      past = i.2;
      last = λ o is.
          let same : numbered x ≡ o = same_Some (numbered x) o (sym (mapped-last numbered xs x there) ∙ is) in
          ap (λ (a : NumberedAim). surrounds (option_map_or (λ p. up_to p.now) c.args.path []) a.1) (sym same) ∙ sym c.surrounds.ensures ∙ c.if-surrounds.true;
    }

pub loop-last-preserved : goal.loop-last-preserved
loop-last-preserved c =
    let i = c.loop-last.invariant in
    let xs = c.loop-last.regions.items in
    let x = c.in-Some.last.now in
    let there : slice_get xs (length xs - 1) ≡ Some x = ap (λ ys. slice_get ys (length ys - 1)) (sym c.deref.ensures.value) ∙ sym c.in-Some.ensures.value in
    (numbered x ∷ i.0, one-less numbered xs x there _ i.0 c.pop.new.self.items _ (sym c.deref.ensures.len ∙ ap length c.deref.ensures.value) c.pop.ensures.rest i.1, (sym c.surrounds.ensures ∙ c.if-surrounds.false, i.2))
