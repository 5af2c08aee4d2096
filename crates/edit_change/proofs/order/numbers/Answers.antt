use Rattle.std.proofs.Common.{◌≡◌, map, sym, ◌∙◌, rules}
use Rattle.std.specs.Prelude.{IfOk}
use Rattle.std.proofs.lemmas.Simd.{map-map}
use Rattle.edit_change.specs.inner.Aimed.{numbered, aims_of}
use Rattle.edit_change.specs.Rewriting.{NumberedAim}
use Rattle.edit_change.specs.declared.aimed.Aimed.{Aimed}
use Rattle.edit_change.proofs.Lists.{if-ok-weaker}
use Rattle.edit_change.proofs.DocumentOrder.{numbers-in-order}
use Rattle.edit_change.proofs.order.numbers.Goals as goal

pub returns : goal.returns
returns c = λ cs sorted.
    let items : IfOk c.collect.result (λ v. v.items ≡ map (λ (a : Aimed). a.change) c.args.aims.now) = search rules in
    if-ok-weaker _ _ (λ v is. numbers-in-order cs (aims_of c.args.aims.now) v.items sorted (is ∙ sym (map-map (λ (a : NumberedAim). a.0) numbered c.args.aims.now))) c.collect.result items
