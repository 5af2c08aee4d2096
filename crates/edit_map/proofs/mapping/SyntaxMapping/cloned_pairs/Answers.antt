use Rattle.std.proofs.Common.{◌≡◌, sym, ◌∙◌}
use Rattle.std.proofs.lemmas.List.{take_all}
use Rattle.edit_map.proofs.Distinct.{made-reverse}
use Rattle.edit_map.proofs.mapping.SyntaxMapping.cloned_pairs.Goals as goal

pub returns : goal.returns
returns c =
    let view : c.args.self.now ≡ c.deref-input-items.result.now = sym (c.deref-input-items.ensures.value ∙ c.self.view_is) in
    let all : c.loop-input.pairs.items ≡ c.args.self.now = c.loop-input.invariant ∙ take_all c.loop-input.input-index c.args.self.now (rw view c.loop-input-test.false) in
    rw (all, ← c.self.view_is) (made-reverse c.self.inside.pairs.items c.self.invariant.mapping.distinct, c.self.invariant.mapping.pairs)
