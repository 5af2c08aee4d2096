use Rattle.std.proofs.Common.{lit<, sym, subst, rules}
use Rattle.std.proofs.lemmas.Iterator.Consumers.{YieldsList-turn, YieldsList-end}
use Rattle.std.proofs.lemmas.Iterator.Splits.{YieldsList-from_str_split}
use Rattle.script_lines.specs.Line.{Each, IsNumber, between}
use Rattle.script_lines.specs.inner.Slots.{slots_of}
use Rattle.script_lines.proofs.EachOne.{each-at, each-yielded}
use Rattle.script_lines.proofs.reference.read_slots.Goals as goal

pub returns-in_default-read_number : goal.returns-in_default-read_number
returns-in_default-read_number c =
    let parts = YieldsList-from_str_split {s = c.into_iter-part-iterator.result} 47 c.in-Some.text.now (lit< tt) (search rules) (search rules) (search rules) in
    let turn = YieldsList-turn parts c.loop-part.yielded _ c.loop-part.yielded_by _ _ c.in-Some-part.part c.in-Some-part.is c.next.ensures.steps in
    λ path all.
    let here : Each IsNumber (between 47 c.in-Some.text.now) path = subst (λ t. Each IsNumber (slots_of t) path) c.in-Some.is all in
    let some = each-at IsNumber (between 47 c.in-Some.text.now) path _ c.in-Some-part.part.now here turn.0 turn.1 in
    c.in_default-read_number.ensures some.0 some.1

pub loop-part-preserved : goal.loop-part-preserved
loop-part-preserved c = each-yielded IsNumber c.loop-part.yielded c.loop-part.slots.items c.in-Some-part.part c.in-Some-read_number.slot c.push.new.self.items c.in_ok-push.ensures.items c.loop-part.invariant c.in-Some-read_number.ensures

pub returns : goal.returns
returns c =
    let parts = YieldsList-from_str_split {s = c.into_iter-part-iterator.result} 47 c.in-Some.text.now (lit< tt) (search rules) (search rules) (search rules) in
    let ended = YieldsList-end parts c.loop-part.yielded _ c.loop-part.yielded_by _ _ c.in-None.is c.next.ensures.steps in
    let here : Each IsNumber (between 47 c.in-Some.text.now) c.loop-part.slots.items = subst (λ l. Each IsNumber l c.loop-part.slots.items) ended.0 c.loop-part.invariant in
    subst (λ t. Each IsNumber (slots_of t) c.loop-part.slots.items) (sym c.in-Some.is) here
