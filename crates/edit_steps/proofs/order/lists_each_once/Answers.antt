use Rattle.std.proofs.Common.{◌≡◌, ◌<◌, ◌≤◌, ◌∙◌, ap, sym, true, false, length, get_or, length-set, arith}
use Rattle.std.specs.List.{list_all}
use Rattle.std.proofs.lemmas.Bool.{false≢true}
use Rattle.edit_steps.proofs.EachOnce.{met-at-first, met-length, met-more, met-twice, met-past, all-met}
use Rattle.edit_steps.proofs.order.lists_each_once.Goals as goal

pub loop-number-init : goal.loop-number-init
loop-number-init c = record {
  long = met-length c.args.changes.now c.args.fates.now c.in_ok-met.met.items c.requires c.in_ok-met.ensures;
  met = met-at-first c.args.changes.now c.args.fates.now c.args.order.now c.in_ok-met.met.items c.requires c.in_ok-met.ensures;
}

pub offset_bounds-order-number-index : goal.offset_bounds-order-number-index
offset_bounds-order-number-index c = omega (arith, c.loop-number-test.true)

pub bounds-order-number-index : goal.bounds-order-number-index
bounds-order-number-index c = c.loop-number-test.true

pub index_mut-requires : goal.index_mut-requires
index_mut-requires c = omega (arith, c.in-Some-false.ensures.lookup.3.0, ap length c.deref.ensures.value)

pub loop-number-preserved : goal.loop-number-preserved
loop-number-preserved c =
    let met = c.loop-number.met.items in
    let k = c.loop-number.number-index in
    let number = get_or c.args.order.now k 0 in
    let found = c.in-Some-false.ensures.lookup.3 in
    let within : number < length met = omega (arith, found.0, ap length c.deref.ensures.value) in
    let unseen : get_or met number false ≡ false = ap (λ bs. get_or bs number false) (sym c.deref.ensures.value) ∙ sym (found.1 false) ∙ c.in-Some-false.field-0-test in
    record {
      long = length-set met number true ∙ c.loop-number.invariant.long;
      met = met-more c.args.changes.now c.args.order.now k met c.loop-number.invariant.met c.loop-number-test.true within unseen;
    }

pub returns-in-Some-true : goal.returns-in-Some-true
returns-in-Some-true c =
    let met = c.loop-number.met.items in
    let number = get_or c.args.order.now c.loop-number.number-index 0 in
    let found = c.in-Some-true.ensures.lookup.3 in
    let long : length c.deref.result.now ≡ length c.args.changes.now = ap length c.deref.ensures.value ∙ c.loop-number.invariant.long in
    let within : number < length c.args.changes.now = omega (arith, found.0, long) in
    let seen : get_or met number false ≡ true = ap (λ bs. get_or bs number false) (sym c.deref.ensures.value) ∙ sym (found.1 false) ∙ c.in-Some-true.field-0-test in
    (λ h. absurd (false≢true h), λ each. absurd (met-twice c.args.changes.now c.args.order.now c.loop-number.number-index met c.loop-number.invariant.met c.loop-number-test.true within seen each))

pub returns-in-None : goal.returns-in-None
returns-in-None c =
    let met = c.loop-number.met.items in
    let number = get_or c.args.order.now c.loop-number.number-index 0 in
    let long : length c.deref.result.now ≡ length c.args.changes.now = ap length c.deref.ensures.value ∙ c.loop-number.invariant.long in
    let past : length c.args.changes.now ≤ number = omega (arith, c.in-None.ensures.lookup.3, long) in
    (λ h. absurd (false≢true h), λ each. absurd (met-past c.args.changes.now c.args.order.now c.loop-number.number-index met c.loop-number.invariant.met c.loop-number-test.true past each))

pub returns : goal.returns
returns c =
    all-met c.args.changes.now c.args.order.now c.loop-number.number-index c.loop-number.met.items c.loop-number.invariant.met c.loop-number-test.false c.loop-number.invariant.long c.all_are_met.result (c.all_are_met.ensures ∙ ap (list_all (λ b. b)) c.deref-2.ensures.value)
