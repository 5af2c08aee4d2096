use Rattle.std.proofs.Common.{◌≡◌, ◌<◌, ◌+◌, ◌-◌, ap, arith, drop, get_or, length, length-set, refl, subst, ◌∙◌}
use Rattle.std.specs.Prelude.{ℕ, nat_eq, slice_index}
use Rattle.std.specs.List.{position_or_len}
use Rattle.std.proofs.lemmas.List.{get_or-replicate, length-replicate}
use Rattle.edit_steps.proofs.Indices.{index-past, index-put, index-kept}
use Rattle.edit_steps.proofs.order.indices.Goals as goal

pub loop-index-init : goal.loop-index-init
loop-index-init c =
    let order = c.args.order.now in
    let all = c.in_ok-indices.ensures.items_if_clones_equal (λ y h. h) in
    record {
      long = ap length all ∙ length-replicate _ _;
      at = λ n less.
          (let here = ap (λ xs. slice_index xs n) all ∙ get_or-replicate c.args.count n (length order) 0 less in
          let none = index-past order (length order) n (omega arith) in
          omega (arith, here, none));
    }

pub overflow_step-index : goal.overflow_step-index
overflow_step-index c = c.loop-index-test.true

pub offset_bounds-order-index : goal.offset_bounds-order-index
offset_bounds-order-index c = omega (arith, c.loop-index-test.true, c.loop-index.auto.index)

pub bounds-order-index : goal.bounds-order-index
bounds-order-index c = omega (arith, c.loop-index-test.true, c.loop-index.auto.index)

pub index_mut-requires : goal.index_mut-requires
index_mut-requires c = omega (arith, c.if-number-count.true, c.loop-index.invariant.long)

pub loop-index-preserved-then-number-count : goal.loop-index-preserved-then-number-count
loop-index-preserved-then-number-count c =
    let l = c.loop-index in
    let order = c.args.order.now in
    let k = l.index - 1 in
    let next : l.index ≡ k + 1 = omega (arith, c.loop-index-test.true) in
    let kept = subst (λ i. (n : ℕ) → n < c.args.count → slice_index l.indices.items n ≡ i + position_or_len (nat_eq n) (drop i order)) next l.invariant.at in
    record {
      long = length-set l.indices.items (get_or order k 0) k ∙ l.invariant.long;
      at = index-put order k _ (omega (arith, c.loop-index-test.true, l.auto.index)) refl c.args.count l.indices.items kept
          (omega (arith, c.if-number-count.true, l.invariant.long));
    }

pub loop-index-preserved : goal.loop-index-preserved
loop-index-preserved c =
    let l = c.loop-index in
    let order = c.args.order.now in
    let k = l.index - 1 in
    let next : l.index ≡ k + 1 = omega (arith, c.loop-index-test.true) in
    let kept = subst (λ i. (n : ℕ) → n < c.args.count → slice_index l.indices.items n ≡ i + position_or_len (nat_eq n) (drop i order)) next l.invariant.at in
    record {
      long = l.invariant.long;
      at = index-kept order k _ (omega (arith, c.loop-index-test.true, l.auto.index)) refl c.args.count l.indices.items kept c.if-number-count.false;
    }

pub returns : goal.returns
returns c =
    let l = c.loop-index in
    let order = c.args.order.now in
    let first : l.index ≡ 0 = omega (arith, c.loop-index-test.false) in
    let at = subst (λ i. (n : ℕ) → n < c.args.count → slice_index l.indices.items n ≡ i + position_or_len (nat_eq n) (drop i order)) first l.invariant.at in
    record { long = l.invariant.long; at = λ n less. omega (arith, at n less) }
