use Rattle.std.proofs.Common.{◌≡◌, ◌<◌, ◌++◌, length, take, ap, sym, subst, ◌∙◌, rules, arith, length-append}
use Rattle.std.specs.List.{enumerate_from}
use Rattle.std.specs.Ordering.{is_lt}
use Rattle.std.proofs.lemmas.List.{take_all}
use Rattle.std.proofs.lemmas.List.Sorted.{ranks_by, answers_always}
use Rattle.std.proofs.lemmas.Option.{get_or_from_slice_get}
use Rattle.edit_change.specs.NewTree.{change_aims}
use Rattle.edit_change.specs.inner.Aimed.{aims_of, numbered}
use Rattle.edit_change.specs.inner.DocumentOrder.{FitsSome, stands_before}
use Rattle.edit_change.proofs.DocumentOrder.{aim_cmp, aims-total, stands-compared, are-sorted, aims-further}
use Rattle.edit_change.proofs.order.sorted_aims.Goals as goal

pub numbered_aim-requires : goal.numbered_aim-requires
numbered_aim-requires c =
    let cs = c.args.own.now ++ c.args.other.now in
    let change = c.change_in_both.result.now in
    let l : c.loop-number.number < length cs = omega (arith, length-append c.args.own.now c.args.other.now, c.loop-number-test.true) in
    subst FitsSome (get_or_from_slice_get cs c.loop-number.number change change c.change_in_both.ensures) (c.requires c.loop-number.number change l)

pub loop-number-preserved : goal.loop-number-preserved
loop-number-preserved c =
    let cs = c.args.own.now ++ c.args.other.now in
    let k = c.loop-number.number in
    let change = c.change_in_both.result.now in
    let l : k < length cs = omega (arith, length-append c.args.own.now c.args.other.now, c.loop-number-test.true) in
    aims-further cs k change c.loop-number.aims.items c.push.new.self.items c.numbered_aim.result l (sym (get_or_from_slice_get cs k change change c.change_in_both.ensures)) c.loop-number.invariant c.in_ok-push.ensures.items c.numbered_aim.ensures

pub returns : goal.returns
returns c =
    let cs = c.args.own.now ++ c.args.other.now in
    let whole : take c.loop-number.number cs ≡ cs = take_all c.loop-number.number cs (omega (arith, length-append c.args.own.now c.args.other.now)) in
    let all : aims_of c.loop-number.aims.items ≡ change_aims (enumerate_from 0 cs) = c.loop-number.invariant ∙ ap (λ xs. change_aims (enumerate_from 0 xs)) whole in
    let up = c.in_ok-sort_by.ensures.sorted (λ x y. is_lt (aim_cmp (numbered x) (numbered y))) (ranks_by aims-total numbered) (answers_always _ _ _ (λ f a r f' k. let told : is_lt r ≡ stands_before (numbered a.0.now) (numbered a.1.0.now) = search rules in told ∙ sym (stands-compared (numbered a.0.now) (numbered a.1.0.now)))) in
    are-sorted cs c.loop-number.aims.items c.sort_by.new.self.items all c.in_ok-sort_by.ensures.permutation up
