use Rattle.std.proofs.Common.{◌∷◌, [], ◌+◌, ◌∙◌, length, ap, arith}
use Rattle.std.proofs.lemmas.List.{length-append}
use Rattle.one_pass.proofs.EmptyLists.{more-empty}
use Rattle.one_pass.proofs.mark.empty_lists.Goals as goal

pub loop-init : goal.loop-init
loop-init g c = record {
  size = ap length c.in_ok-lists.ensures.items;
  empty = λ k d l. absurd (omega (arith, l, ap length c.in_ok-lists.ensures.items));
}

pub loop-preserved : goal.loop-preserved
loop-preserved g c =
    let lists = c.loop.lists.items in
    let more = c.in_ok-push.ensures.items in
    record {
      size = ap length more ∙ length-append lists (c.new.result ∷ []) ∙ ap (λ n. n + 1) c.loop.invariant.size;
      empty = more-empty lists c.push.new.self.items c.new.result more c.new.ensures.items c.loop.invariant.empty;
    }

pub returns-clause-size : goal.returns-clause-size
returns-clause-size g c = omega (arith, c.loop.invariant.size, c.loop-test.false, c.loop.auto.counter-end)

pub returns-clause-empty : goal.returns-clause-empty
returns-clause-empty g c = c.loop.invariant.empty
