use Rattle.std.proofs.Common.{rules, arith, ◌≡◌, ◌+◌, true}
use Rattle.callers.specs.Rewritten.{is_block}
use Rattle.callers.proofs.Wrapped.{wraps_one}
use Rattle.callers.proofs.search_replace.wrap_block.Goals as goal

pub returns-in_ok-wrap : goal.returns-in_ok-wrap
returns-in_ok-wrap c =
    let block : is_block c.args.node.now ≡ true = search rules in
    let first : c.parenthesis.new.ids ≡ c.args.ids.now + 1 = c.in_ok-open.ensures.drawn in
    let second : c.parenthesis-then-eq.new.ids ≡ c.args.ids.now + 2 = omega (arith, first, c.in_ok-close.ensures.drawn) in
    let third : c.wrap.new.ids ≡ c.args.ids.now + 3 = omega (arith, second, c.in_ok-wrap.ensures.drawn) in
    wraps_one c.args.node.now c.args.ids.now c.parenthesis.new.ids c.parenthesis-then-eq.new.ids c.wrap.new.ids c.in_ok-open.«open» c.in_ok-close.close c.args.editor.now c.wrap.new.self _ block first second third c.in_ok-open.ensures.ok c.in_ok-close.ensures.ok c.in_ok-wrap.ensures.recorded
