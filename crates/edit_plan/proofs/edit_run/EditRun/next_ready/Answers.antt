use Rattle.std.proofs.Common.{◌<◌, ◌≤◌, length, ap, arith}
use Rattle.edit_plan.proofs.NextReady.{one-more, first-least, first-steps, first-open, none-least, none-complete}
use Rattle.edit_plan.proofs.edit_run.EditRun.next_ready.Goals as goal

pub loop-change-init : goal.loop-change-init
loop-change-init c = λ k d l at. absurd (omega (arith, l))

pub loop-change-preserved : goal.loop-change-preserved
loop-change-preserved c = one-more c.args.self.now c.loop-change.change c.ready.result c.loop-change.invariant c.ready.ensures c.if-ready.false

pub returns-then-ready-clause-least : goal.returns-then-ready-clause-least
returns-then-ready-clause-least c =
    let within : c.loop-change.change < length c.args.self.now.plan.changes = omega (arith, c.loop-change-test.true, c.len-change-end.ensures.count, ap (λ p. length p.changes) c.plan.ensures.value) in
    first-least c.args.self.now c.loop-change.change within c.ready.result c.ready.ensures c.if-ready.true c.loop-change.invariant

pub returns-then-ready-clause-step : goal.returns-then-ready-clause-step
returns-then-ready-clause-step c =
    let within : c.loop-change.change < length c.args.self.now.plan.changes = omega (arith, c.loop-change-test.true, c.len-change-end.ensures.count, ap (λ p. length p.changes) c.plan.ensures.value) in
    first-steps c.args.self.now c.loop-change.change within c.ready.result c.ready.ensures c.if-ready.true

pub returns-then-ready-clause-none : goal.returns-then-ready-clause-none
returns-then-ready-clause-none c =
    let within : c.loop-change.change < length c.args.self.now.plan.changes = omega (arith, c.loop-change-test.true, c.len-change-end.ensures.count, ap (λ p. length p.changes) c.plan.ensures.value) in
    first-open c.args.self.now c.loop-change.change within c.ready.result c.ready.ensures c.if-ready.true

pub returns-clause-least : goal.returns-clause-least
returns-clause-least c =
    let past : length c.args.self.now.plan.changes ≤ c.loop-change.change = omega (arith, c.loop-change-test.false, c.len-change-end.ensures.count, ap (λ p. length p.changes) c.plan.ensures.value) in
    none-least c.args.self.now c.loop-change.change past c.loop-change.invariant

pub returns-clause-none : goal.returns-clause-none
returns-clause-none c =
    let past : length c.args.self.now.plan.changes ≤ c.loop-change.change = omega (arith, c.loop-change-test.false, c.len-change-end.ensures.count, ap (λ p. length p.changes) c.plan.ensures.value) in
    none-complete c.args.self.now c.loop-change.change past c.loop-change.invariant
