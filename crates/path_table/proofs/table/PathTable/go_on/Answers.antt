use Rattle.std.proofs.Common.{◌≡◌, ◌≤◌, Some, sym, subst, arith}
use Rattle.path_table.specs.inner.Steps.{step, way_end, IsWay}
use Rattle.path_table.specs.inner.PathTable.{size, IsGrown}
use Rattle.path_table.proofs.Ways.{way-push, end-push, end-within}
use Rattle.path_table.proofs.PathTables.{entered-step, entered-grown, grown-way}
use Rattle.path_table.proofs.table.PathTable.go_on.Goals as goal

pub enter-requires : goal.enter-requires
enter-requires g c =
    let t = c.args.self.now in
    rw c.requires.end (end-within t c.requires.tree 0 t.way.items (omega arith) c.requires.tree.way)

pub returns-in_err-push-clause-grown : goal.returns-in_err-push-clause-grown
returns-in_err-push-clause-grown g c =
    let t = c.args.self.now in
    let after = c.enter.new.self in
    let here : c.args.end ≤ size t = rw c.requires.end (end-within t c.requires.tree 0 t.way.items (omega arith) c.requires.tree.way) in
    let grown : IsGrown t (record t { steps = after }) = entered-grown t after c.args.end c.args.slot c.enter.result c.requires.tree here c.enter.ensures.entered c.enter.ensures.err in
    grown-way t (record t { steps = after }) c.push.new.self grown (subst (IsWay after 0) (sym c.in_err-push.ensures.items) grown.tree.way)

pub returns-clause-grown : goal.returns-clause-grown
returns-clause-grown g c =
    let t = c.args.self.now in
    let after = c.enter.new.self in
    let slot = c.args.slot in
    let below = c.in_ok-below.below in
    let here : c.args.end ≤ size t = rw c.requires.end (end-within t c.requires.tree 0 t.way.items (omega arith) c.requires.tree.way) in
    let grown : IsGrown t (record t { steps = after }) = entered-grown t after c.args.end slot c.enter.result c.requires.tree here c.enter.ensures.entered c.enter.ensures.err in
    let next : step after (way_end 0 t.way.items) slot ≡ Some below = subst (λ n. step after n slot ≡ Some below) c.requires.end (entered-step t.steps after c.args.end slot below c.in_ok-below.ensures.entered) in
    grown-way t (record t { steps = after }) c.push.new.self grown (subst (IsWay after 0) (sym c.in_ok-push.ensures.items) (way-push after 0 t.way.items slot below grown.tree.way next))

pub returns-clause-end : goal.returns-clause-end
returns-clause-end g c = rw c.in_ok-push.ensures.items (sym (end-push 0 c.args.self.now.way.items c.args.slot c.in_ok-below.below))
