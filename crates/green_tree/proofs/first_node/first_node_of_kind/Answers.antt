use Rattle.std.proofs.Common.{◌≡◌, length, arith, sym, ◌∙◌}
use Rattle.green_tree.proofs.WaitingNodes.{popped_first, search_found, search_on}
use Rattle.green_tree.proofs.first_node.first_node_of_kind.Goals as goal

pub returns-then-starts_as-2 : goal.returns-then-starts_as-2
returns-then-starts_as-2 c =
    let first = popped_first c.loop-first.invariant c.in-Some.ensures.items c.truncate.ensures.items c.in_ok-push.ensures.items in
    search_found first (sym c.starts_as-in-Some.ensures ∙ c.if-starts_as-2.true)

pub push_waiting-requires-in-Some : goal.push_waiting-requires-in-Some
push_waiting-requires-in-Some c =
    let first = popped_first c.loop-first.invariant c.in-Some.ensures.items c.truncate.ensures.items c.in_ok-push.ensures.items in
    record { fits = first.within.fits }

pub loop-first-preserved : goal.loop-first-preserved
loop-first-preserved c =
    let deep : c.len.result ≡ length c.push.new.self.items = omega (arith, c.len.ensures, c.push.new.self.ok) in
    let first = popped_first c.loop-first.invariant c.in-Some.ensures.items c.truncate.ensures.items c.in_ok-push.ensures.items in
    search_on first (sym c.starts_as-in-Some.ensures ∙ c.if-starts_as-2.false) deep c.in_ok-push_waiting-2.ensures
