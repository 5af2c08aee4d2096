use Rattle.std.proofs.Common.{length, arith, rules, ap, sym, ◌∙◌}
use Rattle.green_tree.specs.Path.{last_item}
use Rattle.green_tree.specs.inner.Neighbors.{last_token}
use Rattle.green_tree.proofs.Slots.{size_at}
use Rattle.green_tree.proofs.FoundTokens.{child_at, tokens_before-all}
use Rattle.green_tree.proofs.Turns.{leads_within, walk_on, walk_leads, walk_finds_none}
use Rattle.green_tree.proofs.tokens.push_last_token.Goals as goal

pub returns-in_default-clause-ok : goal.returns-in_default-clause-ok
returns-in_default-clause-ok c =
    let walked = rw c.in-Node.is at c.loop-current.invariant in
    let all = ap last_item (sym (tokens_before-all c.in-Node.node.now c.children.result.now (length c.children.result.now) c.children.ensures (omega arith))) in
    walk_finds_none walked (all ∙ c.in_default.ensures.none)

pub returns-in_err-push-clause-none : goal.returns-in_err-push-clause-none
returns-in_err-push-clause-none c nothing =
    let walked = rw c.in-Node.is at c.loop-current.invariant in
    let all = ap last_item (sym (tokens_before-all c.in-Node.node.now c.children.result.now (length c.children.result.now) c.children.ensures (omega arith))) in
    absurd (walk_leads walked all c.in-Some.ensures.some nothing)

pub offset_bounds-children-slot : goal.offset_bounds-children-slot
offset_bounds-children-slot c =
    let inside = leads_within last_token c.in-Node.node.now c.children-in-loop-current.result.now _ c.in-Some.slot c.children-in-loop-current.ensures c.in-Some.ensures.some in
    search (arith, rules)

pub bounds-children-slot : goal.bounds-children-slot
bounds-children-slot c = leads_within last_token c.in-Node.node.now c.children-in-loop-current.result.now _ c.in-Some.slot c.children-in-loop-current.ensures c.in-Some.ensures.some

pub loop-current-smaller : goal.loop-current-smaller
loop-current-smaller c =
    let inside = leads_within last_token c.in-Node.node.now c.children-in-loop-current.result.now _ c.in-Some.slot c.children-in-loop-current.ensures c.in-Some.ensures.some in
    let below = size_at c.children-in-loop-current.result.now c.in-Some.slot c.index-children-slot.result inside c.index-children-slot.is in
    let below_node = rw c.children-in-loop-current.ensures at below in
    rw (c.in-Node.is, c.as_ref-current.ensures) (omega arith)

pub loop-current-preserved : goal.loop-current-preserved
loop-current-preserved c =
    let walked = rw c.in-Node.is at c.loop-current.invariant in
    let all = ap last_item (sym (tokens_before-all c.in-Node.node.now c.children.result.now (length c.children.result.now) c.children.ensures (omega arith))) in
    let inside = leads_within last_token c.in-Node.node.now c.children-in-loop-current.result.now _ c.in-Some.slot c.children-in-loop-current.ensures c.in-Some.ensures.some in
    let child = child_at c.in-Node.node.now c.children-in-loop-current.result.now c.in-Some.slot c.index-children-slot.result c.children-in-loop-current.ensures inside c.index-children-slot.is in
    rw c.as_ref-current.ensures (walk_on walked all c.in-Some.ensures.some child c.in_ok-push.ensures.items)
