use Rattle.std.proofs.Common.{◌≡◌, ◌<◌, length, take, get_or, refl, arith, ap, sym, subst, ◌∙◌}
use Rattle.std.specs.Prelude.{slice_get, Some}
use Rattle.std.proofs.lemmas.List.{length-map, take_more}
use Rattle.green_tree.specs.GreenElement.{element_tree}
use Rattle.green_tree.proofs.Lookup.{trees-forest}
use Rattle.green_tree.proofs.Slots.{slice_get-child}
use Rattle.edit_steps.specs.inner.Widths.{start, index_of}
use Rattle.edit_steps.specs.inner.Visited.{held_in, held_at, number_at}
use Rattle.edit_steps.proofs.Visiting.{number_within, node_holds}
use Rattle.edit_steps.proofs.Ways.{IsReached, reached_none, no_token, on_way, at_target}
use Rattle.edit_steps.proofs.stage.place.place_of.Goals as goal

pub loop-slot-init : goal.loop-slot-init
loop-slot-init c =
    let v = c.args.visited.now in
    let t = c.args.target.now in
    record {
      visited = c.requires.visited;
      same = λ p. refl;
      way = subst (λ p. IsReached (held_at v) t.parent.now t.at 0 p (element_tree c.args.element.now)) (sym c.in_ok-path.ensures.items) (reached_none (held_at v) t.parent.now t.at (element_tree c.args.element.now) c.requires.can);
      node = refl;
    }

pub offset_bounds-slot-items-slot-index : goal.offset_bounds-slot-items-slot-index
offset_bounds-slot-items-slot-index c = omega (arith, c.loop-slot-test.true)

pub bounds-slot-items-slot-index : goal.bounds-slot-items-slot-index
bounds-slot-items-slot-index c = c.loop-slot-test.true

pub unreachable-requires : goal.unreachable-requires
unreachable-requires c =
    let leaf = c.in_default.field-0 in
    let v = c.args.visited.now in
    let t = c.args.target.now in
    no_token (held_at v) t.parent.now t.at c.loop-slot.slot-index c.loop-slot.path.items leaf.kind leaf.text (subst (λ e. IsReached (held_at v) t.parent.now t.at c.loop-slot.slot-index c.loop-slot.path.items (element_tree e)) c.in_default.is c.loop-slot.invariant.way)

pub start-new_slot-requires-clause-visited : goal.start-new_slot-requires-clause-visited
start-new_slot-requires-clause-visited c = c.loop-slot.invariant.visited

pub start-new_slot-requires-clause-node : goal.start-new_slot-requires-clause-node
start-new_slot-requires-clause-node c = number_within c.loop-slot.visited c.loop-slot.invariant.visited (take c.loop-slot.slot-index c.args.target.now.parent.now) c.loop-slot.node c.loop-slot.invariant.node

pub start-new_slot-requires-clause-fits : goal.start-new_slot-requires-clause-fits
start-new_slot-requires-clause-fits c =
    let v = c.args.visited.now in
    let t = c.args.target.now in
    let l = c.loop-slot in
    let d = l.slot-index in
    let path = t.parent.now in
    let b = c.in-Node.branch in
    let way = subst (λ e. IsReached (held_at v) path t.at d l.path.items (element_tree e)) c.in-Node.is l.invariant.way in
    let this = node_holds v l.visited l.invariant.same (take d path) l.node l.invariant.node in
    let f = on_way (held_at v) path t.at d l.path.items b way (held_in l.visited l.node) this c.loop-slot-test.true (get_or path d 0) refl in
    let many = ap length (sym c.children-children.ensures) ∙ length-map c.children-children.result.now element_tree in
    omega (arith, f.inside, many, c.children-children.type_inv.0)

pub enter-requires-clause-visited : goal.enter-requires-clause-visited
enter-requires-clause-visited c = c.start-new_slot.ensures.visited

pub enter-requires-clause-node : goal.enter-requires-clause-node
enter-requires-clause-node c =
    let l = c.loop-slot in
    number_within c.start-new_slot.new.self c.start-new_slot.ensures.visited (take l.slot-index c.args.target.now.parent.now) l.node (c.start-new_slot.ensures.numbers (take l.slot-index c.args.target.now.parent.now) ∙ l.invariant.node)

pub offset_bounds-children-new_slot : goal.offset_bounds-children-new_slot
offset_bounds-children-new_slot c =
    let v = c.args.visited.now in
    let t = c.args.target.now in
    let l = c.loop-slot in
    let d = l.slot-index in
    let path = t.parent.now in
    let b = c.in-Node.branch in
    let way = subst (λ e. IsReached (held_at v) path t.at d l.path.items (element_tree e)) c.in-Node.is l.invariant.way in
    let this = node_holds v l.visited l.invariant.same (take d path) l.node l.invariant.node in
    let f = on_way (held_at v) path t.at d l.path.items b way (held_in l.visited l.node) this c.loop-slot-test.true (get_or path d 0) refl in
    let many = ap length (sym c.children-children.ensures) ∙ length-map c.children-children.result.now element_tree in
    omega (arith, f.inside, many, c.start-new_slot.ensures.start, c.children-children.type_inv.1)

pub bounds-children-new_slot : goal.bounds-children-new_slot
bounds-children-new_slot c =
    let v = c.args.visited.now in
    let t = c.args.target.now in
    let l = c.loop-slot in
    let d = l.slot-index in
    let path = t.parent.now in
    let b = c.in-Node.branch in
    let way = subst (λ e. IsReached (held_at v) path t.at d l.path.items (element_tree e)) c.in-Node.is l.invariant.way in
    let this = node_holds v l.visited l.invariant.same (take d path) l.node l.invariant.node in
    let f = on_way (held_at v) path t.at d l.path.items b way (held_in l.visited l.node) this c.loop-slot-test.true (get_or path d 0) refl in
    let many = ap length (sym c.children-children.ensures) ∙ length-map c.children-children.result.now element_tree in
    omega (arith, f.inside, many, c.start-new_slot.ensures.start)

pub returns-in_err-node-clause-same : goal.returns-in_err-node-clause-same
returns-in_err-node-clause-same c = λ p. c.enter.ensures.same p ∙ c.start-new_slot.ensures.same p ∙ c.loop-slot.invariant.same p

pub returns-in_err-node-clause-visited : goal.returns-in_err-node-clause-visited
returns-in_err-node-clause-visited c = c.enter.ensures.visited

pub returns-in_err-push-clause-same : goal.returns-in_err-push-clause-same
returns-in_err-push-clause-same c = λ p. c.enter.ensures.same p ∙ c.start-new_slot.ensures.same p ∙ c.loop-slot.invariant.same p

pub returns-in_err-push-clause-visited : goal.returns-in_err-push-clause-visited
returns-in_err-push-clause-visited c = c.enter.ensures.visited

pub loop-slot-preserved : goal.loop-slot-preserved
loop-slot-preserved c =
    let v = c.args.visited.now in
    let t = c.args.target.now in
    let l = c.loop-slot in
    let d = l.slot-index in
    let path = t.parent.now in
    let b = c.in-Node.branch in
    let way = subst (λ e. IsReached (held_at v) path t.at d l.path.items (element_tree e)) c.in-Node.is l.invariant.way in
    let this = node_holds v l.visited l.invariant.same (take d path) l.node l.invariant.node in
    let f = on_way (held_at v) path t.at d l.path.items b way (held_in l.visited l.node) this c.loop-slot-test.true (get_or path d 0) refl in
    let many = ap length (sym c.children-children.ensures) ∙ length-map c.children-children.result.now element_tree in
    let child = c.index-children-new_slot.result in
    let inside : c.start-new_slot.result < length c.children-children.result.now = omega (arith, f.inside, many, c.start-new_slot.ensures.start) in
    let found : slice_get b.children c.start-new_slot.result ≡ Some (element_tree child) = sym (ap (λ us. slice_get us c.start-new_slot.result) (trees-forest b.children)) ∙ slice_get-child b c.children-children.result.now c.start-new_slot.result child c.children-children.ensures inside c.index-children-new_slot.is in
    let more = take_more path d 0 c.loop-slot-test.true in
    record {
      visited = c.enter.ensures.visited;
      same = λ p. c.enter.ensures.same p ∙ c.start-new_slot.ensures.same p ∙ l.invariant.same p;
      way = f.next c.start-new_slot.result c.push.new.self.items (element_tree child) c.start-new_slot.ensures.start c.in_ok-push.ensures.items found;
      node = ap (number_at c.enter.new.self) more ∙ c.in_ok-node.ensures.leads (take d path) (c.start-new_slot.ensures.numbers (take d path) ∙ l.invariant.node);
    }

pub unreachable-requires-in_default-current : goal.unreachable-requires-in_default-current
unreachable-requires-in_default-current c =
    let leaf = c.in_default-current.field-0 in
    let v = c.args.visited.now in
    let t = c.args.target.now in
    no_token (held_at v) t.parent.now t.at c.loop-slot.slot-index c.loop-slot.path.items leaf.kind leaf.text (subst (λ e. IsReached (held_at v) t.parent.now t.at c.loop-slot.slot-index c.loop-slot.path.items (element_tree e)) c.in_default-current.is c.loop-slot.invariant.way)

pub start-first-requires-clause-visited : goal.start-first-requires-clause-visited
start-first-requires-clause-visited c = c.loop-slot.invariant.visited

pub start-first-requires-clause-node : goal.start-first-requires-clause-node
start-first-requires-clause-node c = number_within c.loop-slot.visited c.loop-slot.invariant.visited (take c.loop-slot.slot-index c.args.target.now.parent.now) c.loop-slot.node c.loop-slot.invariant.node

pub start-first-requires-clause-fits : goal.start-first-requires-clause-fits
start-first-requires-clause-fits c =
    let v = c.args.visited.now in
    let t = c.args.target.now in
    let l = c.loop-slot in
    let d = l.slot-index in
    let path = t.parent.now in
    let all : d ≡ length path = omega (arith, c.loop-slot-test.false, l.auto.slot-index-end) in
    let way = subst (λ e. IsReached (held_at v) path t.at d l.path.items (element_tree e)) c.in-Node-current.is l.invariant.way in
    let this = node_holds v l.visited l.invariant.same (take d path) l.node l.invariant.node in
    let f = at_target (held_at v) path t.at d l.path.items c.in-Node-current.end way (held_in l.visited l.node) this all in
    let many = ap length (sym c.children-children-2.ensures) ∙ length-map c.children-children-2.result.now element_tree in
    omega (arith, f.room, many, c.children-children-2.type_inv.0)

pub returns-clause-place : goal.returns-clause-place
returns-clause-place c =
    let v = c.args.visited.now in
    let t = c.args.target.now in
    let l = c.loop-slot in
    let d = l.slot-index in
    let path = t.parent.now in
    let all : d ≡ length path = omega (arith, c.loop-slot-test.false, l.auto.slot-index-end) in
    let way = subst (λ e. IsReached (held_at v) path t.at d l.path.items (element_tree e)) c.in-Node-current.is l.invariant.way in
    let this = node_holds v l.visited l.invariant.same (take d path) l.node l.invariant.node in
    let f = at_target (held_at v) path t.at d l.path.items c.in-Node-current.end way (held_in l.visited l.node) this all in
    let many = ap length (sym c.children-children-2.ensures) ∙ length-map c.children-children-2.result.now element_tree in
    record {
      path = f.path_is;
      first = c.start-first.ensures.start ∙ ap (λ h. start h t.at) f.held_is;
      node = c.start-first.ensures.numbers path ∙ ap (number_at l.visited) (sym f.front_is) ∙ l.invariant.node;
      wide = let same = ap (λ h. h.widths (index_of t.at)) f.held_is in omega (arith, f.wide, many, same, c.children-children-2.type_inv.0);
    }

pub returns-clause-same : goal.returns-clause-same
returns-clause-same c = λ p. c.start-first.ensures.same p ∙ c.loop-slot.invariant.same p

pub returns-clause-visited : goal.returns-clause-visited
returns-clause-visited c = c.start-first.ensures.visited
