use Rattle.std.proofs.Common.{◌≡◌, ◌++◌, length, [], ◌∷◌, map, Some, arith, refl, ap, ◌∙◌}
use Rattle.std.proofs.lemmas.List.{map-append}
use Rattle.green_tree.specs.Green.{leaf_tree}
use Rattle.green_tree.specs.GreenElement.{element_tree}
use Rattle.green_tree.specs.inner.FoundToken.{reached}
use Rattle.green_tree.proofs.TouchedChildren.{popped, popped_is_some, visit_node, visit_token, visits_end}
use Rattle.green_tree.proofs.offsets.tokens_at.Goals as goal

pub returns-in_err-push-clause-none : goal.returns-in_err-push-clause-none
returns-in_err-push-clause-none c nothing = absurd (popped_is_some _ _ c.loop-last.invariant c.in-Some.ensures.items nothing)

pub returns-in_err-push_touched-in-Node-clause-none : goal.returns-in_err-push_touched-in-Node-clause-none
returns-in_err-push_touched-in-Node-clause-none c nothing = absurd (popped_is_some _ _ c.loop-last.invariant c.in-Some.ensures.items nothing)

pub returns-in_err-from_slice-in-Token-clause-none : goal.returns-in_err-from_slice-in-Token-clause-none
returns-in_err-from_slice-in-Token-clause-none c nothing = absurd (popped_is_some _ _ c.loop-last.invariant c.in-Some.ensures.items nothing)

pub returns-in_err-share-in-Token-clause-none : goal.returns-in_err-share-in-Token-clause-none
returns-in_err-share-in-Token-clause-none c nothing = absurd (popped_is_some _ _ c.loop-last.invariant c.in-Some.ensures.items nothing)

pub returns-in_err-push-in-Token-clause-none : goal.returns-in_err-push-in-Token-clause-none
returns-in_err-push-in-Token-clause-none c nothing = absurd (popped_is_some _ _ c.loop-last.invariant c.in-Some.ensures.items nothing)

pub push_touched-requires-in-Node : goal.push_touched-requires-in-Node
push_touched-requires-in-Node c =
    let fits = (popped c.loop-last.invariant c.in-Some.ensures.items c.truncate.ensures.items c.in_ok-push.ensures.items).next.touched.fits in
    record { fits = rw c.in-Node.is at fits }

pub loop-last-preserved-in_ok-push_touched-in-Node : goal.loop-last-preserved-in_ok-push_touched-in-Node
loop-last-preserved-in_ok-push_touched-in-Node c =
    let next = popped c.loop-last.invariant c.in-Some.ensures.items c.truncate.ensures.items c.in_ok-push.ensures.items in
    let deep : c.len.result ≡ length c.push.new.self.items = omega (arith, c.len.ensures, c.push.new.self.ok) in
    visit_node next.visited next.next deep (rw c.in-Node.is c.in_ok-push_touched-in-Node.ensures.touched)

pub loop-last-preserved : goal.loop-last-preserved
loop-last-preserved c =
    let next = popped c.loop-last.invariant c.in-Some.ensures.items c.truncate.ensures.items c.in_ok-push.ensures.items in
    let copied : c.in_ok-from_slice-in-Token.field-0.items ≡ c.push.new.self.items = c.in_ok-from_slice-in-Token.ensures.items ∙ c.deref.ensures.value in
    let more : map reached c.push-in-Token.new.self.items ≡ map reached c.loop-last.found.items ++ (c.push.new.self.items, Some (leaf_tree c.in-Token.token)) ∷ [] = ap (map reached) c.in_ok-push-in-Token.ensures.items ∙ map-append reached c.loop-last.found.items _ ∙ rw (copied, c.in_ok-share-in-Token.ensures) refl in
    visit_token c.in-Token.token next.visited next.next (ap element_tree c.in-Token.is) more

pub returns-clause-found : goal.returns-clause-found
returns-clause-found c =
    let none : length c.loop-last.touched.items ≡ 0 = omega (arith, c.in_default.ensures.cases.0, c.loop-last.touched.ok) in
    ap (map reached) c.reverse.ensures.items ∙ visits_end reached c.loop-last.found.items c.loop-last.invariant none
