use Rattle.std.proofs.Common.{◌≡◌, ◌<◌, ◌+◌, ◌++◌, ◌∷◌, [], length, get_or, ap, sym, subst, ◌∙◌, arith}
use Rattle.std.specs.Prelude.{slice_set}
use Rattle.std.specs.Vec.{with_item}
use Rattle.std.proofs.lemmas.List.{length-append, length-set}
use Rattle.edit_steps.specs.declared.stage.visited.VisitedNodes.{VisitedNodes}
use Rattle.edit_steps.specs.inner.Visited.{IsEntered}
use Rattle.edit_steps.proofs.Visiting.{exchanged, exchanged_pushed, kept_held, kept_visited, leads_before, same_before, visited_before, enters, entered_leads, entered_same, entered_visited}
use Rattle.edit_steps.proofs.stage.visited.VisitedNodes.enter.Goals as goal

pub returns-in_err-number-clause-same : goal.returns-in_err-number-clause-same
returns-in_err-number-clause-same c =
    let v = c.args.self.now in
    let n = c.args.node in
    let x = c.index_mut.result.now in
    let y = c.enter.new.self in
    let items : c.reserve.new.self.items ≡ v.nodes.items = c.reserve.ensures.items in
    let within : n < length v.nodes.items = c.requires.node in
    let is : x ≡ get_or v.nodes.items n x = c.index_mut.ensures.value ∙ ap (λ xs. get_or xs n x) items in
    let new : VisitedNodes = record { nodes = with_item c.reserve.new.self n y } in
    let ex = exchanged v new n y (ap (λ xs. slice_set xs n y) items) in
    kept_held v n within x y is new ex c.in_err-number.ensures.err_held c.in_err-number.ensures.err_below

pub returns-in_err-number-clause-visited : goal.returns-in_err-number-clause-visited
returns-in_err-number-clause-visited c =
    let v = c.args.self.now in
    let n = c.args.node in
    let x = c.index_mut.result.now in
    let y = c.enter.new.self in
    let items : c.reserve.new.self.items ≡ v.nodes.items = c.reserve.ensures.items in
    let within : n < length v.nodes.items = c.requires.node in
    let is : x ≡ get_or v.nodes.items n x = c.index_mut.ensures.value ∙ ap (λ xs. get_or xs n x) items in
    let new : VisitedNodes = record { nodes = with_item c.reserve.new.self n y } in
    let ex = exchanged v new n y (ap (λ xs. slice_set xs n y) items) in
    kept_visited v n within x y is new ex c.in_err-number.ensures.err_held c.in_err-number.ensures.err_below c.requires.visited

pub returns-then-number-next-clause-leads : goal.returns-then-number-next-clause-leads
returns-then-number-next-clause-leads c =
    let v = c.args.self.now in
    let n = c.args.node in
    let x = c.index_mut.result.now in
    let y = c.enter.new.self in
    let items : c.reserve.new.self.items ≡ v.nodes.items = c.reserve.ensures.items in
    let within : n < length v.nodes.items = c.requires.node in
    let is : x ≡ get_or v.nodes.items n x = c.index_mut.ensures.value ∙ ap (λ xs. get_or xs n x) items in
    let new : VisitedNodes = record { nodes = c.push_reserved.new.self } in
    let all : new.nodes.items ≡ slice_set v.nodes.items n y ++ c.new.result ∷ [] = c.push_reserved.ensures.items ∙ ap (λ xs. slice_set xs n y ++ c.new.result ∷ []) items in
    let ex = exchanged_pushed v new n y c.new.result all c.new.ensures.held c.new.ensures.below in
    let last : c.len-next.result ≡ length v.nodes.items = omega (arith, c.len-next.ensures, v.nodes.ok.0) in
    let e = subst (λ k. IsEntered x y c.args.slot k c.in_ok-number.number) last c.in_ok-number.ensures.ok in
    let here : c.in_ok-number.number ≡ length v.nodes.items = c.if-number-next.true ∙ last in
    let one = ap length all ∙ length-append (slice_set v.nodes.items n y) (c.new.result ∷ []) in
    let longer : length new.nodes.items ≡ c.in_ok-number.number + 1 = omega (arith, one, here, length-set v.nodes.items n y) in
    let enters = enters v n within x y is new ex c.args.slot c.in_ok-number.number e c.requires.visited here longer in
    entered_leads v new n c.args.slot c.in_ok-number.number enters within

pub returns-then-number-next-clause-same : goal.returns-then-number-next-clause-same
returns-then-number-next-clause-same c =
    let v = c.args.self.now in
    let n = c.args.node in
    let x = c.index_mut.result.now in
    let y = c.enter.new.self in
    let items : c.reserve.new.self.items ≡ v.nodes.items = c.reserve.ensures.items in
    let within : n < length v.nodes.items = c.requires.node in
    let is : x ≡ get_or v.nodes.items n x = c.index_mut.ensures.value ∙ ap (λ xs. get_or xs n x) items in
    let new : VisitedNodes = record { nodes = c.push_reserved.new.self } in
    let all : new.nodes.items ≡ slice_set v.nodes.items n y ++ c.new.result ∷ [] = c.push_reserved.ensures.items ∙ ap (λ xs. slice_set xs n y ++ c.new.result ∷ []) items in
    let ex = exchanged_pushed v new n y c.new.result all c.new.ensures.held c.new.ensures.below in
    let last : c.len-next.result ≡ length v.nodes.items = omega (arith, c.len-next.ensures, v.nodes.ok.0) in
    let e = subst (λ k. IsEntered x y c.args.slot k c.in_ok-number.number) last c.in_ok-number.ensures.ok in
    let here : c.in_ok-number.number ≡ length v.nodes.items = c.if-number-next.true ∙ last in
    let one = ap length all ∙ length-append (slice_set v.nodes.items n y) (c.new.result ∷ []) in
    let longer : length new.nodes.items ≡ c.in_ok-number.number + 1 = omega (arith, one, here, length-set v.nodes.items n y) in
    let enters = enters v n within x y is new ex c.args.slot c.in_ok-number.number e c.requires.visited here longer in
    entered_same v new n c.args.slot c.in_ok-number.number enters within

pub returns-then-number-next-clause-visited : goal.returns-then-number-next-clause-visited
returns-then-number-next-clause-visited c =
    let v = c.args.self.now in
    let n = c.args.node in
    let x = c.index_mut.result.now in
    let y = c.enter.new.self in
    let items : c.reserve.new.self.items ≡ v.nodes.items = c.reserve.ensures.items in
    let within : n < length v.nodes.items = c.requires.node in
    let is : x ≡ get_or v.nodes.items n x = c.index_mut.ensures.value ∙ ap (λ xs. get_or xs n x) items in
    let new : VisitedNodes = record { nodes = c.push_reserved.new.self } in
    let all : new.nodes.items ≡ slice_set v.nodes.items n y ++ c.new.result ∷ [] = c.push_reserved.ensures.items ∙ ap (λ xs. slice_set xs n y ++ c.new.result ∷ []) items in
    let ex = exchanged_pushed v new n y c.new.result all c.new.ensures.held c.new.ensures.below in
    let last : c.len-next.result ≡ length v.nodes.items = omega (arith, c.len-next.ensures, v.nodes.ok.0) in
    let e = subst (λ k. IsEntered x y c.args.slot k c.in_ok-number.number) last c.in_ok-number.ensures.ok in
    let here : c.in_ok-number.number ≡ length v.nodes.items = c.if-number-next.true ∙ last in
    let one = ap length all ∙ length-append (slice_set v.nodes.items n y) (c.new.result ∷ []) in
    let longer : length new.nodes.items ≡ c.in_ok-number.number + 1 = omega (arith, one, here, length-set v.nodes.items n y) in
    let enters = enters v n within x y is new ex c.args.slot c.in_ok-number.number e c.requires.visited here longer in
    entered_visited v new n c.args.slot c.in_ok-number.number enters within c.requires.visited

pub returns-else-number-next-clause-leads : goal.returns-else-number-next-clause-leads
returns-else-number-next-clause-leads c =
    let v = c.args.self.now in
    let n = c.args.node in
    let x = c.index_mut.result.now in
    let y = c.enter.new.self in
    let items : c.reserve.new.self.items ≡ v.nodes.items = c.reserve.ensures.items in
    let within : n < length v.nodes.items = c.requires.node in
    let is : x ≡ get_or v.nodes.items n x = c.index_mut.ensures.value ∙ ap (λ xs. get_or xs n x) items in
    let new : VisitedNodes = record { nodes = with_item c.reserve.new.self n y } in
    let ex = exchanged v new n y (ap (λ xs. slice_set xs n y) items) in
    let last : c.len-next.result ≡ length v.nodes.items = omega (arith, c.len-next.ensures, v.nodes.ok.0) in
    let e = subst (λ k. IsEntered x y c.args.slot k c.in_ok-number.number) last c.in_ok-number.ensures.ok in
    let other : c.in_ok-number.number ≡ length v.nodes.items → ⊥ = λ same. c.if-number-next.false (same ∙ sym last) in
    leads_before v n within x y is new ex c.args.slot c.in_ok-number.number e other

pub returns-else-number-next-clause-same : goal.returns-else-number-next-clause-same
returns-else-number-next-clause-same c =
    let v = c.args.self.now in
    let n = c.args.node in
    let x = c.index_mut.result.now in
    let y = c.enter.new.self in
    let items : c.reserve.new.self.items ≡ v.nodes.items = c.reserve.ensures.items in
    let within : n < length v.nodes.items = c.requires.node in
    let is : x ≡ get_or v.nodes.items n x = c.index_mut.ensures.value ∙ ap (λ xs. get_or xs n x) items in
    let new : VisitedNodes = record { nodes = with_item c.reserve.new.self n y } in
    let ex = exchanged v new n y (ap (λ xs. slice_set xs n y) items) in
    let last : c.len-next.result ≡ length v.nodes.items = omega (arith, c.len-next.ensures, v.nodes.ok.0) in
    let e = subst (λ k. IsEntered x y c.args.slot k c.in_ok-number.number) last c.in_ok-number.ensures.ok in
    let other : c.in_ok-number.number ≡ length v.nodes.items → ⊥ = λ same. c.if-number-next.false (same ∙ sym last) in
    same_before v n within x y is new ex c.args.slot c.in_ok-number.number e other

pub returns-else-number-next-clause-visited : goal.returns-else-number-next-clause-visited
returns-else-number-next-clause-visited c =
    let v = c.args.self.now in
    let n = c.args.node in
    let x = c.index_mut.result.now in
    let y = c.enter.new.self in
    let items : c.reserve.new.self.items ≡ v.nodes.items = c.reserve.ensures.items in
    let within : n < length v.nodes.items = c.requires.node in
    let is : x ≡ get_or v.nodes.items n x = c.index_mut.ensures.value ∙ ap (λ xs. get_or xs n x) items in
    let new : VisitedNodes = record { nodes = with_item c.reserve.new.self n y } in
    let ex = exchanged v new n y (ap (λ xs. slice_set xs n y) items) in
    let last : c.len-next.result ≡ length v.nodes.items = omega (arith, c.len-next.ensures, v.nodes.ok.0) in
    let e = subst (λ k. IsEntered x y c.args.slot k c.in_ok-number.number) last c.in_ok-number.ensures.ok in
    let other : c.in_ok-number.number ≡ length v.nodes.items → ⊥ = λ same. c.if-number-next.false (same ∙ sym last) in
    visited_before v n within x y is new ex c.args.slot c.in_ok-number.number e other c.requires.visited
