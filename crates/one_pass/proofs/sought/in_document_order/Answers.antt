use Rattle.std.proofs.Common.{◌≡◌, ◌+◌, ℕ, ◌++◌, ◌∷◌, [], map, take, length, ap, ap₂, sym, ◌∙◌, arith, rules}
use Rattle.std.specs.List.{enumerate_from}
use Rattle.std.specs.Ordering.{is_lt}
use Rattle.std.proofs.lemmas.List.{map-append, length-map, length-take-le}
use Rattle.std.proofs.lemmas.List.Sorted.{answers_always}
use Rattle.cst_core.specs.Element.{address}
use Rattle.cst_core.specs.SyntaxElement.{element_of}
use Rattle.edit_change.proofs.Independents.{enumerate-push, take-whole}
use Rattle.edit_change.proofs.Positions.{push-of-take}
use Rattle.one_pass.specs.inner.Sought.{place_of, as_registered, addresses}
use Rattle.one_pass.proofs.Ascending.{less_by, keys-ordered, ascending-sorted}
use Rattle.one_pass.proofs.Registered.{table-of}
use Rattle.one_pass.proofs.sought.in_document_order.Goals as goal

pub loop-number-preserved : goal.loop-number-preserved
loop-number-preserved c =
    let es = c.args.elements.now in
    let i : ℕ = c.loop-number.number in
    let e = c.index-elements-number.result in
    let a = address (element_of e) in
    let before = addresses (take i es) in
    let more : addresses (take (i + 1) es) ≡ before ++ a ∷ [] = ap addresses (push-of-take i es e c.loop-number-test.true c.index-elements-number.is) ∙ map-append (λ x. address (element_of x)) (take i es) (e ∷ []) in
    let long = length-map (take i es) (λ x. address (element_of x)) ∙ length-take-le i es (omega (arith, c.loop-number-test.true)) in
    let number : 0 + length before ≡ i = omega (arith, long) in
    ap (map as_registered) c.in_ok-push.ensures.items ∙ map-append as_registered c.loop-number.registered.items (c.of.result ∷ []) ∙ ap₂ (λ xs x. xs ++ x ∷ []) c.loop-number.invariant c.of.ensures ∙ sym (ap (enumerate_from 0) more ∙ enumerate-push 0 before a ∙ ap (λ n. enumerate_from 0 before ++ (n, a) ∷ []) number)

pub returns-clause-order : goal.returns-clause-order
returns-clause-order c =
    ascending-sorted place_of c.sort_by.new.self.items (c.in_ok-sort_by.ensures.sorted (less_by place_of) (keys-ordered place_of) (answers_always _ _ _ (λ f a r f' k. let told : is_lt r ≡ less_by place_of a.0.now a.1.0.now = search rules in told)))

pub returns-clause-all : goal.returns-clause-all
returns-clause-all c =
    let es = c.args.elements.now in
    let all = c.loop-number.invariant ∙ ap (λ xs. enumerate_from 0 (addresses xs)) (take-whole c.loop-number.number es c.loop-number-test.false) in
    let stable = c.in_ok-sort_by.ensures.stable (less_by place_of) (keys-ordered place_of) (answers_always _ _ _ (λ f a r f' k. let told : is_lt r ≡ less_by place_of a.0.now a.1.0.now = search rules in told)) in
    table-of (addresses es) c.loop-number.registered.items c.sort_by.new.self.items all stable
