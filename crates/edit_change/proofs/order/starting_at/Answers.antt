use Rattle.std.proofs.Common.{◌≡◌, [], List, get_or, ap, sym, subst, ◌∙◌, rules}
use Rattle.std.specs.Cmp.Lexicographic.{slice_cmp}
use Rattle.std.specs.Ordering.{nat_cmp, ordering_index}
use Rattle.std.specs.declared.cmp.Ordering.TheVariants.{Less, Greater}
use Rattle.std.specs.List.Sorted.{IsNonDecreasingBy, IsPartitionPoint}
use Rattle.std.proofs.Common.{ℕ}
use Rattle.std.proofs.lemmas.Fn.{always_returns_same}
use Rattle.std.proofs.lemmas.Option.{slice_get-get_or}
use Rattle.edit_change.specs.Aim.{Over}
use Rattle.edit_change.specs.inner.DocumentOrder.{site, on_the_way}
use Rattle.edit_change.specs.declared.aimed.Aimed.{Aimed}
use Rattle.edit_change.specs.declared.aimed.AimForm.TheVariants as form
use Rattle.edit_change.proofs.Aiming.{one-sibling}
use Rattle.edit_change.proofs.Found.{place, start-found, start-missing}
use Rattle.edit_change.proofs.order.starting_at.Goals as goal

abbrev none : Aimed
none = record { change = 0; path = record { ref_ptr = (0, 0); now = [] }; form = form.FirstIn }

pub returns-in-Ok : goal.returns-in-Ok
returns-in-Ok c = λ cs sorted fit.
    let p = c.args.path.now in
    let aims = c.args.aims.now in
    let wanted : Aimed = record { change = 0; path = c.args.path; form = form.Over 1 } in
    let way : place wanted ≡ on_the_way p = ap (λ ps. site (Over ps)) (one-sibling p) in
    let there = c.in-Ok.ensures.position (λ (a : Aimed). slice_cmp nat_cmp (place a) (place wanted)) (always_returns_same _ _ _ (λ a r q k. search rules)) in
    let here = get_or aims c.in-Ok.index none in
    start-found cs aims p sorted fit c.in-Ok.index here (slice_get-get_or aims c.in-Ok.index none c.in-Ok.ensures.bound) (ap (slice_cmp nat_cmp (place here)) (sym way) ∙ there none)

pub returns-in-Err : goal.returns-in-Err
returns-in-Err c = λ cs sorted fit.
    let p = c.args.path.now in
    let aims = c.args.aims.now in
    let wanted : Aimed = record { change = 0; path = c.args.path; form = form.Over 1 } in
    let way : place wanted ≡ on_the_way p = ap (λ ps. site (Over ps)) (one-sibling p) in
    let there = c.in-Err.ensures.position (λ (a : Aimed). slice_cmp nat_cmp (place a) (place wanted)) (always_returns_same _ _ _ (λ a r q k. search rules)) in
    start-missing cs aims p sorted fit c.in-Err.field-0 (subst (λ (w : List ℕ). IsNonDecreasingBy (λ (a : Aimed). ordering_index (slice_cmp nat_cmp (place a) w)) aims → IsPartitionPoint (λ a. slice_cmp nat_cmp (place a) w ≡ Less) (λ a. slice_cmp nat_cmp (place a) w ≡ Greater) aims c.in-Err.field-0) way there)
