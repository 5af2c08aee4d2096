use Rattle.std.proofs.Common.{◌≡◌, Some, sym, ◌∙◌, ap}
use Rattle.path_table.specs.inner.Steps.{step, latest_from}
use Rattle.path_table.proofs.steps.Steps.latest_below.Goals as goal

pub returns-then-latest-slot : goal.returns-then-latest-slot
returns-then-latest-slot c =
    let found : latest_from c.self.inside.latest.items c.args.cell ≡ Some (c.in_ok-latest.latest, c.in_ok-latest.below) = ap (λ xs. latest_from xs c.args.cell) (sym c.deref.ensures.value) ∙ sym c.latest_from.ensures ∙ c.in_ok-latest.was in
    ap (λ s. step s c.args.cell c.args.slot) (sym c.self.view_is) ∙ ap (step c.self.inside.by_slot.entries c.args.cell) (sym c.if-latest-slot.true) ∙ c.self.invariant c.args.cell c.in_ok-latest.latest c.in_ok-latest.below found
