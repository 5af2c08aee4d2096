use Rattle.std.proofs.Common.{◌∙◌, ap, map, reverse}
use Rattle.edit_change.proofs.Lists.{if-ok-weaker}
use Rattle.edit_steps.specs.inner.Turns.{number_in}
use Rattle.edit_steps.proofs.TurnsSorted.{sorted-default, default-allowed}
use Rattle.edit_steps.proofs.order.document_order.default_order.Goals as goal

pub returns-clause-ordered : goal.returns-clause-ordered
returns-clause-ordered c =
    let sorted = sorted-default c.args.changes.now c.in_ok-turns.turns.items c.sort.new.self.items c.in_ok-turns.ensures c.in_ok-sort.ensures.permutation c.in_ok-sort.ensures.sorted in
    if-ok-weaker _ _ (λ v is. sorted v.items (is ∙ ap (λ ts. map number_in (reverse ts)) c.deref.ensures.value)) c.numbers_back.result c.numbers_back.ensures

pub returns-clause-allowed : goal.returns-clause-allowed
returns-clause-allowed c =
    let sorted = sorted-default c.args.changes.now c.in_ok-turns.turns.items c.sort.new.self.items c.in_ok-turns.ensures c.in_ok-sort.ensures.permutation c.in_ok-sort.ensures.sorted in
    if-ok-weaker _ _ (λ v is. default-allowed c.args.changes.now v.items (sorted v.items (is ∙ ap (λ ts. map number_in (reverse ts)) c.deref.ensures.value))) c.numbers_back.result c.numbers_back.ensures
