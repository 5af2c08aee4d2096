use Rattle.std.proofs.Common.{◌∙◌, sym, ap, refl}
use Rattle.std.specs.Prelude.{is_some}
use Rattle.edit_steps.proofs.GapTables.{put_at-first, put_at-after, some-mapped}
use Rattle.edit_steps.proofs.order.gap_table.GapTable.put_at.Goals as goal

pub returns-in_ok-insert-clause-after : goal.returns-in_ok-insert-clause-after
returns-in_ok-insert-clause-after c =
    let table = c.args.self.now in
    let updates = c.in_ok-insert.ensures.updates in
    put_at-first table (record { first = c.insert.new.self; after_element = table.after_element }) c.in_ok-path.path c.args.number c.args.position.now (ap is_some (sym c.first_of.ensures) ∙ some-mapped _ c.first_of.result ∙ sym c.is_some.ensures ∙ c.if-is_some.true) (c.in_ok-path.ensures.items ∙ c.anchor.ensures) refl (updates.1, updates.3)

pub returns-in_ok-insert-2-clause-after : goal.returns-in_ok-insert-2-clause-after
returns-in_ok-insert-2-clause-after c =
    let table = c.args.self.now in
    let updates = c.in_ok-insert-2.ensures.updates in
    put_at-after table (record { first = table.first; after_element = c.insert-else-is_some.new.self }) c.in_ok-path.path c.args.number c.args.position.now (ap is_some (sym c.first_of.ensures) ∙ some-mapped _ c.first_of.result ∙ sym c.is_some.ensures ∙ c.if-is_some.false) (c.in_ok-path.ensures.items ∙ c.anchor.ensures) refl (updates.1, updates.3)
