use Rattle.std.proofs.Common.{◌+◌, ap, ap₂, ◌∙◌, rules}
use Rattle.std.specs.Prelude.{length, unwrap_or, is_some, if◌then◌else◌}
use Rattle.std.specs.HashMap.Entry.{map_with_value}
use Rattle.path_table.proofs.EnteredSteps.{entered-as}
use Rattle.path_table.proofs.steps.enter_in.Goals as goal

pub returns-clause-entered : goal.returns-clause-entered
returns-clause-entered c =
    let found = c.in_ok-by_slot.ensures in
    let e = c.in_ok-by_slot.field-0 in
    let m = c.or_insert.result.now in
    entered-as {after = (map_with_value e m).entries} (search rules) (record {
      made = c.or_insert.ensures.value ∙ ap₂ (λ o k. unwrap_or o (k + 1)) found.value c.len-next.ensures.len;
      steps = λ a j. (found.update.0 m).0 (a, j);
      long = found.len m ∙ ap (λ o. length c.args.by_slot.now.entries + (if is_some o then 0 else 1)) found.value;
    })
