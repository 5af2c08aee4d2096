use Rattle.std.proofs.Common.{option_map, ap}
use Rattle.syntax_editor.specs.RecordCall.{Deleting}
use Rattle.syned_script.proofs.Recording.{recorded-so}
use Rattle.syned_script.proofs.calls.delete.Goals as goal

pub returns : goal.returns
returns c =
    let there = ap (option_map Deleting) c.in_ok-target.ensures.found in
    let made = c.delete.ensures in
    recorded-so _ (Deleting c.in_ok-target.target) _ _ c.delete.result c.map_err.result there made.accepted made.recorded made.refused c.map_err.ensures.cases
