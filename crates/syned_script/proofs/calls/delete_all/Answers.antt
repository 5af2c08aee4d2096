use Rattle.syntax_editor.specs.RecordCall.{DeletingAll}
use Rattle.syned_script.proofs.Stopping.{both-there}
use Rattle.syned_script.proofs.Recording.{recorded-so}
use Rattle.syned_script.proofs.calls.delete_all.Goals as goal

pub returns : goal.returns
returns c =
    let there = both-there DeletingAll _ _ _ _ c.in_ok-first.ensures.found c.in_ok-last.ensures.found in
    let made = c.delete_all.ensures in
    recorded-so _ (DeletingAll c.in_ok-first.first c.in_ok-last.last) _ _ c.delete_all.result c.map_err.result there made.accepted made.recorded made.refused c.map_err.ensures.cases
