use Rattle.syntax_editor.specs.RecordCall.{InsertingAll}
use Rattle.syned_script.proofs.Stopping.{both-there}
use Rattle.syned_script.proofs.Recording.{recorded-so}
use Rattle.syned_script.proofs.calls.insert_all.Goals as goal

pub returns : goal.returns
returns c =
    let there = both-there InsertingAll _ _ _ _ c.in_ok-at.ensures.found c.in_ok-elements.ensures.found in
    let made = c.insert_all.ensures in
    recorded-so _ (InsertingAll c.in_ok-at.at c.in_ok-elements.elements.items) _ _ c.insert_all.result c.map_err.result there made.accepted made.recorded made.refused c.map_err.ensures.cases
