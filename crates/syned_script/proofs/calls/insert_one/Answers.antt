use Rattle.syntax_editor.specs.RecordCall.{Inserting}
use Rattle.syned_script.proofs.Stopping.{both-there}
use Rattle.syned_script.proofs.Recording.{recorded-so}
use Rattle.syned_script.proofs.calls.insert_one.Goals as goal

pub returns : goal.returns
returns c =
    let there = both-there Inserting _ _ _ _ c.in_ok-at.ensures.found c.in_ok-element.ensures.found in
    let made = c.insert.ensures in
    recorded-so _ (Inserting c.in_ok-at.at c.in_ok-element.element) _ _ c.insert.result c.map_err.result there made.accepted made.recorded made.refused c.map_err.ensures.cases
