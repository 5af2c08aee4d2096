use Rattle.syntax_editor.specs.RecordCall.{Replacing}
use Rattle.syned_script.proofs.Stopping.{both-there}
use Rattle.syned_script.proofs.Recording.{recorded-so}
use Rattle.syned_script.proofs.calls.replace_by_one.Goals as goal

pub returns : goal.returns
returns c =
    let there = both-there Replacing _ _ _ _ c.in_ok-target.ensures.found c.in_ok-element.ensures.found in
    let made = c.replace.ensures in
    recorded-so _ (Replacing c.in_ok-target.target c.in_ok-element.element) _ _ c.replace.result c.map_err.result there made.accepted made.recorded made.refused c.map_err.ensures.cases
