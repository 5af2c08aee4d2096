use Rattle.syntax_editor.specs.RecordCall.{ReplacingWithMany}
use Rattle.syned_script.proofs.Stopping.{both-there}
use Rattle.syned_script.proofs.Recording.{recorded-so}
use Rattle.syned_script.proofs.calls.replace_with_many.Goals as goal

pub returns : goal.returns
returns c =
    let there = both-there ReplacingWithMany _ _ _ _ c.in_ok-target.ensures.found c.in_ok-elements.ensures.found in
    let made = c.replace_with_many.ensures in
    recorded-so _ (ReplacingWithMany c.in_ok-target.target c.in_ok-elements.elements.items) _ _ c.replace_with_many.result c.map_err.result there made.accepted made.recorded made.refused c.map_err.ensures.cases
