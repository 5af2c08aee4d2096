use Rattle.edit_chain.proofs.FoundInSteps.{found-append}
use Rattle.edit_chain.proofs.laws.found_in_turn.Goals as goal

pub returns : goal.returns
returns c ss ts es between found own others = found-append ss ts es between found own others
