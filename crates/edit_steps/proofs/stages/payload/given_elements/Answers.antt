use Rattle.std.proofs.Common.{rules}
use Rattle.edit_steps.proofs.stages.payload.given_elements.Goals as goal

pub returns-in_ok-share-in-Some : goal.returns-in_ok-share-in-Some
returns-in_ok-share-in-Some c = search rules
