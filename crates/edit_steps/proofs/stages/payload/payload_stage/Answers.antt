use Rattle.std.proofs.Common.{rules}
use Rattle.edit_steps.proofs.stages.payload.payload_stage.Goals as goal

pub returns-in_ok-stage-in-Replace-Node-Some-Node : goal.returns-in_ok-stage-in-Replace-Node-Some-Node
returns-in_ok-stage-in-Replace-Node-Some-Node c = search rules
