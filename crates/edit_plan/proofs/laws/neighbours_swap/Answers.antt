use Rattle.edit_plan.proofs.Swapped.{makes-swapped}
use Rattle.edit_plan.proofs.laws.neighbours_swap.Goals as goal

pub returns : goal.returns
returns c = makes-swapped
