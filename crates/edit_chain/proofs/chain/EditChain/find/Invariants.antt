use Rattle.std.proofs.Common.{◌∷◌}
use Rattle.cst_core.specs.Element.{NumbersTell}
use Rattle.cst_core.specs.SyntaxElement.{element_of}
use Rattle.edit_chain.specs.Found.{roots_and_mapped}
use Rattle.edit_chain.proofs.FoundInSteps.{FoundSoFar}
use Rattle.edit_chain.proofs.chain.EditChain.find.Given as goal

abbrev pub invariant-loop-step : goal.invariant-loop-step
invariant-loop-step l =
    NumbersTell (element_of l.element ∷ roots_and_mapped l.step-items) → FoundSoFar l.element l.step-items l.step-index l.found.items
