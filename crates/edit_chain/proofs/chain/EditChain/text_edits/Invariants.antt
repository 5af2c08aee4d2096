use Rattle.std.proofs.Common.{◌<◌, take, drop, length}
use Rattle.edit_chain.specs.Chain.{root_after}
use Rattle.edit_chain.specs.ChainText.{DoAll}
use Rattle.edit_chain.proofs.chain.EditChain.text_edits.Given as goal

abbrev pub invariant-loop-index : goal.invariant-loop-index
invariant-loop-index l = record {
  within : l.index < length l.steps;
  does : DoAll (root_after l.root (take l.index l.steps)) (drop l.index l.steps) l.all;
}

abbrev pub decreases-loop-index : goal.decreases-loop-index
decreases-loop-index l = l.index
