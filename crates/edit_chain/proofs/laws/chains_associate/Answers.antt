use Rattle.std.specs.Prelude.{List}
use Rattle.std.proofs.Common.{ap}
use Rattle.std.proofs.lemmas.List.{append_assoc}
use Rattle.edit_chain.specs.Chain.{Chain, last_root}
use Rattle.edit_chain.specs.declared.step.Step.{Step}
use Rattle.edit_chain.proofs.Steps.{steps-append, steps-from}
use Rattle.edit_chain.proofs.laws.chains_associate.Goals as goal

pub returns-clause-joined : goal.returns-clause-joined
returns-clause-joined c x y z =
    let with : List Step → Chain = λ ss. record { first = x.first; steps = ss } in
    ap with (append_assoc x.steps y.steps z.steps)

pub returns-clause-chain : goal.returns-clause-chain
returns-clause-chain c x y own other follows = steps-append x.first x.steps y.steps own (steps-from y.first (last_root x) y.steps follows other)
