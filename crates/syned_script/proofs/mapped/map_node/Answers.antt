use Rattle.script_lines.specs.LineValue.{ref_of}
use Rattle.syned_script.specs.State.{node_in}
use Rattle.syned_script.specs.inner.SessionState.{roots_of}
use Rattle.syned_script.proofs.Pairing.{added-so}
use Rattle.syned_script.proofs.mapped.map_node.Goals as goal

pub returns-clause-added : goal.returns-clause-added
returns-clause-added c =
    let roots = roots_of c.args.roots.now in
    let mapped = c.map_node.ensures in
    added-so (node_in roots (ref_of c.args.input.now)) (node_in roots (ref_of c.args.output.now)) c.in_ok-input.input c.in_ok-output.output c.args.builder.now c.map_node.new.self c.map_node.result c.map_err.result
    c.in_ok-input.ensures.found c.in_ok-output.ensures.found mapped.taken mapped.ok c.map_err.ensures.cases
