use Rattle.script_lines.specs.LineValue.{ref_of}
use Rattle.syned_script.specs.State.{node_in}
use Rattle.syned_script.specs.inner.SessionState.{roots_of}
use Rattle.syned_script.proofs.Pairing.{one-pair}
use Rattle.syned_script.proofs.mapped.pair_of.Goals as goal

pub returns-clause-pair : goal.returns-clause-pair
returns-clause-pair c =
    let roots = roots_of c.args.roots.now in
    one-pair (node_in roots (ref_of c.args.parent.now)) (node_in roots (ref_of c.args.input.now)) (node_in roots (ref_of c.args.output.now)) c.in_ok-node.field-0 c.new-builder.result c.map_node.new.builder
    c.in_ok-node.ensures.found c.new-builder.ensures.empty c.in_ok-map_node.ensures.added
