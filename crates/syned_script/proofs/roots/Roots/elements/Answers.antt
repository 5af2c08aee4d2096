use Rattle.std.proofs.Common.{map}
use Rattle.script_lines.specs.LineValue.{ref_of}
use Rattle.syned_script.specs.State.{elements_in}
use Rattle.syned_script.specs.inner.SessionState.{roots_of}
use Rattle.syned_script.proofs.ManyElements.{one-more}
use Rattle.syned_script.proofs.roots.Roots.elements.Goals as goal

pub loop-reference-preserved : goal.loop-reference-preserved
loop-reference-preserved c =
    let roots = roots_of c.args.self.now in
    let references = c.args.references.now in
    one-more roots c.loop-reference.elements.items c.push.new.self.items references c.loop-reference.reference-index c.reference-item.result c.in_ok-element.field-0 (elements_in roots (map ref_of references))
    c.loop-reference-test.true c.reference-item.is c.in_ok-element.ensures.found c.in_ok-push.ensures.items c.loop-reference.invariant
