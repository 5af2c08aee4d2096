use Rattle.std.proofs.Common.{map, option_and_then, ap, ◌∙◌}
use Rattle.syntax_editor.specs.RecordCall.{ReplacingAll}
use Rattle.script_lines.specs.LineValue.{ref_of}
use Rattle.syned_script.specs.State.{element_in, elements_in, of_both}
use Rattle.syned_script.specs.inner.SessionState.{roots_of}
use Rattle.syned_script.proofs.Stopping.{both-there}
use Rattle.syned_script.proofs.Recording.{recorded-so}
use Rattle.syned_script.proofs.calls.replace_all.Goals as goal

pub returns : goal.returns
returns c =
    let roots = roots_of c.args.roots.now in
    let last = element_in roots (ref_of c.args.last.now) in
    let elements = elements_in roots (map ref_of c.args.payload.now) in
    let first = c.in_ok-first.first in
    let there = ap (option_and_then (λ e. of_both (ReplacingAll e) last elements)) c.in_ok-first.ensures.found ∙ both-there (ReplacingAll first) last elements _ _ c.in_ok-last.ensures.found c.in_ok-elements.ensures.found in
    let made = c.replace_all.ensures in
    recorded-so _ (ReplacingAll first c.in_ok-last.last c.in_ok-elements.elements.items) _ _ c.replace_all.result c.map_err.result there made.accepted made.recorded made.refused c.map_err.ensures.cases
