use Rattle.std.proofs.Common.{sym, ◌∙◌, subst}
use Rattle.std.proofs.lemmas.Bool.{false≢true}
use Rattle.script_lines.specs.LineValue.{texts_of}
use Rattle.script_lines.specs.ScriptLine.{Kinds}
use Rattle.syned_script.specs.inner.SessionState.{state_of}
use Rattle.syned_script.specs.inner.Stops.{LineStops}
use Rattle.syned_script.proofs.KindsNamed.{kinds-line}
use Rattle.syned_script.proofs.session.Session.name_kinds.Goals as goal

pub returns-then-not-is_without_trees : goal.returns-then-not-is_without_trees
returns-then-not-is_without_trees c =
    let s = state_of c.args.self.now in
    subst (LineStops s (Kinds (texts_of c.args.names.now))) (sym c.bad.ensures) (λ first free. false≢true (sym c.if-not-is_without_trees.true ∙ c.is_without_trees.ensures.1 first))

pub returns : goal.returns
returns c =
    let s = state_of c.args.self.now in
    kinds-line s (texts_of c.args.names.now) c.name_kinds.result c.name_kinds.new.names (c.is_without_trees.ensures.0 c.if-not-is_without_trees.false) c.name_kinds.ensures.named c.name_kinds.ensures.free c.name_kinds.ensures.stops
