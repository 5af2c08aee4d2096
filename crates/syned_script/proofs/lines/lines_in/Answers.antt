use Rattle.std.proofs.Common.{ap, sym, ◌∙◌}
use Rattle.syned_script.specs.Script.{lines_of_parts}
use Rattle.syned_script.specs.inner.Run.{texts_in}
use Rattle.syned_script.proofs.TextLines.{without-rest, with-last}
use Rattle.syned_script.proofs.lines.lines_in.Goals as goal

pub returns-then-is_empty : goal.returns-then-is_empty
returns-then-is_empty c =
    without-rest c.in_ok-lines.lines.items c.pop.new.self.items c.in-Some.rest c.is_empty.result c.in-Some.ensures.items c.is_empty.ensures c.if-is_empty.true ∙ ap lines_of_parts c.in_ok-lines.ensures

pub returns : goal.returns
returns c =
    ap texts_in (c.in_ok-push.ensures.items ∙ sym c.in-Some.ensures.items)
    ∙ with-last c.in_ok-lines.lines.items c.pop.new.self.items c.in-Some.rest c.is_empty.result c.in-Some.ensures.items c.is_empty.ensures c.if-is_empty.false
    ∙ ap lines_of_parts c.in_ok-lines.ensures
