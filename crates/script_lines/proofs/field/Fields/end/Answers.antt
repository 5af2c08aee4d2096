use Rattle.std.proofs.Common.{◌≡◌, [], sym, ◌∙◌, ap}
use Rattle.script_lines.specs.Line.{words}
use Rattle.script_lines.proofs.WordByWord.{words-behind, words-none, words-more, nothing-there, something-there}
use Rattle.script_lines.proofs.field.Fields.end.Goals as goal

pub returns-then-is_empty-clause-ok : goal.returns-then-is_empty-clause-ok
returns-then-is_empty-clause-ok c =
    let left = c.left-left.ensures in
    let none : c.left-left.result.now ≡ [] = nothing-there c.left-left.result.now c.is_empty.result c.is_empty.ensures c.if-is_empty.true in
    words-behind _ _ left.0 ∙ ap words none ∙ words-none

pub returns-else-is_empty-clause-bad : goal.returns-else-is_empty-clause-bad
returns-else-is_empty-clause-bad c =
    let left = c.left-left.ensures in
    λ none. words-more c.left-left.result.now (something-there c.left-left.result.now c.is_empty.result c.is_empty.ensures c.if-is_empty.false) left.1 (sym (words-behind _ _ left.0) ∙ none)
