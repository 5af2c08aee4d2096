use Rattle.std.proofs.Common.{◌≡◌, ◌≢◌, [], ◌∙◌, ap}
use Rattle.script_lines.specs.Line.{words}
use Rattle.script_lines.proofs.WordByWord.{words-behind, words-none, words-first, cut-some, nothing-there, something-there}
use Rattle.script_lines.proofs.field.Fields.next.Goals as goal

pub returns-then-is_empty-clause-words : goal.returns-then-is_empty-clause-words
returns-then-is_empty-clause-words c =
    let left = c.left-left.ensures in
    let none : c.left-left.result.now ≡ [] = nothing-there c.left-left.result.now c.is_empty.result c.is_empty.ensures c.if-is_empty.true in
    words-behind _ _ left.0 ∙ ap words none ∙ words-none

pub returns-clause-text : goal.returns-clause-text
returns-clause-text c =
    let left = c.left-left.ensures in
    let some : c.left-left.result.now ≢ [] = something-there c.left-left.result.now c.is_empty.result c.is_empty.ensures c.if-is_empty.false in
    record { left = c.left-left.result.now; trimmed = left.0; cut = c.cut_at_space.ensures; not_empty = cut-some _ _ _ c.cut_at_space.ensures some left.1 }

pub returns-clause-words : goal.returns-clause-words
returns-clause-words c = words-first _ _ _ (returns-clause-text c)
