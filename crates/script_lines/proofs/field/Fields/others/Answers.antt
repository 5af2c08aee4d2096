use Rattle.std.proofs.Common.{List, ℕ, filter, lit<, not, rules, sym, ◌∙◌, ap}
use Rattle.std.proofs.lemmas.Iterator.Consumers.{YieldsList-end}
use Rattle.std.proofs.lemmas.Iterator.Splits.{YieldsList-from_str_split}
use Rattle.script_lines.specs.Line.{is_empty, words}
use Rattle.script_lines.proofs.WordByWord.{words-behind}
use Rattle.script_lines.proofs.field.Fields.others.Goals as goal

pub returns : goal.returns
unfolding words
returns c =
    let parts = YieldsList-from_str_split {s = c.into_iter-text-iterator.result} 32 c.take_rest-at.result.text.now (lit< tt) (search rules) (search rules) (search rules) in
    let ended = YieldsList-end parts c.loop-text.yielded _ c.loop-text.yielded_by _ _ c.in-None.is c.next.ensures.steps in
    c.loop-text.invariant ∙ ap (λ (l : List (List ℕ)). filter (λ f. not (is_empty f)) l) ended.0 ∙ sym (words-behind _ _ c.take_rest-at.ensures.0)
