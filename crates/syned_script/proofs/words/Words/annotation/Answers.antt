use Rattle.std.proofs.Common.{◌≡◌, OnOk, sym, subst}
use Rattle.syned_script.proofs.WordNumbers.{with-new, with-used, number-used}
use Rattle.syned_script.proofs.words.Words.annotation.Goals as goal

pub returns-in-Some-clause-words : goal.returns-in-Some-clause-words
returns-in-Some-clause-words c = sym (with-used c.args.word.text.now c.args.self.now c.in-Some.annotation (sym c.in-Some.ensures))

pub returns-in-Some-clause-annotation : goal.returns-in-Some-clause-annotation
returns-in-Some-clause-annotation c = number-used c.args.word.text.now c.args.self.now c.in-Some.annotation (sym c.in-Some.ensures)

pub returns-in-None-clause-words : goal.returns-in-None-clause-words
returns-in-None-clause-words c = subst (λ ws. OnOk c.draw.result (c.draw.new.self ≡ ws)) (sym (with-new c.args.word.text.now c.args.self.now (sym c.in-None.ensures))) c.draw.ensures.words
