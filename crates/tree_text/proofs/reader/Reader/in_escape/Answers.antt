use Rattle.std.proofs.Common.{refl, sym, ◌∙◌, subst}
use Rattle.std.specs.Prelude.{encode_utf8}
use Rattle.tree_text.specs.inner.Reading.{IsMisplaced, Reads, reading}
use Rattle.tree_text.specs.declared.reader.State.TheVariants.{Text}
use Rattle.tree_text.proofs.TextSteps.{ends-escape, no-escape}
use Rattle.tree_text.proofs.reader.Reader.in_escape.Goals as goal

pub returns-in_default-clause-err : goal.returns-in_default-clause-err
returns-in_default-clause-err c =
    let r = reading c.args.self.now in
    subst (IsMisplaced r c.args.self.now.at (encode_utf8 c.args.c)) (sym c.misses.ensures) (refl, no-escape r c.requires.reading c.args.kind c.requires.state c.args.c (sym c.meant_by.ensures ∙ c.in_default.is))

pub returns-clause-ok : goal.returns-clause-ok
returns-clause-ok c =
    let r = reading c.args.self.now in
    subst (λ w. Reads r (encode_utf8 c.args.c) (record r { state = Text c.args.kind; word = w })) (sym c.in_ok-push.ensures.bytes) (ends-escape r c.requires.reading c.args.kind c.requires.state c.args.c c.in-Some.meant (sym c.meant_by.ensures ∙ c.in-Some.is))
