use Rattle.std.proofs.Common.{◌≡◌, ◌≢◌, false, refl, sym, ◌∙◌, subst, arith}
use Rattle.std.specs.Prelude.{encode_utf8}
use Rattle.std.proofs.lemmas.Result.{on_ok_weaker}
use Rattle.tree_text.specs.inner.Reading.{IsMisplaced, Reads, reading, is_outside}
use Rattle.tree_text.proofs.BetweenSteps.{opens, a-gap, begins-name, stuck-outside, stuck-inside}
use Rattle.tree_text.proofs.reader.Reader.between.Goals as goal

pub returns-then-is_outside-clause-err : goal.returns-then-is_outside-clause-err
returns-then-is_outside-clause-err c =
    let r = reading c.args.self.now in
    subst (IsMisplaced r c.args.self.now.at (encode_utf8 c.args.c)) (sym c.misses.ensures) (refl, stuck-outside r c.requires.reading c.args.c c.requires.state (sym c.is_outside.ensures ∙ c.if-is_outside.true))

pub returns-in-40-clause-ok : goal.returns-in-40-clause-ok
returns-in-40-clause-ok c =
    let inside : is_outside (reading c.args.self.now) c.args.c ≡ false = sym c.is_outside.ensures ∙ c.if-is_outside.false in
    opens (reading c.args.self.now) c.requires.reading c.args.c c.requires.state (omega arith) inside

pub returns-in_default-clause-ok : goal.returns-in_default-clause-ok
returns-in_default-clause-ok c =
    let inside : is_outside (reading c.args.self.now) c.args.c ≡ false = sym c.is_outside.ensures ∙ c.if-is_outside.false in
    a-gap (reading c.args.self.now) c.requires.reading c.args.c c.requires.state (sym c.has.ensures ∙ c.if-has.true) inside

pub returns-in_default-2-clause-ok : goal.returns-in_default-2-clause-ok
returns-in_default-2-clause-ok c =
    let r = reading c.args.self.now in
    let inside : is_outside r c.args.c ≡ false = sym c.is_outside.ensures ∙ c.if-is_outside.false in
    on_ok_weaker c.push_to_name.result (λ is. subst (Reads r (encode_utf8 c.args.c)) (sym is) (begins-name r c.requires.reading c.args.c c.requires.state (sym c.is_name_character.ensures ∙ c.if-is_name_character.true) inside)) c.push_to_name.ensures.ok

pub returns-in_default-3-clause-err : goal.returns-in_default-3-clause-err
returns-in_default-3-clause-err c =
    let r = reading c.args.self.now in
    let inside : is_outside r c.args.c ≡ false = sym c.is_outside.ensures ∙ c.if-is_outside.false in
    let no_open : c.args.c ≢ 40 = omega arith in
    let no_close : c.args.c ≢ 41 = omega arith in
    subst (IsMisplaced r c.args.self.now.at (encode_utf8 c.args.c)) (sym c.misses-in_default-3.ensures) (refl, stuck-inside r c.requires.reading c.args.c c.requires.state inside no_open no_close (sym c.has.ensures ∙ c.if-has.false) (sym c.is_name_character.ensures ∙ c.if-is_name_character.false))
