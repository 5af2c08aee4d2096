use Rattle.std.proofs.Common.{◌≡◌, ◌≢◌, refl, sym, ◌∙◌, subst, arith}
use Rattle.std.specs.Prelude.{encode_utf8}
use Rattle.std.proofs.lemmas.Result.{on_ok_weaker}
use Rattle.tree_text.specs.inner.Reading.{IsStuck, Reads, reading}
use Rattle.tree_text.specs.declared.reader.State.TheVariants.{Text, TokenKind}
use Rattle.tree_text.proofs.Leaving.{unread-in}
use Rattle.tree_text.proofs.Refusing.{passed-on, unknown-by}
use Rattle.tree_text.proofs.NameSteps.{token-more, token-named, token-unknown, token-unquoted}
use Rattle.tree_text.proofs.reader.Reader.in_token_kind.Goals as goal

pub returns-then-is_name_character-clause-ok : goal.returns-then-is_name_character-clause-ok
returns-then-is_name_character-clause-ok c =
    let r = reading c.args.self.now in
    on_ok_weaker c.push_to_name.result (λ is. subst (Reads r (encode_utf8 c.args.c)) (sym is) (token-more r c.requires.reading c.requires.state c.args.c (sym c.is_name_character.ensures ∙ c.if-is_name_character.true))) c.push_to_name.ensures.ok

pub returns-then-c-ne34-clause-err : goal.returns-then-c-ne34-clause-err
returns-then-c-ne34-clause-err c =
    let r = reading c.args.self.now in
    let no_quote : c.args.c ≢ 34 = omega arith in
    subst (IsStuck r c.args.self.now.at (encode_utf8 c.args.c)) (sym c.misses.ensures) (refl, token-unquoted r c.requires.reading c.requires.state c.args.c (sym c.is_name_character.ensures ∙ c.if-is_name_character.false) no_quote)

pub returns-in_err-take_kind-clause-err : goal.returns-in_err-take_kind-clause-err
returns-in_err-take_kind-clause-err c =
    let r = reading c.args.self.now in
    let at = c.args.self.now.at in
    let bytes = encode_utf8 c.args.c in
    let quote : c.args.c ≡ 34 = omega arith in
    passed-on c.from_residual.result c.in_err-take_kind.field-0.0 (IsStuck r at bytes) c.from_residual.ensures.1 (unknown-by r at bytes c.in_err-take_kind.field-0.0 r.word (unread-in r TokenKind c.requires.state) c.in_err-take_kind.ensures.unknown (token-unknown r c.requires.reading c.requires.state c.args.c quote))

pub returns-clause-ok : goal.returns-clause-ok
returns-clause-ok c =
    let r = reading c.args.self.now in
    let kind = c.in_ok-take_kind.field-0 in
    subst (λ x. Reads r (encode_utf8 c.args.c) (record x { state = Text kind })) (sym c.in_ok-take_kind.ensures.taken) (token-named r c.requires.reading c.requires.state c.args.c kind (omega arith) c.in_ok-take_kind.ensures.named)
