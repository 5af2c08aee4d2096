use Rattle.std.proofs.Common.{◌≢◌, sym, subst, arith}
use Rattle.std.specs.Prelude.{encode_utf8}
use Rattle.tree_text.specs.inner.Reading.{Reads, reading}
use Rattle.tree_text.proofs.TextSteps.{begins-escape, text-more}
use Rattle.tree_text.proofs.reader.Reader.in_text.Goals as goal

pub returns-in-92-clause-ok : goal.returns-in-92-clause-ok
returns-in-92-clause-ok c = begins-escape (reading c.args.self.now) c.requires.reading c.args.kind c.requires.state c.args.c (omega arith)

pub returns-in_ok-push-in_default-clause-ok : goal.returns-in_ok-push-in_default-clause-ok
returns-in_ok-push-in_default-clause-ok c =
    let r = reading c.args.self.now in
    let no_quote : c.args.c ≢ 34 = omega arith in
    let no_escape : c.args.c ≢ 92 = omega arith in
    subst (λ w. Reads r (encode_utf8 c.args.c) (record r { word = w })) (sym c.in_ok-push-in_default.ensures.bytes) (text-more r c.requires.reading c.args.kind c.requires.state c.args.c no_quote no_escape)
