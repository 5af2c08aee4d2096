use Rattle.std.proofs.Common.{◌≡◌, [], sym, ap, ◌∙◌, subst, string_bytes}
use Rattle.std.specs.Prelude.{encode_utf8}
use Rattle.std.proofs.lemmas.Result.{on_ok_weaker}
use Rattle.cst_core.specs.Green.{IsTooLong, leaf_tree}
use Rattle.cst_core.specs.Tree.{Token}
use Rattle.tree_text.specs.inner.OpenTrees.{HasPut, open_trees}
use Rattle.tree_text.specs.inner.Reading.{IsMisplaced, Reads, reading}
use Rattle.tree_text.specs.declared.reader.State.TheVariants.{Between}
use Rattle.tree_text.proofs.Refusing.{passed-on, misplaced-as}
use Rattle.tree_text.proofs.TextSteps.{ends-token, token-long}
use Rattle.tree_text.proofs.reader.Reader.end_token.Goals as goal

pub returns-in_err-token-clause-err : goal.returns-in_err-token-clause-err
returns-in_err-token-clause-err c =
    let r = reading c.args.self.now in
    let long = λ (long : IsTooLong c.deref.result.now). token-long r c.requires.reading c.args.kind c.requires.state (subst IsTooLong c.deref.ensures long) in
    let at = c.args.self.now.at in
    passed-on c.from_residual.result c.in_err-token.field-0.0 (IsMisplaced r at (encode_utf8 34)) c.from_residual.ensures.1 (misplaced-as r at (encode_utf8 34) c.in_err-token.field-0.0 (IsTooLong c.deref.result.now) c.in_err-token.ensures.err long)

pub returns-clause-ok : goal.returns-clause-ok
returns-clause-ok c =
    let r = reading c.args.self.now in
    let new = open_trees c.put.new.self.nodes.items in
    let token : leaf_tree c.in_ok-token.token ≡ Token c.args.kind.0 (string_bytes c.args.self.now.word) = ap leaf_tree c.in_ok-token.ensures.ok ∙ ap (Token c.args.kind.0) c.deref.ensures in
    on_ok_weaker c.put.result (λ put. subst (λ w. Reads r (encode_utf8 34) (record r { limit = c.put.new.self.limit; nodes = new; state = Between; word = w })) (sym c.clear.ensures.bytes) (subst (λ l. Reads r (encode_utf8 34) (record r { limit = l; nodes = new; state = Between; word = [] })) (sym c.put.ensures.limit) (ends-token r c.requires.reading c.args.kind c.requires.state new (subst (λ u. HasPut u r.nodes new) token put)))) c.put.ensures.ok
