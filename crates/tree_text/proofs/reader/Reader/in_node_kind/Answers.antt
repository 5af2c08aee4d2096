use Rattle.std.proofs.Common.{◌≡◌, false, refl, sym, ap, ◌∙◌, subst}
use Rattle.std.specs.Prelude.{encode_utf8, ◌==◌}
use Rattle.std.proofs.lemmas.Result.{on_ok_weaker, IfErr-weaker}
use Rattle.tree_text.specs.KindNames.{is_name_byte}
use Rattle.tree_text.specs.inner.OpenDepth.{IsFull}
use Rattle.tree_text.specs.inner.OpenTrees.{open_trees}
use Rattle.tree_text.specs.inner.Reading.{IsReading, IsStuck, IsMisplaced, Reads, reading}
use Rattle.tree_text.proofs.Leaving.{unread-in}
use Rattle.tree_text.proofs.Refusing.{passed-on, unknown-by, deep-by}
use Rattle.tree_text.proofs.NameSteps.{empty-word, some-word, node-more, node-nameless, node-followed, node-named, node-stuck, node-unknown, node-deep, node-reading, begun, with_node}
use Rattle.tree_text.specs.declared.reader.State.TheVariants.{NodeKind}
use Rattle.tree_text.proofs.reader.Reader.in_node_kind.Goals as goal

pub returns-then-is_name_character-clause-ok : goal.returns-then-is_name_character-clause-ok
returns-then-is_name_character-clause-ok c =
    let r = reading c.args.self.now in
    on_ok_weaker c.push_to_name.result (λ is. subst (Reads r (encode_utf8 c.args.c)) (sym is) (node-more r c.requires.reading c.requires.state c.args.c (sym c.is_name_character.ensures ∙ c.if-is_name_character.true))) c.push_to_name.ensures.ok

pub returns-then-is_empty-clause-err : goal.returns-then-is_empty-clause-err
returns-then-is_empty-clause-err c =
    let r = reading c.args.self.now in
    let no_name : is_name_byte c.args.c ≡ false = sym c.is_name_character.ensures ∙ c.if-is_name_character.false in
    subst (IsStuck r c.args.self.now.at (encode_utf8 c.args.c)) (sym c.misses.ensures) (refl, node-nameless r c.requires.reading c.requires.state c.args.c no_name (empty-word r.word c.is_empty.result (c.is_empty.ensures ∙ ap (λ n. n == 0) c.args.self.now.word.bytes.ok.0) c.if-is_empty.true))

pub returns-then-not-may_follow_kind-clause-err : goal.returns-then-not-may_follow_kind-clause-err
returns-then-not-may_follow_kind-clause-err c =
    let r = reading c.args.self.now in
    let no_name : is_name_byte c.args.c ≡ false = sym c.is_name_character.ensures ∙ c.if-is_name_character.false in
    subst (IsStuck r c.args.self.now.at (encode_utf8 c.args.c)) (sym c.misses-then-not-may_follow_kind.ensures) (refl, node-followed r c.requires.reading c.requires.state c.args.c no_name (sym c.may_follow_kind.ensures ∙ c.if-not-may_follow_kind.true))

pub returns-in_err-kind-clause-err : goal.returns-in_err-kind-clause-err
returns-in_err-kind-clause-err c =
    let r = reading c.args.self.now in
    let no_name : is_name_byte c.args.c ≡ false = sym c.is_name_character.ensures ∙ c.if-is_name_character.false in
    let at = c.args.self.now.at in
    let bytes = encode_utf8 c.args.c in
    let some = some-word r.word c.is_empty.result (c.is_empty.ensures ∙ ap (λ n. n == 0) c.args.self.now.word.bytes.ok.0) c.if-is_empty.false in
    let follows = sym c.may_follow_kind.ensures ∙ c.if-not-may_follow_kind.false in
    passed-on c.from_residual.result c.in_err-kind.field-0.0 (IsStuck r at bytes) c.from_residual.ensures.1 (unknown-by r at bytes c.in_err-kind.field-0.0 r.word (unread-in r NodeKind c.requires.state) c.in_err-kind.ensures.unknown (node-unknown r c.requires.reading c.requires.state c.args.c no_name follows some))

pub returns-in_err-begin-clause-err : goal.returns-in_err-begin-clause-err
returns-in_err-begin-clause-err c =
    let r = reading c.args.self.now in
    let at = c.args.self.now.at in
    let bytes = encode_utf8 c.args.c in
    let Full : Type 0 = let taken = reading c.take_kind.new.self in IsFull taken.limit taken.nodes in
    let deep = λ (full : Full). node-deep r c.requires.reading c.requires.state (subst (λ x. IsFull x.limit x.nodes) c.in_ok-kind.ensures.taken full) in
    passed-on c.from_residual-in_err-begin.result c.in_err-begin.field-0.0 (IsStuck r at bytes) c.from_residual-in_err-begin.ensures.1 (deep-by r at c.word_at-at.result bytes c.in_err-begin.field-0.0 r.word Full (unread-in r NodeKind c.requires.state) c.word_at-at.ensures c.in_err-begin.ensures.err deep)

pub between-requires-clause-reading : goal.between-requires-clause-reading
between-requires-clause-reading c =
    let r = reading c.args.self.now in
    let new = begun r (reading c.take_kind.new.self) c.begin.new.self.limit (open_trees c.begin.new.self.nodes.items) c.in_ok-kind.kind.0 c.in_ok-kind.ensures.taken c.begin.ensures.limit c.in_ok-begin.ensures.ok in
    subst IsReading (sym new) (node-reading r c.requires.reading c.requires.state c.in_ok-kind.kind.0)

pub returns-clause-ok : goal.returns-clause-ok
returns-clause-ok c =
    let r = reading c.args.self.now in
    let kind = c.in_ok-kind.kind.0 in
    let no_name : is_name_byte c.args.c ≡ false = sym c.is_name_character.ensures ∙ c.if-is_name_character.false in
    let new = begun r (reading c.take_kind.new.self) c.begin.new.self.limit (open_trees c.begin.new.self.nodes.items) kind c.in_ok-kind.ensures.taken c.begin.ensures.limit c.in_ok-begin.ensures.ok in
    on_ok_weaker c.between.result (λ reads. node-named r c.requires.reading c.requires.state c.args.c kind (reading c.between.new.self) no_name c.in_ok-kind.ensures.named (subst (λ x. Reads x (encode_utf8 c.args.c) (reading c.between.new.self)) new reads)) c.between.ensures.ok

pub returns-clause-err : goal.returns-clause-err
returns-clause-err c =
    let r = reading c.args.self.now in
    let kind = c.in_ok-kind.kind.0 in
    let no_name : is_name_byte c.args.c ≡ false = sym c.is_name_character.ensures ∙ c.if-is_name_character.false in
    let new = begun r (reading c.take_kind.new.self) c.begin.new.self.limit (open_trees c.begin.new.self.nodes.items) kind c.in_ok-kind.ensures.taken c.begin.ensures.limit c.in_ok-begin.ensures.ok in
    IfErr-weaker c.between.result _ _ (λ e stuck. node-stuck r c.requires.reading c.requires.state c.args.self.now.at c.args.c kind e no_name c.in_ok-kind.ensures.named (subst (λ y. IsMisplaced (with_node r kind) y (encode_utf8 c.args.c) e) c.in_ok-kind.ensures.stays (subst (λ x. IsMisplaced x c.take_kind.new.self.at (encode_utf8 c.args.c) e) new stuck))) c.between.ensures.err
