use Rattle.std.proofs.Common.{◌≡◌, refl, sym, ◌∙◌}
use Rattle.std.proofs.lemmas.Bool.{eqb-true}
use Rattle.tree_text.specs.inner.NamedKinds.{AreNamed}
use Rattle.tree_text.proofs.Names.{entries, own_name}
use Rattle.tree_text.proofs.kind_names.KindNames.given_at.Goals as goal

pub returns-then-eq : goal.returns-then-eq
returns-then-eq c =
    let items = c.deref.result.now in
    let given = c.in_ok-given.given.now in
    let found = c.in_ok-given.ensures.lookup in
    let named : AreNamed (entries items) = rw c.deref.ensures.value c.self.invariant.named in
    let all : entries items ≡ c.args.self.now = rw (c.deref.ensures.value, c.self.view_is) refl in
    let same : given.kind.0 ≡ c.args.kind.0 = eqb-true _ _ (sym c.eq.ensures ∙ c.if-eq.true) in
    rw (← all, ← same) (own_name items c.in_ok-place.place given named found.3.0 found.1)
