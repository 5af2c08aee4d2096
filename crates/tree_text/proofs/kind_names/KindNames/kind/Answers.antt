use Rattle.std.proofs.Common.{◌≡◌, ◌≢◌, ℕ, Some, IsNone, IfSome, subst, ◌∙◌}
use Rattle.cst_core.specs.Kind.{name_of}
use Rattle.tree_text.specs.KindNames.{name_in}
use Rattle.tree_text.proofs.Names.{entries, name_of_its_own}
use Rattle.tree_text.proofs.KeptNames.{kind_found, kind_missing}
use Rattle.tree_text.proofs.kind_names.KindNames.kind.Goals as goal

pub returns-in-Some-clause-found : goal.returns-in-Some-clause-found
returns-in-Some-clause-found c = name_of_its_own _ _ _ ((c.from_name.ensures c.in-Some.kind.0).0 c.in-Some.is)

pub returns-clause-found : goal.returns-clause-found
returns-clause-found c =
    subst (λ given. IfSome c.copied.result (λ kind. name_in given kind.0 ≡ Some c.args.name.now)) c.self.view_is
    (kind_found c.self.inside.kinds (entries c.self.inside.given.items) c.args.name.now c.copied.result c.self.invariant (c.copied.ensures ∙ c.get.ensures.value))

pub returns-clause-none : goal.returns-clause-none
returns-clause-none c =
    let unnamed : (k : ℕ) → name_of k ≡ Some c.args.name.now → ⊥ = λ k own. c.in_default.not-Some _ ((c.from_name.ensures k).1 own) in
    subst (λ given. IsNone c.copied.result → (k : ℕ) → name_in given k ≢ Some c.args.name.now) c.self.view_is
    (kind_missing c.self.inside.kinds (entries c.self.inside.given.items) c.args.name.now c.copied.result c.self.invariant (c.copied.ensures ∙ c.get.ensures.value) unnamed)
