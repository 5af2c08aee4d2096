use Rattle.std.proofs.Common.{rules, ◌++◌, ap₂, refl, sym, subst, ◌∙◌}
use Rattle.change_list.specs.inner.Indexing.{Agrees}
use Rattle.change_list.proofs.Unchanged.{no-ok, on-err}
use Rattle.change_list.proofs.change_list.ChangeList.append.Goals as goal

pub returns-clause-ok : goal.returns-clause-ok
returns-clause-ok c = search rules

pub returns-clause-taken : goal.returns-clause-taken
returns-clause-taken c = search rules

pub returns-clause-err : goal.returns-clause-err
returns-clause-err c = search rules

pub returns-clause-kept : goal.returns-clause-kept
returns-clause-kept c = search rules

pub returns-in_err-replaced-clause-ok : goal.returns-in_err-replaced-clause-ok
returns-in_err-replaced-clause-ok c = no-ok _ c.from_residual.result c.from_residual.ensures.0

pub returns-in_err-replaced-clause-taken : goal.returns-in_err-replaced-clause-taken
returns-in_err-replaced-clause-taken c = no-ok _ c.from_residual.result c.from_residual.ensures.0

pub returns-in_err-replaced-clause-err : goal.returns-in_err-replaced-clause-err
returns-in_err-replaced-clause-err c = on-err _ c.from_residual.result refl

pub returns-in_err-replaced-clause-kept : goal.returns-in_err-replaced-clause-kept
returns-in_err-replaced-clause-kept c = on-err _ c.from_residual.result refl

pub invariant_of-self : goal.invariant_of-self
invariant_of-self c = subst (Agrees c.self.inside.replaced) (sym c.in_err-append.ensures.items) c.self.invariant

pub invariant_of-other : goal.invariant_of-other
invariant_of-other c = subst (Agrees c.other.inside.replaced) (sym c.in_err-append.ensures.other_items) c.other.invariant

pub returns-in_err-append-clause-ok : goal.returns-in_err-append-clause-ok
returns-in_err-append-clause-ok c = no-ok _ c.from_residual-in_err-append.result c.from_residual-in_err-append.ensures.0

pub returns-in_err-append-clause-taken : goal.returns-in_err-append-clause-taken
returns-in_err-append-clause-taken c = no-ok _ c.from_residual-in_err-append.result c.from_residual-in_err-append.ensures.0

pub returns-in_err-append-clause-err : goal.returns-in_err-append-clause-err
returns-in_err-append-clause-err c = on-err _ c.from_residual-in_err-append.result (c.in_err-append.ensures.items ∙ c.self.view_is)

pub returns-in_err-append-clause-kept : goal.returns-in_err-append-clause-kept
returns-in_err-append-clause-kept c = on-err _ c.from_residual-in_err-append.result (c.in_err-append.ensures.other_items ∙ c.other.view_is)

pub invariant_of-self-2 : goal.invariant_of-self-2
invariant_of-self-2 c = subst (Agrees c.in_ok-replaced.replaced) (ap₂ (λ xs ys. xs ++ ys) c.deref.ensures.value c.deref-2.ensures.value ∙ sym c.in_ok-append.ensures.items) c.in_ok-replaced.ensures

pub invariant_of-other-2 : goal.invariant_of-other-2
invariant_of-other-2 c = subst (Agrees c.new.result) (sym c.in_ok-append.ensures.other_items) (record { says = c.new.ensures.empty; tree = c.new.ensures.tree })
