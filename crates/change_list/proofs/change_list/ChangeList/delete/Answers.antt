use Rattle.std.proofs.Common.{◌≡◌, Some, refl, ap, subst, ◌∙◌, arith}
use Rattle.path_table.specs.inner.PathTable.{place_at}
use Rattle.change_list.specs.inner.ByPath.{delete_at}
use Rattle.change_list.proofs.Unchanged.{no-ok, on-err, agrees-kept}
use Rattle.change_list.proofs.change_list.ChangeList.delete.Goals as goal

pub enter-requires : goal.enter-requires
enter-requires c = c.self.invariant.tree

pub returns-in_err-place-clause-ok : goal.returns-in_err-place-clause-ok
returns-in_err-place-clause-ok c = no-ok _ c.from_residual.result c.from_residual.ensures.0

pub returns-in_err-place-clause-err : goal.returns-in_err-place-clause-err
returns-in_err-place-clause-err c = on-err _ c.from_residual.result c.self.view_is

pub returns-in_err-reserve-clause-ok : goal.returns-in_err-reserve-clause-ok
returns-in_err-reserve-clause-ok c = no-ok _ c.from_residual-in_err-reserve.result c.from_residual-in_err-reserve.ensures.0

pub returns-in_err-reserve-clause-err : goal.returns-in_err-reserve-clause-err
returns-in_err-reserve-clause-err c = on-err _ c.from_residual-in_err-reserve.result (c.in_err-reserve.ensures.items ∙ c.self.view_is)

pub invariant_of-self-2 : goal.invariant_of-self-2
invariant_of-self-2 c = c.delete_element.ensures.agrees

pub invariant_of-self : goal.invariant_of-self
invariant_of-self c = agrees-kept c.self.inside.replaced c.enter.new.self _ _ c.self.invariant c.in_err-place.ensures.values c.in_err-place.ensures.tree refl

pub invariant_of-self-in_err-reserve : goal.invariant_of-self-in_err-reserve
invariant_of-self-in_err-reserve c = agrees-kept c.self.inside.replaced c.enter.new.self _ _ c.self.invariant c.in_ok-place.ensures.values c.in_ok-place.ensures.tree c.in_err-reserve.ensures.items

pub delete_element-requires-clause-has_room : goal.delete_element-requires-clause-has_room
delete_element-requires-clause-has_room c = omega (arith, c.in_ok-reserve.ensures.ok)

pub delete_element-requires-clause-place : goal.delete_element-requires-clause-place
delete_element-requires-clause-place c = subst (λ p. place_at c.enter.new.self p ≡ Some c.in_ok-place.place) c.slots.ensures c.in_ok-place.ensures.entered

pub delete_element-requires-clause-agrees : goal.delete_element-requires-clause-agrees
delete_element-requires-clause-agrees c = agrees-kept c.self.inside.replaced c.enter.new.self _ _ c.self.invariant c.in_ok-place.ensures.values c.in_ok-place.ensures.tree c.in_ok-reserve.ensures.items

pub returns-clause-ok : goal.returns-clause-ok
returns-clause-ok c = c.delete_element.ensures.list ∙ ap (delete_at c.args.element) (c.in_ok-reserve.ensures.items ∙ c.self.view_is)
