use Rattle.std.proofs.Common.{rules, ◌≤◌, ◌+◌, length, map, Some, refl, ap, sym, subst, ◌∙◌}
use Rattle.std.specs.Vec.{vec_len, vec_capacity}
use Rattle.change_list.specs.inner.Indexing.{place_of}
use Rattle.change_list.proofs.Unchanged.{no-ok, on-err, agrees-kept}
use Rattle.change_list.proofs.change_list.ChangeList.delete_each.Goals as goal

pub returns-clause-ok : goal.returns-clause-ok
returns-clause-ok c = search rules

pub returns-clause-err : goal.returns-clause-err
returns-clause-err c = search rules

pub entered-requires : goal.entered-requires
entered-requires c = c.self.invariant.tree

pub returns-in_err-places-clause-ok : goal.returns-in_err-places-clause-ok
returns-in_err-places-clause-ok c = no-ok _ c.from_residual.result c.from_residual.ensures.0

pub returns-in_err-places-clause-err : goal.returns-in_err-places-clause-err
returns-in_err-places-clause-err c = on-err _ c.from_residual.result c.self.view_is

pub returns-in_err-reserve-clause-ok : goal.returns-in_err-reserve-clause-ok
returns-in_err-reserve-clause-ok c = no-ok _ c.from_residual-in_err-reserve.result c.from_residual-in_err-reserve.ensures.0

pub returns-in_err-reserve-clause-err : goal.returns-in_err-reserve-clause-err
returns-in_err-reserve-clause-err c = on-err _ c.from_residual-in_err-reserve.result (c.in_err-reserve.ensures.items ∙ c.self.view_is)

pub invariant_of-self-2 : goal.invariant_of-self-2
invariant_of-self-2 c = c.delete_elements.ensures.agrees

pub invariant_of-self : goal.invariant_of-self
invariant_of-self c = agrees-kept c.self.inside.replaced c.entered.new.replaced _ _ c.self.invariant c.in_err-places.ensures.said c.in_err-places.ensures.tree refl

pub invariant_of-self-in_err-reserve : goal.invariant_of-self-in_err-reserve
invariant_of-self-in_err-reserve c = agrees-kept c.self.inside.replaced c.entered.new.replaced _ _ c.self.invariant c.in_ok-places.ensures.said c.in_ok-places.ensures.tree c.in_err-reserve.ensures.items

pub delete_elements-requires-clause-places : goal.delete_elements-requires-clause-places
delete_elements-requires-clause-places c = ap (map (λ k. Some k)) c.deref-2.ensures.value ∙ c.in_ok-places.ensures.places ∙ ap (map (place_of c.entered.new.replaced)) c.deref.ensures.value

pub delete_elements-requires-clause-agrees : goal.delete_elements-requires-clause-agrees
delete_elements-requires-clause-agrees c = agrees-kept c.self.inside.replaced c.entered.new.replaced _ _ c.self.invariant c.in_ok-places.ensures.said c.in_ok-places.ensures.tree c.in_ok-reserve.ensures.items

pub delete_elements-requires-clause-has_room : goal.delete_elements-requires-clause-has_room
delete_elements-requires-clause-has_room c = subst (λ n. vec_len c.reserve.new.self + n ≤ vec_capacity c.reserve.new.self) (c.len.ensures ∙ sym c.deref.ensures.len ∙ ap length c.deref.ensures.value) c.in_ok-reserve.ensures.ok
