use Rattle.std.proofs.Common.{◌≡◌, ◌++◌, map}
use Rattle.std.specs.List.{zip}
use Rattle.edit_plan.proofs.found.AnnotatedElements.registrations.Given as goal

abbrev pub invariant-loop-annotation : goal.invariant-loop-annotation
invariant-loop-annotation l =
    l.all.items ++ map (λ a. (a.1, a.0)) (zip l.annotation-iterator.a.rest.now l.annotation-iterator.b.rest.now) ≡ map (λ a. (a.1, a.0)) (zip l.initial.annotation-iterator.a.rest.now l.initial.annotation-iterator.b.rest.now)
