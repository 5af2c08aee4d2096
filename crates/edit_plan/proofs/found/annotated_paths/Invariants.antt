use Rattle.std.proofs.Common.{◌≡◌, ◌++◌, map}
use Rattle.edit_change.specs.Topmost.{paths_of}
use Rattle.edit_change.specs.inner.PathLists.{path_lists}
use Rattle.edit_plan.specs.Engine.{annotated_path}
use Rattle.edit_plan.specs.inner.Annotating.{numbered_paths}
use Rattle.edit_plan.proofs.found.annotated_paths.Given as goal

abbrev pub invariant-loop-registration : goal.invariant-loop-registration
invariant-loop-registration l =
    map annotated_path l.found.items ++ numbered_paths (map (λ r. r.1) l.registration-iterator.a.rest.now) (path_lists l.registration-iterator.b.rest.items) ≡ numbered_paths (map (λ r. r.1) l.registrations) (path_lists l.fn.copies.items)

abbrev pub invariant-loop-path : goal.invariant-loop-path
invariant-loop-path l =
    map annotated_path l.found.items ++ (map (λ p. (l.registration.1, p)) (paths_of l.path-iterator.rest.items) ++ numbered_paths (map (λ r. r.1) l.registration-iterator.a.rest.now) (path_lists l.registration-iterator.b.rest.items)) ≡ numbered_paths (map (λ r. r.1) l.registrations) (path_lists l.fn.copies.items)
