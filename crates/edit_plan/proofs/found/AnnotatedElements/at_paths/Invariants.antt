use Rattle.std.proofs.Common.{◌≡◌, ◌++◌, map}
use Rattle.edit_change.specs.Topmost.{paths_of}
use Rattle.edit_plan.proofs.found.AnnotatedElements.at_paths.Given as goal

abbrev pub invariant-loop-annotation : goal.invariant-loop-annotation
invariant-loop-annotation l = record {
  annotations : l.annotations.items ++ map (λ n. n.0) l.annotation-iterator.rest.items ≡ map (λ n. n.0) l.initial.annotation-iterator.rest.items;
  paths : paths_of l.paths.items ++ map (λ n. n.1.items) l.annotation-iterator.rest.items ≡ map (λ n. n.1.items) l.initial.annotation-iterator.rest.items;
}
