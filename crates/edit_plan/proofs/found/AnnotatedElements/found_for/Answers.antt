use Rattle.std.proofs.Common.{ℕ, ◌-◌, take, drop, length, rules, ap, sym, subst, ◌∙◌}
use Rattle.std.specs.Prelude.{nat_lt, nat_le}
use Rattle.std.specs.List.{zip}
use Rattle.std.specs.List.Sorted.{IsNonDecreasing}
use Rattle.std.proofs.lemmas.List.Sorted.{IsPartitionPoint-from_clause, IsPartitionedBy-ltb, IsPartitionedBy-leb, IsNonDecreasingBy-take}
use Rattle.edit_plan.specs.Plan.{found_for}
use Rattle.edit_plan.proofs.FoundElements.{found-between}
use Rattle.edit_plan.proofs.found.AnnotatedElements.found_for.Goals as goal

pub returns : goal.returns
returns c =
    let a : ℕ = c.args.annotation in
    let ns = c.as_slice-annotations.result.now in
    let es = c.self.inside.elements.items in
    let start : ℕ = c.partition_point-start.result in
    let end : ℕ = c.partition_point-end.result in
    let rise = subst IsNonDecreasing (sym c.as_slice-annotations.ensures.value) c.self.invariant.rise in
    let upto = IsPartitionPoint-from_clause (λ n. nat_le n a) ns end c.partition_point-end.ensures.partitioned (IsPartitionedBy-leb (λ n. n) ns a rise) (λ x r q k. search rules) in
    let before = IsPartitionPoint-from_clause (λ n. nat_lt n a) (take end ns) start c.partition_point-start.ensures.partitioned (IsPartitionedBy-ltb (λ n. n) (take end ns) a (IsNonDecreasingBy-take (λ n. n) end ns rise)) (λ x r q k. search rules) in
    let long = c.self.invariant.long ∙ ap (λ xs. length xs) (sym c.as_slice-annotations.ensures.value) in
    ap (λ xs. take (end - start) (drop start xs)) c.deref.ensures.value ∙ found-between a ns es start end long c.partition_point-end.ensures.bound before upto ∙ ap (λ xs. found_for (zip xs es) a) c.as_slice-annotations.ensures.value ∙ ap (λ xs. found_for xs a) c.self.view_is
