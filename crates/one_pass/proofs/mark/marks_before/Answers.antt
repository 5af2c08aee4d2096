use Rattle.std.proofs.Common.{◌≡◌, ℕ, true, false, drop, rules}
use Rattle.std.proofs.lemmas.List.Sorted.{IsPartitionPoint-from_clause}
use Rattle.one_pass.specs.declared.mark.Sought.{Sought}
use Rattle.one_pass.specs.inner.Marked.{Marking, mark_seen, is_before_child}
use Rattle.one_pass.proofs.Ascending.{all-taken, all-dropped, all-map}
use Rattle.one_pass.proofs.MarksInOrder.{child-parted}
use Rattle.one_pass.proofs.mark.marks_before.Goals as goal

pub returns-clause-before : goal.returns-clause-before
returns-clause-before c =
    let xs = c.args.sought.now in
    let depth : ℕ = c.args.depth in
    let slot : ℕ = c.args.slot in
    let n : ℕ = c.partition_point.result in
    let point = IsPartitionPoint-from_clause (λ (m : Sought). is_before_child slot (drop depth m.path.now)) xs n c.partition_point.ensures.partitioned (child-parted depth slot xs c.requires) (λ a r q k. search rules) in
    all-map (λ (m : Marking). is_before_child slot m.1 ≡ true) (mark_seen depth) _ (all-taken (λ (m : Sought). is_before_child slot (drop depth m.path.now) ≡ true) n xs c.partition_point.ensures.bound point.0)

pub returns-clause-behind : goal.returns-clause-behind
returns-clause-behind c =
    let xs = c.args.sought.now in
    let depth : ℕ = c.args.depth in
    let slot : ℕ = c.args.slot in
    let n : ℕ = c.partition_point.result in
    let point = IsPartitionPoint-from_clause (λ (m : Sought). is_before_child slot (drop depth m.path.now)) xs n c.partition_point.ensures.partitioned (child-parted depth slot xs c.requires) (λ a r q k. search rules) in
    all-map (λ (m : Marking). is_before_child slot m.1 ≡ false) (mark_seen depth) _ (all-dropped (λ (m : Sought). is_before_child slot (drop depth m.path.now) ≡ false) n xs point.1)
