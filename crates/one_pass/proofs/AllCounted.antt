-- What one pass adds to a count: the payloads of owners, and then the old tree.
--     all-counted                   all that is built is counted
use Rattle.std.specs.Prelude.{ℕ, ◌+◌, List, sum_by}
use Rattle.std.specs.List.{enumerate_from}
use Rattle.std.proofs.Common.{◌≡◌, arith}
use Rattle.cst_core.specs.Path.{Path}
use Rattle.cst_core.specs.Element.{Element, subtree}
use Rattle.edit_change.specs.Effort.{touched, parents_of}
use Rattle.edit_change.specs.NewTree.{independents}
use Rattle.edit_change.specs.TouchedNodes.{touched_in, touched_by, Raises}
use Rattle.edit_change.specs.declared.change.Change.{Change}
use Rattle.one_pass.specs.inner.Built.{AreBuilt}
use Rattle.one_pass.specs.inner.GivenTables.{ArePayloadsBuilt}
use Rattle.one_pass.specs.inner.Root.{IsAllBuilt, CountsAll}
use Rattle.one_pass.proofs.Counting.{raises-both, raises-weaker, raises-same}

pub all-counted : (root : Element) (changes : List Change) (places : ℕ → Path) (start middle after : ℕ) → Raises (ArePayloadsBuilt changes places) (sum_by (λ c. touched_in changes places c.0) (enumerate_from 0 changes)) start middle → Raises (AreBuilt (independents changes) (subtree root)) (touched (subtree root) (parents_of (independents changes))) middle after → CountsAll root changes places start after
all-counted root changes places start middle after payloads tree =
    let All = IsAllBuilt root changes places in
    let below : ℕ = sum_by (λ c. touched_in changes places c.0) (enumerate_from 0 changes) in
    let old : ℕ = touched (subtree root) (parents_of (independents changes)) in
    let all : below + old ≡ touched_by changes places root = omega arith in
    raises-same All (below + old) _ start after all (raises-both All below old start middle after (raises-weaker (ArePayloadsBuilt changes places) All below start middle (λ b. b.payloads) payloads) (raises-weaker (AreBuilt (independents changes) (subtree root)) All old middle after (λ b. b.tree) tree))
