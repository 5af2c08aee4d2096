use Rattle.std.proofs.Common.{◌≡◌, ◌≤◌, ℕ, true, false, [], List, ◌++◌, map, take, drop, length, rules, ap, ap₂, sym, subst, ◌∙◌, arith}
use Rattle.std.proofs.lemmas.Grind.{common_steps}
use Rattle.std.proofs.lemmas.List.{append-nil, at_drop_all}
use Rattle.std.specs.Prelude.{filter}
use Rattle.std.specs.List.Sorted.{IsPartitionedBy, IsPartitionPoint}
use Rattle.std.proofs.lemmas.List.Sorted.{IsPartitionPoint-from_clause}
use Rattle.cst_core.specs.Element.{address}
use Rattle.cst_core.specs.inner.InTree.{address_path}
use Rattle.cst_core.specs.SyntaxElement.{element_of}
use Rattle.one_pass.specs.declared.sought.Registered.{Registered}
use Rattle.one_pass.specs.inner.Marked.{Marking, marks_seen}
use Rattle.one_pass.specs.inner.Sought.{place_of, begins_with}
use Rattle.one_pass.proofs.NextAim.{part-rest}
use Rattle.one_pass.proofs.Registered.{is_earlier, is_inside, earlier-parted, inside-parted, within-run}
use Rattle.one_pass.proofs.sought.sought_at.Goals as goal

-- behind the last one
seen-all : (found : List Marking) (depth : ℕ) (here : List Registered) (k : ℕ) → length here ≤ k → found ++ map (λ (r : Registered). (r.mark.number, drop depth r.mark.path.now)) (drop k here) ≡ map (λ (r : Registered). (r.mark.number, drop depth r.mark.path.now)) here → found ≡ map (λ (r : Registered). (r.mark.number, drop depth r.mark.path.now)) here
seen-all found depth here k past is =
    sym (append-nil found) ∙ sym (at_drop_all (λ rs. found ++ map (λ (r : Registered). (r.mark.number, drop depth r.mark.path.now)) rs) here k past) ∙ is

pub returns : goal.returns
returns c =
    let xs = c.args.registered.now in
    let a = address (element_of c.args.element.now) in
    let t = place_of c.of-top.result in
    let at : t ≡ address_path a = ap (λ p. address_path p.1) c.of-top.ensures in
    let start : ℕ = c.partition_point-start.result in
    let end : ℕ = c.partition_point-end.result in
    let rest = part-rest xs start in
    let l = c.partition_point-start.ensures.bound in
    let point = IsPartitionPoint-from_clause (is_earlier xs c.requires t) xs start c.partition_point-start.ensures.partitioned (earlier-parted xs c.requires t) (λ a r q k. search rules) in
    let inside = is_inside xs c.requires t in
    let inner = IsPartitionPoint-from_clause inside _ end c.partition_point-end.ensures.partitioned (subst (IsPartitionedBy inside) (sym rest) (inside-parted xs c.requires t start l point)) (λ a r q k. search rules) in
    let whole = within-run xs c.requires t start l point end (subst (λ ys. end ≤ length ys) rest c.partition_point-end.ensures.bound) (subst (λ ys. IsPartitionPoint (λ r. inside r ≡ true) (λ r. inside r ≡ false) ys end) rest inner) in
    let all = ap (take end) rest ∙ sym whole ∙ ap (λ q. filter (λ (r : Registered). begins_with q (place_of r)) xs) at in
    let depth : length c.of-top.result.mark.path.now ≡ length a.path = ap (λ p. length p.1.path) c.of-top.ensures in
    seen-all (marks_seen 0 c.loop-one.sought.items) _ _ c.loop-one.one-index c.loop-one-test.false c.loop-one.invariant ∙ ap₂ (λ k rs. map (λ (r : Registered). (r.mark.number, drop k r.mark.path.now)) rs) depth all

pub loop-one-preserved : goal.loop-one-preserved
loop-one-preserved c = grind (arith, common_steps)
