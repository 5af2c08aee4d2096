use Rattle.std.proofs.Common.{◌≡◌, ◌<◌, ◌≤◌, ◌⊎◌, inl, inr, ◌+◌, ◌-◌, ℕ, List, set, ap₂, subst, length, take, drop, get_or, refl, ap, sym, ◌∙◌, arith, rules}
use Rattle.std.specs.Prelude.{Result, Ok, Err, OnOk}
use Rattle.std.specs.Vec.{with_item}
use Rattle.std.proofs.lemmas.List.{length-take, length-drop, set-get_or}
use Rattle.green_tree.specs.Count.{counted}
use Rattle.green_tree.specs.Green.{Branch}
use Rattle.green_tree.specs.GreenElement.{element_tree, element_trees}
use Rattle.green_tree.specs.declared.green.GreenElement.{GreenElement}
use Rattle.green_tree.specs.declared.green.GreenElement.TheVariants.{Node}
use Rattle.green_tree.specs.declared.green.NodeData.{NodeData}
use Rattle.green_tree.specs.declared.kind.SyntaxKind.{SyntaxKind}
use Rattle.green_tree.specs.inner.CappedLength.{IsCappedLength}
use Rattle.green_tree.specs.inner.HasToken.{TellsToken}
use Rattle.green_tree.specs.inner.Splices.{spliced, updated_at}
use Rattle.green_tree.specs.inner.Summaries.{IsSameData}
use Rattle.green_tree.proofs.Refused.{no-ok, on-err, on_err-map, from-err, has-ok}
use Rattle.green_tree.proofs.SpliceSteps.{path-on, path-shorter, no-token, room-here, made-here, below, made-below}
use Rattle.green_tree.proofs.Slots.{path_ends}
use Rattle.green_tree.proofs.Summaries.{exchanged-child}
use Rattle.green_tree.proofs.green.GreenNode.+splice_nested.Goals as goal

-- what is held of a node once it is its own
record IsHeld (d : NodeData) (b : Branch) : Type 0 where
  pub kind : d.kind.0 ≡ b.kind
  pub trees : element_trees d.children.items ≡ b.children

abbrev viewed : NodeData → Branch
viewed a = record { kind = a.kind.0; children = element_trees a.children.items }

held : (a d : NodeData) (b : Branch) → (d ≡ a) ⊎ IsSameData a d → viewed a ≡ b → IsHeld d b
held a d b (inl same) view = record {
  kind = ap (λ e. e.kind.0) same ∙ ap (λ v. v.kind) view;
  trees = ap (λ e. element_trees e.children.items) same ∙ ap (λ v. v.children) view;
}
held a d b (inr same) view = record {
  kind = ap (λ k. k.0) same.0 ∙ ap (λ v. v.kind) view;
  trees = ap element_trees same.2 ∙ ap (λ v. v.children) view;
}

abbrev Fits : NodeData → Type 0
Fits d = IsCappedLength d.children.items d.summary.length × TellsToken d.children.items d.summary.has_token

knows : (a d : NodeData) → (d ≡ a) ⊎ IsSameData a d → Fits a → Fits d
knows a d (inl same) fits = subst Fits (sym same) fits
knows a d (inr same) fits =
    subst (λ s. IsCappedLength d.children.items s.length × TellsToken d.children.items s.has_token) (sym same.1)
    (subst (λ es. IsCappedLength es a.summary.length × TellsToken es a.summary.has_token) (sym same.2) fits)

view_held : (a d : NodeData) (b : Branch) → (d ≡ a) ⊎ IsSameData a d → viewed a ≡ b → viewed d ≡ b
view_held a d b (inl same) view = ap viewed same ∙ view
view_held a d b (inr same) view = ap₂ (λ (k : SyntaxKind) es. record { kind = k.0; children = element_trees es }) same.0 same.2 ∙ view

-- a child that is as it was
unchanged : (es : List GreenElement) (i : ℕ) (e : GreenElement) (child now : Branch) → e ≡ get_or es i e → e ≡ Node child → now ≡ child → set es i (Node now) ≡ es
unchanged es i e child now there is same = ap (set es i) (ap Node same ∙ sym is ∙ there) ∙ set-get_or es i e

one_more : (p : List ℕ) → length p < 1 → 1 ≡ length p + 1
one_more p short = omega (arith, short)

counted-on : (b before after n m : ℕ) → before ≡ counted b n → after ≡ counted before 1 → n + 1 ≡ m → after ≡ counted b m
counted-on b before after n m is then many = omega (arith, is, then, many)

rest_long : (p : List ℕ) → 1 ≤ length p → length (take (length p - 1) (drop 1 p)) + 1 + 1 ≡ length p + 1
rest_long p some = omega (arith, length-take (length p - 1) (drop 1 p), length-drop 1 p, some)

pub splice-requires-clause-within : goal.splice-requires-clause-within
splice-requires-clause-within t c =
    let h = held c.self.inside.data.value c.in_ok-data.data.now c.args.self.now c.in_ok-data.ensures.value c.self.view_is in
    room-here c.args.self.now c.in_ok-data.data.now.children.items h.trees c.args.first c.args.count c.args.path.now (path_ends c.args.path.now c.in_default.len_below) c.requires.can

on_ok : {A E P Q : Type 0} (r : Result A E) → (P → Q) → OnOk r P → OnOk r Q
on_ok (Ok x) f p = f p
on_ok (Err e) f p = p

pub returns-in_default-clause-ok : goal.returns-in_default-clause-ok
returns-in_default-clause-ok t c =
    let d = c.in_ok-data.data.now in
    let h = held c.self.inside.data.value d c.args.self.now c.in_ok-data.ensures.value c.self.view_is in
    let left : (c.make_mut.follows.lender c.splice.new.self).value ≡ c.splice.new.self = c.make_mut.follows.holds c.splice.new.self (has-ok c.make_mut.result _ c.in_ok-data.was) in
    on_ok c.splice.result (λ made.
    made-here c.args.self.now d.children.items h.trees c.args.first c.args.count c.args.path.now (path_ends c.args.path.now c.in_default.len_below) c.args.new.items
    (viewed (c.make_mut.follows.lender c.splice.new.self).value)
    (ap (λ e. e.kind.0) left ∙ ap (λ k. k.0) made.0 ∙ h.kind)
    (ap (λ e. element_trees e.children.items) left ∙ ap element_trees made.1))
    c.splice.ensures.ok

pub index-requires : goal.index-requires
index-requires t c =
    let h = held c.self.inside.data.value c.in_ok-data.data.now c.args.self.now c.in_ok-data.ensures.value c.self.view_is in
    let es = c.in_ok-data.data.now.children.items in
    let b = below c.args.self.now es h.trees c.args.first c.args.count c.args.path.now _ _ (path-on c.args.path.now c.in-len1-up.len_at_least) c.requires.can in
    omega (arith, b.inside, c.in_ok-data.data.now.children.ok.0)

pub index_mut-requires : goal.index_mut-requires
index_mut-requires t c =
    let h = held c.self.inside.data.value c.in_ok-data.data.now c.args.self.now c.in_ok-data.ensures.value c.self.view_is in
    let es = c.in_ok-data.data.now.children.items in
    let b = below c.args.self.now es h.trees c.args.first c.args.count c.args.path.now _ _ (path-on c.args.path.now c.in-len1-up.len_at_least) c.requires.can in
    omega (arith, b.inside, c.in_ok-data.data.now.children.ok.0)

pub index-requires-2 : goal.index-requires-2
index-requires-2 t c =
    let h = held c.self.inside.data.value c.in_ok-data.data.now c.args.self.now c.in_ok-data.ensures.value c.self.view_is in
    let es = c.in_ok-data.data.now.children.items in
    let b = below c.args.self.now es h.trees c.args.first c.args.count c.args.path.now _ _ (path-on c.args.path.now c.in-len1-up.len_at_least) c.requires.can in
    omega (arith, b.inside, c.in_ok-data.data.now.children.ok.0)

pub unreachable-requires : goal.unreachable-requires
unreachable-requires t c =
    let h = held c.self.inside.data.value c.in_ok-data.data.now c.args.self.now c.in_ok-data.ensures.value c.self.view_is in
    let es = c.in_ok-data.data.now.children.items in
    let b = below c.args.self.now es h.trees c.args.first c.args.count c.args.path.now _ _ (path-on c.args.path.now c.in-len1-up.len_at_least) c.requires.can in
    let can = b.can c.index_mut.result.now c.index_mut.ensures.value in
    no-token c.in_default-index_mut.field-0 _ c.args.first c.args.count (rw c.in_default-index_mut.is at can)

pub splice_nested-requires : goal.splice_nested-requires
splice_nested-requires t c =
    let h = held c.self.inside.data.value c.in_ok-data.data.now c.args.self.now c.in_ok-data.ensures.value c.self.view_is in
    let es = c.in_ok-data.data.now.children.items in
    let b = below c.args.self.now es h.trees c.args.first c.args.count c.args.path.now _ _ (path-on c.args.path.now c.in-len1-up.len_at_least) c.requires.can in
    let can = b.can c.index_mut.result.now c.index_mut.ensures.value in
    let shorter = path-shorter c.args.path.now c.in-len1-up.len_at_least in
    (rw (← c.decreases) shorter, (rw c.in-Node.is at can, omega (arith, shorter, c.requires.shallow)))

pub end_change-requires : goal.end_change-requires
end_change-requires t c =
    let d = c.in_ok-data.data.now in
    let h = held c.self.inside.data.value d c.args.self.now c.in_ok-data.ensures.value c.self.view_is in
    let es = d.children.items in
    let i = get_or c.args.path.now 0 0 in
    let made : GreenElement = Node c.splice_nested.new.self in
    let b = below c.args.self.now es h.trees c.args.first c.args.count c.args.path.now _ _ (path-on c.args.path.now c.in-len1-up.len_at_least) c.requires.can in
    exchanged-child es i b.inside c.index.result.now (search rules) made d.summary c.of_child-removed.result c.of_child-added.result _ refl (search rules) c.of_child-removed.ensures (search rules)

pub returns-clause-ok : goal.returns-clause-ok
returns-clause-ok t c =
    let d = c.in_ok-data.data.now in
    let h = held c.self.inside.data.value d c.args.self.now c.in_ok-data.ensures.value c.self.view_is in
    let es = d.children.items in
    let b = below c.args.self.now es h.trees c.args.first c.args.count c.args.path.now _ _ (path-on c.args.path.now c.in-len1-up.len_at_least) c.requires.can in
    let made : GreenElement = Node c.splice_nested.new.self in
    let now : NodeData = c.end_change.new.self in
    let kept = c.end_change.ensures.kept in
    let left : (c.make_mut.follows.lender now).value ≡ now = c.make_mut.follows.holds now (has-ok c.make_mut.result _ c.in_ok-data.was) in
    made-below c.args.self.now es h.trees c.args.first c.args.count c.args.path.now _ _ (path-on c.args.path.now c.in-len1-up.len_at_least)
    (spliced c.args.first c.args.count (element_trees c.args.new.items)) b.inside c.index_mut.result.now c.index_mut.ensures.value made
    (c.in_ok-splice_nested.ensures.ok ∙ ap (λ e. updated_at (element_tree e) (take (length c.args.path.now - 1) (drop 1 c.args.path.now)) (spliced c.args.first c.args.count (element_trees c.args.new.items))) (sym c.in-Node.is))
    (viewed (c.make_mut.follows.lender now).value)
    (ap (λ e. e.kind.0) left ∙ ap (λ k. k.0) kept.0 ∙ h.kind)
    (ap (λ e. element_trees e.children.items) left ∙ ap element_trees kept.1)

pub invariant_of-self : goal.invariant_of-self
invariant_of-self t c = knows c.self.inside.data.value c.make_mut.follows.lender-at-none.value (from-err c.make_mut.result _ c.in_err-data.was c.make_mut.follows.holds-at-none) c.self.invariant

pub returns-in_err-data-clause-ok : goal.returns-in_err-data-clause-ok
returns-in_err-data-clause-ok t c = no-ok _ c.from_residual.result c.from_residual.ensures.0

pub returns-in_err-data-clause-err : goal.returns-in_err-data-clause-err
returns-in_err-data-clause-err t c = on-err _ c.from_residual.result (view_held c.self.inside.data.value c.make_mut.follows.lender-at-none.value c.args.self.now (from-err c.make_mut.result _ c.in_err-data.was c.make_mut.follows.holds-at-none) c.self.view_is)

pub returns-in_err-data-clause-count : goal.returns-in_err-data-clause-count
returns-in_err-data-clause-count t c = no-ok _ c.from_residual.result c.from_residual.ensures.0

pub returns-in_err-data-clause-no_count : goal.returns-in_err-data-clause-no_count
returns-in_err-data-clause-no_count t c = on-err _ c.from_residual.result refl

pub splice-requires-clause-knows : goal.splice-requires-clause-knows
splice-requires-clause-knows t c =
    let k = knows c.self.inside.data.value c.in_ok-data.data.now c.in_ok-data.ensures.value c.self.invariant in
    record { length = k.0; token = k.1 }

pub invariant_of-self-in_default : goal.invariant_of-self-in_default
invariant_of-self-in_default t c =
    let left : (c.make_mut.follows.lender c.splice.new.self).value ≡ c.splice.new.self = c.make_mut.follows.holds c.splice.new.self (has-ok c.make_mut.result _ c.in_ok-data.was) in
    subst Fits (sym left) (c.splice.ensures.knows.length, c.splice.ensures.knows.token)

pub returns-in_default-clause-err : goal.returns-in_default-clause-err
returns-in_default-clause-err t c =
    let left : (c.make_mut.follows.lender c.splice.new.self).value ≡ c.splice.new.self = c.make_mut.follows.holds c.splice.new.self (has-ok c.make_mut.result _ c.in_ok-data.was) in
    on_err-map c.splice.result (λ same. ap viewed left ∙ view_held c.in_ok-data.data.now c.splice.new.self c.args.self.now (inr same) (view_held c.self.inside.data.value c.in_ok-data.data.now c.args.self.now c.in_ok-data.ensures.value c.self.view_is)) c.splice.ensures.err

pub returns-in_default-clause-count : goal.returns-in_default-clause-count
returns-in_default-clause-count t c = subst (λ n. OnOk c.splice.result (c.splice.new.builds ≡ counted c.args.builds.now n)) (one_more c.args.path.now c.in_default.len_below) c.splice.ensures.count

pub returns-in_default-clause-no_count : goal.returns-in_default-clause-no_count
returns-in_default-clause-no_count t c = c.splice.ensures.no_count

pub invariant_of-self-in_err-splice_nested : goal.invariant_of-self-in_err-splice_nested
invariant_of-self-in_err-splice_nested t c =
    let d = c.in_ok-data.data.now in
    let back : NodeData = record { kind = d.kind; summary = d.summary; children = with_item d.children (get_or c.args.path.now 0 0) (Node c.splice_nested.new.self) } in
    let same : IsSameData d back = (refl, refl, unchanged d.children.items (get_or c.args.path.now 0 0) c.index_mut.result.now c.in-Node.child c.splice_nested.new.self c.index_mut.ensures.value c.in-Node.is c.in_err-splice_nested.ensures.err) in
    let left : (c.make_mut.follows.lender back).value ≡ back = c.make_mut.follows.holds back (has-ok c.make_mut.result _ c.in_ok-data.was) in
    subst Fits (sym left) (knows d back (inr same) (knows c.self.inside.data.value c.in_ok-data.data.now c.in_ok-data.ensures.value c.self.invariant))

pub returns-in_err-splice_nested-clause-err : goal.returns-in_err-splice_nested-clause-err
returns-in_err-splice_nested-clause-err t c =
    let d = c.in_ok-data.data.now in
    let back : NodeData = record { kind = d.kind; summary = d.summary; children = with_item d.children (get_or c.args.path.now 0 0) (Node c.splice_nested.new.self) } in
    let same : IsSameData d back = (refl, refl, unchanged d.children.items (get_or c.args.path.now 0 0) c.index_mut.result.now c.in-Node.child c.splice_nested.new.self c.index_mut.ensures.value c.in-Node.is c.in_err-splice_nested.ensures.err) in
    let left : (c.make_mut.follows.lender back).value ≡ back = c.make_mut.follows.holds back (has-ok c.make_mut.result _ c.in_ok-data.was) in
    on-err _ c.from_residual-in_err-splice_nested.result (ap viewed left ∙ view_held d back c.args.self.now (inr same) (view_held c.self.inside.data.value c.in_ok-data.data.now c.args.self.now c.in_ok-data.ensures.value c.self.view_is))

pub returns-in_err-splice_nested-clause-ok : goal.returns-in_err-splice_nested-clause-ok
returns-in_err-splice_nested-clause-ok t c = no-ok _ c.from_residual-in_err-splice_nested.result c.from_residual-in_err-splice_nested.ensures.0

pub returns-in_err-splice_nested-clause-count : goal.returns-in_err-splice_nested-clause-count
returns-in_err-splice_nested-clause-count t c = no-ok _ c.from_residual-in_err-splice_nested.result c.from_residual-in_err-splice_nested.ensures.0

pub returns-in_err-splice_nested-clause-no_count : goal.returns-in_err-splice_nested-clause-no_count
returns-in_err-splice_nested-clause-no_count t c = on-err _ c.from_residual-in_err-splice_nested.result c.in_err-splice_nested.ensures.no_count

pub invariant_of-self-2 : goal.invariant_of-self-2
invariant_of-self-2 t c =
    let left : (c.make_mut.follows.lender c.end_change.new.self).value ≡ c.end_change.new.self = c.make_mut.follows.holds c.end_change.new.self (has-ok c.make_mut.result _ c.in_ok-data.was) in
    subst Fits (sym left) (c.end_change.ensures.knows.length, c.end_change.ensures.knows.token)

pub returns-clause-count : goal.returns-clause-count
returns-clause-count t c = counted-on c.args.builds.now c.splice_nested.new.builds c.end_change.new.builds _ _ c.in_ok-splice_nested.ensures.count c.end_change.ensures.count (rest_long c.args.path.now c.in-len1-up.len_at_least)
