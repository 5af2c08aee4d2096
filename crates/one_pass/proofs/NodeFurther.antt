-- Turns of an open node: what is due is put, or it is still to come.
--     no-less-ahead, order-next     no aim is before the first; those after it are in order
--     further-shared, further-both  children are shared; some turns, and then others
--     further-put                   children are shared, and then what a change gives is put
--     further-pass                  an aim puts nothing
use Rattle.std.specs.Prelude.{◌≡◌, ℕ, ◌+◌, ◌≤◌, List, ◌∷◌, ◌++◌, drop, length, refl}
use Rattle.std.proofs.Common.{ap, ap₂, sym, subst, ◌∙◌, arith}
use Rattle.std.proofs.lemmas.List.{append_assoc}
use Rattle.green_tree.specs.Tree.{SyntaxTree, forest}
use Rattle.green_tree.specs.inner.TreeSize.{forest_size}
use Rattle.green_tree.specs.GreenElement.{element_trees}
use Rattle.edit_change.specs.declared.aimed.Aimed.{Aimed}
use Rattle.edit_change.specs.inner.KindOnly.{kind_only}
use Rattle.one_pass.specs.declared.marked_element.GivenTable.{GivenTable}
use Rattle.one_pass.specs.declared.open_node.OpenNode.{OpenNode}
use Rattle.one_pass.specs.declared.mark.Walk.{Walk}
use Rattle.one_pass.specs.inner.Marked.{MarkTree, marks_of, wanted, InPathOrder, FromChild}
use Rattle.one_pass.specs.inner.Pass.{given_in}
use Rattle.one_pass.specs.inner.Sweep.{lowered, seen_at, From, Rising, key}
use Rattle.one_pass.specs.inner.OpenNodes.{coming, sought_in, to_come, to_build, to_do, kinds_to_come, InOrder, IsSameNode, IsShared, IsFurther, PutsNext, found_with}
use Rattle.one_pass.proofs.Marks.{shown}
use Rattle.one_pass.proofs.MarksGiven.{width, as_many}
use Rattle.one_pass.proofs.NodeSteps.{shown-on, same-both}
use Rattle.one_pass.proofs.SweepStart.{rising-from}
use Rattle.one_pass.proofs.Sweeping.{from-less}

pub do-same : (g k : OpenNode) → IsSameNode g k → k.slot ≡ g.slot → to_do k ≡ to_do g
do-same g k same slot = ap₂ (λ i es. forest_size (forest (element_trees (drop i es.now)))) slot same.elements

-- ---- the order
pub no-less-ahead : (f : OpenNode) (a : Aimed) (xs : List Aimed) → InOrder f → f.aims.now ≡ a ∷ xs → From (key (lowered f.depth a)) (coming f)
no-less-ahead f a xs order aims =
    let all = subst (λ ys. Rising (seen_at f.depth ys)) aims order.rising in
    subst (λ ys. From (key (lowered f.depth a)) (seen_at f.depth ys)) (sym aims) (rising-from (lowered f.depth a) (seen_at f.depth xs) all)

pub first-ahead : (f : OpenNode) (a : Aimed) (xs : List Aimed) → InOrder f → f.aims.now ≡ a ∷ xs → f.slot + f.slot ≤ key (lowered f.depth a)
first-ahead f a xs order aims = (subst (λ ys. From (f.slot + f.slot) (seen_at f.depth ys)) aims order.begins).0

-- one aim less is to come, and the slot is no further than the aim
pub order-next : (f g k : OpenNode) (a : Aimed) → InOrder f → IsSameNode f k → f.aims.now ≡ a ∷ k.aims.now → k.slot ≤ length f.elements.now → k.slot + k.slot ≤ key (lowered f.depth a) → InPathOrder (sought_in k) → FromChild k.slot (sought_in k) → InOrder k
order-next f g k a order same aims within least ascending from =
    let all = subst (λ ys. Rising (seen_at f.depth ys)) aims order.rising in
    let later = rising-from (lowered f.depth a) (seen_at f.depth k.aims.now) all in
    record {
      within = omega (arith, within, ap (λ es. length es.now) same.elements);
      rising = subst (λ d. Rising (seen_at d k.aims.now)) (sym same.depth) all.1;
      begins = subst (λ d. From (k.slot + k.slot) (seen_at d k.aims.now)) (sym same.depth) (from-less (k.slot + k.slot) (key (lowered f.depth a)) (seen_at f.depth k.aims.now) least later.1);
      ascending = ascending;
      from = from;
    }

-- ---- one after another
pub further-none : (table : GivenTable) (w : Walk) (f : OpenNode) → InOrder f → IsFurther table w w f f
further-none table w f order = record {
  same = record { kind = refl; elements = refl; depth = refl };
  path = refl;
  count = refl;
  order = order;
  trees = refl;
  marks = λ trees are. refl;
  built = refl;
  size = omega arith;
}

pub further-both : (table : GivenTable) (start middle after : Walk) (f g h : OpenNode) → IsFurther table start middle f g → IsFurther table middle after g h → IsFurther table start after f h
further-both table start middle after f g h x y = record {
  same = same-both f g h x.same y.same;
  path = y.path ∙ x.path;
  count = y.count ∙ x.count;
  order = y.order;
  trees = y.trees ∙ x.trees;
  marks = λ trees are. ap (λ p. found_with trees after p h) (sym x.path) ∙ y.marks trees are ∙ ap (λ p. found_with trees middle p g) x.path ∙ x.marks trees are;
  built = y.built ∙ x.built;
  size = omega (arith, x.size, y.size);
}

pub further-shared : (table : GivenTable) (i : ℕ) (start after : Walk) (f g : OpenNode) → IsShared i start after f g → InOrder g → IsFurther table start after f g
further-shared table i start after f g x order = record {
  same = x.same;
  path = x.path;
  count = x.count;
  order = order;
  trees = x.trees (given_in table);
  marks = λ trees are. x.marks trees;
  built = x.built;
  size = x.size;
}

-- a node as it was, but for what is ahead of it, which puts the same
pub further-pass : (table : GivenTable) (w : Walk) (g k : OpenNode) → IsSameNode g k → k.slot ≡ g.slot → k.out ≡ g.out → InOrder k → ((given : ℕ → List SyntaxTree) → to_come (λ ms. kind_only) given g ≡ to_come (λ ms. kind_only) given k) → ((trees : ℕ → List MarkTree) → to_come wanted trees g ≡ to_come wanted trees k) → to_build g ≡ to_build k → IsFurther table w w g k
further-pass table w g k same slot out order kinds marks built = record {
  same = same;
  path = refl;
  count = refl;
  order = order;
  trees = ap₂ (λ o us. element_trees o.items ++ us) out (sym (kinds (given_in table)));
  marks = λ trees are. ap₂ (λ o us. marks_of w.found.items ++ shown w.path.items (length o.items) us) out (sym (marks trees));
  built = sym built;
  size = omega (arith, do-same g k same slot);
}

module _ (table : GivenTable) (start after : Walk) (g h k : OpenNode) (put : PutsNext table start after g h) where
  abbrev pub change : ℕ
  change = put.aim.change

  -- what is put, where nothing else of it is ahead of the last node
  pub further-put : IsSameNode g k → k.slot ≡ g.slot → k.out ≡ h.out → InOrder k → ((given : ℕ → List SyntaxTree) → to_come (λ ms. kind_only) given g ≡ given change ++ to_come (λ ms. kind_only) given k) → ((trees : ℕ → List MarkTree) → to_come wanted trees g ≡ trees change ++ to_come wanted trees k) → to_build g ≡ to_build k → IsFurther table start after g k
  further-put same slot out order kinds marks built = record {
    same = same;
    path = put.path;
    count = put.count;
    order = order;
    trees =
        let later = kinds_to_come table k in
        ap (λ o. element_trees o.items ++ later) out ∙ ap (λ us. us ++ later) put.trees ∙ append_assoc (element_trees g.out.items) (given_in table change) later ∙ ap (λ us. element_trees g.out.items ++ us) (sym (kinds (given_in table)));
    marks = λ trees are.
        let later : List MarkTree = to_come wanted trees k in
        let long : length h.out.items ≡ length g.out.items + length (trees change) = width g.out.items h.out.items (given_in table change) (trees change) put.trees (as_many table trees are change) in
        ap (λ o. marks_of after.found.items ++ shown start.path.items (length o.items) later) out ∙ shown-on start.path.items (marks_of start.found.items) (marks_of after.found.items) (length g.out.items) (length h.out.items) (trees change) later (to_come wanted trees g) (put.marks trees are) long (marks trees);
    built = sym built;
    size = omega (arith, do-same g k same slot);
  }
