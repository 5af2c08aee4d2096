-- A node that is opened, with all its aims ahead.
--     opened-order                  they are in order
--     come-all                      all that is to come is what they make of the children
--     whole-opened, marks-opened, built-opened, do-opened    what it becomes; its marks; how many nodes are built for it; how many elements are left
--     enter-order, enter-come, enter-built, enter-do, enter-some    the same where it is a child of an open node
use Rattle.std.specs.Prelude.{◌≡◌, ℕ, suc, ◌+◌, ◌<◌, ◌≤◌, true, List, [], ◌∷◌, ◌++◌, map, drop, length, get_or, sum, refl}
use Rattle.std.specs.List.{list_any, AllByRecursion}
use Rattle.std.proofs.Common.{ap, ap₂, sym, subst, ◌∙◌, arith}
use Rattle.std.proofs.lemmas.List.{at_drop_more, at_drop_all, map-append}
use Rattle.std.proofs.lemmas.List.Sums.{sum_by-cons}
use Rattle.green_tree.specs.Path.{Path}
use Rattle.green_tree.specs.Tree.{Tree, forest, node}
use Rattle.green_tree.specs.Green.{Branch, branch_tree}
use Rattle.green_tree.specs.inner.TreeSize.{forest_size, branch_size}
use Rattle.green_tree.specs.GreenElement.{element_tree, element_trees}
use Rattle.green_tree.specs.declared.green.GreenElement.{GreenElement}
use Rattle.green_tree.specs.declared.green.GreenElement.TheVariants.{Node}
use Rattle.edit_change.specs.Effort.{parents_of}
use Rattle.edit_change.specs.Rewriting.{NumberedAim, rewritten, rewritten_from}
use Rattle.edit_change.specs.declared.aimed.Aimed.{Aimed}
use Rattle.edit_change.specs.inner.Aimed.{FormedAim, formed, of_formed, aims_of, has_parent}
use Rattle.edit_change.specs.inner.KindOnly.{kind_only}
use Rattle.one_pass.specs.declared.marked_element.GivenTable.{GivenTable}
use Rattle.one_pass.specs.declared.open_node.OpenNode.{OpenNode}
use Rattle.one_pass.specs.declared.mark.Walk.{Walk}
use Rattle.one_pass.specs.inner.Built.{built_from, nodes_built}
use Rattle.one_pass.specs.inner.Marked.{MarkTree, Marking, marked, mark_below, marks_of, marks_seen, marks_at, sought_below, wanted, InPathOrder, FromChild}
use Rattle.one_pass.specs.inner.Pass.{given_in}
use Rattle.one_pass.specs.inner.Sweep.{lowered, seen_at, inside_child, left, Rising, From, IsBelow}
use Rattle.one_pass.specs.inner.OpenNodes.{coming, sought_in, child_made, child_built, nothing, to_come, past, to_build, past_built, to_do, past_do, whole, InOrder, IsNext, IsEnded, IsNodeOpened, Enters, PutsMade, found_with}
use Rattle.one_pass.proofs.Counted.{counted-own}
use Rattle.one_pass.proofs.Marks.{shown}
use Rattle.one_pass.proofs.MarksKept.{marks-below, node_marks}
use Rattle.one_pass.proofs.NextAim.{made_by, counted_by}
use Rattle.one_pass.proofs.NodeAhead.{ahead-open, ahead-made}
use Rattle.one_pass.proofs.NodeSteps.{same-sought}
use Rattle.one_pass.proofs.OneAim.{below-key}
use Rattle.one_pass.proofs.OpenPath.{IsWaiting}
use Rattle.one_pass.proofs.SweepStart.{all-left, built-left, inside-lowered, rising-inside, rising-part, some-inside}

from-none : (xs : List FormedAim) → From 0 xs
from-none [] = tt
from-none (x ∷ xs) = (omega arith, from-none xs)

module _ (b : Branch) (way : ℕ) (xs : List Aimed) (sought : List Marking) (before after : Walk) (f : OpenNode) (opened : IsNodeOpened b way xs sought before after f) where
  seen : coming f ≡ seen_at way xs
  seen = ap₂ seen_at opened.depth opened.aims

  sought_seen : sought_in f ≡ marks_seen way f.sought.now
  sought_seen = ap (λ d. marks_seen d f.sought.now) opened.depth

  pub opened-order : Rising (seen_at way xs) → InOrder f
  opened-order rising = record {
    within = omega (arith, opened.slot);
    rising = subst Rising (sym seen) rising;
    begins = subst (λ n. From n (coming f)) (sym (ap (λ n. n + n) opened.slot)) (from-none (coming f));
    ascending = subst InPathOrder (sym sought_seen) opened.ascending;
    from = subst (λ n. FromChild n (sought_in f)) (sym opened.slot) (subst (FromChild 0) (sym sought_seen) opened.from);
  }

  start : {X : Type 0} (given : ℕ → List X) (made : ℕ → List FormedAim → GreenElement → X) → left given made f.passed (coming f) f.slot (drop f.slot f.elements.now) ≡ left given made 0 (seen_at way xs) 0 f.elements.now
  start given made = ap₂ (λ p ys. left given made p ys f.slot (drop f.slot f.elements.now)) opened.passed seen ∙ ap (λ i. left given made 0 (seen_at way xs) i (drop i f.elements.now)) opened.slot

  pub come-all : {L : Type 0} (label : List Marking → Path → ℕ → L) → ((i : ℕ) (p : Path) (k : ℕ) → label sought (i ∷ p) k ≡ label (sought_below i sought) p k) → (given : ℕ → List (Tree L)) → to_come label given f ≡ rewritten_from (label sought) given (map of_formed (seen_at way xs)) [] 0 (forest b.children)
  come-all label labels given =
      let es = f.elements.now in
      start given (child_made label given f) ∙ all-left (label sought) (λ i. label (sought_below i (sought_in f))) (length es) (λ i l p k. labels i p k ∙ ap (λ ms. label ms p k) (sym (ap (sought_below i) sought_seen ∙ opened.sought_are i))) given (seen_at way xs) 0 es (omega arith) ∙ ap (λ ts. rewritten_from (label sought) given (map of_formed (seen_at way xs)) [] 0 (forest ts)) opened.elements

  pub whole-opened : (table : GivenTable) → whole table f ≡ rewritten kind_only (given_in table) (map of_formed (seen_at way xs)) [] (branch_tree b)
  whole-opened table =
      ap₂ (λ k us. node k us) opened.kind (ap (λ o. element_trees o ++ to_come (λ ms. kind_only) (given_in table) f) opened.out ∙ come-all (λ ms. kind_only) (λ i p k. refl) (given_in table))

  pub marks-opened : (trees : ℕ → List MarkTree) → found_with trees after after.path.items f ≡ marks_of before.found.items ++ map (mark_below after.path.items) (marked (rewritten (wanted sought) trees (map of_formed (seen_at way xs)) [] (branch_tree b)))
  marks-opened trees =
      let cs : List NumberedAim = map of_formed (seen_at way xs) in
      let path : Path = after.path.items in
      let all = come-all wanted (λ i p k. marks-below sought i p) trees in
      node_marks path sought trees cs (marks_of before.found.items) _ (branch_tree b) b.kind b.children refl (ap₂ (λ ms us. ms ++ shown path (length f.out.items) us) opened.found all ∙ ap (λ o. marks_of before.found.items ++ map (λ n. (n, path)) (marks_at sought []) ++ shown path (length o) (rewritten_from (wanted sought) trees cs [] 0 (forest b.children))) opened.out)

  pub built-opened : list_any has_parent (map of_formed (seen_at way xs)) ≡ true → suc (to_build f) ≡ nodes_built (map of_formed (seen_at way xs)) (branch_tree b)
  built-opened some =
      let cs : List NumberedAim = map of_formed (seen_at way xs) in
      let slots = ap sum (start nothing child_built) ∙ built-left (seen_at way xs) 0 f.elements.now ∙ ap (λ ts. built_from cs [] 0 (forest ts) (parents_of cs)) opened.elements in
      omega (arith, slots, counted-own cs b.kind b.children some)

  pub do-opened : to_do f + 1 ≡ branch_size b
  do-opened = ap (λ i. forest_size (forest (element_trees (drop i f.elements.now))) + 1) opened.slot ∙ ap (λ ts. forest_size (forest ts) + 1) opened.elements

-- ---- a child of an open node
module _ (b : Branch) (before after : Walk) (f g inner : OpenNode) (next : IsNext f b) (enters : Enters b before after f g inner) where
  abbrev pub aims_inside : List NumberedAim
  aims_inside = map of_formed (seen_at (f.depth + 1) inner.aims.now)

  deeper : seen_at (f.depth + 1) inner.aims.now ≡ inside_child f.slot (seen_at f.depth inner.aims.now)
  deeper =
      let one : f.depth + 1 ≡ suc f.depth = omega arith in
      ap (λ d. seen_at d inner.aims.now) one ∙ inside-lowered f.slot f.depth inner.aims.now enters.inside

  sought_behind : sought_in g ≡ marks_seen f.depth g.sought.now
  sought_behind = ap (λ d. marks_seen d g.sought.now) enters.same.depth

  alike : {X : Type 0} (made : List Marking → X) (j : ℕ) → suc f.slot ≤ j → made (sought_below j (sought_in f)) ≡ made (sought_below j (sought_in g))
  alike made j l = ap made (sym (ap (sought_below j) sought_behind ∙ enters.sought_are j l))

  parts : seen_at f.depth f.aims.now ≡ seen_at f.depth inner.aims.now ++ seen_at f.depth g.aims.now
  parts = ap (seen_at f.depth) enters.parts ∙ map-append (lowered f.depth) inner.aims.now g.aims.now

  both-rising : Rising (seen_at f.depth inner.aims.now) × Rising (seen_at f.depth g.aims.now)
  both-rising = rising-part (seen_at f.depth inner.aims.now) (seen_at f.depth g.aims.now) (subst Rising parts next.order.rising)

  pub enter-order : InOrder inner
  enter-order = opened-order b (f.depth + 1) inner.aims.now (sought_below f.slot (sought_in f)) before after inner enters.opened (subst Rising (sym deeper) (rising-inside f.slot (seen_at f.depth inner.aims.now) enters.inside both-rising.0))

  pub enter-waiting : IsWaiting g
  enter-waiting = record {
    within = omega (arith, next.within, enters.slot, ap (λ es. length es.now) enters.same.elements);
    rising = subst (λ d. Rising (seen_at d g.aims.now)) (sym enters.same.depth) both-rising.1;
    behind = subst (λ d. From (suc g.slot + suc g.slot) (seen_at d g.aims.now)) (sym enters.same.depth) (subst (λ n. From (suc n + suc n) (seen_at f.depth g.aims.now)) (sym enters.slot) enters.behind);
    ascending = subst InPathOrder (sym sought_behind) enters.ascending;
    from = subst (λ n. FromChild (suc n) (sought_in g)) (sym enters.slot) (subst (FromChild (suc f.slot)) (sym sought_behind) enters.from);
  }

  pub enter-come : {L : Type 0} (label : List Marking → Path → ℕ → L) (given : ℕ → List (Tree L)) → to_come label given f ≡ rewritten (label (sought_below f.slot (sought_in f))) given aims_inside [] (branch_tree b) ∷ past label given g
  enter-come label given =
      ahead-open given (made_by label given) f g inner.aims.now b enters.same enters.slot enters.passed enters.parts next.within next.stays next.element enters.inside enters.behind (λ j ys e. alike (λ ms. rewritten (label ms) given (map of_formed ys) [] (element_tree e)) j) ∙ ap (λ ys. rewritten (label (sought_below f.slot (sought_in f))) given (map of_formed ys) [] (branch_tree b) ∷ past label given g) (sym deeper)

  pub enter-built : to_build f ≡ nodes_built aims_inside (branch_tree b) + past_built g
  enter-built =
      let rest = past_built g in
      let own = nodes_built (map of_formed (inside_child f.slot (seen_at f.depth inner.aims.now))) (branch_tree b) in
      ap sum (ahead-open nothing counted_by f g inner.aims.now b enters.same enters.slot enters.passed enters.parts next.within next.stays next.element enters.inside enters.behind (λ j ys e l. refl)) ∙ sum_by-cons (λ (x : ℕ). x) own (left nothing child_built g.passed (seen_at g.depth g.aims.now) (suc g.slot) (drop (suc g.slot) g.elements.now)) ∙ ap (λ ys. nodes_built (map of_formed ys) (branch_tree b) + rest) (sym deeper)

  pub enter-do : to_do f ≡ branch_size b + past_do g
  enter-do =
      let one : f.slot + 1 ≡ suc f.slot = omega arith in
      at_drop_more (λ es. forest_size (forest (element_trees es))) f.elements.now f.slot (Node b) next.within ∙ ap₂ (λ e us. forest_size (forest (element_trees (e ∷ us)))) (next.element (Node b)) (ap (λ n. drop n f.elements.now) one ∙ sym (ap₂ (λ i es. drop (suc i) es.now) enters.slot enters.same.elements))

  -- some aim is inside it
  pub enter-some : list_any has_parent aims_inside ≡ true
  enter-some = go inner.aims.now enters.parts enters.inside
    where
      one : f.depth + 1 ≡ suc f.depth
      one = omega arith

      go : (ys : List Aimed) → f.aims.now ≡ ys ++ g.aims.now → AllByRecursion (IsBelow f.slot) (seen_at f.depth ys) → list_any has_parent (map of_formed (seen_at (f.depth + 1) ys)) ≡ true
      go [] is all = absurd (nothing-inside f.aims.now next.some next.inside (subst (λ zs. From (suc f.slot + suc f.slot) (seen_at f.depth zs)) (sym is) enters.behind))
        where
          nothing-inside : (zs : List Aimed) → 0 < length zs → ((d : Aimed) → IsBelow f.slot (lowered f.depth (get_or zs 0 d))) → From (suc f.slot + suc f.slot) (seen_at f.depth zs) → ⊥
          nothing-inside [] some inside far = omega (arith, some)
          nothing-inside (z ∷ zs) some inside far = omega (arith, far.0, below-key f.slot (lowered f.depth z) (inside z))
      go (y ∷ ys) is all = ap (λ d. list_any has_parent (map of_formed (seen_at d (y ∷ ys)))) one ∙ some-inside f.depth f.slot y ys all.0

-- ---- a child that was made
module _ (table : GivenTable) (made : GreenElement) (before after : Walk) (g k : OpenNode) (waiting : IsWaiting g) (puts : PutsMade made before after g k) where
  made-sought : sought_in k ≡ sought_in g
  made-sought = same-sought g k puts.same puts.sought

  pub made-order : InOrder k
  made-order =
      let same : coming k ≡ coming g = ap₂ (λ d xs. seen_at d xs.now) puts.same.depth puts.aims in
      record {
        within = omega (arith, waiting.within, puts.slot, ap (λ es. length es.now) puts.same.elements);
        rising = subst Rising (sym same) waiting.rising;
        begins = subst (From (k.slot + k.slot)) (sym same) (subst (λ n. From (n + n) (coming g)) (sym puts.slot) waiting.behind);
        ascending = subst InPathOrder (sym made-sought) waiting.ascending;
        from = subst (λ n. FromChild n (sought_in k)) (sym puts.slot) (subst (FromChild (suc g.slot)) (sym made-sought) waiting.from);
      }

  pub made-come : {L : Type 0} (label : List Marking → Path → ℕ → L) (given : ℕ → List (Tree L)) → to_come label given k ≡ past label given g
  made-come label given = ahead-made given (made_by label given) g k puts.same made-sought puts.passed puts.aims puts.slot

  pub made-built : to_build k ≡ past_built g
  made-built = ap sum (ahead-made nothing counted_by g k puts.same made-sought puts.passed puts.aims puts.slot)

  pub made-do : to_do k ≡ past_do g
  made-do = ap₂ (λ i es. forest_size (forest (element_trees (drop i es.now)))) puts.slot puts.same.elements

-- ---- a node of which nothing is left
module _ (f : OpenNode) (order : InOrder f) (ended : IsEnded f) where
  none : (xs : List Aimed) → length xs ≡ 0 → xs ≡ []
  none [] h = refl
  none (x ∷ xs) h = absurd (omega (arith, h))

  nothing-left : {X : Type 0} (given : ℕ → List X) (made : ℕ → List FormedAim → GreenElement → X) → left given made f.passed (coming f) f.slot (drop f.slot f.elements.now) ≡ []
  nothing-left given made =
      ap (λ xs. left given made f.passed (seen_at f.depth xs) f.slot (drop f.slot f.elements.now)) (none f.aims.now ended.aims) ∙ at_drop_all (left given made f.passed [] f.slot) f.elements.now f.slot ended.slot

  pub ended-come : {L : Type 0} (label : List Marking → Path → ℕ → L) (given : ℕ → List (Tree L)) → to_come label given f ≡ []
  ended-come label given = nothing-left given (child_made label given f)

  pub ended-built : to_build f ≡ 0
  ended-built = ap sum (nothing-left nothing child_built)

-- ---- from the top
pub from-top : (xs : List Aimed) → map of_formed (seen_at 0 xs) ≡ aims_of xs
from-top [] = refl
from-top (x ∷ xs) = ap (λ cs. of_formed (formed x) ∷ cs) (from-top xs)

pub ordered-top : (xs : List Aimed) → Rising (map formed xs) → Rising (seen_at 0 xs)
ordered-top xs h = subst Rising (sym (same xs)) h
  where
    same : (ys : List Aimed) → seen_at 0 ys ≡ map formed ys
    same [] = refl
    same (y ∷ ys) = ap (λ zs. formed y ∷ zs) (same ys)
