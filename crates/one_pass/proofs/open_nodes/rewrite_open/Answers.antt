use Rattle.std.specs.Prelude.{MatchOption}
use Rattle.std.proofs.Common.{◌≡◌, ℕ, suc, ◌+◌, List, [], ◌∷◌, ◌++◌, length, arith, ap, ap₂, sym, subst, ◌∙◌}
use Rattle.std.proofs.lemmas.List.{append-nil, append_assoc, map-append, length-append}
use Rattle.green_tree.specs.Path.{Path}
use Rattle.green_tree.specs.Tree.{SyntaxTree, node}
use Rattle.green_tree.specs.Green.{Branch, branch_tree}
use Rattle.green_tree.specs.GreenElement.{element_tree, element_trees}
use Rattle.green_tree.specs.Count.{counted}
use Rattle.edit_change.specs.Rewriting.{rewritten}
use Rattle.edit_change.specs.inner.KindOnly.{kind_only}
use Rattle.one_pass.specs.inner.Built.{nodes_built}
use Rattle.one_pass.specs.inner.Marked.{MarkTree, Marking, marks_of, sought_below, wanted}
use Rattle.one_pass.specs.inner.Pass.{given_in}
use Rattle.one_pass.specs.inner.OpenNodes.{sought_in, IsNext, IsEnded, to_come, to_build, past, past_built, kinds_to_come, kinds_past, whole, wholes, path_to, found_above, found_with, built_above}
use Rattle.one_pass.proofs.Marks.{shown}
use Rattle.one_pass.proofs.OpenPath.{wholes-push, path-push, found-push, built-push, work_above, work-push, AreWaiting, waiting-push, waiting-pop, none-left, marks-inside, count-opened, count-closed, count-done}
use Rattle.one_pass.proofs.OpenedNode.{aims_inside, whole-opened, marks-opened, built-opened, do-opened, enter-order, enter-waiting, enter-come, enter-built, enter-do, enter-some, made-order, made-come, made-built, made-do, ended-come, ended-built}
use Rattle.one_pass.proofs.open_nodes.rewrite_open.Goals as goal

-- ---- a child is opened
pub nodes-smaller-in-Some : goal.nodes-smaller-in-Some
nodes-smaller-in-Some c =
    let f = c.push_on.new.top in
    let g = c.open_child.new.above in
    let b : Branch = c.in-Some.node.now in
    let next : IsNext f b = subst (λ r. MatchOption r (IsEnded f) (λ n. IsNext f n.now)) c.in-Some.is c.in_ok-node.ensures.next in
    let inner = c.in_ok-inner.inner in
    let enters = c.in_ok-inner.ensures.entered in
    let before = c.push_on.new.walk in
    let after = c.open_child.new.walk in
    omega (arith, enter-do b before after f g inner next enters, do-opened b (f.depth + 1) inner.aims.now (sought_below f.slot (sought_in f)) before after inner enters.opened, c.in_ok-node.ensures.further.size, ap work_above c.in_ok-push.ensures.items, work-push c.nodes.above.items g)

pub nodes-preserved-in-Some : goal.nodes-preserved-in-Some
nodes-preserved-in-Some c =
    let table = c.args.given.now in
    let start : Path = c.args.walk.now.path.items in
    let f = c.push_on.new.top in
    let g = c.open_child.new.above in
    let b : Branch = c.in-Some.node.now in
    let next : IsNext f b = subst (λ r. MatchOption r (IsEnded f) (λ n. IsNext f n.now)) c.in-Some.is c.in_ok-node.ensures.next in
    let inner = c.in_ok-inner.inner in
    let said = c.in_ok-node.ensures.further in
    let enters = c.in_ok-inner.ensures.entered in
    let before = c.push_on.new.walk in
    let after = c.open_child.new.walk in
    let above = c.nodes.above.items in
    let out = f.out.items in
    let same : length g.out.items ≡ length f.out.items = ap (λ o. length o.items) enters.out in
    let more : c.push.new.self.items ≡ above ++ g ∷ [] = c.in_ok-push.ensures.items in
    let sought = sought_below f.slot (sought_in f) in
    let own = aims_inside b before after f g inner next enters in
    let opened = enters.opened in
    let here : Path = c.nodes.walk.path.items in
    record {
      path = c.in_ok-inner.ensures.path ∙ ap₂ (λ p n. p ++ n ∷ []) (said.path ∙ c.nodes.invariant.path) (sym same) ∙ sym (path-push start above g) ∙ sym (ap (path_to start) more);
      order = enter-order b before after f g inner next enters;
      waiting = subst AreWaiting (sym more) (waiting-push above g c.nodes.invariant.waiting (enter-waiting b before after f g inner next enters));
      count = λ further.
          let built = built-opened b (f.depth + 1) inner.aims.now sought before after inner opened (enter-some b before after f g inner next enters) in
          let due = count-opened (to_build c.nodes.top) (to_build inner) (nodes_built own (branch_tree b)) (past_built g) (built_above above) (built_above c.push.new.self.items) (sym said.built ∙ enter-built b before after f g inner next enters) built (ap built_above more ∙ built-push above g) in
          ap₂ (λ n k. counted n (k + further)) (c.in_ok-inner.ensures.count ∙ said.count) due ∙ c.nodes.invariant.count further;
      trees =
          let child = ap₂ (λ o t. element_trees o ++ t ∷ kinds_past table g) (ap (λ o. o.items) enters.out) (whole-opened b (f.depth + 1) inner.aims.now sought before after inner opened table) ∙ ap (λ us. element_trees out ++ us) (sym (enter-come b before after f g inner next enters (λ ms. kind_only) (given_in table))) ∙ said.trees in
          ap (λ fs. wholes table fs (whole table inner)) more ∙ wholes-push table above g (whole table inner) ∙ ap₂ (λ k us. wholes table above (node k.0 us)) (enters.same.kind ∙ said.same.kind) child ∙ c.nodes.invariant.trees;
      marks = λ trees are.
          let there : Path = after.path.items in
          let found : List Marking = marks_of before.found.items in
          let further : List Marking = marks_of after.found.items in
          let tree : MarkTree = rewritten (wanted sought) trees own [] (branch_tree b) in
          let below : List Marking = shown there (length inner.out.items) (to_come wanted trees inner) in
          let higher = found_above trees start above in
          let later : List MarkTree = past wanted trees g in
          let all = ap (λ ms. ms ++ higher) (said.marks trees are) ∙ c.nodes.invariant.marks trees are in
          let place = c.in_ok-inner.ensures.path ∙ ap (λ p. p ++ length out ∷ []) said.path in
          ap (λ ms. further ++ below ++ ms) (ap (found_above trees start) more ∙ found-push trees start above g ∙ ap₂ (λ p n. shown p (suc n) later ++ higher) (sym c.nodes.invariant.path) same) ∙ marks-inside here there found further (length out) tree below higher _ (to_come wanted trees f) later place (marks-opened b (f.depth + 1) inner.aims.now sought before after inner opened trees) (enter-come b before after f g inner next enters wanted trees) all;
    }

-- ---- a node is closed
pub returns-in_default-pop-clause-count : goal.returns-in_default-pop-clause-count
returns-in_default-pop-clause-count c =
    let f = c.push_on.new.top in
    let said = c.in_ok-node.ensures.further in
    let ended : IsEnded f = subst (λ r. MatchOption r (IsEnded f) (λ n. IsNext f n.now)) c.in_default.is c.in_ok-node.ensures.next in
    let above = c.nodes.above.items in
    let empty : length above ≡ 0 = sym c.nodes.above.ok.0 ∙ c.in_default-pop.ensures.cases.0 in
    count-done c.args.walk.now.builds c.push_on.new.walk.builds c.build_node.new.builds (to_build f) (built_above above) (suc (to_build c.args.first)) c.in_ok-made.ensures.count (ended-built f said.order ended) (ap built_above (none-left above empty)) (λ further. ap₂ (λ n k. counted n (k + (1 + built_above above) + further)) said.count said.built ∙ c.nodes.invariant.count further)

pub returns-in_default-pop-clause-tree : goal.returns-in_default-pop-clause-tree
returns-in_default-pop-clause-tree c =
    let table = c.args.given.now in
    let f = c.push_on.new.top in
    let said = c.in_ok-node.ensures.further in
    let ended : IsEnded f = subst (λ r. MatchOption r (IsEnded f) (λ n. IsNext f n.now)) c.in_default.is c.in_ok-node.ensures.next in
    let full : List SyntaxTree = element_trees f.out.items in
    let above = c.nodes.above.items in
    let empty : length above ≡ 0 = sym c.nodes.above.ok.0 ∙ c.in_default-pop.ensures.cases.0 in
    let is : element_tree c.in_ok-made.made ≡ whole table c.nodes.top = c.in_ok-made.ensures.tree ∙ ap₂ (λ l us. node l.0 us) said.same.kind (sym (append-nil full) ∙ ap (λ us. full ++ us) (sym (ended-come f said.order ended (λ ms. kind_only) (given_in table))) ∙ said.trees) in
    is ∙ ap (λ fs. wholes table fs (whole table c.nodes.top)) (sym (none-left above empty)) ∙ c.nodes.invariant.trees

pub returns-in_default-pop-clause-marks : goal.returns-in_default-pop-clause-marks
returns-in_default-pop-clause-marks c = λ trees are.
    let f = c.push_on.new.top in
    let said = c.in_ok-node.ensures.further in
    let ended : IsEnded f = subst (λ r. MatchOption r (IsEnded f) (λ n. IsNext f n.now)) c.in_default.is c.in_ok-node.ensures.next in
    let path : Path = c.nodes.walk.path.items in
    let found : List Marking = marks_of c.push_on.new.walk.found.items in
    let due : List Marking = found_with trees c.nodes.walk path c.nodes.top in
    let above = c.nodes.above.items in
    let empty : length above ≡ 0 = sym c.nodes.above.ok.0 ∙ c.in_default-pop.ensures.cases.0 in
    let last : found ≡ due = sym (append-nil found) ∙ ap (λ us. found ++ shown path (length f.out.items) us) (sym (ended-come f said.order ended wanted trees)) ∙ said.marks trees are in
    last ∙ sym (append-nil due) ∙ ap (λ fs. due ++ found_above trees c.args.walk.now.path.items fs) (sym (none-left above empty)) ∙ c.nodes.invariant.marks trees are

pub push_made-requires : goal.push_made-requires
push_made-requires c =
    let rest = waiting-pop c.pop.new.self.items c.in-Some-pop.next (subst AreWaiting c.in-Some-pop.ensures.items c.nodes.invariant.waiting) in
    rest.1.within

pub nodes-smaller : goal.nodes-smaller
nodes-smaller c =
    let next = c.in-Some-pop.next in
    let waiting = waiting-pop c.pop.new.self.items next (subst AreWaiting c.in-Some-pop.ensures.items c.nodes.invariant.waiting) in
    omega (arith, made-do c.args.given.now c.in_ok-made.made _ c.push_made.new.walk next c.push_made.new.top waiting.1 c.in_ok-push_made.ensures, ap work_above c.in-Some-pop.ensures.items, work-push c.pop.new.self.items next)

pub nodes-preserved : goal.nodes-preserved
nodes-preserved c =
    let table = c.args.given.now in
    let start : Path = c.args.walk.now.path.items in
    let f = c.push_on.new.top in
    let said = c.in_ok-node.ensures.further in
    let ended : IsEnded f = subst (λ r. MatchOption r (IsEnded f) (λ n. IsNext f n.now)) c.in_default.is c.in_ok-node.ensures.next in
    let next = c.in-Some-pop.next in
    let rest = c.pop.new.self.items in
    let less : c.nodes.above.items ≡ rest ++ next ∷ [] = c.in-Some-pop.ensures.items in
    let waiting = waiting-pop rest next (subst AreWaiting less c.nodes.invariant.waiting) in
    let k = c.push_made.new.top in
    let puts = c.in_ok-push_made.ensures in
    let made = c.in_ok-made.made in
    let back : Path = path_to start rest in
    let n : ℕ = length next.out.items in
    let place : c.push_on.new.walk.path.items ≡ back ++ n ∷ [] = said.path ∙ c.nodes.invariant.path ∙ ap (path_to start) less ∙ path-push start rest next in
    let path = puts.path back n place in
    let after = c.push_made.new.walk in
    record {
      path = path;
      order = made-order table made _ after next k waiting.1 puts;
      waiting = waiting.0;
      count = λ further.
          let own : ℕ = suc (to_build c.args.first) in
          let above = built_above c.nodes.above.items in
          ap₂ (λ m s. counted m (s + (1 + built_above rest) + further)) puts.count (made-built table made _ after next k waiting.1 puts) ∙ count-closed c.args.walk.now.builds c.push_on.new.walk.builds c.build_node.new.builds (to_build f) (past_built next) (built_above rest) above own c.in_ok-made.ensures.count (ended-built f said.order ended) (ap built_above less ∙ built-push rest next) (λ j. ap₂ (λ m s. counted m (s + (1 + above) + j)) said.count said.built ∙ c.nodes.invariant.count j) further;
      trees =
          let full : List SyntaxTree = element_trees f.out.items in
          let is : element_tree made ≡ whole table c.nodes.top = c.in_ok-made.ensures.tree ∙ ap₂ (λ l us. node l.0 us) said.same.kind (sym (append-nil full) ∙ ap (λ us. full ++ us) (sym (ended-come f said.order ended (λ ms. kind_only) (given_in table))) ∙ said.trees) in
          let put : element_trees k.out.items ++ kinds_to_come table k ≡ element_trees next.out.items ++ element_tree made ∷ kinds_past table next = ap₂ (λ us vs. us ++ vs) (ap element_trees puts.out ∙ map-append element_tree next.out.items (made ∷ [])) (made-come table made _ after next k waiting.1 puts (λ ms. kind_only) (given_in table)) ∙ append_assoc (element_trees next.out.items) (element_tree made ∷ []) (kinds_past table next) in
          ap₂ (λ l us. wholes table rest (node l.0 us)) puts.same.kind (put ∙ ap (λ t. element_trees next.out.items ++ t ∷ kinds_past table next) is) ∙ sym (wholes-push table rest next (whole table c.nodes.top)) ∙ sym (ap (λ fs. wholes table fs (whole table c.nodes.top)) less) ∙ c.nodes.invariant.trees;
      marks = λ trees are.
          let here : Path = c.nodes.walk.path.items in
          let found : List Marking = marks_of c.push_on.new.walk.found.items in
          let due : List Marking = found_with trees c.nodes.walk here c.nodes.top in
          let last : found ≡ due = sym (append-nil found) ∙ ap (λ us. found ++ shown here (length f.out.items) us) (sym (ended-come f said.order ended wanted trees)) ∙ said.marks trees are in
          let later : List Marking = shown back (suc n) (past wanted trees next) in
          let higher = found_above trees start rest in
          let all = ap (λ ms. found ++ ms) (sym (ap (found_above trees start) less ∙ found-push trees start rest next)) ∙ ap (λ ms. ms ++ found_above trees start c.nodes.above.items) last ∙ c.nodes.invariant.marks trees are in
          let long : length k.out.items ≡ suc n = omega (arith, ap length puts.out, length-append next.out.items (made ∷ [])) in
          ap₂ (λ p m. marks_of after.found.items ++ shown p m (to_come wanted trees k) ++ higher) path long ∙ ap₂ (λ ms us. marks_of ms ++ shown back (suc n) us ++ higher) puts.found (made-come table made _ after next k waiting.1 puts wanted trees) ∙ append_assoc found later higher ∙ all;
    }

pub nodes-init : goal.nodes-init
nodes-init c =
    let start : Path = c.args.walk.now.path.items in
    let table = c.args.given.now in
    let none = c.new-above.ensures.items in
    record {
      path = sym (ap (path_to start) none);
      order = c.requires;
      waiting = subst AreWaiting (sym none) tt;
      count = λ further. ap (counted c.args.walk.now.builds) (omega (arith, ap built_above none));
      trees = ap (λ fs. wholes table fs (whole table c.args.first)) none;
      marks = λ trees are.
          let due = found_with trees c.args.walk.now start c.args.first in
          ap (λ fs. due ++ found_above trees start fs) none ∙ append-nil due;
    }

pub push_on-requires : goal.push_on-requires
push_on-requires c = c.nodes.invariant.order

pub open_child-requires : goal.open_child-requires
open_child-requires c =
    let f = c.push_on.new.top in
    subst (λ r. MatchOption r (IsEnded f) (λ n. IsNext f n.now)) c.in-Some.is c.in_ok-node.ensures.next
