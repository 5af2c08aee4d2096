use Rattle.std.proofs.Common.{◌≡◌, ◌≤◌, ◌<◌, ◌+◌, ℕ, List, [], ◌∷◌, ◌++◌, map, length, drop, slice_get, None, refl, arith, ap, ap₂, sym, subst, ◌∙◌}
use Rattle.std.specs.Option.{option_map_or}
use Rattle.std.proofs.lemmas.Grind.{common_steps}
use Rattle.std.proofs.lemmas.List.{append-nil, map-append, length-append, at_drop_more, at_drop_all}
use Rattle.std.proofs.lemmas.Option.{slice_get_read, slice_get_past}
use Rattle.green_tree.specs.Tree.{Token}
use Rattle.green_tree.specs.GreenElement.{element_tree, element_trees}
use Rattle.one_pass.specs.inner.Marked.{MarkTree, mark_below, marks_of}
use Rattle.one_pass.specs.inner.Pass.{given_trees, entry_in, marks_there, AreMarked}
use Rattle.one_pass.specs.declared.marked_element.MarkedElement.{MarkedElement}
use Rattle.one_pass.proofs.Marks.{shown}
use Rattle.one_pass.proofs.MarksGiven.{pushed, element_more, marked-at, none-there, as_many_in}
use Rattle.one_pass.proofs.marked_element.push_change.Goals as goal

past : {X : Type 0} (xs ys : List X) (i : ℕ) → ys ≡ xs → length ys ≤ i → slice_get xs i ≡ None
past xs ys i is l = ap (λ zs. slice_get zs i) (sym is) ∙ slice_get_past ys i l

pub returns-in_default-clause-trees : goal.returns-in_default-clause-trees
returns-in_default-clause-trees c =
    rw (past c.args.given.now.entries.items c.deref.result.now c.args.change c.deref.ensures.value c.in_default.ensures.lookup.3) (sym (append-nil (element_trees c.args.out.now.items)))

pub returns-in_default-clause-marks : goal.returns-in_default-clause-marks
returns-in_default-clause-marks c = λ trees are.
    let given = c.args.given.now in
    let n = c.args.change in
    let empty : entry_in given n ≡ [] = ap (λ o. option_map_or (λ w. w.items) o []) (past given.entries.items c.deref.result.now n c.deref.ensures.value c.in_default.ensures.lookup.3) in
    let none = none-there given.top (entry_in given n) (trees n) empty (are n) in
    sym (append-nil (marks_of c.args.walk.now.found.items)) ∙ ap (λ ts. marks_of c.args.walk.now.found.items ++ shown c.args.walk.now.path.items (length c.args.out.now.items) ts) (sym none)

pub loop-one-preserved : goal.loop-one-preserved
loop-one-preserved c =
    let es = c.deref-one-items.result.now in
    let i = c.loop-one.one-index in
    let one = c.one-item.result in
    let path = c.args.walk.now.path.items in
    let out = c.loop-one.out.items in
    let more = c.push-in-loop-one.new.self.items in
    let before = marks_of c.loop-one.walk.found.items in
    let d : MarkTree = Token [] [] in
    let within : i < length es = c.loop-one-test.true in
    let next : c.len.result ≡ length out = c.len.ensures ∙ c.loop-one.out.ok.0 in
    record {
      path = grind (arith, common_steps, c.in_ok-push.ensures.items, c.pop.ensures.rest, c.loop-one.invariant.path);
      count = c.loop-one.invariant.count;
      trees = pushed (element_trees out) (element_trees more) (element_tree c.in_ok-share.field-0 ∷ []) (given_trees (drop (i + 1) es)) _ (ap element_trees c.in_ok-push-2.ensures.items ∙ map-append element_tree out (_ ∷ [])) (ap (λ t. element_trees out ++ element_tree t ∷ given_trees (drop (i + 1) es)) c.in_ok-share.ensures ∙ ap (λ (x : MarkedElement). element_trees out ++ element_tree x.element ∷ given_trees (drop (i + 1) es)) c.one-item.is ∙ sym (at_drop_more (λ us. element_trees out ++ given_trees us) es i one within) ∙ c.loop-one.invariant.trees);
      marks = λ ts are.
          let here = marked-at c.args.given.now.top es ts i one d are within c.one-item.is in
          element_more path before (marks_of c.push_marks.new.found.items) _ (length out) (length more) i ts d (marks_there c.args.given.now.top one) here.0 here.1 (c.in_ok-push_marks.ensures ∙ ap (λ p. before ++ map (mark_below p) (marks_there c.args.given.now.top one)) (c.deref-in-loop-one.ensures.value ∙ c.in_ok-push.ensures.items ∙ ap₂ (λ p n. p ++ n ∷ []) c.loop-one.invariant.path next)) (ap length c.in_ok-push-2.ensures.items ∙ length-append out (_ ∷ [])) (c.loop-one.invariant.marks ts are);
    }

pub returns-clause-trees : goal.returns-clause-trees
returns-clause-trees c =
    let es = c.deref-one-items.result.now in
    let found = c.in-Some.ensures.lookup in
    let there = ap (λ xs. slice_get xs c.args.change) (sym c.deref.ensures.value) ∙ slice_get_read c.deref.result.now (length c.deref.result.now) c.args.change c.in-Some.entry.now refl found.3.0 found.1 in
    let own : es ≡ entry_in c.args.given.now c.args.change = c.deref-one-items.ensures.value ∙ ap (λ o. option_map_or (λ w. w.items) o []) (sym there) in
    let out = element_trees c.loop-one.out.items in
    sym (append-nil out) ∙ sym (at_drop_all (λ xs. out ++ given_trees xs) es c.loop-one.one-index c.loop-one-test.false) ∙ c.loop-one.invariant.trees ∙ ap (λ xs. element_trees c.args.out.now.items ++ given_trees xs) own

pub returns-clause-marks : goal.returns-clause-marks
returns-clause-marks c = λ trees are.
    let es = c.deref-one-items.result.now in
    let found = c.in-Some.ensures.lookup in
    let there = ap (λ xs. slice_get xs c.args.change) (sym c.deref.ensures.value) ∙ slice_get_read c.deref.result.now (length c.deref.result.now) c.args.change c.in-Some.entry.now refl found.3.0 found.1 in
    let own : es ≡ entry_in c.args.given.now c.args.change = c.deref-one-items.ensures.value ∙ ap (λ o. option_map_or (λ w. w.items) o []) (sym there) in
    let ts = trees c.args.change in
    let marked_are : AreMarked c.args.given.now.top es ts = subst (λ xs. AreMarked c.args.given.now.top xs ts) (sym own) (are c.args.change) in
    let past_all : length ts ≤ c.loop-one.one-index = omega (arith, as_many_in c.args.given.now.top es ts marked_are, c.loop-one-test.false) in
    let after = marks_of c.loop-one.walk.found.items in
    let path = c.args.walk.now.path.items in
    sym (append-nil after) ∙ sym (at_drop_all (λ us. after ++ shown path (length c.loop-one.out.items) us) ts c.loop-one.one-index past_all) ∙ c.loop-one.invariant.marks ts marked_are

pub loop-one-init : goal.loop-one-init
loop-one-init c = record { path = refl; count = refl; trees = refl; marks = λ ts are. refl }

pub returns-clause-path : goal.returns-clause-path
returns-clause-path c = c.loop-one.invariant.path

pub returns-clause-count : goal.returns-clause-count
returns-clause-count c = c.loop-one.invariant.count
