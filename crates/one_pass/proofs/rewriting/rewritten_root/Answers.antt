use Rattle.std.proofs.Common.{◌≡◌, ◌∷◌, [], map, flat_map, length, arith, ap, ap₂, sym, subst, ◌∙◌}
use Rattle.std.specs.Prelude.{OnOk, IfSome, ◌++◌}
use Rattle.std.proofs.lemmas.List.{append-nil}
use Rattle.cst_core.specs.Element.{Element, address, subtree}
use Rattle.cst_core.specs.GreenElement.{element_tree}
use Rattle.green_tree.specs.Count.{counted}
use Rattle.edit_change.specs.Effort.{touched, parents_of}
use Rattle.edit_change.specs.Rewriting.{rewritten, rewritten_whole}
use Rattle.edit_change.specs.inner.Aimed.{aims_of}
use Rattle.edit_change.specs.inner.KindOnly.{kind_only}
use Rattle.edit_change.specs.TouchedNodes.{Raises}
use Rattle.edit_change.proofs.AlteredNodes.{on_ok, on_ok-map, if_ok-map}
use Rattle.edit_change.proofs.RootAlone.{some-starts}
use Rattle.one_pass.specs.inner.Built.{AreBuilt}
use Rattle.one_pass.specs.inner.Marked.{marked, mark_below, marks_of, wanted}
use Rattle.one_pass.specs.inner.Pass.{entry_in, given_trees, given_in}
use Rattle.one_pass.specs.inner.Root.{IsAlone}
use Rattle.one_pass.specs.inner.Sought.{sought_at}
use Rattle.one_pass.proofs.Children.{slot-replaced, slot-kept}
use Rattle.one_pass.proofs.MarksGiven.{sole, only-one, entry-at, entry-within}
use Rattle.one_pass.proofs.Counting.{raises-built}
use Rattle.one_pass.proofs.TouchedNodes.{touched-none}
use Rattle.one_pass.proofs.rewriting.rewritten_root.Goals as goal

pub returns-in_default-clause-count : goal.returns-in_default-clause-count
returns-in_default-clause-count c =
    let aims = aims_of c.args.aims.now in
    let before = c.args.walk.now.builds in
    let after = c.rewritten_element.new.walk.builds in
    subst (λ (e : Element). OnOk c.rewritten_element.result (Raises (AreBuilt aims (subtree e)) (touched (subtree e) (parents_of aims)) before after)) c.in_ok-try_clone.ensures c.rewritten_element.ensures.count

pub returns-in_default-clause-tree : goal.returns-in_default-clause-tree
returns-in_default-clause-tree c =
    let aims = aims_of c.args.aims.now in
    let given = given_in c.args.given.now in
    let t = rewritten kind_only given aims [] (subtree c.args.root.now) in
    let none = subst (IsAlone aims) c.in_default.is c.requires.alone in
    if_ok-map _ _ c.rewritten_element.result (λ e is. sym (slot-kept kind_only given aims [] t none) ∙ ap (λ u. u ∷ []) (sym (is ∙ ap (λ (r : Element). rewritten kind_only given aims [] (subtree r)) c.in_ok-try_clone.ensures))) c.rewritten_element.ensures.tree

pub returns-in_default-clause-marks : goal.returns-in_default-clause-marks
returns-in_default-clause-marks c =
    let aims = aims_of c.args.aims.now in
    let index = c.args.registered.now in
    let none = subst (IsAlone aims) c.in_default.is c.requires.alone in
    let before = c.args.walk.now in
    on_ok-map c.rewritten_element.result (λ finds trees are.
    let own = λ (r : Element). rewritten (wanted (sought_at index (address r))) trees aims [] (subtree r) in
    let root = c.args.root.now in
    (own root, sym (slot-kept (wanted (sought_at index (address root))) trees aims [] (own root) none), finds trees are ∙ ap (λ r. marks_of before.found.items ++ map (mark_below before.path.items) (marked (own r))) c.in_ok-try_clone.ensures)) c.rewritten_element.ensures.marks

pub index-requires : goal.index-requires
index-requires c =
    let given = c.args.given.now in
    let one = subst (λ r. IfSome r (λ n. length (entry_in given n) ≡ 1)) c.in-Some.is c.requires.one in
    omega (arith, entry-within given c.in-Some.change one, given.entries.ok.0)

pub returns-clause-count : goal.returns-clause-count
returns-clause-count c =
    let aims = aims_of c.args.aims.now in
    let tree = subtree c.args.root.now in
    let alone = subst (IsAlone aims) c.in-Some.is c.requires.alone in
    let n = c.args.walk.now.builds in
    let same : n ≡ counted n 0 = omega arith in
    on_ok c.share.result (raises-built (AreBuilt aims tree) (touched tree (parents_of aims)) 0 n n (omega arith) same (λ all. same ∙ ap (counted n) (sym (touched-none aims tree all (some-starts aims [] c.in-Some.change alone)))))

pub returns-clause-tree : goal.returns-clause-tree
returns-clause-tree c =
    let given = c.args.given.now in
    let aims = aims_of c.args.aims.now in
    let tree = subtree c.args.root.now in
    let n = c.in-Some.change in
    let alone = subst (IsAlone aims) c.in-Some.is c.requires.alone in
    let one = subst (λ r. IfSome r (λ n. length (entry_in given n) ≡ 1)) c.in-Some.is c.requires.one in
    let entry = entry-at given n c.index.result.now (entry-within given n one) c.index.ensures in
    let own = entry ∙ sole c.index.result.now.items c.index-one.result.now (ap length (sym entry) ∙ one) c.index-one.ensures in
    let whole : rewritten_whole kind_only (given_in given) aims tree ≡ given_in given n = sym (slot-replaced kind_only (given_in given) aims [] (rewritten kind_only (given_in given) aims [] tree) (some-starts aims [] n alone)) ∙ ap (flat_map (given_in given)) alone ∙ append-nil (given_in given n) in
    if_ok-map _ _ c.share.result (λ e is. whole ∙ ap given_trees own ∙ ap (λ u. element_tree u ∷ []) (sym is)) c.share.ensures

pub returns-clause-marks : goal.returns-clause-marks
returns-clause-marks c =
    let given = c.args.given.now in
    let aims = aims_of c.args.aims.now in
    let tree = subtree c.args.root.now in
    let n = c.in-Some.change in
    let alone = subst (IsAlone aims) c.in-Some.is c.requires.alone in
    let one = subst (λ r. IfSome r (λ n. length (entry_in given n) ≡ 1)) c.in-Some.is c.requires.one in
    let entry = entry-at given n c.index.result.now (entry-within given n one) c.index.ensures in
    let own = entry ∙ sole c.index.result.now.items c.index-one.result.now (ap length (sym entry) ∙ one) c.index-one.ensures in
    let label = wanted (sought_at c.args.registered.now (address c.args.root.now)) in
    let before = marks_of c.args.walk.now.found.items in
    on_ok c.share.result (λ trees are.
    let it = only-one given.top (entry_in given n) c.index-one.result.now (trees n) own (are n) in
    let whole : rewritten_whole label trees aims tree ≡ trees n = sym (slot-replaced label trees aims [] (rewritten label trees aims [] tree) (some-starts aims [] n alone)) ∙ ap (flat_map trees) alone ∙ append-nil (trees n) in
    (it.0, whole ∙ it.1, c.in_ok-push_marks.ensures ∙ ap₂ (λ p ms. before ++ map (mark_below p) ms) c.deref.ensures.value (sym it.2)))
