use Rattle.std.proofs.Common.{◌≡◌, ◌+◌, ℕ, List, ◌∷◌, [], ◌++◌, map, take, None, ap, ap₂, arith, sym, subst, ◌∙◌}
use Rattle.std.proofs.lemmas.List.{map-append, map-id, map_more}
use Rattle.std.specs.Prelude.{All}
use Rattle.std.proofs.lemmas.List.Sums.{sum_by_push}
use Rattle.cst_core.specs.Element.{subtree}
use Rattle.cst_core.specs.Path.{Path}
use Rattle.cst_core.specs.GreenElement.{element_tree}
use Rattle.cst_core.specs.SyntaxElement.{element_of}
use Rattle.edit_change.specs.Rewriting.{rewritten, NumberedAim}
use Rattle.edit_change.specs.Change.{payload}
use Rattle.edit_change.specs.Effort.{touched, parents_of}
use Rattle.edit_change.specs.TouchedNodes.{touched_each, Raises}
use Rattle.edit_change.specs.inner.AimFrom.{aim_from}
use Rattle.edit_change.specs.inner.Aimed.{aims_of, numbered}
use Rattle.edit_change.specs.inner.KindOnly.{kind_only}
use Rattle.edit_change.proofs.Positions.{push-of-take}
use Rattle.edit_change.proofs.Independents.{take-whole}
use Rattle.one_pass.specs.inner.Built.{AreBuilt}
use Rattle.one_pass.specs.inner.GivenTables.{each_rewritten, AreMarkedEach}
use Rattle.one_pass.specs.inner.Marked.{marked, mark_below, marks_of}
use Rattle.one_pass.specs.inner.Marks.{element_sought}
use Rattle.one_pass.specs.inner.OwnerTables.{moved_dependent}
use Rattle.one_pass.specs.inner.Pass.{given_in, marks_there}
use Rattle.one_pass.specs.declared.marked_element.MarkedElement.{MarkedElement}
use Rattle.one_pass.proofs.Counting.{raises-none, raises-both, raises-weaker, raises-same, one-of}
use Rattle.one_pass.proofs.given_table.given_by.Goals as goal

pub loop-element-init : goal.loop-element-init
loop-element-init c = record {
  count = raises-none (All (λ x. AreBuilt (map moved_dependent c.args.dependents.now) (subtree x)) (map element_of c.payload-elements.result.now)) c.args.builds.now (omega arith);
  trees = ap (map (λ (e : MarkedElement). element_tree e.element)) c.in_ok-entry.ensures.items;
  marks = λ trees are. sym (ap (map (marks_there None)) c.in_ok-entry.ensures.items);
}

pub loop-element-preserved : goal.loop-element-preserved
loop-element-preserved c =
    let es = c.payload-elements.result.now in
    let i : ℕ = c.loop-element.element-index in
    let e = c.element-item.result in
    let index = c.args.registered.now in
    let cs = map moved_dependent c.args.dependents.now in
    let aims : aims_of c.deref-in-loop-element.result.now ≡ cs = ap aims_of c.deref-in-loop-element.ensures.value ∙ c.loop-it.invariant ∙ ap (map moved_dependent) (take-whole c.loop-it.it-index c.args.dependents.now c.loop-it-test.false) in
    let f = rewritten kind_only (given_in c.args.given.now) cs [] in
    let more = push-of-take i es e c.loop-element-test.true c.element-item.is in
    let elements : map element_of (take (i + 1) es) ≡ map element_of (take i es) ++ element_of e ∷ [] = ap (map element_of) more ∙ map-append element_of (take i es) (e ∷ []) in
    let P = All (λ x. AreBuilt cs (subtree x)) (map element_of es) in
    let done : ℕ = touched_each cs (map element_of (take i es)) in
    let own : ℕ = touched (subtree (element_of e)) (parents_of cs) in
    let sum : touched_each cs (map element_of (take (i + 1) es)) ≡ done + own = ap (touched_each cs) elements ∙ sum_by_push (λ x. touched (subtree x) (parents_of cs)) (map element_of (take i es)) (element_of e) in
    let tree = subtree (element_of e) in
    let raised = subst (λ (ds : List NumberedAim). Raises (AreBuilt ds tree) (touched tree (parents_of ds)) c.loop-element.builds c.rewritten_element.new.walk.builds) aims (subst (λ n. Raises (AreBuilt (aims_of c.deref-in-loop-element.result.now) tree) (touched tree (parents_of (aims_of c.deref-in-loop-element.result.now))) n c.rewritten_element.new.walk.builds) c.begin-walk.ensures.builds c.in_ok-green.ensures.count) in
    let made = c.in_ok-green.ensures.tree ∙ ap (λ (ds : List NumberedAim). rewritten kind_only (given_in c.args.given.now) ds [] tree) aims in
    let before = c.loop-element.entry.items in
    record {
      count = raises-same P (done + own) _ _ _ (sym sum) (raises-both P done own _ c.loop-element.builds _ c.loop-element.invariant.count (raises-weaker (AreBuilt cs (subtree (element_of e))) P own _ _ (one-of (λ x. AreBuilt cs (subtree x)) es i e c.loop-element-test.true c.element-item.is) raised));
      trees = ap (map (λ (x : MarkedElement). element_tree x.element)) c.in_ok-push-2.ensures.items ∙ map-append (λ (x : MarkedElement). element_tree x.element) before (_ ∷ []) ∙ ap₂ (λ ts t. ts ++ t ∷ []) c.loop-element.invariant.trees made ∙ sym (ap (λ xs. map f (map subtree xs)) elements ∙ ap (map f) (map-append subtree (map element_of (take i es)) (element_of e ∷ [])) ∙ map-append f (map subtree (map element_of (take i es))) (subtree (element_of e) ∷ []));
      marks = λ trees are.
          let g = element_sought index trees cs in
          let shown = marked (g (element_of e)) in
          let own = c.in_ok-green.ensures.marks trees are ∙ ap (λ (ds : List NumberedAim). marks_of c.begin-walk.result.found.items ++ map (mark_below c.begin-walk.result.path.items) (marked (element_sought index trees ds (element_of e)))) aims ∙ ap₂ (λ ms p. marks_of ms ++ map (mark_below p) shown) c.begin-walk.ensures.found c.begin-walk.ensures.path ∙ map-id shown in
          ap (λ xs. map marked (map g xs)) elements ∙ ap (map marked) (map-append g (map element_of (take i es)) (element_of e ∷ [])) ∙ map-append marked (map g (map element_of (take i es))) (g (element_of e) ∷ []) ∙ ap₂ (λ xs x. xs ++ x ∷ []) (c.loop-element.invariant.marks trees are) (sym own) ∙ sym (ap (map (marks_there None)) c.in_ok-push-2.ensures.items ∙ map-append (marks_there None) before (_ ∷ []));
    }

pub returns-clause-count : goal.returns-clause-count
returns-clause-count c =
    let es = c.payload-elements.result.now in
    let whole = ap (map element_of) (take-whole c.loop-element.element-index es c.loop-element-test.false) ∙ c.payload-elements.ensures in
    let cs = map moved_dependent c.args.dependents.now in
    subst (λ xs. Raises (All (λ x. AreBuilt cs (subtree x)) xs) (touched_each cs (payload c.args.change.now)) c.args.builds.now c.loop-element.builds) c.payload-elements.ensures (raises-same (All (λ x. AreBuilt cs (subtree x)) (map element_of es)) _ _ _ _ (ap (touched_each cs) whole) c.loop-element.invariant.count)

pub returns-clause-trees : goal.returns-clause-trees
returns-clause-trees c =
    let es = c.payload-elements.result.now in
    let whole = ap (map element_of) (take-whole c.loop-element.element-index es c.loop-element-test.false) ∙ c.payload-elements.ensures in
    c.loop-element.invariant.trees ∙ ap (each_rewritten c.args.given.now (map moved_dependent c.args.dependents.now)) whole

pub returns-clause-marks : goal.returns-clause-marks
returns-clause-marks c =
    let es = c.payload-elements.result.now in
    let whole = ap (map element_of) (take-whole c.loop-element.element-index es c.loop-element-test.false) ∙ c.payload-elements.ensures in
    subst (λ xs. AreMarkedEach c.args.given.now c.args.registered.now (map moved_dependent c.args.dependents.now) xs c.loop-element.entry.items) whole c.loop-element.invariant.marks

pub rewritten_element-requires : goal.rewritten_element-requires
rewritten_element-requires c = c.requires

pub loop-it-init : goal.loop-it-init
loop-it-init c = ap aims_of c.in_ok-aims.ensures.items

pub loop-it-preserved : goal.loop-it-preserved
loop-it-preserved c =
    let xs = c.args.dependents.now in
    let x = c.it-item.result in
    let from : Path → NumberedAim = λ p. (x.number, aim_from p x.change.now) in
    let own = c.numbered_aim_from.ensures ∙ ap from c.deref.ensures.value ∙ ap moved_dependent c.it-item.is in
    ap aims_of c.in_ok-push.ensures.items
    ∙ map-append numbered c.loop-it.aims.items (c.numbered_aim_from.result ∷ [])
    ∙ ap₂ (λ ns m. ns ++ m ∷ []) c.loop-it.invariant own
    ∙ sym (map_more moved_dependent xs c.loop-it.it-index x c.loop-it-test.true)
