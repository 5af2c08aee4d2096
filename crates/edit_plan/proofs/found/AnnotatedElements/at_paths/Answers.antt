use Rattle.std.proofs.Common.{◌≡◌, ◌++◌, List, map, length, All, Some, ap, sym, subst, ◌∙◌, rules, arith}
use Rattle.std.proofs.lemmas.Grind.{common_steps}
use Rattle.std.specs.List.{zip}
use Rattle.std.specs.List.Sorted.{IsNonDecreasing}
use Rattle.std.proofs.lemmas.List.{append-nil, nil_from_length}
use Rattle.std.proofs.lemmas.List.Sorted.{answers_always, IsNonDecreasingBy-from_sort_by_key}
use Rattle.cst_core.specs.Path.{Path}
use Rattle.cst_core.specs.Element.{IsElement, element_at}
use Rattle.cst_core.specs.SyntaxElement.{syntax_at}
use Rattle.edit_plan.specs.Plan.{found_for}
use Rattle.edit_plan.proofs.FoundElements.{stable-paths, all-lead, rising, lead-by, as-long}
use Rattle.edit_plan.proofs.found.AnnotatedElements.at_paths.Goals as goal

-- what the loop has made when nothing is left
whole : {X Y : Type 0} (f : X → Y) (before : List Y) (rest first ys : List X) → length rest ≡ 0 → first ≡ ys → before ++ map f rest ≡ map f first → before ≡ map f ys
whole f before rest first ys none is so_far =
    sym (append-nil before) ∙ ap (λ xs. before ++ map f xs) (sym (nil_from_length rest none)) ∙ so_far ∙ ap (map f) is

pub invariant_of-result : goal.invariant_of-result
invariant_of-result c =
    let ys = c.sort_by_key.new.self.items in
    let numbers = whole (λ n. n.0) _ c.loop-annotation.annotation-iterator.rest.items _ ys (sym c.loop-annotation.annotation-iterator.rest.ok.0 ∙ c.in-None.ensures.steps.0) c.into_iter-annotation-iterator.ensures.into_iter_gives.0 c.loop-annotation.invariant.annotations in
    let paths = whole (λ n. n.1.items) _ c.loop-annotation.annotation-iterator.rest.items _ ys (sym c.loop-annotation.annotation-iterator.rest.ok.0 ∙ c.in-None.ensures.steps.0) c.into_iter-annotation-iterator.ensures.into_iter_gives.0 c.loop-annotation.invariant.paths in
    let root = c.args.root.now in
    let leads : Path → Type 0 = λ p. IsElement (element_at root p) in
    let there = subst (All leads) (sym paths) (all-lead leads c.args.annotated.items ys c.sort_by_key.ensures.permutation c.requires) in
    record {
      rise = subst IsNonDecreasing (sym numbers) (rising (λ n. n.0) ys (IsNonDecreasingBy-from_sort_by_key (λ n. n.0) ys c.in_ok-sort_by_key.ensures.sorted (λ a r q k. search rules)));
      long = as-long root ys c.in_ok-elements.elements.items (c.in_ok-elements.ensures there ∙ ap (map (syntax_at root)) paths) ∙ sym (ap (λ ns. length ns) numbers);
    }

pub returns : goal.returns
returns c a =
    let root = c.args.root.now in
    let xs = c.args.annotated.items in
    let ys = c.sort_by_key.new.self.items in
    let es = c.in_ok-elements.elements.items in
    let numbers = whole (λ n. n.0) _ c.loop-annotation.annotation-iterator.rest.items _ ys (sym c.loop-annotation.annotation-iterator.rest.ok.0 ∙ c.in-None.ensures.steps.0) c.into_iter-annotation-iterator.ensures.into_iter_gives.0 c.loop-annotation.invariant.annotations in
    let paths = whole (λ n. n.1.items) _ c.loop-annotation.annotation-iterator.rest.items _ ys (sym c.loop-annotation.annotation-iterator.rest.ok.0 ∙ c.in-None.ensures.steps.0) c.into_iter-annotation-iterator.ensures.into_iter_gives.0 c.loop-annotation.invariant.paths in
    let leads : Path → Type 0 = λ p. IsElement (element_at root p) in
    let there = subst (All leads) (sym paths) (all-lead leads xs ys c.sort_by_key.ensures.permutation c.requires) in
    let stable = stable-paths xs ys c.sort_by_key.ensures.permutation (c.sort_by_key.ensures.stable (λ n. n.0) (answers_always _ _ _ (λ f x r f' k. search rules))) a in
    ap (λ ns. map (λ e. Some e) (found_for (zip ns es) a)) numbers ∙ lead-by root ys es (c.in_ok-elements.ensures there ∙ ap (map (syntax_at root)) paths) a ∙ ap (map (syntax_at root)) stable

pub loop-annotation-preserved : goal.loop-annotation-preserved
loop-annotation-preserved c = grind (arith, common_steps)
