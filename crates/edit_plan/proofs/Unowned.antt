-- Lists of changes none of which is owned: each change gives its payload as it was.
use Rattle.std.specs.Prelude.{◌≡◌, ℕ, ◌+◌, Bool, true, false, cond, not, ◌&&◌, List, [], ◌∷◌, map, filter, flat_map, None, is_none, ◌++◌, refl}
use Rattle.std.specs.List.{AllByRecursion, enumerate_from}
use Rattle.std.proofs.Common.{ap, ap₂, sym, ◌∙◌}
use Rattle.std.proofs.lemmas.List.{append-nil}
use Rattle.std.proofs.lemmas.Option.{none-some}
use Rattle.cst_core.specs.Tree.{text}
use Rattle.cst_core.specs.Element.{Element, address, subtree}
use Rattle.cst_core.specs.Path.{Path}
use Rattle.edit_change.specs.Nesting.{is_dropped, owner, is_independent, undropped}
use Rattle.edit_change.specs.NewTree.{OriginTree, origin, plain, change_aims, independents, payload_of, given, new_tree}
use Rattle.edit_change.specs.RewritingLaws.{brought_text, text_filled}
use Rattle.edit_change.specs.declared.change.Change.{Change}
use Rattle.edit_change.proofs.Lists.{all_at}
use Rattle.edit_change.proofs.GivenTrees.{owns_nothing, plain-given}
use Rattle.edit_plan.proofs.Filled.{flat_map-text, text-relabelled, text-rewritten_whole}

-- the independent ones are those that are not dropped
kept_alike : (changes : List Change) (k : ℕ) (cs : List Change) → AllByRecursion (λ c. owner changes c ≡ None) cs → filter (λ d. is_independent changes d.1) (enumerate_from k cs) ≡ filter (λ d. not (is_dropped changes d.1)) (enumerate_from k cs)
kept_alike changes k [] a = refl
kept_alike changes k (c ∷ cs) a =
    let same : is_independent changes c ≡ not (is_dropped changes c) = ap (λ o. not (is_dropped changes c) && is_none o) a.0 ∙ and_true (not (is_dropped changes c)) in
    ap₂ (λ b ds. cond b ((k, c) ∷ ds) ds) same (kept_alike changes (k + 1) cs a.1)
  where
    and_true : (b : Bool) → (b && true) ≡ b
    and_true true = refl
    and_true false = refl

text-plain : (ts : List OriginTree) → flat_map text ts ≡ flat_map text (map plain ts)
text-plain [] = refl
text-plain (t ∷ ts) = ap₂ (λ x y. x ++ y) (sym (text-relabelled (λ o. o.kind) t)) (text-plain ts)

pub text-unowned : (changes : List Change) (places : ℕ → Path) (root : Element) → AllByRecursion (λ c. owner changes c ≡ None) changes → flat_map text (new_tree changes places root) ≡ text_filled (brought_text changes) (change_aims (undropped changes)) (subtree root)
text-unowned changes places root none =
    let gives : (c : ℕ) → map plain (given changes places c) ≡ map subtree (payload_of changes c) = λ c. plain-given changes places c (owns_nothing changes places c (λ i d is by. none-some c (sym (all_at (λ d. owner changes d ≡ None) changes i d none is) ∙ by))) in
    let brings : (c : ℕ) → flat_map text (given changes places c) ≡ brought_text changes c = λ c. text-plain (given changes places c) ∙ ap (flat_map text) (gives c) ∙ flat_map-text (map subtree (payload_of changes c)) in
    text-rewritten_whole (origin (address root) None) (given changes places) (brought_text changes) brings (independents changes) (subtree root) ∙ ap (λ ds. text_filled (brought_text changes) (change_aims ds) (subtree root)) (kept_alike changes 0 changes none)

-- the text of a tree that is made, without its origins
pub text_of_made : (made : OriginTree) (ts : List OriginTree) → ts ≡ made ∷ [] → text (plain made) ≡ flat_map text ts
text_of_made made ts is = text-relabelled (λ o. o.kind) made ∙ sym (append-nil (text made)) ∙ ap (flat_map text) (sym is)
