-- The annotated paths of a plan.
--     followed-more                 one more registered element is followed
--     is_rewritten                  the annotated paths of a plan, from where its registered elements lead to
--     annotated-registered          each of these paths stands with an annotation that something is registered with
use Rattle.std.specs.Prelude.{◌≡◌, All, ℕ, ◌+◌, ◌<◌, Bool, true, nat_eq, List, [], ◌∷◌, ◌++◌, map, flat_map, take, length, IsSome, get_or, refl}
use Rattle.std.specs.List.{AllByRecursion, list_any}
use Rattle.std.proofs.Common.{ap, ap₂, sym, subst, ◌∙◌}
use Rattle.std.proofs.lemmas.Bool.{eq-eqb, or_left, or_right}
use Rattle.std.proofs.lemmas.List.{take_more, map-append}
use Rattle.std.proofs.lemmas.List.Elements.{All-get_or}
use mathlib.Core.List.{map-map}
use Rattle.cst_core.specs.Path.{Path}
use Rattle.cst_core.specs.Tree.{SyntaxTree, at}
use Rattle.cst_core.specs.Element.{Address, Element, NumbersTell, address}
use Rattle.cst_core.specs.SyntaxElement.{element_of}
use Rattle.cst_core.specs.declared.element.SyntaxElement.{SyntaxElement}
use Rattle.edit_map.specs.Mapping.{Mapping, followed, mapped_elements}
use Rattle.edit_change.specs.NewTree.{OriginTree}
use Rattle.edit_change.specs.Places.{ArePlaces}
use Rattle.edit_change.specs.Results.{annotated, copies_of}
use Rattle.edit_change.proofs.Lists.{all-append}
use Rattle.one_pass.specs.inner.Root.{TellsNewTree}
use Rattle.edit_plan.specs.Plan.{Plan, registered_elements}
use Rattle.edit_plan.specs.Engine.{IsRewritten}
use Rattle.edit_plan.specs.inner.Annotating.{numbered_paths, TellOf}
use Rattle.edit_plan.proofs.PathsOfResults.{numbered-lead}
use Rattle.edit_plan.proofs.NumbersOfRegistered.{all-told}

-- ---- where registered elements are followed to
abbrev Tells : Mapping → SyntaxElement × ℕ → Type 0
Tells m r = NumbersTell (element_of r.0 ∷ mapped_elements m)

abbrev pub leads_to : Mapping → SyntaxElement × ℕ → Element
leads_to m r = followed m (element_of r.0)

pub followed-more : (m : Mapping) (rs : List (SyntaxElement × ℕ)) (i : ℕ) (r : SyntaxElement × ℕ) (x : SyntaxElement) (xs ys : List SyntaxElement) → i < length rs → r ≡ get_or rs i r → ys ≡ xs ++ x ∷ [] → (Tells m r → element_of x ≡ leads_to m r) → (TellOf m rs → map element_of xs ≡ map (leads_to m) (take i rs)) → TellOf m rs → map element_of ys ≡ map (leads_to m) (take (i + 1) rs)
followed-more m rs i r x xs ys lt is more leads before all =
    let tells : Tells m r = subst (Tells m) (sym is) (All-get_or (Tells m) rs i r lt all) in
    ap (map element_of) more ∙ map-append element_of xs (x ∷ []) ∙ ap₂ (λ us e. us ++ e ∷ []) (before all) (leads tells ∙ ap (leads_to m) is) ∙ sym (ap (map (leads_to m)) (take_more rs i r lt) ∙ map-append (leads_to m) (take i rs) (get_or rs i r ∷ []))

-- ---- the annotated paths of a plan
numbered-each : {R : Type 0} (f : R → List Path) (number : R → ℕ) (rs : List R) → numbered_paths (map number rs) (map f rs) ≡ flat_map (λ r. map (λ p. (number r, p)) (f r)) rs
numbered-each f number [] = refl
numbered-each f number (r ∷ rs) = ap (λ ns. map (λ p. (number r, p)) (f r) ++ ns) (numbered-each f number rs)

module _ (p : Plan) (fs : List SyntaxElement) (made : OriginTree) (copies : List (List Path)) (ns : List (ℕ × Path)) where
  abbrev reached : List Address
  reached = map (λ e. address (element_of e)) fs

  abbrev numbers : List ℕ
  numbers = map (λ r. r.1) p.registrations

  numbered-are : copies ≡ map (λ e. copies_of made (address (element_of e))) fs → ns ≡ numbered_paths numbers copies → ns ≡ numbered_paths numbers (map (copies_of made) reached)
  numbered-are copies_are is = is ∙ ap (numbered_paths numbers) (copies_are ∙ sym (map-map (copies_of made) (λ e. address (element_of e)) fs))

  reached-are : map element_of fs ≡ map (leads_to p.mapping) p.registrations → reached ≡ map (λ r. address (followed p.mapping r.0)) (registered_elements p.registrations)
  reached-are followed_are = sym (map-map address element_of fs) ∙ ap (map address) followed_are ∙ map-map address (leads_to p.mapping) p.registrations ∙ sym (map-map (λ r. address (followed p.mapping r.0)) (λ r. (element_of r.0, r.1)) p.registrations)

  annotated-are : ns ≡ numbered_paths numbers (map (copies_of made) reached) → map element_of fs ≡ map (leads_to p.mapping) p.registrations → ns ≡ annotated p.mapping (registered_elements p.registrations) made
  annotated-are is followed_are =
      let rs = registered_elements p.registrations in
      is ∙ ap₂ (λ ms reached. numbered_paths ms (map (copies_of made) reached)) (sym (map-map (λ x. x.1) (λ x. (element_of x.0, x.1)) p.registrations)) (reached-are followed_are) ∙ ap (numbered_paths (map (λ x. x.1) rs)) (map-map (copies_of made) (λ x. address (followed p.mapping x.0)) rs) ∙ numbered-each (λ x. copies_of made (address (followed p.mapping x.0))) (λ x. x.1) rs

abbrev stands_in : List (SyntaxElement × ℕ) → ℕ → Bool
stands_in rs a = list_any (λ r. nat_eq r.1 a) rs

pub annotated-registered : {P : ℕ → Type 0} (m : Mapping) (made : OriginTree) (rs : List (SyntaxElement × ℕ)) → ((a : ℕ) → stands_in rs a ≡ true → P a) → AllByRecursion (λ (n : ℕ × Path). P n.0) (annotated m (registered_elements rs) made)
annotated-registered m made [] holds = tt
annotated-registered {P} m made (r ∷ rs) holds =
    let here : List Path = copies_of made (address (followed m (element_of r.0))) in
    all-append (λ n. P n.0) (map (λ p. (r.1, p)) here) (annotated m (registered_elements rs) made) (each here) (annotated-registered m made rs (λ a h. holds a (or_right (nat_eq r.1 a) (stands_in rs a) h)))
  where
    each : (qs : List Path) → AllByRecursion (λ (n : ℕ × Path). P n.0) (map (λ p. (r.1, p)) qs)
    each [] = tt
    each (q ∷ qs) = (holds r.1 (or_left (nat_eq r.1 r.1) (stands_in rs r.1) (eq-eqb r.1 r.1 refl)), each qs)

pub is_rewritten : (p : Plan) (fs : List SyntaxElement) (tree : SyntaxTree) (copies : List (List Path)) (paths : List Path) (ns : List (ℕ × Path)) (places : ℕ → Path) → ArePlaces p.mapping p.changes places → TellsNewTree p.root p.changes places fs tree copies paths → (TellOf p.mapping p.registrations → map element_of fs ≡ map (leads_to p.mapping) p.registrations) → ns ≡ numbered_paths (map (λ r. r.1) p.registrations) copies → IsRewritten p tree paths ns
is_rewritten p fs tree copies paths ns places are is_made followed_are is =
    let numbered = numbered-are p fs is_made.made copies ns is_made.copies_are is in
    record {
      made = is_made.made;
      would = record { places = places; are_places = are; is_new = is_made.is_new };
      tree_is = is_made.tree_is;
      changed_is = is_made.changed_is;
      leads = subst (All (λ n. IsSome (at tree n.1))) (sym numbered) (numbered-lead is_made.made tree (map (λ r. r.1) p.registrations) (map (λ e. address (element_of e)) fs) is_made.tree_is);
      annotated_is = λ tell. annotated-are p fs is_made.made copies ns numbered (followed_are (all-told p tell));
    }
