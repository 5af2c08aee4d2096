-- Two tables of places of one plan make one tree.
--     new_tree-agree                where two tables agree on owners, they make one tree
--     pieces-agree                  they make one list of text edits
--     one-made, one-root, one-changed, one-annotated      what a plan makes, told of two edits of it
use Rattle.std.specs.Prelude.{◌≡◌, ℕ, List, [], ◌∷◌, map, flat_map, filter, slice_get, unwrap_or, Some, None, refl}
use Rattle.std.specs.List.{AllByRecursion, enumerate_from}
use Rattle.std.proofs.Common.{ap, ap₂, sym, ◌∙◌}
use Rattle.std.proofs.lemmas.Option.{same_Some}
use mathlib.Core.Path.{fun_ext}
use Rattle.cst_core.specs.Path.{Path, first_item}
use Rattle.cst_core.specs.Element.{Element, NumbersTell, address, subtree}
use Rattle.cst_core.specs.SyntaxElement.{syntax_at}
use Rattle.edit_map.specs.Mapping.{IsRising}
use Rattle.edit_change.specs.Rewriting.{rewritten_whole}
use Rattle.edit_change.specs.ChangeAim.{aim}
use Rattle.edit_change.specs.Nesting.{owner, has_owner}
use Rattle.edit_change.specs.declared.change.Change.{Change}
use Rattle.edit_change.proofs.Lists.{all_filter, all_weaker, all_enumerated}
use Rattle.edit_change.proofs.Owners.{owner_from}
use Rattle.edit_change.specs.NewTree.{OriginTree, plain, is_free, origin, moved_aim, targets_of, payload_rewritten, independents, dependents, given, new_tree}
use Rattle.edit_plan.specs.Plan.{found_for, Plan, Edit, Makes, WouldMake, registered_elements}
use Rattle.edit_change.specs.Places.{elements_held}
use Rattle.std.specs.Option.{option_map_or}
use Rattle.cst_core.specs.Tree.{text}
use Rattle.one_pass.specs.TextEdits.{in_text_order, altering_pieces, text_pieces}
use Rattle.edit_change.specs.Results.{changed, annotated, paths_with}
use Rattle.edit_plan.proofs.StagesOfRuns.{PlaceIsUnique, places-agree}
use Rattle.edit_change.proofs.GivenTrees.{given_is, given_unique}

map-agree : {X Y : Type 0} (f g : X → Y) (xs : List X) → AllByRecursion (λ x. f x ≡ g x) xs → map f xs ≡ map g xs
map-agree f g [] all = refl
map-agree f g (x ∷ xs) all = ap₂ (λ y ys. y ∷ ys) all.0 (map-agree f g xs all.1)

pub same-items : {X : Type 0} (xs ys : List X) → map (λ x. Some x) xs ≡ map (λ x. Some x) ys → xs ≡ ys
same-items [] [] is = refl
same-items [] (y ∷ ys) is = absurd (cc)
same-items (x ∷ xs) [] is = absurd (cc)
same-items (x ∷ xs) (y ∷ ys) is =
    let here : x ≡ y = cc in
    let rest : map (λ z. Some z) xs ≡ map (λ z. Some z) ys = cc in
    ap₂ (λ z zs. z ∷ zs) here (same-items xs ys rest)

-- ---- tables that agree
module _ (cs : List Change) (a b : ℕ → Path) (agree : (n o : ℕ) (c : Change) → slice_get cs n ≡ Some c → owner cs c ≡ Some o → a o ≡ b o) where
  dependents-agree : (n : ℕ) → dependents cs a n ≡ dependents cs b n
  dependents-agree n =
      let target = unwrap_or (first_item (targets_of cs n)) [] in
      let owned = filter (λ d. has_owner cs n d.1) (enumerate_from 0 cs) in
      map-agree (λ d. (d.0, moved_aim target (a n) (aim d.1))) (λ d. (d.0, moved_aim target (b n) (aim d.1))) owned (all_weaker _ (λ d. (d.0, moved_aim target (a n) (aim d.1)) ≡ (d.0, moved_aim target (b n) (aim d.1))) owned (λ d both. ap (λ p. (d.0, moved_aim target p (aim d.1))) (agree d.0 n d.1 both.0 (owner_from cs n d.1 both.1))) (all_filter (λ d. slice_get cs d.0 ≡ Some d.1) (λ d. has_owner cs n d.1) (enumerate_from 0 cs) (all_enumerated cs)))

  given-agree : (n : ℕ) → given cs a n ≡ given cs b n
  given-agree n =
      given_unique cs b (given cs a) (λ c. given_is cs a c ∙ ap (λ ds. payload_rewritten cs (given cs a) ds c) (dependents-agree c)) n

  pub new_tree-agree : (root : Element) → new_tree cs a root ≡ new_tree cs b root
  new_tree-agree root = ap (λ g. rewritten_whole (origin (address root) None) g (independents cs) (subtree root)) (fun_ext given-agree)

  pub pieces-agree : (root : Element) → text_pieces root cs a ≡ text_pieces root cs b
  pieces-agree root = ap (λ (g : ℕ → List OriginTree). flat_map (λ n. option_map_or (altering_pieces root (flat_map text (g n))) (slice_get cs n) []) (in_text_order root cs)) (fun_ext given-agree)

-- ---- two edits of one plan
module _ (unique : PlaceIsUnique) (p : Plan) (rises : IsRising p.mapping) where
  pub one-made : (x y : OriginTree) → WouldMake p x → WouldMake p y → x ≡ y
  one-made x y of_x of_y =
      same_Some x y (ap first_item (sym of_x.is_new ∙ new_tree-agree p.changes of_x.places of_y.places (λ n o c at its. places-agree unique p.mapping p.changes rises of_x.places of_y.places of_x.are_places of_y.are_places n o c at its) p.root ∙ of_y.is_new))

  module _ (number : ℕ) (e f : Edit) (of_e : Makes p number e) (of_f : Makes p number f) where
    one : of_e.made ≡ of_f.made
    one = one-made of_e.made of_f.made of_e.would of_f.would

    pub one-root : e.new_root ≡ f.new_root
    one-root = λ j. record {
      number = (of_e.number_is ∙ sym of_f.number_is) j;
      root = (of_e.tree_is ∙ ap plain one ∙ sym of_f.tree_is) j;
      path = (of_e.is_root ∙ sym of_f.is_root) j;
    }

    pub one-changed : e.changed ≡ f.changed
    one-changed =
        same-items e.changed f.changed (of_e.changed_are ∙ ap₂ (λ root t. map (syntax_at root) (changed (is_free p.changes) t)) one-root one ∙ sym of_f.changed_are)

    pub one-annotated : NumbersTell (elements_held p.root p.changes (registered_elements p.registrations) p.mapping) → (a : ℕ) → found_for e.annotated a ≡ found_for f.annotated a
    one-annotated tell a =
        let same : of_e.annotated_paths ≡ of_f.annotated_paths = of_e.annotated_is tell ∙ ap (annotated p.mapping (registered_elements p.registrations)) one ∙ sym (of_f.annotated_is tell) in
        same-items (found_for e.annotated a) (found_for f.annotated a) (of_e.annotated_are a ∙ ap₂ (λ root ns. map (syntax_at root) (paths_with a ns)) one-root same ∙ sym (of_f.annotated_are a))
