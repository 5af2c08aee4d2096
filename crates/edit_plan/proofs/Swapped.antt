-- Two neighbours that aim apart, swapped: all answers stay.
--     moves                         what becomes of a change's number
--     owner-new, independent-new, has_owner-new      owners and dropped changes of the swapped list
--     selected                      the aims of the changes that pass
--     rewritten-new                 the selected aims of the swapped list rewrite as those of the other one do
--     renamed                       an origin with its change's number moved
--     given-new, new_tree-new       what changes give, and the new tree
--     makes-swapped                 what a plan makes stays
use Rattle.std.specs.Prelude.{◌≡◌, ℕ, ◌+◌, Bool, true, false, cond, not, ◌&&◌, ◌||◌, nat_eq, List, [], ◌∷◌, ◌++◌, length, map, filter, flat_map, filter_map, slice_get, unwrap_or, Some, None, option_map, is_none, IfSome, refl}
use Rattle.std.specs.List.{AllByRecursion, list_any, enumerate_from}
use Rattle.std.specs.Option.{option_map_or}
use Rattle.std.proofs.Common.{ap, ap₂, sym, subst, ◌∙◌}
use Rattle.std.proofs.lemmas.Bool.{and_parts, false≢true}
use Rattle.std.proofs.lemmas.List.Elements.{recursion_from_All, All-from_recursion}
use mathlib.Core.List.{map-map}
use mathlib.Core.Path.{fun_ext}
use Rattle.cst_core.specs.Path.{Path, has_path, last_item, first_item}
use Rattle.cst_core.specs.Tree.{SyntaxTree, Tree, relabelled}
use Rattle.cst_core.specs.Element.{Address, Element, address, same_address, subtree}
use Rattle.edit_map.specs.Mapping.{Mapping, followed}
use Rattle.edit_change.specs.Change.{payload, targets, shared_targets}
use Rattle.edit_change.specs.Aim.{Aim, aims_at_gap, same_gap, starts_at, replaces}
use Rattle.edit_change.specs.ChangeAim.{aim}
use Rattle.edit_change.specs.Nesting.{region, is_keeping, surroundings, is_around, is_dropped, region_at, owner, is_independent, has_owner}
use Rattle.edit_change.specs.Rewriting.{NumberedAim, numbers, inserts_at, replacements_at, is_replaced, gap_order, gap, rewritten, rewritten_whole}
use Rattle.edit_change.specs.NewTree.{Origin, OriginTree, plain, origin, moved_aim, targets_of, payload_of, is_free, independents, dependents, given, Gives, new_tree}
use Rattle.edit_change.specs.Results.{is_brought, changed, copies_of, annotated}
use Rattle.edit_change.specs.Topmost.{topmost}
use Rattle.edit_change.specs.Places.{HasPlace, FindsPlace, ArePlaces}
use Rattle.edit_plan.specs.Plan.{Plan, Edit, Makes, registered_elements, with_changes}
use Rattle.edit_plan.proofs.HeldSwapped.{told-swapped}
use Rattle.cst_core.specs.SyntaxElement.{syntax_at}
use Rattle.edit_change.specs.declared.change.Change.{Change}
use Rattle.edit_change.proofs.Lists.{all_weaker}
use Rattle.edit_change.proofs.GapRule.{gap_order-map}
use Rattle.edit_change.proofs.RewrittenAlike.{rewritten-same}
use Rattle.edit_change.proofs.Edits.{taken, filled, slot-filled}
use Rattle.edit_change.proofs.GivenTrees.{given_is, given_unique}
use Rattle.edit_plan.proofs.Exchanged.{exchanged, exchanged-twice, nat_eq-exchanged, last_item-map, filter_map-option_map, slice_get-exchanged, any-exchanged, position-exchanged, kept-exchanged}
use Rattle.edit_change.proofs.Relabelled.{relabelled-rewritten, map-rewritten_whole, paths-relabelled, holds-relabelled, relabelled-twice, topmost-relabelled}
use Rattle.edit_change.proofs.AimsApart.{same_gap_from, start_of, starts, shared_from_start, shared_from_region, moved-same_gap, moved-start_of, owned_below}

-- ---- the aims of the changes that pass
abbrev selected : (Change → Bool) → (Change → Aim) → List (ℕ × Change) → List NumberedAim
selected passes h ds = map (λ d. (d.0, h d.1)) (filter (λ d. passes d.1) ds)

numbers-selected : (passes : Change → Bool) (h : Change → Aim) (test : Aim → Bool) (ds : List (ℕ × Change)) → numbers (filter (λ c. test c.1) (selected passes h ds)) ≡ map (λ d. d.0) (filter (λ d. passes d.1 && test (h d.1)) ds)
numbers-selected passes h test [] = refl
numbers-selected passes h test (d ∷ ds) =
    let rest = numbers-selected passes h test ds in
    elim (passes d.1) as (λ b. numbers (filter (λ c. test c.1) (map (λ d. (d.0, h d.1)) (cond b (d ∷ filter (λ d. passes d.1) ds) (filter (λ d. passes d.1) ds)))) ≡ map (λ d. d.0) (cond (b && test (h d.1)) (d ∷ filter (λ d. passes d.1 && test (h d.1)) ds) (filter (λ d. passes d.1 && test (h d.1)) ds))) [
      | true ↦ elim (test (h d.1)) as (λ b. numbers (cond b ((d.0, h d.1) ∷ filter (λ c. test c.1) (selected passes h ds)) (filter (λ c. test c.1) (selected passes h ds))) ≡ map (λ d. d.0) (cond b (d ∷ filter (λ d. passes d.1 && test (h d.1)) ds) (filter (λ d. passes d.1 && test (h d.1)) ds))) [
        | true ↦ ap (λ ns. d.0 ∷ ns) rest
        | false ↦ rest
      ]
      | false ↦ rest
    ]

any-selected : (passes : Change → Bool) (h : Change → Aim) (test : Aim → Bool) (i : ℕ) (cs : List Change) → list_any {X = NumberedAim} (λ c. test c.1) (selected passes h (enumerate_from i cs)) ≡ list_any (λ c. passes c && test (h c)) cs
any-selected passes h test i [] = refl
any-selected passes h test i (c ∷ cs) =
    elim (passes c) as (λ b. list_any {X = NumberedAim} (λ d. test d.1) (map (λ d. (d.0, h d.1)) (cond b ((i, c) ∷ filter (λ d. passes d.1) (enumerate_from (i + 1) cs)) (filter (λ d. passes d.1) (enumerate_from (i + 1) cs)))) ≡ ((b && test (h c)) || list_any (λ c. passes c && test (h c)) cs)) [
      | true ↦ ap (λ b. test (h c) || b) (any-selected passes h test (i + 1) cs)
      | false ↦ any-selected passes h test (i + 1) cs
    ]

module _ (before : List Change) (c d : Change) (after : List Change) (gaps : same_gap (aim c) (aim d) ≡ false) (targets_apart : shared_targets c d ≡ false) where
  abbrev old : List Change
  old = before ++ c ∷ d ∷ after

  abbrev new : List Change
  new = before ++ d ∷ c ∷ after

  abbrev moves : ℕ → ℕ
  moves n = exchanged (length before) n

  moves-twice : (n : ℕ) → moves (moves n) ≡ n
  moves-twice n = exchanged-twice (length before) n

  get-new : (n : ℕ) → slice_get new n ≡ slice_get old (moves n)
  get-new n = ap (slice_get new) (sym (moves-twice n)) ∙ slice_get-exchanged c d after before (moves n)

  -- ---- nesting
  dropped-new : (x : Change) → is_dropped new x ≡ is_dropped old x
  dropped-new x = any-exchanged c d after (λ r. not (is_keeping r) && is_around r x) before

  region_at-new : (p : Path) → region_at new p ≡ option_map moves (region_at old p)
  region_at-new p = position-exchanged c d after (λ r. has_path (region r) p) (λ h k. false≢true (sym targets_apart ∙ shared_from_region c d p h k)) before

  owner-new : (x : Change) → owner new x ≡ option_map moves (owner old x)
  owner-new x =
      ap₂ (λ b ns. cond b None (last_item ns)) (dropped-new x) (filter_map-option_map moves (region_at old) (region_at new) region_at-new (surroundings x)) ∙ ap (cond (is_dropped old x) None) (last_item-map moves (filter_map (region_at old) (surroundings x))) ∙ elim (is_dropped old x) as (λ b. cond b None (option_map moves (last_item (filter_map (region_at old) (surroundings x)))) ≡ option_map moves (cond b None (last_item (filter_map (region_at old) (surroundings x))))) [
        | true ↦ refl
        | false ↦ refl
      ]

  independent-new : (x : Change) → is_independent new x ≡ is_independent old x
  independent-new x =
      ap₂ (λ b o. not b && is_none o) (dropped-new x) (owner-new x) ∙ elim (owner old x) as (λ o. (not (is_dropped old x) && is_none (option_map moves o)) ≡ (not (is_dropped old x) && is_none o)) [ None ↦ refl | Some n ↦ refl ]

  has_owner-new : (n : ℕ) (x : Change) → has_owner new n x ≡ has_owner old (moves n) x
  has_owner-new n x =
      ap (λ o. option_map_or (nat_eq n) o false) (owner-new x) ∙ elim (owner old x) as (λ o. option_map_or (nat_eq n) (option_map moves o) false ≡ option_map_or (nat_eq (moves n)) o false) [ None ↦ refl | Some m ↦ nat_eq-exchanged (length before) n m ]

  free-new : (n : ℕ) → is_free new n ≡ is_free old (moves n)
  free-new n = ap₂ (λ f o. option_map_or f o false) (fun_ext independent-new) (get-new n)

  -- ---- selections
  module _ (passes : Change → Bool) (h : Change → Aim) (gap_apart : (p : Path) (i : ℕ) → passes c ≡ true → passes d ≡ true → aims_at_gap p i (h c) ≡ true → aims_at_gap p i (h d) ≡ true → ⊥) (start_apart : (p : Path) → passes c ≡ true → passes d ≡ true → starts_at p (h c) ≡ true → starts_at p (h d) ≡ true → ⊥) where
    abbrev aims_old : List NumberedAim
    aims_old = selected passes h (enumerate_from 0 old)

    abbrev aims_new : List NumberedAim
    aims_new = selected passes h (enumerate_from 0 new)

    numbers-new : (test : Aim → Bool) → (passes c ≡ true → passes d ≡ true → test (h c) ≡ true → test (h d) ≡ true → ⊥) → numbers (filter (λ e. test e.1) aims_new) ≡ map moves (numbers (filter (λ e. test e.1) aims_old))
    numbers-new test apart =
        numbers-selected passes h test (enumerate_from 0 new) ∙ kept-exchanged c d after (λ x. passes x && test (h x)) (λ k l. apart (and_parts _ _ k).0 (and_parts _ _ l).0 (and_parts (passes c) _ k).1 (and_parts (passes d) _ l).1) before ∙ ap (map moves) (sym (numbers-selected passes h test (enumerate_from 0 old)))

    replaced-new : (p : Path) → is_replaced aims_new p ≡ is_replaced aims_old p
    replaced-new p =
        any-selected passes h (replaces p) 0 new ∙ any-exchanged c d after (λ x. passes x && replaces p (h x)) before ∙ sym (any-selected passes h (replaces p) 0 old)

    flat_map-new : {L : Type 0} (g : ℕ → List (Tree L)) (ns : List ℕ) → flat_map g ns ≡ flat_map (λ n. g (moves n)) (map moves ns)
    flat_map-new g [] = refl
    flat_map-new g (n ∷ ns) = ap₂ (λ x y. x ++ y) (ap g (sym (moves-twice n))) (flat_map-new g ns)

    module _ {L : Type 0} (l : Path → ℕ → L) (g : ℕ → List (Tree L)) where
      gap-new : (p : Path) (i : ℕ) → gap l g aims_old p i ≡ gap l (λ n. g (moves n)) aims_new p i
      gap-new p i =
          flat_map-new g (gap_order (inserts_at aims_old p i)) ∙ ap (flat_map (λ n. g (moves n))) (sym (gap_order-map moves (inserts_at aims_old p i)) ∙ ap gap_order (sym (numbers-new (aims_at_gap p i) (gap_apart p i))))

      taken-new : (p : Path) → taken g aims_old p ≡ taken (λ n. g (moves n)) aims_new p
      taken-new p =
          ap₂ (λ b ts. cond b (Some ts) None) (sym (replaced-new p)) (flat_map-new g (replacements_at aims_old p) ∙ ap (flat_map (λ n. g (moves n))) (sym (numbers-new (starts_at p) (start_apart p))))

      rewritten-new : (t : SyntaxTree) → rewritten l g aims_old [] t ≡ rewritten l (λ n. g (moves n)) aims_new [] t
      rewritten-new t =
          rewritten-same l l g (λ n. g (moves n)) aims_old aims_new [] (λ j. record { label_at = l; gap = λ p i. gap-new p i j; slot = λ p i. taken-new (p ++ i ∷ []) j }) t

      whole-new : (t : SyntaxTree) → rewritten_whole l g aims_old t ≡ rewritten_whole l (λ n. g (moves n)) aims_new t
      whole-new t =
          slot-filled l g aims_old [] (rewritten l g aims_old [] t) ∙ ap₂ filled (taken-new []) (rewritten-new t) ∙ sym (slot-filled l (λ n. g (moves n)) aims_new [] (rewritten l (λ n. g (moves n)) aims_new [] t))

  -- ---- what is selected aims apart
  no_gap : (p : Path) (i : ℕ) → is_independent old c ≡ true → is_independent old d ≡ true → aims_at_gap p i (aim c) ≡ true → aims_at_gap p i (aim d) ≡ true → ⊥
  no_gap p i _ _ h k = false≢true (sym gaps ∙ same_gap_from (aim c) (aim d) p i h k)

  no_start : (p : Path) → is_independent old c ≡ true → is_independent old d ≡ true → starts_at p (aim c) ≡ true → starts_at p (aim d) ≡ true → ⊥
  no_start p _ _ h k = false≢true (sym targets_apart ∙ shared_from_start c d p (starts (aim c) p h) (starts (aim d) p k))

  module _ (o : ℕ) (place : Path) where
    abbrev target : Path
    target = unwrap_or (first_item (targets_of old o)) []

    abbrev move : Change → Aim
    move x = moved_aim target place (aim x)

    no_moved_gap : (p : Path) (i : ℕ) → has_owner old o c ≡ true → has_owner old o d ≡ true → aims_at_gap p i (move c) ≡ true → aims_at_gap p i (move d) ≡ true → ⊥
    no_moved_gap p i a b h k =
        false≢true (sym gaps ∙ moved-same_gap target place (aim c) (aim d) (owned_below old o c a) (owned_below old o d b) (same_gap_from (move c) (move d) p i h k))

    no_moved_start : (p : Path) → has_owner old o c ≡ true → has_owner old o d ≡ true → starts_at p (move c) ≡ true → starts_at p (move d) ≡ true → ⊥
    no_moved_start p a b h k =
        let found : (x : Path) × (start_of (aim c) ≡ Some x) × (start_of (aim d) ≡ Some x) = moved-start_of target place (aim c) (aim d) p (owned_below old o c a) (owned_below old o d b) (starts (move c) p h) (starts (move d) p k) in
        false≢true (sym targets_apart ∙ shared_from_start c d found.0 found.1 found.2)

  -- ---- what changes give
  abbrev renamed : Origin → Origin
  renamed o = record o { change = option_map moves o.change }

  module _ (places : ℕ → Path) where
    abbrev new_places : ℕ → Path
    new_places n = places (moves n)

    abbrev gives_renamed : ℕ → List OriginTree
    gives_renamed n = map (relabelled renamed) (given old places (moves n))

    dependents-new : (n : ℕ) → dependents new new_places n ≡ selected (has_owner old (moves n)) (move (moves n) (places (moves n))) (enumerate_from 0 new)
    dependents-new n =
        ap₂ (λ s ps. selected s (λ x. moved_aim (unwrap_or (first_item ps) []) (places (moves n)) (aim x)) (enumerate_from 0 new)) (fun_ext (has_owner-new n)) (ap (λ s. option_map_or targets s []) (get-new n))

    element-new : (n : ℕ) (e : Element) → relabelled renamed (rewritten (origin (address e) (Some (moves n))) (given old places) (dependents old places (moves n)) [] (subtree e)) ≡ rewritten (origin (address e) (Some n)) gives_renamed (dependents new new_places n) [] (subtree e)
    element-new n e =
        relabelled-rewritten renamed (origin (address e) (Some (moves n))) (given old places) (dependents old places (moves n)) [] (subtree e)
        ∙ rewritten-new (has_owner old (moves n)) (move (moves n) (places (moves n))) (no_moved_gap (moves n) (places (moves n))) (no_moved_start (moves n) (places (moves n))) (λ p k. renamed (origin (address e) (Some (moves n)) p k)) (λ m. map (relabelled renamed) (given old places m)) (subtree e)
        ∙ ap₂ (λ m cs. rewritten (origin (address e) (Some m)) gives_renamed cs [] (subtree e)) (moves-twice n) (sym (dependents-new n))

    gives-renamed : Gives new new_places gives_renamed
    gives-renamed n =
        ap (map (relabelled renamed)) (given_is old places (moves n))
        ∙ map-map (relabelled renamed) (λ e. rewritten (origin (address e) (Some (moves n))) (given old places) (dependents old places (moves n)) [] (subtree e)) (payload_of old (moves n))
        ∙ ap₂ map (fun_ext (element-new n)) (ap (λ s. option_map_or payload s []) (sym (get-new n)))

    given-new : (n : ℕ) → given new new_places n ≡ gives_renamed n
    given-new n = sym (given_unique new new_places gives_renamed gives-renamed n)

    -- ---- the new tree
    independents-new : independents new ≡ selected (is_independent old) aim (enumerate_from 0 new)
    independents-new = ap (λ s. selected s aim (enumerate_from 0 new)) (fun_ext independent-new)

    new_tree-new : (root : Element) → new_tree new new_places root ≡ map (relabelled renamed) (new_tree old places root)
    new_tree-new root =
        ap₂ (λ g cs. rewritten_whole (origin (address root) None) g cs (subtree root)) (fun_ext given-new) independents-new
        ∙ sym (map-rewritten_whole renamed (origin (address root) None) (given old places) (independents old) (subtree root)
        ∙ whole-new (is_independent old) aim no_gap no_start (origin (address root) None) (λ m. map (relabelled renamed) (given old places m)) (subtree root))

  -- ---- what is told of the new tree
  brought-new : (o : Origin) → is_brought (is_free new) (renamed o) ≡ is_brought (is_free old) o
  brought-new o =
      elim o.change as (λ n. option_map_or (is_free new) (option_map moves n) false ≡ option_map_or (is_free old) n false) [
        | None ↦ refl
        | Some n ↦ free-new (moves n) ∙ ap (is_free old) (moves-twice n)
      ]

  changed-new : (t : OriginTree) → changed (is_free new) (relabelled renamed t) ≡ changed (is_free old) t
  changed-new t = topmost-relabelled renamed (is_brought (is_free new)) t ∙ ap (λ test. topmost test t) (fun_ext brought-new)

  copies-new : (t : OriginTree) (a : Address) → copies_of (relabelled renamed t) a ≡ copies_of t a
  copies-new t a =
      ap₂ filter (fun_ext (λ p. holds-relabelled renamed t p (λ o. same_address a o.address))) (paths-relabelled renamed t)

  annotated-new : (m : Mapping) (registrations : List (Element × ℕ)) (t : OriginTree) → annotated m registrations (relabelled renamed t) ≡ annotated m registrations t
  annotated-new m registrations t =
      ap (λ f. flat_map f registrations) (fun_ext (λ (r : Element × ℕ). ap (map (λ p. (r.1, p))) (copies-new t (address (followed m r.0)))))

  plain-new : (t : OriginTree) → plain (relabelled renamed t) ≡ plain t
  plain-new t = relabelled-twice renamed (λ o. o.kind) t

  -- ---- places
  module _ (m : Mapping) (places : ℕ → Path) where
    finds-new : (x : Change) → FindsPlace m old places x → FindsPlace m new (λ n. places (moves n)) x
    finds-new x h =
        subst (λ o. IfSome o (λ e. IfSome (slice_get new e) (λ r. HasPlace m r x (places (moves e))))) (sym (owner-new x)) ((elim (owner old x) as (λ o. IfSome o (λ e. IfSome (slice_get old e) (λ r. HasPlace m r x (places e))) → IfSome (option_map moves o) (λ e. IfSome (slice_get new e) (λ r. HasPlace m r x (places (moves e))))) [
          | None ↦ λ k. k
          | Some e ↦ λ k. subst (λ n. IfSome (slice_get new (moves e)) (λ r. HasPlace m r x (places n))) (sym (moves-twice e)) (subst (λ o. IfSome o (λ r. HasPlace m r x (places e))) (sym (get-new (moves e) ∙ ap (slice_get old) (moves-twice e))) k)
        ]) h)

    places-new : ArePlaces m old places → ArePlaces m new (λ n. places (moves n))
    places-new are =
        All-from_recursion (FindsPlace m new (λ n. places (moves n))) new (all_exchanged (FindsPlace m new (λ n. places (moves n))) before (all_weaker (FindsPlace m old places) (FindsPlace m new (λ n. places (moves n))) old finds-new (recursion_from_All (FindsPlace m old places) old are)))
      where
        all_exchanged : (P : Change → Type 0) (xs : List Change) → AllByRecursion P (xs ++ c ∷ d ∷ after) → AllByRecursion P (xs ++ d ∷ c ∷ after)
        all_exchanged P [] a = (a.1.0, (a.0, a.1.1))
        all_exchanged P (x ∷ xs) a = (a.0, all_exchanged P xs a.1)

  -- THE SWAP
  pub makes-swapped : (p : Plan) (number : ℕ) (e : Edit) → Makes (with_changes p old) number e → Makes (with_changes p new) number e
  makes-swapped p number e r = record {
    made = relabelled renamed r.made;
    would = record {
      places = λ n. r.would.places (moves n);
      are_places = places-new p.mapping r.would.places r.would.are_places;
      is_new = new_tree-new r.would.places p.root ∙ ap (map (relabelled renamed)) r.would.is_new;
    };
    old_is = r.old_is;
    number_is = r.number_is;
    is_root = r.is_root;
    tree_is = r.tree_is ∙ sym (plain-new r.made);
    changed_are = r.changed_are ∙ ap (map (syntax_at e.new_root)) (sym (changed-new r.made));
    annotated_paths = r.annotated_paths;
    annotated_are = r.annotated_are;
    unregistered = λ tell. r.unregistered (told-swapped p.root before c d after (registered_elements p.registrations) p.mapping tell);
    annotated_is = λ tell. r.annotated_is (told-swapped p.root before c d after (registered_elements p.registrations) p.mapping tell) ∙ sym (annotated-new p.mapping (registered_elements p.registrations) r.made);
  }
