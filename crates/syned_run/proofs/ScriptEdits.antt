-- The edit that a plan makes, as a function, where its places are given.
--     the_one              the first of some trees
--     found_at             the elements at some paths
--     found_with           the elements at some paths, with their annotations
--     found_paths          the paths of annotated elements
--     edit_of              the edit
--     is_plan, can_make    tests of a plan, and of what it makes
--     plans, makes         where they hold, it is one, and makes it
use Rattle.std.specs.Prelude.{◌≡◌, ◌≢◌, ℕ, Bool, true, false, not, ◌&&◌, cond, List, [], ◌∷◌, map, filter, filter_map, IfSome, slice_get, Option, Some, None, option_map, is_some, is_none, bytes_eq, nat_le, nat_eq, refl}
use Rattle.std.specs.List.{list_all, cons_option, AllByRecursion}
use Rattle.std.proofs.Common.{sym, ◌∙◌, ap, ap₂, arith, inl, inr}
use Rattle.std.proofs.lemmas.Bool.{cases_Bool, eqb-true, eq-eqb, false≢true}
use Rattle.std.proofs.lemmas.Cmp.{nat_list_eq_equiv}
use Rattle.std.proofs.lemmas.List.Elements.{All-from_recursion}
use Rattle.std.proofs.lemmas.List.Kept.{AllPairs-cons}
use Rattle.std.proofs.lemmas.Slice.Eq.{bytes_eq-Decides}
use Rattle.cst_core.specs.Path.{Path, same_path}
use Rattle.cst_core.specs.Tree.{Token, at}
use Rattle.cst_core.specs.Element.{Element, address, subtree, same_address}
use Rattle.cst_core.specs.SyntaxElement.{syntax_at}
use Rattle.cst_core.specs.declared.element.SyntaxElement.{SyntaxElement}
use Rattle.syntax_editor.specs.Mapping.{Mapping}
use Rattle.syntax_editor.specs.Builder.{IsPair, AreDistinct}
use Rattle.syntax_editor.specs.Nesting.{first_clash, owner}
use Rattle.syntax_editor.specs.NewTree.{OriginTree, plain, is_free, new_tree}
use Rattle.syntax_editor.specs.Results.{changed, annotated, paths_with}
use Rattle.syntax_editor.specs.Places.{ArePlaces, FindsPlace, HasPlace}
use Rattle.syntax_editor.specs.Fits.{fits, Fits}
use Rattle.syntax_editor.specs.ChangeForms.{Change}
use Rattle.syntax_editor.specs.Plan.{Plan, IsPlan, Edit, Makes, registered_elements, is_registered, found_for}
use Rattle.syned_run.proofs.ScriptLines.{both}
use Rattle.syned_run.proofs.ScriptRuns.{has_shape, are_nodes, is_node_at, node-is, pair-is, not-true, true-and}

-- ---- the edit
abbrev pub the_one : List OriginTree → OriginTree
the_one [] = Token (record { kind = 0; address = record { number = 0; path = [] }; change = None }) []
the_one (t ∷ ts) = t

abbrev pub is_one : List OriginTree → Bool
is_one (t ∷ []) = true
is_one _ = false

one-is : (ts : List OriginTree) → is_one ts ≡ true → ts ≡ the_one ts ∷ []
one-is [] h = absurd (false≢true h)
one-is (t ∷ []) h = refl
one-is (t ∷ u ∷ ts) h = absurd (false≢true h)

abbrev pub found_at : Element → List Path → List SyntaxElement
found_at root ps = filter_map (syntax_at root) ps

abbrev pub leads : Element → Path → Bool
leads root p = is_some (syntax_at root p)

some-is : {X : Type 0} (o : Option X) → is_some o ≡ true → (x : X) × (o ≡ Some x)
some-is None h = absurd (false≢true h)
some-is (Some x) h = (x, refl)

all-found : (root : Element) (ps : List Path) → list_all (leads root) ps ≡ true → map Some (found_at root ps) ≡ map (syntax_at root) ps
all-found root [] h = refl
all-found root (p ∷ ps) h =
    let parts = both (leads root p) (list_all (leads root) ps) h in
    let here = some-is (syntax_at root p) parts.0 in
    ap (λ o. map Some (cons_option o (found_at root ps))) here.1 ∙ ap₂ (λ o os. o ∷ os) (sym here.1) (all-found root ps parts.1)

-- ---- annotated elements
-- all paths of annotations that pass a test
abbrev numbers_pass : (ℕ → Bool) → List (ℕ × Path) → Bool
numbers_pass test ns = list_all (λ n. test n.0) ns

none-with : (test : ℕ → Bool) (ns : List (ℕ × Path)) (a : ℕ) → numbers_pass test ns ≡ true → test a ≡ false → paths_with a ns ≡ []
none-with test [] a h other = refl
none-with test (n ∷ ns) a h other =
    let parts = both (test n.0) (numbers_pass test ns) h in
    elim (cases_Bool (nat_eq n.0 a)) [
      | inl same ↦ absurd (false≢true (sym other ∙ ap test (sym (eqb-true n.0 a same)) ∙ parts.0))
      | inr differ ↦ ap (λ b. map (λ m. m.1) (cond b (n ∷ filter (λ m. nat_eq m.0 a) ns) (filter (λ m. nat_eq m.0 a) ns))) differ ∙ none-with test ns a parts.1 other
    ]

leads-with : (root : Element) (ns : List (ℕ × Path)) (a : ℕ) → list_all (λ n. leads root n.1) ns ≡ true → list_all (leads root) (paths_with a ns) ≡ true
leads-with root [] a h = refl
leads-with root (n ∷ ns) a h =
    let parts = both (leads root n.1) (list_all (λ m. leads root m.1) ns) h in
    picked (nat_eq n.0 a) parts.0 (leads-with root ns a parts.1)
  where
    picked : (b : Bool) → leads root n.1 ≡ true → list_all (leads root) (paths_with a ns) ≡ true → list_all (leads root) (map (λ m. m.1) (cond b (n ∷ filter (λ m. nat_eq m.0 a) ns) (filter (λ m. nat_eq m.0 a) ns))) ≡ true
    picked true here rest = ap (λ b. b && list_all (leads root) (paths_with a ns)) here ∙ rest
    picked false here rest = rest

abbrev pub found_with : Element → List (ℕ × Path) → List (ℕ × SyntaxElement)
found_with root ns = filter_map (λ n. option_map (λ e. (n.0, e)) (syntax_at root n.1)) ns

finds : (root : Element) (ns : List (ℕ × Path)) (a : ℕ) → found_for (found_with root ns) a ≡ found_at root (paths_with a ns)
finds root [] a = refl
finds root (n ∷ ns) a =
    let found = found_with root ns in
    let there = filter (λ (e : ℕ × SyntaxElement). nat_eq e.0 a) found in
    let with = filter (λ (m : ℕ × Path). nat_eq m.0 a) ns in
    let one : found_for (found_with root (n ∷ ns)) a ≡ cond (nat_eq n.0 a) (cons_option (syntax_at root n.1) (found_for found a)) (found_for found a) = elim (syntax_at root n.1) as (λ o. found_for (cons_option (option_map (λ e. (n.0, e)) o) found) a ≡ cond (nat_eq n.0 a) (cons_option o (found_for found a)) (found_for found a)) [
      | None ↦ elim (nat_eq n.0 a) as (λ b. found_for found a ≡ cond b (found_for found a) (found_for found a)) [ true ↦ refl | false ↦ refl ]
      | Some e ↦ elim (nat_eq n.0 a) as (λ b. map (λ (x : ℕ × SyntaxElement). x.1) (cond b ((n.0, e) ∷ there) there) ≡ cond b (e ∷ found_for found a) (found_for found a)) [ true ↦ refl | false ↦ refl ]
    ] in
    one ∙ (elim (nat_eq n.0 a) as (λ b. cond b (cons_option (syntax_at root n.1) (found_for found a)) (found_for found a) ≡ found_at root (map (λ (m : ℕ × Path). m.1) (cond b (n ∷ with) with))) [
      | true ↦ ap (cons_option (syntax_at root n.1)) (finds root ns a)
      | false ↦ finds root ns a
    ])

-- ---- the whole
abbrev pub found_paths : Plan → OriginTree → List (ℕ × Path)
found_paths p made = annotated p.mapping (registered_elements p.registrations) made

abbrev pub new_root_of : ℕ → OriginTree → Element
new_root_of number made = record { number = number; root = plain made; path = [] }

abbrev pub edit_of : Plan → ℕ → OriginTree → Edit
edit_of p number made =
    let root = new_root_of number made in
    record {
      old_root = p.root;
      new_root = root;
      changed = found_at root (changed (is_free p.changes) made);
      annotated = found_with root (found_paths p made);
    }

abbrev pub can_make : Plan → ℕ → OriginTree → Bool
can_make p number made =
    let root = new_root_of number made in
    list_all (leads root) (changed (is_free p.changes) made) && list_all (λ n. leads root n.1) (found_paths p made) && numbers_pass (is_registered p) (found_paths p made)

pub makes : (p : Plan) (number : ℕ) (places : ℕ → Path) → ArePlaces p.mapping p.changes places → is_one (new_tree p.changes places p.root) ≡ true → can_make p number (the_one (new_tree p.changes places p.root)) ≡ true → Makes p number (edit_of p number (the_one (new_tree p.changes places p.root)))
makes p number places are one can =
    let made = the_one (new_tree p.changes places p.root) in
    let root = new_root_of number made in
    let all_changed = list_all (leads root) (changed (is_free p.changes) made) in
    let all_noted = list_all (λ n. leads root n.1) (found_paths p made) in
    let all_registered = numbers_pass (is_registered p) (found_paths p made) in
    let third = both (all_changed && all_noted) all_registered can in
    let front = both all_changed all_noted third.0 in
    record {
      made = made;
      would = record { places = places; are_places = are; is_new = one-is (new_tree p.changes places p.root) one };
      old_is = refl;
      number_is = refl;
      is_root = refl;
      tree_is = refl;
      changed_are = all-found root (changed (is_free p.changes) made) front.0;
      annotated_paths = found_paths p made;
      annotated_are = λ a. ap (map Some) (finds root (found_paths p made) a) ∙ all-found root (paths_with a (found_paths p made)) (leads-with root (found_paths p made) a front.1);
      unregistered = λ _ a none. finds root (found_paths p made) a ∙ ap (found_at root) (none-with (is_registered p) (found_paths p made) a third.1 none);
      annotated_is = λ _. refl;
    }

-- ---- plans
-- none of these is owned by one of those
abbrev pub owns_nothing_in : List Change → List Change → Bool
owns_nothing_in cs ds = list_all (λ d. is_none (owner cs d)) ds

abbrev pub owns_nothing : List Change → Bool
owns_nothing cs = owns_nothing_in cs cs

none-owned : (m : Mapping) (cs ds : List Change) (places : ℕ → Path) → owns_nothing_in cs ds ≡ true → AllByRecursion (FindsPlace m cs places) ds
none-owned m cs [] places h = tt
none-owned m cs (d ∷ ds) places h =
    let parts = both (is_none (owner cs d)) (owns_nothing_in cs ds) h in
    (owned-by (owner cs d) parts.0, none-owned m cs ds places parts.1)
  where
    owned-by : (o : Option ℕ) → is_none o ≡ true → IfSome o (λ e. IfSome (slice_get cs e) (λ c. HasPlace m c d (places e)))
    owned-by None h = tt
    owned-by (Some e) h = absurd (false≢true h)

abbrev pub no_places : ℕ → Path
no_places c = []

pub unowned : (m : Mapping) (cs : List Change) → owns_nothing cs ≡ true → ArePlaces m cs no_places
unowned m cs h = All-from_recursion (FindsPlace m cs no_places) cs (none-owned m cs cs no_places h)

all-fit : (root : Element) (cs : List Change) → list_all (fits root) cs ≡ true → AllByRecursion (Fits root) cs
all-fit root [] h = tt
all-fit root (c ∷ cs) h =
    let parts = both (fits root c) (list_all (fits root) cs) h in
    (parts.0, all-fit root cs parts.1)

abbrev apart_from : Element × Element → Element × Element → Bool
apart_from p q = not (same_address (address p.0) (address q.0))

abbrev is_pair : Element × Element → Bool
is_pair pair = not (nat_le pair.1.number pair.0.number) && has_shape (subtree pair.0) (subtree pair.1) && are_nodes pair

abbrev pub is_mapping : Mapping → Bool
is_mapping [] = true
is_mapping (p ∷ ps) = is_pair p && list_all (apart_from p) ps && is_mapping ps

abbrev pub is_plan : Plan → Bool
is_plan p = bytes_eq p.root.path [] && is_node_at (at p.root.root p.root.path) && list_all (fits p.root) p.changes && is_none (first_clash p.changes) && is_mapping p.mapping

are-apart : (p q : Element × Element) → apart_from p q ≡ true → address p.0 ≡ address q.0 → ⊥
are-apart p q h same =
    let itself = true-and (nat_eq p.0.number p.0.number) (same_path p.0.path p.0.path) (eq-eqb p.0.number p.0.number refl) (nat_list_eq_equiv.refl p.0.path) in
    false≢true (sym (not-true (same_address (address p.0) (address q.0)) h) ∙ sym (ap (same_address (address p.0)) same) ∙ itself)

all-apart : (p : Element × Element) (ps : Mapping) → list_all (apart_from p) ps ≡ true → AllByRecursion (λ q. address p.0 ≢ address q.0) ps
all-apart p [] h = tt
all-apart p (q ∷ ps) h =
    let parts = both (apart_from p q) (list_all (apart_from p) ps) h in
    (are-apart p q parts.0, all-apart p ps parts.1)

one-pair : (pair : Element × Element) → is_pair pair ≡ true → IsPair pair
one-pair pair h =
    let parts = both (not (nat_le pair.1.number pair.0.number) && has_shape (subtree pair.0) (subtree pair.1)) (are_nodes pair) h in
    let front = both (not (nat_le pair.1.number pair.0.number)) (has_shape (subtree pair.0) (subtree pair.1)) parts.0 in
    pair-is pair (not-true (nat_le pair.1.number pair.0.number) front.0) front.1 parts.1

all-pairs : (m : Mapping) → is_mapping m ≡ true → AllByRecursion IsPair m
all-pairs [] h = tt
all-pairs (p ∷ ps) h =
    let parts = both (is_pair p && list_all (apart_from p) ps) (is_mapping ps) h in
    (one-pair p (both (is_pair p) (list_all (apart_from p) ps) parts.0).0, all-pairs ps parts.1)

no-pairs : AreDistinct []
no-pairs i j d first second = absurd (omega (arith, first, second))

distinct : (m : Mapping) → is_mapping m ≡ true → AreDistinct m
distinct [] h = no-pairs
distinct (p ∷ ps) h =
    let parts = both (is_pair p && list_all (apart_from p) ps) (is_mapping ps) h in
    AllPairs-cons (λ a b. address a.0 ≢ address b.0) p ps (All-from_recursion (λ q. address p.0 ≢ address q.0) ps (all-apart p ps (both (is_pair p) (list_all (apart_from p) ps) parts.0).1)) (distinct ps parts.1)

none-is : {X : Type 0} (o : Option X) → is_none o ≡ true → o ≡ None
none-is None h = refl
none-is (Some x) h = absurd (false≢true h)

pub plans : (p : Plan) (places : ℕ → Path) → ArePlaces p.mapping p.changes places → is_plan p ≡ true → IsPlan p
plans p places are h =
    let root = bytes_eq p.root.path [] in
    let node = is_node_at (at p.root.root p.root.path) in
    let fit = list_all (fits p.root) p.changes in
    let apart = is_none (first_clash p.changes) in
    let last = both (root && node && fit && apart) (is_mapping p.mapping) h in
    let fourth = both (root && node && fit) apart last.0 in
    let third = both (root && node) fit fourth.0 in
    let front = both root node third.0 in
    record {
      is_root = (bytes_eq-Decides p.root.path []).0 front.0;
      is_node = node-is p.root front.1;
      fit = All-from_recursion (Fits p.root) p.changes (all-fit p.root p.changes third.1);
      apart = none-is (first_clash p.changes) fourth.1;
      mapping_is = record { pairs = All-from_recursion IsPair p.mapping (all-pairs p.mapping last.1); distinct = distinct p.mapping last.1 };
      places = places;
      placed = are;
    }
