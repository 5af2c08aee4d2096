-- What a change without an owner gives: of all that such changes brought, the tops alone are topmost, since what is nested in it was brought by others.
--     mark                          a change without an owner brought the element
--     given-labelled                what a change gives, labelled anew
--     unmarked                      what a change that has an owner, or is dropped, gives has no mark
--     marked                        what a change gives, by marks; all of it where the change is not one of these
--     alone                         of each element that is given the top alone is topmost
use Rattle.std.specs.Prelude.{◌≡◌, ℕ, zero, suc, ◌<◌, Bool, true, false, cond, not, ◌&&◌, List, [], ◌∷◌, ◌++◌, map, filter, flat_map, slice_get, Option, Some, None, option_and_then, is_none, is_some, All, refl}
use Rattle.std.specs.List.{AllByRecursion}
use Rattle.std.specs.Option.{option_map_or}
use Rattle.std.proofs.Common.{ap, ap₂, sym, subst, ◌∙◌, arith}
use Rattle.std.proofs.lemmas.Bool.{false≢true}
use Rattle.std.proofs.lemmas.Option.{same_Some}
use Rattle.std.proofs.lemmas.List.Elements.{All-from_recursion, filter-append}
use mathlib.Core.List.{map-map}
use mathlib.Core.Path.{fun_ext}
use Rattle.cst_core.specs.Path.{Path, parent_path, last_slot}
use Rattle.cst_core.specs.Tree.{Tree, Forest, Token, Node, end, more, SyntaxTree, trees, forest, label, at, paths, paths_from, relabelled}
use Rattle.cst_core.specs.Element.{address, subtree}
use Rattle.green_tree.proofs.Lookup.{at-append}
use Rattle.cst_core.proofs.LastSlot.{parent-and-slot}
use Rattle.edit_change.specs.Rewriting.{NumberedAim, numbers, replacements_at, is_replaced, gap_order, inserts_at, rewritten}
use Rattle.edit_change.specs.Topmost.{holds_at, parent_holds, topmost}
use Rattle.edit_change.specs.Nesting.{owner, is_dropped, is_independent}
use Rattle.edit_change.specs.NewTree.{Origin, OriginTree, origin, payload_of, dependents, given, is_free}
use Rattle.edit_change.specs.Results.{is_brought}
use Rattle.edit_change.specs.declared.change.Change.{Change}
use Rattle.edit_change.proofs.Edits.{Edits, below, filled, edits_of, rewritten_by, rewritten_by_from, rewritten_is}
use Rattle.edit_change.proofs.Lists.{all-append, all_at}
use Rattle.edit_change.proofs.OwnerDepth.{rank, rank_less}
use Rattle.edit_change.proofs.Relabelled.{relabelled-rewritten, holds-relabelled, topmost-relabelled}
use Rattle.edit_change.proofs.GivenTrees.{given_is, all_owned, rewritten-agree}

abbrev pub mark : List Change → Origin → Bool
mark cs o = is_brought (is_free cs) o

abbrev dark : OriginTree → Tree Bool
dark t = relabelled (λ l. false) t

-- ---- no mark in what is owned
owned-is-not-free : (cs : List Change) (i c : ℕ) (d : Change) → slice_get cs i ≡ Some d → owner cs d ≡ Some c → is_free cs i ≡ false
owned-is-not-free cs i c d is by =
    ap (λ o. option_map_or (is_independent cs) o false) is ∙ ap (λ o. not (is_dropped cs d) && is_none o) by ∙ (elim (is_dropped cs d) as (λ b. (not b && false) ≡ false) [ true ↦ refl | false ↦ refl ])

module _ (cs : List Change) (places : ℕ → Path) where
  pub given-labelled : {L : Type 0} (h : Origin → L) (c : ℕ) → map (relabelled h) (given cs places c) ≡ map (λ e. rewritten (λ q k. h (origin (address e) (Some c) q k)) (λ n. map (relabelled h) (given cs places n)) (dependents cs places c) [] (subtree e)) (payload_of cs c)
  given-labelled h c =
      ap (map (relabelled h)) (given_is cs places c) ∙ map-map (relabelled h) (λ e. rewritten (origin (address e) (Some c)) (given cs places) (dependents cs places c) [] (subtree e)) (payload_of cs c) ∙ ap (λ f. map f (payload_of cs c)) (fun_ext (λ e. relabelled-rewritten h (origin (address e) (Some c)) (given cs places) (dependents cs places c) [] (subtree e)))

  -- the same where what is owned gives is said otherwise
  labelled-agree : (b : Bool) (c : ℕ) (g h : ℕ → List (Tree Bool)) → AllByRecursion (λ n. g n ≡ h n) (numbers (dependents cs places c)) → map (λ e. rewritten (λ q k. b) g (dependents cs places c) [] (subtree e)) (payload_of cs c) ≡ map (λ e. rewritten (λ q k. b) h (dependents cs places c) [] (subtree e)) (payload_of cs c)
  labelled-agree b c g h a =
      ap (λ f. map f (payload_of cs c)) (fun_ext (λ e. rewritten-agree (λ q k. b) g h (dependents cs places c) a (subtree e)))

  unmarked_within : (n c : ℕ) → rank cs c < n → is_free cs c ≡ false → map (relabelled (mark cs)) (given cs places c) ≡ map dark (given cs places c)
  unmarked_within zero c l f = absurd (omega (arith, l))
  unmarked_within (suc n) c l f =
      given-labelled (mark cs) c ∙ ap (λ b. map (λ e. rewritten (λ q k. b) (λ i. map (relabelled (mark cs)) (given cs places i)) (dependents cs places c) [] (subtree e)) (payload_of cs c)) f ∙ labelled-agree false c (λ i. map (relabelled (mark cs)) (given cs places i)) (λ i. map dark (given cs places i)) (all_owned cs places (λ i. map (relabelled (mark cs)) (given cs places i) ≡ map dark (given cs places i)) c (λ i d is by. unmarked_within n i (omega (arith, rank_less cs c i d is by, l)) (owned-is-not-free cs i c d is by))) ∙ sym (given-labelled (λ o. false) c)

  pub unmarked : (c : ℕ) → is_free cs c ≡ false → map (relabelled (mark cs)) (given cs places c) ≡ map dark (given cs places c)
  unmarked c f = unmarked_within (suc (rank cs c)) c (omega arith) f

  -- what is marked in what a change without an owner gives
  marked-given : (c : ℕ) → is_free cs c ≡ true → map (relabelled (mark cs)) (given cs places c) ≡ map (λ e. rewritten (λ q k. true) (λ i. map dark (given cs places i)) (dependents cs places c) [] (subtree e)) (payload_of cs c)
  marked-given c f =
      given-labelled (mark cs) c ∙ ap (λ b. map (λ e. rewritten (λ q k. b) (λ i. map (relabelled (mark cs)) (given cs places i)) (dependents cs places c) [] (subtree e)) (payload_of cs c)) f ∙ labelled-agree true c (λ i. map (relabelled (mark cs)) (given cs places i)) (λ i. map dark (given cs places i)) (all_owned cs places (λ i. map (relabelled (mark cs)) (given cs places i) ≡ map dark (given cs places i)) c (λ i d is by. unmarked i (owned-is-not-free cs i c d is by)))

-- ---- trees in which the parent of a marked element is marked
abbrev Closed : Tree Bool → Type 0
Closed t = (i : ℕ) (p : Path) → holds_at (λ b. b) t (i ∷ p) ≡ true → holds_at (λ b. b) t (parent_path (i ∷ p)) ≡ true

dark-nowhere : (t : OriginTree) (p : Path) → holds_at (λ b. b) (dark t) p ≡ false
dark-nowhere t p =
    holds-relabelled (λ l. false) t p (λ b. b) ∙ (elim (at t p) as (λ o. option_map_or (λ e. false) o false ≡ false) [ None ↦ refl | Some e ↦ refl ])

dark-closed : (t : OriginTree) → Closed (dark t)
dark-closed t i p h = absurd (false≢true (sym (dark-nowhere t (i ∷ p)) ∙ h))

all-dark : (ts : List OriginTree) → AllByRecursion Closed (map dark ts)
all-dark [] = tt
all-dark (t ∷ ts) = (dark-closed t, all-dark ts)

all-given : {X : Type 0} (f : X → List (Tree Bool)) → ((x : X) → AllByRecursion Closed (f x)) → (xs : List X) → AllByRecursion Closed (flat_map f xs)
all-given f a [] = tt
all-given f a (x ∷ xs) = all-append Closed (f x) (flat_map f xs) (a x) (all-given f a xs)

trees-forest : (ts : List (Tree Bool)) → trees (forest ts) ≡ ts
trees-forest [] = refl
trees-forest (t ∷ ts) = ap (λ us. t ∷ us) (trees-forest ts)

node-closed : (ts : List (Tree Bool)) → AllByRecursion Closed ts → Closed (Node true (forest ts))
node-closed ts a i [] h = refl
node-closed ts a i (j ∷ p) h = go (slice_get (trees (forest ts)) i) refl h
  where
    go : (o : Option (Tree Bool)) → slice_get (trees (forest ts)) i ≡ o → option_map_or (λ e. label e) (option_and_then (λ c. at c (j ∷ p)) o) false ≡ true → option_map_or (λ e. label e) (option_and_then (λ c. at c (parent_path (j ∷ p))) (slice_get (trees (forest ts)) i)) false ≡ true
    go None is k = absurd (false≢true k)
    go (Some c) is k =
        ap (λ o. option_map_or (λ e. label e) (option_and_then (λ c. at c (parent_path (j ∷ p))) o) false) is ∙ all_at Closed ts i c a (ap (λ us. slice_get us i) (sym (trees-forest ts)) ∙ is) j p k

-- ---- rewriting with marks on all that is kept
record Lit (e : Edits Bool) : Type 0 where
  kept : (p : Path) (k : ℕ) → e.label_at p k ≡ true
  gaps : (p : Path) (i : ℕ) → AllByRecursion Closed (e.gap p i)
  slots : (p : Path) (i : ℕ) (ts : List (Tree Bool)) → e.slot p i ≡ Some ts → AllByRecursion Closed ts

lit-below : (e : Edits Bool) (i : ℕ) → Lit e → Lit (below i e)
lit-below e i lit = record { kept = λ p. lit.kept (i ∷ p); gaps = λ p. lit.gaps (i ∷ p); slots = λ p. lit.slots (i ∷ p) }

filled-closed : (o : Option (List (Tree Bool))) (t : Tree Bool) → ((ts : List (Tree Bool)) → o ≡ Some ts → AllByRecursion Closed ts) → Closed t → AllByRecursion Closed (filled o t)
filled-closed None t slot kept = (kept, tt)
filled-closed (Some ts) t slot kept = slot ts refl

mutual
  rewritten_by-closed : (t : SyntaxTree) (e : Edits Bool) → Lit e → Closed (rewritten_by e t)
  rewritten_by-closed (Token k s) e lit = λ i p h. absurd (false≢true h)
  rewritten_by-closed (Node k f) e lit =
      subst (λ b. Closed (Node b (forest (rewritten_by_from e 0 f)))) (sym (lit.kept [] k)) (node-closed (rewritten_by_from e 0 f) (all-closed f e 0 lit))

  all-closed : (f : Forest ℕ) (e : Edits Bool) (i : ℕ) → Lit e → AllByRecursion Closed (rewritten_by_from e i f)
  all-closed end e i lit = lit.gaps [] i
  all-closed (more t f) e i lit =
      all-append Closed (e.gap [] i ++ filled (e.slot [] i) (rewritten_by (below i e) t)) (rewritten_by_from e (suc i) f) (all-append Closed (e.gap [] i) (filled (e.slot [] i) (rewritten_by (below i e) t)) (lit.gaps [] i) (filled-closed (e.slot [] i) (rewritten_by (below i e) t) (lit.slots [] i) (rewritten_by-closed t (below i e) (lit-below e i lit)))) (all-closed f e (suc i) lit)

label-rewritten_by : (t : SyntaxTree) (e : Edits Bool) → Lit e → label (rewritten_by e t) ≡ true
label-rewritten_by (Token k s) e lit = lit.kept [] k
label-rewritten_by (Node k f) e lit = lit.kept [] k

lit : (given : ℕ → List OriginTree) (cs : List NumberedAim) → Lit (edits_of (λ q k. true) (λ n. map dark (given n)) cs)
lit given cs = record {
  kept = λ p k. refl;
  gaps = λ p i. all-given (λ n. map dark (given n)) (λ n. all-dark (given n)) (gap_order (inserts_at cs p i));
  slots = λ p i ts is. slot (is_replaced cs (p ++ i ∷ [])) (replacements_at cs (p ++ i ∷ [])) ts is;
}
  where
    slot : (b : Bool) (ns : List ℕ) (ts : List (Tree Bool)) → cond b (Some (flat_map (λ n. map dark (given n)) ns)) None ≡ Some ts → AllByRecursion Closed ts
    slot true ns ts is = subst (AllByRecursion Closed) (same_Some _ ts is) (all-given (λ n. map dark (given n)) (λ n. all-dark (given n)) ns)
    slot false ns ts is = cc

no-value : {X : Type 0} (o : Option X) → is_some o ≡ false → o ≡ None
no-value None h = refl
no-value (Some x) h = cc

-- ---- trees of which all is marked
is_nil : Path → Bool
is_nil [] = true
is_nil (i ∷ p) = false

no-nil : (i : ℕ) (ps : List Path) → filter is_nil (map (λ p. i ∷ p) ps) ≡ []
unfolding is_nil
no-nil i [] = refl
no-nil i (p ∷ ps) = no-nil i ps

no-nil_from : {L : Type 0} (i : ℕ) (f : Forest L) → filter is_nil (paths_from i f) ≡ []
no-nil_from i end = refl
no-nil_from i (more t f) = filter-append is_nil (map (λ p. i ∷ p) (paths t)) (paths_from (suc i) f) ∙ ap₂ (λ x y. x ++ y) (no-nil i (paths t)) (no-nil_from (suc i) f)

one-nil : {L : Type 0} (t : Tree L) → filter is_nil (paths t) ≡ [] ∷ []
unfolding is_nil
one-nil (Token l s) = refl
one-nil (Node l f) = ap (λ ps. [] ∷ ps) (no-nil_from 0 f)

holds-always : {L : Type 0} (t : Tree L) (p : Path) → holds_at (λ l. true) t p ≡ is_some (at t p)
holds-always t p = elim (at t p) as (λ o. option_map_or (λ e. true) o false ≡ is_some o) [ None ↦ refl | Some e ↦ refl ]

parent-there : {L : Type 0} (t : Tree L) (i : ℕ) (p : Path) → is_some (at t (parent_path (i ∷ p))) ≡ false → is_some (at t (i ∷ p)) ≡ false
parent-there t i p h =
    ap is_some (ap (at t) (parent-and-slot i p) ∙ at-append t (parent_path (i ∷ p)) (last_slot (i ∷ p) ∷ []) ∙ ap (option_and_then (λ c. at c (last_slot (i ∷ p) ∷ []))) (no-value (at t (parent_path (i ∷ p))) h))

both-or-none : (a b : Bool) → (b ≡ false → a ≡ false) → (a && not b) ≡ false
both-or-none a true h = elim a as (λ x. (x && false) ≡ false) [ true ↦ refl | false ↦ refl ]
both-or-none a false h = ap (λ x. x && true) (h refl)

topmost-always : {L : Type 0} (t : Tree L) → topmost (λ l. true) t ≡ [] ∷ []
unfolding is_nil
topmost-always t = ap (λ test. filter test (paths t)) (fun_ext tests) ∙ one-nil t
  where
    tests : (p : Path) → (holds_at (λ l. true) t p && not (parent_holds (λ l. true) t p)) ≡ is_nil p
    tests [] = refl
    tests (i ∷ p) = ap₂ (λ a b. a && not b) (holds-always t (i ∷ p)) (holds-always t (parent_path (i ∷ p))) ∙ both-or-none (is_some (at t (i ∷ p))) (is_some (at t (parent_path (i ∷ p)))) (parent-there t i p)

-- ---- the tops alone
topmost-closed : (t : Tree Bool) → Closed t → label t ≡ true → topmost (λ b. b) t ≡ [] ∷ []
unfolding is_nil
topmost-closed t closed top = ap (λ test. filter test (paths t)) (fun_ext tests) ∙ one-nil t
  where
    tests : (p : Path) → (holds_at (λ b. b) t p && not (parent_holds (λ b. b) t p)) ≡ is_nil p
    tests [] = ap (λ b. b && true) top
    tests (i ∷ p) = go (holds_at (λ b. b) t (i ∷ p)) (holds_at (λ b. b) t (parent_path (i ∷ p))) (closed i p)
      where
        go : (a b : Bool) → (a ≡ true → b ≡ true) → (a && not b) ≡ false
        go false b h = refl
        go true b h = ap not (h refl)

topmost-rewritten : (given : ℕ → List OriginTree) (cs : List NumberedAim) (t : SyntaxTree) → topmost (λ b. b) (rewritten (λ q k. true) (λ n. map dark (given n)) cs [] t) ≡ [] ∷ []
topmost-rewritten given cs t =
    ap (topmost (λ b. b)) (rewritten_is (λ q k. true) (λ n. map dark (given n)) cs [] t) ∙ topmost-closed (rewritten_by (edits_of (λ q k. true) (λ n. map dark (given n)) cs) t) (rewritten_by-closed t (edits_of (λ q k. true) (λ n. map dark (given n)) cs) (lit given cs)) (label-rewritten_by t (edits_of (λ q k. true) (λ n. map dark (given n)) cs) (lit given cs))

-- all of what a change gives counts as given where the change has an owner: then nobody looks at it
abbrev pub shown : List Change → ℕ → Origin → Bool
shown cs c o = cond (is_free cs c) (mark cs o) true

abbrev pub marked : List Change → (ℕ → Path) → ℕ → List (Tree Bool)
marked cs places c = map (relabelled (shown cs c)) (given cs places c)

pub marked-free : (cs : List Change) (places : ℕ → Path) (c : ℕ) → is_free cs c ≡ true → map (relabelled (mark cs)) (given cs places c) ≡ marked cs places c
marked-free cs places c free = ap (λ b. map (relabelled (λ o. cond b (mark cs o) true)) (given cs places c)) (sym free)

all-topmost : (ts : List OriginTree) → AllByRecursion (λ g. topmost (λ b. b) g ≡ [] ∷ []) (map (relabelled (λ o. true)) ts)
all-topmost [] = tt
all-topmost (t ∷ ts) = (topmost-relabelled (λ o. true) (λ b. b) t ∙ topmost-always t, all-topmost ts)

all-map : {X Y : Type 0} (P : Y → Type 0) (f : X → Y) → ((x : X) → P (f x)) → (xs : List X) → AllByRecursion P (map f xs)
all-map P f a [] = tt
all-map P f a (x ∷ xs) = (a x, all-map P f a xs)

pub alone : (cs : List Change) (places : ℕ → Path) (c : ℕ) → All (λ g. topmost (λ b. b) g ≡ [] ∷ []) (marked cs places c)
alone cs places c = All-from_recursion (λ g. topmost (λ b. b) g ≡ [] ∷ []) (marked cs places c) (go (is_free cs c) refl)
  where
    go : (b : Bool) → is_free cs c ≡ b → AllByRecursion (λ g. topmost (λ b. b) g ≡ [] ∷ []) (marked cs places c)
    go true free =
        subst (AllByRecursion (λ g. topmost (λ b. b) g ≡ [] ∷ [])) (sym (marked-given cs places c free) ∙ marked-free cs places c free) (all-map (λ g. topmost (λ b. b) g ≡ [] ∷ []) (λ e. rewritten (λ q k. true) (λ i. map dark (given cs places i)) (dependents cs places c) [] (subtree e)) (λ e. topmost-rewritten (given cs places) (dependents cs places c) (subtree e)) (payload_of cs c))
    go false owned =
        subst (λ b. AllByRecursion (λ g. topmost (λ b. b) g ≡ [] ∷ []) (map (relabelled (λ o. cond b (mark cs o) true)) (given cs places c))) (sym owned) (all-topmost (given cs places c))
