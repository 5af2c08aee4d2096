-- The same aims in another order rewrite alike, if those of one site keep theirs.
--     within                        a filter of what passes another one
--     any-moved                     whether some aim passes a test
--     rewritten-reordered           the tree that they make
--     SamePaths, inside-path        lists of the same paths; those inside a child
--     built-reordered               how many nodes are built
--     site_at                       the site of an aim in code
--     are-ordered, are-reordered    aims that are sorted so are in order; they are the same
use Rattle.std.specs.Prelude.{◌≡◌, ℕ, suc, ◌+◌, Bool, true, false, cond, ◌&&◌, ◌||◌, nat_eq, nat_lt, List, [], ◌∷◌, ◌++◌, map, filter, flat_map, sum_by, refl}
use Rattle.std.specs.List.{list_any}
use Rattle.std.specs.List.Sorted.{IsPermutation, IsSortedBy, IsStableBy}
use Rattle.std.proofs.Common.{ap, ap₂, sym, ◌∙◌, arith}
use Rattle.std.proofs.lemmas.Bool.{cases_eq, eq-eqb, ne_eqb, lt-ltb, le-ltb, eqb-true, and_parts}
use Rattle.std.proofs.lemmas.List.Sorted.{sum_by-IsPermutation, IsPermutation-map}
use Rattle.std.proofs.lemmas.List.Sums.{sum_by-cons}
use mathlib.Core.Logic.{inl, inr}
use Rattle.green_tree.specs.Path.{Path, same_path, has_path, parent_path, last_slot}
use Rattle.green_tree.proofs.Parts.{filter-map}
use Rattle.green_tree.specs.Tree.{Tree, Forest, Token, Node, end, more, SyntaxTree, forest}
use Rattle.edit_change.specs.Aim.{Aim, FirstIn, AfterElement, Over, aims_at_gap, starts_at, replaces, parents}
use Rattle.edit_change.specs.Effort.{inside, parents_of}
use Rattle.edit_change.specs.Rewriting.{NumberedAim, numbers, inserts_at, replacements_at, is_replaced, gap_order, gap, rewritten, rewritten_from}
use Rattle.edit_change.specs.inner.DocumentOrder.{on_the_way, site}
use Rattle.edit_change.specs.inner.Aimed.{aim_in, formed, numbered, aims_of}
use Rattle.edit_change.specs.declared.aimed.Aimed.{Aimed}
use Rattle.edit_change.proofs.Paths.{same_path-true, same_path_from}
use Rattle.one_pass.specs.inner.Built.{built, built_from, nodes_built}
use Rattle.one_pass.specs.inner.Sweep.{AreOrdered, IsReordered}
use Rattle.one_pass.proofs.Ascending.{less_by, ascending-map, ascending-sorted, stable-at}

-- ---- one test
within : {X : Type 0} (f g : X → Bool) → ((x : X) → f x ≡ true → g x ≡ true) → (xs : List X) → filter f xs ≡ filter f (filter g xs)
within f g both [] = refl
within {X} f g both (x ∷ xs) = go (f x) refl (g x) refl (within f g both xs)
  where
    rest : List X
    rest = filter f (filter g xs)

    go : (b : Bool) → f x ≡ b → (d : Bool) → g x ≡ d → filter f xs ≡ rest → cond (f x) (x ∷ filter f xs) (filter f xs) ≡ filter f (cond (g x) (x ∷ filter g xs) (filter g xs))
    go true p true q h =
        ap (λ c. cond c (x ∷ filter f xs) (filter f xs)) p ∙ ap (λ ys. x ∷ ys) h ∙ sym (ap (λ c. filter f (cond c (x ∷ filter g xs) (filter g xs))) q ∙ ap (λ c. cond c (x ∷ rest) rest) p)
    go true p false q h = let wrong = sym (both x p) ∙ q in absurd (cc)
    go false p true q h =
        ap (λ c. cond c (x ∷ filter f xs) (filter f xs)) p ∙ h ∙ sym (ap (λ c. filter f (cond c (x ∷ filter g xs) (filter g xs))) q ∙ ap (λ c. cond c (x ∷ rest) rest) p)
    go false p false q h =
        ap (λ c. cond c (x ∷ filter f xs) (filter f xs)) p ∙ h ∙ sym (ap (λ c. filter f (cond c (x ∷ filter g xs) (filter g xs))) q)

any-count : {X : Type 0} (f : X → Bool) (xs : List X) → list_any f xs ≡ nat_lt 0 (sum_by (λ x. cond (f x) 1 0) xs)
any-count f [] = sym (le-ltb 0 0 (omega arith))
any-count f (x ∷ xs) = go (f x) refl (any-count f xs)
  where
    n : ℕ
    n = sum_by (λ y. cond (f y) 1 0) xs

    go : (b : Bool) → f x ≡ b → list_any f xs ≡ nat_lt 0 n → (f x || list_any f xs) ≡ nat_lt 0 (sum_by (λ y. cond (f y) 1 0) (x ∷ xs))
    go true is h =
        let own : ◌≡◌ {A = ℕ} (cond (f x) 1 0) 1 = ap (λ b. cond b 1 0) is in
        ap (λ b. b || list_any f xs) is ∙ sym (lt-ltb 0 (sum_by (λ y. cond (f y) 1 0) (x ∷ xs)) (omega (arith, own, sum_by-cons (λ y. cond (f y) 1 0) x xs)))
    go false is h =
        let own : ◌≡◌ {A = ℕ} (cond (f x) 1 0) 0 = ap (λ b. cond b 1 0) is in
        let same : n ≡ sum_by (λ y. cond (f y) 1 0) (x ∷ xs) = omega (arith, own, sum_by-cons (λ y. cond (f y) 1 0) x xs) in
        ap (λ b. b || list_any f xs) is ∙ h ∙ ap (nat_lt 0) same

pub any-moved : {X : Type 0} (f : X → Bool) (xs ys : List X) → IsPermutation xs ys → list_any f ys ≡ list_any f xs
any-moved f xs ys moved = any-count f ys ∙ ap (nat_lt 0) (sum_by-IsPermutation (λ x. cond (f x) 1 0) xs ys moved) ∙ sym (any-count f xs)

-- ---- the sites of what stands in a gap, of what replaces from a path on
gap-site : (p : Path) (i : ℕ) (a : Aim) → aims_at_gap p i a ≡ true → same_path (on_the_way p ++ (i + i) ∷ []) (site a) ≡ true
gap-site p i (FirstIn q) h =
    let both = and_parts (same_path p q) (nat_eq i 0) h in
    let here : i ≡ 0 = eqb-true i 0 both.1 in
    same_path_from (on_the_way p ++ (i + i) ∷ []) (site (FirstIn q)) (ap₂ (λ r k. on_the_way r ++ (k + k) ∷ []) (same_path-true p q both.0) here)
gap-site p i (AfterElement []) h = absurd (cc)
gap-site p i (AfterElement (j ∷ q)) h =
    let both = and_parts (same_path p (parent_path (j ∷ q))) (nat_eq i (suc (last_slot (j ∷ q)))) h in
    same_path_from (on_the_way p ++ (i + i) ∷ []) (site (AfterElement (j ∷ q))) (ap₂ (λ r k. on_the_way r ++ (k + k) ∷ []) (same_path-true p (parent_path (j ∷ q)) both.0) (eqb-true i (suc (last_slot (j ∷ q))) both.1))
gap-site p i (Over qs) h = absurd (cc)

start-site : (p : Path) (a : Aim) → starts_at p a ≡ true → same_path (on_the_way p) (site a) ≡ true
start-site p (FirstIn q) h = absurd (cc)
start-site p (AfterElement q) h = absurd (cc)
start-site p (Over []) h = absurd (cc)
start-site p (Over (q ∷ qs)) h = same_path_from (on_the_way p) (on_the_way q) (ap on_the_way (same_path-true p q h))

module _ (cs ds : List NumberedAim) (again : IsReordered cs ds) where
  moved-filter : (test : NumberedAim → Bool) (s : List ℕ) → ((c : NumberedAim) → test c ≡ true → same_path s (site c.1) ≡ true) → numbers (filter test ds) ≡ numbers (filter test cs)
  moved-filter test s there =
      let at = λ (c : NumberedAim). same_path s (site c.1) in
      ap numbers (within test at there ds ∙ ap (filter test) (again.by_site s) ∙ sym (within test at there cs))

  pub same-inserts : (p : Path) (i : ℕ) → inserts_at ds p i ≡ inserts_at cs p i
  same-inserts p i = moved-filter (λ c. aims_at_gap p i c.1) (on_the_way p ++ (i + i) ∷ []) (λ c h. gap-site p i c.1 h)

  pub same-replacements : (p : Path) → replacements_at ds p ≡ replacements_at cs p
  same-replacements p = moved-filter (λ c. starts_at p c.1) (on_the_way p) (λ c h. start-site p c.1 h)

  pub same-replaced : (p : Path) → is_replaced ds p ≡ is_replaced cs p
  same-replaced p = any-moved (λ c. replaces p c.1) cs ds again.each_once

  -- ---- the tree
  module _ {L : Type 0} (label_at : Path → ℕ → L) (given : ℕ → List (Tree L)) where
    same-gap : (p : Path) (i : ℕ) → gap label_at given ds p i ≡ gap label_at given cs p i
    same-gap p i = ap (λ ns. flat_map given (gap_order ns)) (same-inserts p i)

    mutual
      pub rewritten-reordered : (p : Path) (t : SyntaxTree) → rewritten label_at given ds p t ≡ rewritten label_at given cs p t
      rewritten-reordered p (Token k s) = refl
      rewritten-reordered p (Node k f) = ap (λ ts. Node (label_at p k) (forest ts)) (reordered-from p 0 f)

      reordered-from : (p : Path) (i : ℕ) (f : Forest ℕ) → rewritten_from label_at given ds p i f ≡ rewritten_from label_at given cs p i f
      reordered-from p i end = same-gap p i
      reordered-from p i (more t f) =
          let q = p ++ i ∷ [] in
          ap₂ (λ us vs. us ++ vs) (ap₂ (λ us vs. us ++ vs) (same-gap p i) (ap₂ (λ b ns. cond b (flat_map given ns) (rewritten label_at given ds q t ∷ [])) (same-replaced q) (same-replacements q) ∙ ap (λ u. cond (is_replaced cs q) (flat_map given (replacements_at cs q)) (u ∷ [])) (rewritten-reordered q t))) (reordered-from p (suc i) f)

-- ---- how many nodes are built
abbrev pub SamePaths : List Path → List Path → Type 0
SamePaths ps qs = (q : Path) → has_path ps q ≡ has_path qs q

turned : (i j : ℕ) → nat_eq j i ≡ nat_eq i j
turned i j =
    elim (cases_eq j i) [
      | inl same ↦ eq-eqb j i same ∙ sym (eq-eqb i j (sym same))
      | inr other ↦ ne_eqb j i other ∙ sym (ne_eqb i j (λ e. other (sym e)))
    ]

inside-path : (i : ℕ) (ps : List Path) (q : Path) → has_path (inside i ps) q ≡ has_path ps (i ∷ q)
inside-path i [] q = refl
inside-path i ([] ∷ ps) q = inside-path i ps q
inside-path i ((j ∷ p) ∷ ps) q =
    elim (nat_eq j i) as (λ b. has_path (cond b (p ∷ inside i ps) (inside i ps)) q ≡ ((b && same_path q p) || has_path ps (i ∷ q))) [
      | true ↦ ap (λ b. same_path q p || b) (inside-path i ps q)
      | false ↦ inside-path i ps q
    ] ∙ ap (λ b. (b && same_path q p) || has_path ps (i ∷ q)) (turned i j)

same-inside : (i : ℕ) (ps qs : List Path) → SamePaths ps qs → SamePaths (inside i ps) (inside i qs)
same-inside i ps qs same q = inside-path i ps q ∙ same (i ∷ q) ∙ sym (inside-path i qs q)

not-there : (p : Path) (ps : List Path) → SamePaths [] (p ∷ ps) → ⊥
not-there p ps same =
    let here : has_path (p ∷ ps) p ≡ true = ap (λ b. b || has_path ps p) (same_path_from p p refl) in
    let wrong = same p ∙ here in
    absurd (cc)

module _ (cs ds : List NumberedAim) (replaced : (p : Path) → is_replaced ds p ≡ is_replaced cs p) where
  mutual
    built-same : (p : Path) (t : SyntaxTree) (ps qs : List Path) → SamePaths ps qs → built ds p t ps ≡ built cs p t qs
    built-same p (Token k s) ps qs same = refl
    built-same p (Node k f) [] [] same = refl
    built-same p (Node k f) [] (q ∷ qs) same = absurd (not-there q qs same)
    built-same p (Node k f) (q ∷ ps) [] same = absurd (not-there q ps (λ r. sym (same r)))
    built-same p (Node k f) (q ∷ ps) (r ∷ qs) same = ap (λ n. 1 + n) (built-from-same p 0 f (q ∷ ps) (r ∷ qs) same)

    built-from-same : (p : Path) (i : ℕ) (f : Forest ℕ) (ps qs : List Path) → SamePaths ps qs → built_from ds p i f ps ≡ built_from cs p i f qs
    built-from-same p i end ps qs same = refl
    built-from-same p i (more t f) ps qs same =
        ap₂ (λ m n. m + n) (ap₂ (λ b n. cond b 0 n) (replaced (p ++ i ∷ [])) (built-same (p ++ i ∷ []) t (inside i ps) (inside i qs) (same-inside i ps qs same))) (built-from-same p (suc i) f ps qs same)

any-append : (f : Path → Bool) (ps qs : List Path) → list_any f (ps ++ qs) ≡ (list_any f ps || list_any f qs)
any-append f [] qs = refl
any-append f (p ∷ ps) qs = ap (λ b. f p || b) (any-append f ps qs) ∙ joined (f p) (list_any f ps) (list_any f qs)
  where
    joined : (a b c : Bool) → (a || (b || c)) ≡ ((a || b) || c)
    joined true b c = refl
    joined false b c = refl

any-parent : (q : Path) (cs : List NumberedAim) → has_path (parents_of cs) q ≡ list_any (λ c. has_path (parents c.1) q) cs
any-parent q [] = refl
any-parent q (c ∷ cs) = any-append (same_path q) (parents c.1) (parents_of cs) ∙ ap (λ b. has_path (parents c.1) q || b) (any-parent q cs)

pub built-reordered : (cs ds : List NumberedAim) → IsReordered cs ds → (t : SyntaxTree) → nodes_built ds t ≡ nodes_built cs t
built-reordered cs ds again t =
    built-same cs ds (same-replaced cs ds again) [] t (parents_of ds) (parents_of cs) (λ q. any-parent q ds ∙ any-moved (λ c. has_path (parents c.1) q) cs ds again.each_once ∙ sym (any-parent q cs))

-- ---- sorted by their sites
abbrev pub site_at : Aimed → List ℕ
site_at a = site (aim_in a.path.now a.form)

pub are-ordered : (xs : List Aimed) → IsSortedBy (less_by site_at) xs → AreOrdered xs
are-ordered xs up = ascending-map (λ a. site (aim_in a.path a.form)) formed xs (ascending-sorted site_at xs up)

filter-numbered : (p : NumberedAim → Bool) (xs : List Aimed) → filter p (aims_of xs) ≡ map numbered (filter (λ a. p (numbered a)) xs)
filter-numbered p xs = filter-map p (λ a. p (numbered a)) numbered xs (λ a. refl)

pub are-reordered : (xs ys : List Aimed) → IsPermutation xs ys → IsStableBy (less_by site_at) xs ys → IsReordered (aims_of xs) (aims_of ys)
are-reordered xs ys moved stable = record {
  each_once = IsPermutation-map numbered xs ys moved;
  by_site = λ s. filter-numbered (λ c. same_path s (site c.1)) ys ∙ ap (map numbered) (stable-at site_at xs ys stable s) ∙ sym (filter-numbered (λ c. same_path s (site c.1)) xs);
}
