-- The owner of a change has the deepest region around it.
--     last_some                     a list that one item gives something to has a last item
--     region_at_some                what is in the region of a change is in some region
--     unowned                       a change without an owner lies in no region
--     IsOrdered, ordered_surroundings      paths from the shorter to the longer ones; such are those around a change
--     HasDeep, deepest              the last of the paths around a change that is in a region
--     owned-deepest                 below its owner's target a change lies in no region
use Rattle.std.specs.Prelude.{◌≡◌, ℕ, ◌<◌, ◌≤◌, true, false, cond, not, List, [], ◌∷◌, ◌++◌, length, map, filter_map, slice_get, Option, Some, None, is_none, refl}
use Rattle.std.specs.List.{AllByRecursion, cons_option}
use Rattle.std.proofs.Common.{ap, sym, ◌∙◌, get_or, arith}
use Rattle.std.proofs.lemmas.Bool.{false≢true, true≢false, and_parts, or_cases, not-true}
use Rattle.std.proofs.lemmas.List.Quantifiers.{position-Some}
use Rattle.std.proofs.lemmas.Map.Keys.{any_passes_from_place}
use Rattle.std.proofs.lemmas.Option.{none-some, get_or_from_slice_get}
use mathlib.Core.Logic.{inl, inr}
use Rattle.cst_core.specs.Path.{Path, same_path, has_path, above, up_to, last_item}
use Rattle.edit_change.specs.Nesting.{region, surroundings, region_at, is_dropped, owner, is_independent}
use Rattle.edit_change.specs.Position.{anchor}
use Rattle.cst_core.specs.SyntaxElement.{element_of}
use Rattle.edit_change.specs.declared.change.Change.{Change}
use Rattle.edit_change.specs.declared.change.Change.TheVariants.{Insert, InsertAll, Replace, ReplaceWithMany, ReplaceAll}
use Rattle.edit_change.proofs.Around.{is_some-position}
use Rattle.edit_change.proofs.Lists.{all-append, all_weaker}
use Rattle.edit_change.proofs.Owners.{owner_cases}
use Rattle.edit_change.proofs.Paths.{same_path-true}
use Rattle.edit_change.proofs.AimsApart.{only_one, IsOwned}

-- ---- a last item
last_cons : {X : Type 0} (x : X) (xs : List X) → is_none (last_item (x ∷ xs)) ≡ false
last_cons x [] = refl
last_cons x (y ∷ ys) = last_cons y ys

pub last_some : (h : Path → Option ℕ) (qs : List Path) (s : Path) → has_path qs s ≡ true → is_none (h s) ≡ false → is_none (last_item (filter_map h qs)) ≡ false
last_some h [] s a n = absurd (false≢true a)
last_some h (q ∷ qs) s a n =
    elim (or_cases (same_path s q) (has_path qs s) a) [
      | inl here ↦ go_here (h q) (ap (λ p. is_none (h p)) (sym (same_path-true s q here)) ∙ n)
      | inr there ↦ go_there (h q) (last_some h qs s there n)
    ]
  where
    go_here : (o : Option ℕ) → is_none o ≡ false → is_none (last_item (cons_option o (filter_map h qs))) ≡ false
    go_here None k = absurd (true≢false k)
    go_here (Some x) k = last_cons x (filter_map h qs)

    go_there : (o : Option ℕ) → is_none (last_item (filter_map h qs)) ≡ false → is_none (last_item (cons_option o (filter_map h qs))) ≡ false
    go_there None k = k
    go_there (Some x) k = last_cons x (filter_map h qs)

-- ---- a region around a change
pub region_at_some : (cs : List Change) (n : ℕ) (r : Change) (s : Path) → slice_get cs n ≡ Some r → has_path (region r) s ≡ true → is_none (region_at cs s) ≡ false
region_at_some cs n r s there h =
    ap not (is_some-position (λ d. has_path (region d) s) cs ∙ any_passes_from_place (λ d. has_path (region d) s) cs n r there h)

pub unowned : (cs : List Change) (c : Change) (n : ℕ) (r : Change) (s : Path) → is_independent cs c ≡ true → slice_get cs n ≡ Some r → has_path (region r) s ≡ true → has_path (surroundings c) s ≡ true → ⊥
unowned cs c n r s free there h around =
    let parts = and_parts (not (is_dropped cs c)) (is_none (owner cs c)) free in
    let owned : is_none (owner cs c) ≡ false = ap (λ b. is_none (cond b None (last_item (filter_map (region_at cs) (surroundings c))))) (not-true (is_dropped cs c) parts.0) ∙ last_some (region_at cs) (surroundings c) s around (region_at_some cs n r s there h) in
    true≢false (sym parts.1 ∙ owned)

-- ---- the last path that is in a region
abbrev pub IsOrdered : List Path → Type 0
IsOrdered [] = Unit {0}
IsOrdered (q ∷ qs) = AllByRecursion (λ r. length q ≤ length r) qs × IsOrdered qs

-- a path at least so long that gives this number
abbrev pub HasDeep : (Path → Option ℕ) → ℕ → ℕ → Type 0
HasDeep h n o = (q : Path) × (h q ≡ Some o) × (n ≤ length q)

last_from : (h : Path → Option ℕ) (n o : ℕ) (qs : List Path) → AllByRecursion (λ r. n ≤ length r) qs → last_item (filter_map h qs) ≡ Some o → HasDeep h n o
last_from h n o [] a e = absurd (none-some o e)
last_from h n o (q ∷ qs) a e = go (λ l. last_from h n o qs a.1 l) (h q) refl (filter_map h qs) refl e
  where
    go : (last_item (filter_map h qs) ≡ Some o → HasDeep h n o) → (x : Option ℕ) → h q ≡ x → (ys : List ℕ) → filter_map h qs ≡ ys → last_item (cons_option x ys) ≡ Some o → HasDeep h n o
    go next None is ys rest l = next (ap last_item rest ∙ l)
    go next (Some y) is [] rest l = (q, is ∙ l, a.0)
    go next (Some y) is (z ∷ zs) rest l = next (ap last_item rest ∙ l)

pub deepest : (h : Path → Option ℕ) (o : ℕ) (qs : List Path) (s : Path) → IsOrdered qs → has_path qs s ≡ true → is_none (h s) ≡ false → last_item (filter_map h qs) ≡ Some o → HasDeep h (length s) o
deepest h o [] s a b n e = absurd (none-some o e)
deepest h o (q ∷ qs) s a b n e =
    elim (or_cases (same_path s q) (has_path qs s) b) [
      | inl here ↦
          let same = ap length (same_path-true s q here) in
          let low : length s ≤ length q = omega (arith, same) in
          last_from h (length s) o (q ∷ qs) (low, all_weaker (λ r. length q ≤ length r) (λ r. length s ≤ length r) qs (λ r l. omega (arith, l, same)) a.0) e
      | inr there ↦ go (λ l. deepest h o qs s a.1 there n l) (h q) (filter_map h qs) refl there e
    ]
  where
    go : (last_item (filter_map h qs) ≡ Some o → HasDeep h (length s) o) → (x : Option ℕ) (ys : List ℕ) → filter_map h qs ≡ ys → has_path qs s ≡ true → last_item (cons_option x ys) ≡ Some o → HasDeep h (length s) o
    go next None ys rest there l = next (ap last_item rest ∙ l)
    go next (Some y) [] rest there l = absurd (true≢false (ap (λ zs. is_none (last_item zs)) (sym rest) ∙ last_some h qs s there n))
    go next (Some y) (z ∷ zs) rest there l = next (ap last_item rest ∙ l)

-- ---- surroundings go from the top down
ordered_map : (i : ℕ) (ps : List Path) → IsOrdered ps → IsOrdered (map (λ q. i ∷ q) ps)
ordered_map i [] a = tt
ordered_map i (p ∷ ps) a = (go ps a.0, ordered_map i ps a.1)
  where
    go : (qs : List Path) → AllByRecursion (λ r. length p ≤ length r) qs → AllByRecursion (λ r. length (i ∷ p) ≤ length r) (map (λ q. i ∷ q) qs)
    go [] b = tt
    go (q ∷ qs) b = (omega (arith, b.0), go qs b.1)

all_long : (ps : List Path) → AllByRecursion (λ r. 0 ≤ length r) ps
all_long [] = tt
all_long (p ∷ ps) = (omega arith, all_long ps)

ordered_above : (p : Path) → IsOrdered (above p)
ordered_above [] = tt
ordered_above (i ∷ p) = (all_long (map (λ q. i ∷ q) (above p)), ordered_map i (above p) (ordered_above p))

shorter_map : (i : ℕ) (p : Path) (qs : List Path) → AllByRecursion (λ q. length q < length p) qs → AllByRecursion (λ q. length q < length (i ∷ p)) (map (λ q. i ∷ q) qs)
shorter_map i p [] a = tt
shorter_map i p (q ∷ qs) a = (omega (arith, a.0), shorter_map i p qs a.1)

shorter_above : (p : Path) → AllByRecursion (λ q. length q < length p) (above p)
shorter_above [] = tt
shorter_above (i ∷ p) = (omega arith, shorter_map i p (above p) (shorter_above p))

ordered_push : (ps : List Path) (p : Path) → IsOrdered ps → AllByRecursion (λ q. length q < length p) ps → IsOrdered (ps ++ p ∷ [])
ordered_push [] p a b = (tt, tt)
ordered_push (q ∷ ps) p a b =
    (all-append (λ r. length q ≤ length r) ps (p ∷ []) a.0 (omega (arith, b.0), tt), ordered_push ps p a.1 b.1)

ordered_up_to : (p : Path) → IsOrdered (up_to p)
ordered_up_to p = ordered_push (above p) p (ordered_above p) (shorter_above p)

pub ordered_surroundings : (c : Change) → IsOrdered (surroundings c)
ordered_surroundings (Insert at e) = ordered_up_to (anchor at).path
ordered_surroundings (InsertAll at es) = ordered_up_to (anchor at).path
ordered_surroundings (Replace t e) = ordered_above (element_of t).path
ordered_surroundings (ReplaceWithMany t es) = ordered_above (element_of t).path
ordered_surroundings (ReplaceAll first last es) = ordered_above (element_of first).path

-- ---- below the owner's target
module _ (cs : List Change) (o : ℕ) (n : Path) (d : Change) (owned : owner cs d ≡ Some o) (is : IsOwned cs o d n) where
  region_at_owner : (q : Path) → region_at cs q ≡ Some o → q ≡ n
  region_at_owner q h =
      let found = (position-Some (λ r. has_path (region r) q) cs o is.by h).1 in
      let same : get_or cs o is.by ≡ is.by = get_or_from_slice_get cs o is.by is.by is.there in
      only_one q n (ap (λ ps. has_path ps q) (sym (ap region same ∙ is.one)) ∙ found)

  pub owned-deepest : (s : Path) → has_path (surroundings d) s ≡ true → length n < length s → (k : ℕ) (r : Change) → slice_get cs k ≡ Some r → has_path (region r) s ≡ true → ⊥
  owned-deepest s around long k r there h =
      let deep = deepest (region_at cs) o (surroundings d) s (ordered_surroundings d) around (region_at_some cs k r s there h) (owner_cases cs d o owned).1 in
      let same = ap length (region_at_owner deep.0 deep.1) in
      omega (arith, deep.2, same, long)
