-- What becomes of a change, from the innermost region around it.
--     region_cases                  what a change replaces is its region, or it has none
--     any-place                     an item that passes a test, by its place
--     region-unique                 the change whose region has a path, where no two share a target
--     dropped-told                  a fate says whether a change is dropped
--     fate-inside                   what is inside the innermost region around it
--     fate-free                     in no region
use Rattle.std.specs.Prelude.{◌≡◌, ◌<◌, ◌≤◌, ◌⊎◌, ℕ, suc, Bool, true, false, ◌&&◌, ◌||◌, not, cond, ⊤, List, [], ◌∷◌, ◌++◌, map, length, filter_map, slice_get, Option, Some, None, All, refl}
use Rattle.std.specs.List.{AllByRecursion, cons_option, list_any}
use Rattle.std.proofs.Common.{ap, ap₂, sym, subst, ◌∙◌, arith, get_or}
use Rattle.std.proofs.lemmas.Bool.{cases_eq, or_cases, or_left, or_right, and_parts, and_from, true_from_ne_false, false_from_ne_true, false≢true}
use Rattle.std.proofs.lemmas.List.{length-append}
use Rattle.std.proofs.lemmas.List.Quantifiers.{position-Some}
use Rattle.std.proofs.lemmas.Map.Keys.{any_passes_from_place}
use Rattle.std.proofs.lemmas.Option.{none-some, same_Some, slice_get-get_or}
use mathlib.Core.Logic.{inl, inr}
use Rattle.cst_core.specs.Path.{Path, same_path, has_path, up_to, last_item}
use Rattle.cst_core.specs.Element.{Element}
use Rattle.cst_core.specs.declared.element.SyntaxElement.TheVariants.{Node, Token}
use Rattle.edit_change.specs.Change.{targets}
use Rattle.edit_change.specs.Fits.{Fits}
use Rattle.edit_change.specs.Nesting.{region, is_keeping, surroundings, is_around, is_dropped, region_at, owner, first_clash}
use Rattle.edit_change.specs.inner.AimFrom.{depth}
use Rattle.edit_change.specs.inner.Fate.{by_owner, is_dropped_in, fate}
use Rattle.edit_change.specs.inner.Open.{replaced, inside}
use Rattle.edit_change.specs.declared.change.Change.{Change}
use Rattle.edit_change.specs.declared.change.Change.TheVariants.{Insert, InsertAll, Replace, ReplaceWithMany, ReplaceAll}
use Rattle.edit_change.specs.declared.fate.Fate.TheVariants.{Independent, Dropped, Owned}
use Rattle.edit_change.proofs.Around.{up_to-cons}
use Rattle.edit_change.proofs.Lists.{all_at}
use Rattle.edit_change.proofs.OpenAims.{stands-at, no-share}
use Rattle.edit_change.proofs.OwnerDepth.{surroundings_are_above, region_is_below}
use Rattle.edit_change.proofs.Paths.{meets, same_path-true, same_path_from}
use Rattle.edit_change.proofs.Positions.{same-test, none-passes}
use Rattle.edit_change.proofs.Regions.{region-in}
use Rattle.edit_change.proofs.Sites.{run, any-sibling, replaced-aim, Stands, First, Behind, Whole, Run}

-- ---- regions
pub region_cases : (c : Change) → (region c ≡ targets c) ⊎ (region c ≡ [])
region_cases (Insert at e) = inl refl
region_cases (InsertAll at es) = inl refl
region_cases (Replace (Node n) e) = inl refl
region_cases (Replace (Token t) e) = inr refl
region_cases (ReplaceWithMany (Node n) es) = inl refl
region_cases (ReplaceWithMany (Token t) es) = inr refl
region_cases (ReplaceAll first last es) = inl refl

in-targets : (c : Change) (p : Path) → has_path (region c) p ≡ true → has_path (targets c) p ≡ true
in-targets c p h =
    true_from_ne_false (has_path (targets c) p) (λ none. false≢true (sym (region-in c p none) ∙ h))

-- a path of two lists
both-have : (ps qs : List Path) → list_any (has_path ps) qs ≡ true → (p : Path) × (has_path ps p ≡ true) × (has_path qs p ≡ true)
both-have ps [] h = absurd (false≢true h)
both-have ps (q ∷ qs) h =
    elim (or_cases (has_path ps q) (list_any (has_path ps) qs) h) [
      | inl here ↦ (q, here, or_left (same_path q q) (has_path qs q) (same_path_from q q refl))
      | inr there ↦ let rest = both-have ps qs there in (rest.0, rest.1, or_right (same_path rest.0 q) (has_path qs rest.0) rest.2)
    ]

all-has : (P : Path → Type 0) (ps : List Path) (p : Path) → AllByRecursion P ps → has_path ps p ≡ true → P p
all-has P [] p all h = absurd (false≢true h)
all-has P (q ∷ ps) p all h =
    elim (or_cases (same_path p q) (has_path ps p) h) [
      | inl here ↦ subst P (sym (same_path-true p q here)) all.0
      | inr there ↦ all-has P ps p all.1 there
    ]

pub any-place : {X : Type 0} (test : X → Bool) (xs : List X) → list_any test xs ≡ true → (i : ℕ) × (x : X) × (slice_get xs i ≡ Some x) × (test x ≡ true)
any-place test [] h = absurd (false≢true h)
any-place test (x ∷ xs) h =
    elim (or_cases (test x) (list_any test xs) h) [
      | inl here ↦ (0, x, refl, here)
      | inr there ↦ let rest = any-place test xs there in (suc rest.0, rest.1, rest.2, rest.3)
    ]

-- ---- the last of some paths, from the top down
abbrev Ascends : List Path → Type 0
Ascends [] = ⊤
Ascends (p ∷ ps) = AllByRecursion (λ q. length p ≤ length q) ps × Ascends ps

longer-below : (i : ℕ) (p : Path) (ps : List Path) → AllByRecursion (λ q. length p ≤ length q) ps → AllByRecursion (λ q. suc (length p) ≤ length q) (map (λ q. i ∷ q) ps)
longer-below i p [] a = tt
longer-below i p (q ∷ ps) a = (omega (arith, a.0), longer-below i p ps a.1)

ascends-below : (i : ℕ) (ps : List Path) → Ascends ps → Ascends (map (λ q. i ∷ q) ps)
ascends-below i [] a = tt
ascends-below i (p ∷ ps) a = (longer-below i p ps a.0, ascends-below i ps a.1)

all-longer : (ps : List Path) → AllByRecursion (λ q. 0 ≤ length q) ps
all-longer [] = tt
all-longer (p ∷ ps) = (omega arith, all-longer ps)

ascends-up_to : (q : Path) → Ascends (up_to q)
ascends-up_to [] = (tt, tt)
ascends-up_to (i ∷ q) =
    subst Ascends (sym (up_to-cons i q)) (all-longer (map (λ p. i ∷ p) (up_to q)), ascends-below i (up_to q) (ascends-up_to q))

all-alike : (n : ℕ) (ns : List ℕ) → AllByRecursion (λ m. m ≡ n) ns → last_item (n ∷ ns) ≡ Some n
all-alike n [] a = refl
all-alike n (m ∷ []) a = ap Some a.0
all-alike n (m ∷ k ∷ ns) a = all-alike n (k ∷ ns) a.1

module _ (at : Path → Option ℕ) (t : Path) (n : ℕ) where
  abbrev IsLast : List Path → Type 0
  IsLast ps = (q : Path) (m : ℕ) → has_path ps q ≡ true → length t ≤ length q → at q ≡ Some m → m ≡ n

  all-last : (ps : List Path) → AllByRecursion (λ q. length t ≤ length q) ps → IsLast ps → AllByRecursion (λ m. m ≡ n) (filter_map at ps)
  all-last [] long last = tt
  all-last (p ∷ ps) long last =
      let rest = all-last ps long.1 (λ q m h l is. last q m (or_right (same_path q p) (has_path ps q) h) l is) in
      go (at p) refl rest
    where
      go : (o : Option ℕ) → at p ≡ o → AllByRecursion (λ m. m ≡ n) (filter_map at ps) → AllByRecursion (λ m. m ≡ n) (cons_option o (filter_map at ps))
      go None is rest = rest
      go (Some m) is rest = (last p m (or_left (same_path p p) (has_path ps p) (same_path_from p p refl)) long.0 is, rest)

  more-last : (o : Option ℕ) (ns : List ℕ) → last_item ns ≡ Some n → last_item (cons_option o ns) ≡ Some n
  more-last None ns h = h
  more-last (Some m) [] h = absurd (none-some n h)
  more-last (Some m) (k ∷ ns) h = h

  last-there : (ps : List Path) → Ascends ps → has_path ps t ≡ true → at t ≡ Some n → IsLast ps → last_item (filter_map at ps) ≡ Some n
  last-there [] up h is last = absurd (false≢true h)
  last-there (p ∷ ps) up h is last =
      let later : IsLast ps = λ q m h l is. last q m (or_right (same_path q p) (has_path ps q) h) l is in
      elim (or_cases (same_path t p) (has_path ps t) h) [
        | inl here ↦
            let same = same_path-true t p here in
            let long : AllByRecursion (λ q. length t ≤ length q) ps = subst (λ u. AllByRecursion (λ q. length u ≤ length q) ps) (sym same) up.0 in
            ap (λ o. last_item (cons_option o (filter_map at ps))) (ap at (sym same) ∙ is) ∙ all-alike n (filter_map at ps) (all-last ps long later)
        | inr there ↦ more-last (at p) (filter_map at ps) (last-there ps up.1 there is later)
      ]

-- ---- fates
pub dropped-told : (cs : List Change) (c : Change) → is_dropped_in (fate cs c) ≡ is_dropped cs c
dropped-told cs c = go (is_dropped cs c) (owner cs c)
  where
    go : (b : Bool) (o : Option ℕ) → is_dropped_in (cond b Dropped (by_owner o)) ≡ b
    go true o = refl
    go false None = refl
    go false (Some d) = refl

pub fate-free : (cs : List Change) (c : Change) → ((n : ℕ) (d : Change) → slice_get cs n ≡ Some d → is_around d c ≡ false) → fate cs c ≡ Independent
fate-free cs c free =
    let kept : is_dropped cs c ≡ false = false_from_ne_true (is_dropped cs c) (λ h.
    let found = any-place (λ d. not (is_keeping d) && is_around d c) cs h in
    false≢true (sym (free found.0 found.1 found.2) ∙ (and_parts (not (is_keeping found.1)) (is_around found.1 c) found.3).1)) in
    ap₂ (λ b o. cond b Dropped (by_owner (cond b None o))) kept (ap last_item (none-there (surroundings c) (λ p h. go p h (region_at cs p) refl)))
  where
    none-there : (ps : List Path) → ((p : Path) → has_path ps p ≡ true → region_at cs p ≡ None) → filter_map (region_at cs) ps ≡ []
    none-there [] none = refl
    none-there (p ∷ ps) none =
        ap (λ o. cons_option o (filter_map (region_at cs) ps)) (none p (or_left (same_path p p) (has_path ps p) (same_path_from p p refl))) ∙ none-there ps (λ q h. none q (or_right (same_path q p) (has_path ps q) h))

    go : (p : Path) → has_path (surroundings c) p ≡ true → (o : Option ℕ) → region_at cs p ≡ o → region_at cs p ≡ None
    go p h None is = is
    go p h (Some m) is =
        let there = position-Some (λ d. has_path (region d) p) cs m c is in
        let d = get_or cs m c in
        absurd (false≢true (sym (free m d (slice_get-get_or cs m c there.0)) ∙ meets (surroundings c) (region d) p h there.1))

module _ (cs : List Change) (root : Element) (fit : All (Fits root) cs) (apart : first_clash cs ≡ None) where
  -- the change whose region has a path
  pub region-unique : (n : ℕ) (r : Change) (p : Path) → slice_get cs n ≡ Some r → has_path (region r) p ≡ true → region_at cs p ≡ Some n
  region-unique n r p is h = go (region_at cs p) refl
    where
      go : (o : Option ℕ) → region_at cs p ≡ o → region_at cs p ≡ Some n
      go None none = absurd (false≢true (sym (all_at (λ d. has_path (region d) p ≡ false) cs n r (none-passes (λ d. has_path (region d) p) cs none) is) ∙ h))
      go (Some m) found =
          let there = position-Some (λ d. has_path (region d) p) cs m r found in
          let d = get_or cs m r in
          elim (cases_eq n m) [
            | inl same ↦ found ∙ ap Some (sym same)
            | inr other ↦ absurd (no-share cs root fit apart n m r d p other is (slice_get-get_or cs m r there.0) (in-targets r p h) (in-targets d p there.1))
          ]

  region-has : (m n : ℕ) (r : Change) (p : Path) → slice_get cs n ≡ Some r → region_at cs p ≡ Some m → (d : Change) × (slice_get cs m ≡ Some d) × (has_path (region d) p ≡ true)
  region-has m n r p is found =
      let there = position-Some (λ d. has_path (region d) p) cs m r found in
      (get_or cs m r, slice_get-get_or cs m r there.0, there.1)

  -- the paths of a region are equally long
  run-length : (p : Path) (f n : ℕ) (q : Path) → has_path (run p f n) q ≡ true → length q ≡ suc (length p)
  run-length p f n q h =
      let found = any-sibling (same_path q) p f n h in
      let e = ap length (same_path-true q (p ++ found.0 ∷ []) found.3) in
      omega (arith, e, length-append p (found.0 ∷ []))

  one-length : (d : Change) → Stands d → (q w : Path) → has_path (targets d) q ≡ true → has_path (targets d) w ≡ true → length q ≡ length w
  one-length d (First v a s) q w h k = absurd (false≢true (ap (λ ps. has_path ps q) (sym (ap replaced a) ∙ replaced-aim d) ∙ h))
  one-length d (Behind v a s) q w h k = absurd (false≢true (ap (λ ps. has_path ps q) (sym (ap replaced a) ∙ replaced-aim d) ∙ h))
  one-length d (Whole a s) q w h k =
      let ts : targets d ≡ [] ∷ [] = sym (replaced-aim d) ∙ ap replaced a in
      let top : (p : Path) → has_path ([] ∷ []) p ≡ true → length p ≡ 0 = λ p l. ap length (same_path-true p [] (only (same_path p []) l)) in
      top q (ap (λ ps. has_path ps q) (sym ts) ∙ h) ∙ sym (top w (ap (λ ps. has_path ps w) (sym ts) ∙ k))
    where
      only : (b : Bool) → (b || false) ≡ true → b ≡ true
      only true h = refl
      only false h = h
  one-length d (Run p f n a s) q w h k =
      let ts : targets d ≡ run p f (suc n) = sym (replaced-aim d) ∙ ap replaced a in
      run-length p f (suc n) q (ap (λ ps. has_path ps q) (sym ts) ∙ h) ∙ sym (run-length p f (suc n) w (ap (λ ps. has_path ps w) (sym ts) ∙ k))

  ascends-around : (c : Change) → Stands c → Ascends (surroundings c)
  ascends-around c (First q a s) = subst Ascends (sym s) (ascends-up_to q)
  ascends-around c (Behind q a s) = subst Ascends (sym s) (ascends-up_to q)
  ascends-around c (Whole a s) = subst Ascends (sym s) tt
  ascends-around c (Run q f k a s) = subst Ascends (sym s) (ascends-up_to q)

  module _ (m n : ℕ) (c r : Change) (is_c : slice_get cs m ≡ Some c) (is_r : slice_get cs n ≡ Some r) (around : is_around r c ≡ true) (others : (k : ℕ) (d : Change) → slice_get cs k ≡ Some d → is_around d c ≡ true → (k ≡ n) ⊎ (is_around d r ≡ true)) (through : (k : ℕ) (d : Change) → slice_get cs k ≡ Some d → is_around d r ≡ true → is_around d c ≡ true) where
    dropped-inside : is_keeping r ≡ true → is_dropped cs c ≡ is_dropped cs r
    dropped-inside keeps =
        same-test (is_dropped cs c) (is_dropped cs r) (λ h.
        let found = any-place (λ d. not (is_keeping d) && is_around d c) cs h in
        let both = and_parts (not (is_keeping found.1)) (is_around found.1 c) found.3 in
        elim (others found.0 found.1 found.2 both.1) [
          | inl same ↦
              let alike : found.1 ≡ r = same_Some found.1 r (sym found.2 ∙ ap (slice_get cs) same ∙ is_r) in
              absurd (false≢true (sym (ap (λ d. not (is_keeping d)) alike ∙ ap not keeps) ∙ both.0))
          | inr inner ↦ any_passes_from_place (λ d. not (is_keeping d) && is_around d r) cs found.0 found.1 found.2 (and_from (not (is_keeping found.1)) (is_around found.1 r) both.0 inner)
        ]) (λ h.
        let found = any-place (λ d. not (is_keeping d) && is_around d r) cs h in
        let both = and_parts (not (is_keeping found.1)) (is_around found.1 r) found.3 in
        any_passes_from_place (λ d. not (is_keeping d) && is_around d c) cs found.0 found.1 found.2 (and_from (not (is_keeping found.1)) (is_around found.1 c) both.0 (through found.0 found.1 found.2 both.1)))

    dropped-by : is_keeping r ≡ false → is_dropped cs c ≡ true
    dropped-by drops =
        any_passes_from_place (λ d. not (is_keeping d) && is_around d c) cs n r is_r (and_from (not (is_keeping r)) (is_around r c) (ap not drops) around)

    owned-by : last_item (filter_map (region_at cs) (surroundings c)) ≡ Some n
    owned-by =
        let t = both-have (surroundings c) (region r) around in
        let deep = region_is_below r t.0 t.2 in
        last-there (region_at cs) t.0 n (surroundings c) (ascends-around c (stands-at cs root fit apart m c is_c)) t.1 (region-unique n r t.0 is_r t.2) (λ q k h l found.
        let d = region-has k n r q is_r found in
        elim (others k d.0 d.1 (meets (surroundings c) (region d.0) q h d.2)) [
          | inl same ↦ same
          | inr inner ↦
              let w = both-have (surroundings r) (region d.0) inner in
              let short = all-has (λ p. length p < depth r) (surroundings r) w.0 (surroundings_are_above r) w.1 in
              let e = one-length d.0 (stands-at cs root fit apart k d.0 d.1) q w.0 (in-targets d.0 q d.2) (in-targets d.0 w.0 w.2) in
              absurd (omega (arith, short, deep, l, e))
        ])

    pub fate-inside : fate cs c ≡ inside r n (fate cs r)
    fate-inside = go (is_keeping r) refl
      where
        both : (b : Bool) → cond b Dropped (by_owner (cond b None (Some n))) ≡ cond b Dropped (Owned n)
        both true = refl
        both false = refl

        go : (b : Bool) → is_keeping r ≡ b → fate cs c ≡ inside r n (fate cs r)
        go true keeps =
            ap₂ (λ b o. cond b Dropped (by_owner (cond b None o))) (dropped-inside keeps) owned-by ∙ both (is_dropped cs r) ∙ ap (λ b. cond b Dropped (Owned n)) (sym (dropped-told cs r)) ∙ sym (ap (λ b. cond b (cond (is_dropped_in (fate cs r)) Dropped (Owned n)) Dropped) keeps)
        go false drops =
            ap (λ b. cond b Dropped (by_owner (owner cs c))) (dropped-by drops) ∙ sym (ap (λ b. cond b (cond (is_dropped_in (fate cs r)) Dropped (Owned n)) Dropped) drops)
