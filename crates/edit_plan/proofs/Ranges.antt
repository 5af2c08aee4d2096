-- The siblings that a change replaces, and that no other change does.
--     Free, FreeAim, frees          a change without an owner, by its number and as an aim; all of them
--     any-of, none-of               an item that passes a test; no item does
--     has-range, range-has          the paths of a range of siblings
--     Run, run-of                   a change replaces these siblings
--     one-number, one-change        two changes that replace one element are one
--     aim-over, replaced-target     where a replacement aims
--     run-starts, starts-run        it starts at the first of its siblings, and nowhere else
--     alone-at                      it alone starts there
--     replaced-by                   what it replaces is replaced
--     dropped-inside                an insert after a sibling that a range replaces is dropped
use Rattle.std.specs.Prelude.{◌≡◌, ℕ, zero, suc, ◌+◌, ◌-◌, ◌<◌, ◌≤◌, ◌==◌, ◌&&◌, ◌||◌, not, Bool, true, false, cond, List, [], ◌∷◌, ◌++◌, map, filter, length, slice_get, Option, Some, None, IsSome, is_none, nat_le, refl}
use Rattle.std.specs.List.{AllByRecursion, list_any, enumerate_from}
use Rattle.std.proofs.Common.{ap, ap₂, sym, subst, ◌∙◌, arith}
use Rattle.std.proofs.lemmas.Bool.{cases_Bool, and_parts, or_left, or_right, true≢false, false≢true}
use Rattle.std.proofs.lemmas.Option.{none-some, same_Some}
use mathlib.Core.Logic.{◌⊎◌, inl, inr}
use Rattle.cst_core.specs.Path.{Path, same_path, has_path, parent_path, last_slot, counted_from}
use Rattle.std.specs.Option.{option_map_or}
use Rattle.cst_core.specs.Tree.{SyntaxTree, at, is_token}
use Rattle.cst_core.specs.declared.element.SyntaxElement.TheVariants as element
use Rattle.cst_core.specs.Element.{Element}
use Rattle.cst_core.specs.SyntaxElement.{element_of}
use Rattle.cst_core.specs.declared.element.SyntaxElement.{SyntaxElement}
use Rattle.cst_core.proofs.LastSlot.{parent_path-push, last_slot-push}
use Rattle.edit_change.specs.Aim.{Over, starts_at, replaces}
use Rattle.edit_change.specs.Rewriting.{NumberedAim, numbers, replacements_at, is_replaced}
use Rattle.edit_change.specs.Change.{targets}
use Rattle.edit_change.specs.ChangeAim.{aim, aim_path}
use Rattle.edit_change.specs.Fits.{Fits, is_native, is_root, have_one_path, are_siblings, is_range}
use Rattle.edit_change.specs.Nesting.{region, is_keeping, is_around, is_dropped, surroundings, first_clash, is_independent, owner}
use Rattle.edit_change.specs.NewTree.{change_aims, independents}
use Rattle.edit_change.specs.PositionForm.{FirstChild, After}
use Rattle.edit_change.specs.declared.change.Change.{Change}
use Rattle.edit_change.specs.declared.change.Change.TheVariants.{Insert, InsertAll, Replace, ReplaceWithMany, ReplaceAll}
use Rattle.edit_change.proofs.Lists.{all_filter, all_weaker, all_enumerated}
use Rattle.edit_change.proofs.Paths.{same_path-true, same_path_from, meets}
use Rattle.edit_change.proofs.AimsApart.{starts, start_in_targets}
use Rattle.edit_change.proofs.RootAlone.{unclashed}
use Rattle.edit_change.proofs.Aiming.{range-has-parent}
use Rattle.edit_steps.proofs.Altered.{target_native, many_native}

-- ---- lists
pub any-of : {X : Type 0} (P : X → Type 0) (test : X → Bool) (xs : List X) → AllByRecursion P xs → list_any test xs ≡ true → (x : X) × P x × (test x ≡ true)
any-of P test [] a h = absurd (false≢true h)
any-of P test (x ∷ xs) a h =
    elim (cases_Bool (test x)) [
      | inl is ↦ (x, a.0, is)
      | inr is ↦ any-of P test xs a.1 (ap (λ b. b || list_any test xs) (sym is) ∙ h)
    ]

pub none-of : {X : Type 0} (P : X → Type 0) (test : X → Bool) (xs : List X) → AllByRecursion P xs → ((x : X) → P x → test x ≡ true → ⊥) → filter test xs ≡ []
none-of P test [] a h = refl
none-of P test (x ∷ xs) a h =
    elim (cases_Bool (test x)) [
      | inl is ↦ absurd (h x a.0 is)
      | inr is ↦ ap (λ b. cond b (x ∷ filter test xs) (filter test xs)) is ∙ none-of P test xs a.1 h
    ]

any-at : {X : Type 0} (test : X → Bool) (xs : List X) (i : ℕ) (x : X) → slice_get xs i ≡ Some x → test x ≡ true → list_any test xs ≡ true
any-at test [] i x h t = absurd (none-some x h)
any-at test (y ∷ xs) zero x h t = or_left (test y) (list_any test xs) (ap test (same_Some y x h) ∙ t)
any-at test (y ∷ xs) (suc i) x h t = or_right (test y) (list_any test xs) (any-at test xs i x h t)

-- ---- ranges of siblings
abbrev pub side_by_side : Path → ℕ → ℕ → List Path
side_by_side p s n = map (λ j. p ++ j ∷ []) (counted_from s n)

pub has-range : (r p : Path) (s n i : ℕ) → has_path (side_by_side r s n) (p ++ i ∷ []) ≡ true → (r ≡ p) × (s ≤ i) × (i < s + n)
has-range r p s zero i h = absurd (false≢true h)
has-range r p s (suc n) i h =
    elim (cases_Bool (same_path (p ++ i ∷ []) (r ++ s ∷ []))) [
      | inl is ↦
          let same : p ++ i ∷ [] ≡ r ++ s ∷ [] = same_path-true (p ++ i ∷ []) (r ++ s ∷ []) is in
          let above : p ≡ r = sym (parent_path-push p i) ∙ ap parent_path same ∙ parent_path-push r s in
          let here : i ≡ s = sym (last_slot-push p i) ∙ ap last_slot same ∙ last_slot-push r s in
          (sym above, omega (arith, here), omega (arith, here))
      | inr is ↦
          let rest = has-range r p (suc s) n i (ap (λ b. b || has_path (side_by_side r (suc s) n) (p ++ i ∷ [])) (sym is) ∙ h) in
          (rest.0, omega (arith, rest.1), omega (arith, rest.2))
    ]

range-from : (r : Path) (s n d : ℕ) → d < n → has_path (side_by_side r s n) (r ++ (s + d) ∷ []) ≡ true
range-from r s zero d l = absurd (omega (arith, l))
range-from r s (suc n) zero l =
    let same : s + 0 ≡ s = omega arith in
    or_left (same_path (r ++ (s + 0) ∷ []) (r ++ s ∷ [])) (has_path (side_by_side r (suc s) n) (r ++ (s + 0) ∷ [])) (same_path_from (r ++ (s + 0) ∷ []) (r ++ s ∷ []) (ap (λ k. r ++ k ∷ []) same))
range-from r s (suc n) (suc d) l =
    let same : suc s + d ≡ s + suc d = omega arith in
    or_right (same_path (r ++ (s + suc d) ∷ []) (r ++ s ∷ [])) (has_path (side_by_side r (suc s) n) (r ++ (s + suc d) ∷ [])) (subst (λ k. has_path (side_by_side r (suc s) n) (r ++ k ∷ []) ≡ true) same (range-from r (suc s) n d (omega (arith, l))))

pub range-has : (r : Path) (s n i : ℕ) → s ≤ i → i < s + n → has_path (side_by_side r s n) (r ++ i ∷ []) ≡ true
range-has r s n i l m =
    let same : s + (i - s) ≡ i = omega (arith, l) in
    subst (λ k. has_path (side_by_side r s n) (r ++ k ∷ []) ≡ true) same (range-from r s n (i - s) (omega (arith, l, m)))

pub only-path : (p q : Path) → has_path (p ∷ []) q ≡ true → q ≡ p
only-path p q h =
    elim (cases_Bool (same_path q p)) [
      | inl is ↦ same_path-true q p is
      | inr is ↦ absurd (false≢true (sym (ap (λ b. b || false) is) ∙ h))
    ]

pub parent-and-slot : (p : Path) → (p ≡ [] → ⊥) → p ≡ parent_path p ++ last_slot p ∷ []
parent-and-slot [] h = absurd (h refl)
parent-and-slot (i ∷ []) h = refl
parent-and-slot (i ∷ j ∷ p) h = ap (λ q. i ∷ q) (parent-and-slot (j ∷ p) (λ e. let l : suc (length p) ≡ 0 = ap length e in omega (arith, l)))

-- ---- what a change replaces
some-there : (o : Option SyntaxTree) (f : SyntaxTree → Bool) → option_map_or f o false ≡ true → IsSome o
some-there None f h = absurd (false≢true h)
some-there (Some t) f h = refl

module _ (root : Element) where
  pub native_some : (e : SyntaxElement) → is_native root e ≡ true → IsSome (at root.root (element_of e).path)
  native_some (element.Node n) h = some-there (at root.root n.path) (λ t. not (is_token t)) (and_parts (n.number == root.number) _ h).1
  native_some (element.Token t) h = some-there (at root.root t.path) is_token (and_parts (t.number == root.number) _ h).1

  pub record Run (c : Change) (p : Path) : Type 0 where
    pub first : ℕ
    pub more : ℕ
    pub targets_are : targets c ≡ side_by_side p first (suc more)
    pub path_is : aim_path c ≡ p ++ first ∷ []
    pub last_there : IsSome (at root.root (p ++ (first + more) ∷ []))
    pub many : (more ≡ 0) ⊎ ((region c ≡ targets c) × (is_keeping c ≡ false))

  one-run : (c : Change) (t : SyntaxElement) (p : Path) (i : ℕ) → targets c ≡ (element_of t).path ∷ [] → aim_path c ≡ (element_of t).path → is_native root t ≡ true → p ++ i ∷ [] ≡ (element_of t).path → Run c p
  one-run c t p i only own native same =
      let here : i + 0 ≡ i = omega arith in
      record {
        first = i;
        more = 0;
        targets_are = only ∙ ap (λ q. q ∷ []) (sym same);
        path_is = own ∙ sym same;
        last_there = subst (λ q. IsSome (at root.root q)) (sym same ∙ ap (λ k. p ++ k ∷ []) (sym here)) (native_some t native);
        many = inl refl;
      }

  not-root : (e : SyntaxElement) → not (is_root e) ≡ true → (element_of e).path ≡ [] → ⊥
  not-root e h is = false≢true (sym (ap (λ p. not (same_path p [])) is) ∙ h)

  last-of-range : (first last : SyntaxElement) (es : List SyntaxElement) → Fits root (ReplaceAll first last es) → (is_native root last ≡ true) × ((element_of last).path ≡ parent_path (element_of first).path ++ last_slot (element_of last).path ∷ [])
  last-of-range first last es h =
      let whole = and_parts (is_native root first && is_native root last && is_range first last) (not (have_one_path first last)) h in
      let range = and_parts (is_native root first && is_native root last) (is_range first last) whole.0 in
      let differ : have_one_path first last ≡ false = not-true (have_one_path first last) whole.1 in
      let side = ap (λ b. b || (are_siblings first last && nat_le (last_slot (element_of first).path) (last_slot (element_of last).path))) (sym differ) ∙ range.1 in
      let siblings = (and_parts (are_siblings first last) _ side).0 in
      let ends = and_parts (not (is_root first) && not (is_root last)) (same_path (parent_path (element_of first).path) (parent_path (element_of last).path)) siblings in
      let below = (and_parts (not (is_root first)) (not (is_root last)) ends.0).1 in
      let parents = same_path-true (parent_path (element_of first).path) (parent_path (element_of last).path) ends.1 in
      ((and_parts (is_native root first) (is_native root last) range.0).1, parent-and-slot (element_of last).path (not-root last below) ∙ ap (λ q. q ++ last_slot (element_of last).path ∷ []) (sym parents))
    where
      not-true : (b : Bool) → not b ≡ true → b ≡ false
      not-true true h = absurd (false≢true h)
      not-true false h = refl

  range-run : (first last : SyntaxElement) (es : List SyntaxElement) (p : Path) (i : ℕ) → Fits root (ReplaceAll first last es) → ((element_of first).path ≡ [] → ⊥) → has_path (targets (ReplaceAll first last es)) (p ++ i ∷ []) ≡ true → Run (ReplaceAll first last es) p
  range-run first last es p i fit below h =
      let s = last_slot (element_of first).path in
      let l = last_slot (element_of last).path in
      let inside = has-range (parent_path (element_of first).path) p s (suc l - s) i h in
      let count : suc l - s ≡ suc (l - s) = omega (arith, inside.1, inside.2) in
      let last_slot_is : l ≡ s + (l - s) = omega (arith, inside.1, inside.2) in
      let end = last-of-range first last es fit in
      record {
        first = s;
        more = l - s;
        targets_are = ap₂ (λ q n. side_by_side q s n) inside.0 count;
        path_is = parent-and-slot (element_of first).path below ∙ ap (λ q. q ++ s ∷ []) inside.0;
        last_there = subst (λ q. IsSome (at root.root q)) (end.1 ∙ ap₂ (λ q k. q ++ k ∷ []) inside.0 last_slot_is) (native_some last end.0);
        many = inr (refl, refl);
      }

  pub run-of : (c : Change) (p : Path) (i : ℕ) → Fits root c → has_path (targets c) (p ++ i ∷ []) ≡ true → Run c p
  run-of (Insert at e) p i fit h = absurd (false≢true h)
  run-of (InsertAll at es) p i fit h = absurd (false≢true h)
  run-of (Replace t e) p i fit h = one-run (Replace t e) t p i refl refl (target_native root t e fit) (only-path (element_of t).path (p ++ i ∷ []) h)
  run-of (ReplaceWithMany t es) p i fit h = one-run (ReplaceWithMany t es) t p i refl refl (many_native root t es fit) (only-path (element_of t).path (p ++ i ∷ []) h)
  run-of (ReplaceAll first last es) p i fit h = range-run first last es p i fit (range-has-parent root first last es fit) h

-- ---- where it aims
pub aim-over : (c : Change) (q : Path) → has_path (targets c) q ≡ true → aim c ≡ Over (targets c)
aim-over (Insert at e) q h = absurd (false≢true h)
aim-over (InsertAll at es) q h = absurd (false≢true h)
aim-over (Replace t e) q h = refl
aim-over (ReplaceWithMany t es) q h = refl
aim-over (ReplaceAll first last es) q h = refl

pub replaced-target : (c : Change) (q : Path) → replaces q (aim c) ≡ true → has_path (targets c) q ≡ true
replaced-target (Insert (FirstChild n) e) q h = absurd (false≢true h)
replaced-target (Insert (After x) e) q h = absurd (false≢true h)
replaced-target (InsertAll (FirstChild n) es) q h = absurd (false≢true h)
replaced-target (InsertAll (After x) es) q h = absurd (false≢true h)
replaced-target (Replace t e) q h = h
replaced-target (ReplaceWithMany t es) q h = h
replaced-target (ReplaceAll first last es) q h = h

pub run-starts : (root : Element) (c : Change) (p : Path) (r : Run root c p) → starts_at (p ++ r.first ∷ []) (aim c) ≡ true
run-starts root c p r =
    let here : has_path (targets c) (p ++ r.first ∷ []) ≡ true = ap (λ qs. has_path qs (p ++ r.first ∷ [])) r.targets_are ∙ range-has p r.first (suc r.more) r.first (omega arith) (omega arith) in
    ap (starts_at (p ++ r.first ∷ [])) (aim-over c (p ++ r.first ∷ []) here ∙ ap Over r.targets_are) ∙ same_path_from (p ++ r.first ∷ []) (p ++ r.first ∷ []) refl

pub starts-run : (root : Element) (c : Change) (p : Path) (i : ℕ) (r : Run root c p) → starts_at (p ++ i ∷ []) (aim c) ≡ true → i ≡ r.first
starts-run root c p i r h =
    let here : has_path (targets c) (p ++ r.first ∷ []) ≡ true = ap (λ qs. has_path qs (p ++ r.first ∷ [])) r.targets_are ∙ range-has p r.first (suc r.more) r.first (omega arith) (omega arith) in
    let same = same_path-true (p ++ i ∷ []) (p ++ r.first ∷ []) (sym (ap (starts_at (p ++ i ∷ [])) (aim-over c (p ++ r.first ∷ []) here ∙ ap Over r.targets_are)) ∙ h) in
    sym (last_slot-push p i) ∙ ap last_slot same ∙ last_slot-push p r.first

replaces-target : (c : Change) (q : Path) → has_path (targets c) q ≡ true → replaces q (aim c) ≡ true
replaces-target c q h = ap (replaces q) (aim-over c q h) ∙ h

-- ---- changes of a plan
module _ (cs : List Change) where
  abbrev pub Free : ℕ → Change → Type 0
  Free n c = (slice_get cs n ≡ Some c) × (is_independent cs c ≡ true)

  abbrev pub FreeAim : NumberedAim → Type 0
  FreeAim a = (c : Change) × Free a.0 c × (a.1 ≡ aim c)

  frees-of : (ds : List (ℕ × Change)) → AllByRecursion (λ d. (slice_get cs d.0 ≡ Some d.1) × (is_independent cs d.1 ≡ true)) ds → AllByRecursion FreeAim (change_aims ds)
  frees-of [] a = tt
  frees-of (d ∷ ds) a = ((d.1, (a.0.0, a.0.1), refl), frees-of ds a.1)

  pub frees : AllByRecursion FreeAim (independents cs)
  frees = frees-of _ (all_filter (λ d. slice_get cs d.0 ≡ Some d.1) (λ d. is_independent cs d.1) (enumerate_from 0 cs) (all_enumerated cs))

  listed : (test : NumberedAim → Bool) (k i : ℕ) (xs : List Change) (c : Change) → slice_get xs i ≡ Some c → is_independent cs c ≡ true → test (k + i, aim c) ≡ true → list_any test (change_aims (filter (λ d. is_independent cs d.1) (enumerate_from k xs))) ≡ true
  listed test k i [] c at_i free t = absurd (none-some c at_i)
  listed test k zero (y ∷ xs) c at_i free t =
      let same : y ≡ c = same_Some y c at_i in
      let here : k + 0 ≡ k = omega arith in
      let rest = filter (λ d. is_independent cs d.1) (enumerate_from (k + 1) xs) in
      ap (λ b. list_any test (change_aims (cond b ((k, y) ∷ rest) rest))) (ap (is_independent cs) same ∙ free) ∙ or_left (test (k, aim y)) (list_any test (change_aims rest)) (ap₂ (λ n d. test (n, aim d)) (sym here) same ∙ t)
  listed test k (suc i) (y ∷ xs) c at_i free t =
      let next : k + suc i ≡ k + 1 + i = omega arith in
      let rest = filter (λ d. is_independent cs d.1) (enumerate_from (k + 1) xs) in
      let later = listed test (k + 1) i xs c at_i free (ap (λ n. test (n, aim c)) (sym next) ∙ t) in
      elim (is_independent cs y) as (λ b. list_any test (change_aims (cond b ((k, y) ∷ rest) rest)) ≡ true) [
        | true ↦ or_right (test (k, aim y)) (list_any test (change_aims rest)) later
        | false ↦ later
      ]

  pub replaced-by : (n : ℕ) (c : Change) (q : Path) → Free n c → has_path (targets c) q ≡ true → is_replaced (independents cs) q ≡ true
  replaced-by n c q free h = listed (λ a. replaces q a.1) 0 n cs c free.0 free.1 (replaces-target c q h)

  module _ (apart : first_clash cs ≡ None) where
    pub one-number : (n m : ℕ) (c d : Change) (q : Path) → slice_get cs n ≡ Some c → slice_get cs m ≡ Some d → has_path (targets c) q ≡ true → has_path (targets d) q ≡ true → n ≡ m
    one-number n m c d q at_n at_m h k =
        let before : n < m → ⊥ = λ less. true≢false (sym (meets (targets c) (targets d) q h k) ∙ unclashed cs n m c d apart less at_n at_m) in
        let after : m < n → ⊥ = λ less. true≢false (sym (meets (targets d) (targets c) q k h) ∙ unclashed cs m n d c apart less at_m at_n) in
        omega (arith, before, after)

    pub one-change : (n m : ℕ) (c d : Change) (q : Path) → slice_get cs n ≡ Some c → slice_get cs m ≡ Some d → has_path (targets c) q ≡ true → has_path (targets d) q ≡ true → c ≡ d
    one-change n m c d q at_n at_m h k =
        same_Some c d (sym at_n ∙ ap (slice_get cs) (one-number n m c d q at_n at_m h k) ∙ at_m)

    -- ---- the only one that starts at a path
    abbrev starting : Path → ℕ × Change → Bool
    starting q d = is_independent cs d.1 && starts_at q (aim d.1)

    numbered-starts : (q : Path) (p : ℕ × Change → Bool) (xs : List (ℕ × Change)) → replacements_at (change_aims (filter p xs)) q ≡ map (λ d. d.0) (filter (λ d. p d && starts_at q (aim d.1)) xs)
    numbered-starts q p [] = refl
    numbered-starts q p (d ∷ xs) =
        let rest = filter (λ d. p d && starts_at q (aim d.1)) xs in
        elim (p d) as (λ b. replacements_at (change_aims (cond b (d ∷ filter p xs) (filter p xs))) q ≡ map (λ d. d.0) (cond (b && starts_at q (aim d.1)) (d ∷ rest) rest)) [
          | true ↦
              (elim (starts_at q (aim d.1)) as (λ s. numbers (cond s ((d.0, aim d.1) ∷ filter (λ c. starts_at q c.1) (change_aims (filter p xs))) (filter (λ c. starts_at q c.1) (change_aims (filter p xs)))) ≡ map (λ d. d.0) (cond s (d ∷ rest) rest)) [
                | true ↦ ap (λ ns. d.0 ∷ ns) (numbered-starts q p xs)
                | false ↦ numbered-starts q p xs
              ])
          | false ↦ numbered-starts q p xs
        ]

    none-later : (test : ℕ × Change → Bool) (n k : ℕ) (xs : List Change) → n < k → AllByRecursion (λ d. test d ≡ true → d.0 ≡ n) (enumerate_from k xs) → filter test (enumerate_from k xs) ≡ []
    none-later test n k [] l h = refl
    none-later test n k (x ∷ xs) l h =
        let rest = filter test (enumerate_from (k + 1) xs) in
        elim (cases_Bool (test (k, x))) [
          | inl is ↦ let same : k ≡ n = h.0 is in absurd (omega (arith, l, same))
          | inr is ↦ ap (λ b. cond b ((k, x) ∷ rest) rest) is ∙ none-later test n (k + 1) xs (omega (arith, l)) h.1
        ]

    only-one : (test : ℕ × Change → Bool) (n k i : ℕ) (xs : List Change) (x : Change) → k + i ≡ n → slice_get xs i ≡ Some x → test (n, x) ≡ true → AllByRecursion (λ d. test d ≡ true → d.0 ≡ n) (enumerate_from k xs) → map (λ d. d.0) (filter test (enumerate_from k xs)) ≡ n ∷ []
    only-one test n k i [] x e at_i passes h = absurd (none-some x at_i)
    only-one test n k zero (y ∷ xs) x e at_i passes h =
        let here : k ≡ n = omega (arith, e) in
        let rest = filter test (enumerate_from (k + 1) xs) in
        let pass : test (k, y) ≡ true = ap₂ (λ a b. test (a, b)) here (same_Some y x at_i) ∙ passes in
        ap (λ b. map (λ d. d.0) (cond b ((k, y) ∷ rest) rest)) pass ∙ ap₂ (λ a ds. a ∷ map (λ d. d.0) ds) here (none-later test n (k + 1) xs (omega (arith, here)) h.1)
    only-one test n k (suc i) (y ∷ xs) x e at_i passes h =
        let rest = filter test (enumerate_from (k + 1) xs) in
        elim (cases_Bool (test (k, y))) [
          | inl is ↦ let same : k ≡ n = h.0 is in absurd (omega (arith, e, same))
          | inr is ↦ ap (λ b. map (λ d. d.0) (cond b ((k, y) ∷ rest) rest)) is ∙ only-one test n (k + 1) i xs x (omega (arith, e)) at_i passes h.1
        ]

    pub alone-at : (q : Path) (n : ℕ) (c : Change) → Free n c → starts_at q (aim c) ≡ true → replacements_at (independents cs) q ≡ n ∷ []
    alone-at q n c free start =
        let passes : starting q (n, c) ≡ true = ap₂ (λ a b. a && b) free.1 start in
        let own = start_in_targets c q (starts (aim c) q start) in
        numbered-starts q (λ d. is_independent cs d.1) (enumerate_from 0 cs) ∙ only-one (starting q) n 0 n cs c (omega arith) free.0 passes (all_weaker (λ d. slice_get cs d.0 ≡ Some d.1) (λ d. starting q d ≡ true → d.0 ≡ n) (enumerate_from 0 cs) (λ d at_d pass. one-number d.0 n d.1 c q at_d free.0 (start_in_targets d.1 q (starts (aim d.1) q (and_parts (is_independent cs d.1) (starts_at q (aim d.1)) pass).1)) own) (all_enumerated cs))

  -- ---- an insert inside a range
  pub dropped-inside : (n : ℕ) (c d : Change) (q : Path) → slice_get cs n ≡ Some c → region c ≡ targets c → is_keeping c ≡ false → has_path (targets c) q ≡ true → has_path (surroundings d) q ≡ true → is_independent cs d ≡ true → ⊥
  dropped-inside n c d q at_n whole drops own around free =
      let near : is_around c d ≡ true = ap (λ ps. list_any (has_path (surroundings d)) ps) whole ∙ meets (surroundings d) (targets c) q around own in
      let gone : is_dropped cs d ≡ true = any-at (λ r. not (is_keeping r) && is_around r d) cs n c at_n (ap₂ (λ a b. not a && b) drops near) in
      false≢true (sym (ap (λ b. not b && is_none (owner cs d)) gone) ∙ free)
