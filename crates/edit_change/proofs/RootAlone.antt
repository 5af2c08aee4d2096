-- Where nothing clashes: no two changes share a target, and a change that replaces the root is alone there.
--     found-at, none-passes         where a search ends
--     unclashed                     no two changes share a target
--     AtRoot, at-root, free-at-root      a change that replaces the root lies in nothing
--     some-starts                   where something is put, something is replaced
--     root-alone                    a change that replaces the root is independent, and the only one there
use Rattle.std.specs.Prelude.{◌≡◌, ℕ, zero, suc, ◌+◌, ◌<◌, ◌≤◌, Bool, true, false, ◌&&◌, not, cond, nat_eq, List, [], ◌∷◌, map, flat_map, filter, filter_map, find, length, slice_get, is_none, Option, Some, None, refl}
use Rattle.std.specs.List.{AllByRecursion, list_any, enumerate_from}
use Rattle.std.specs.Option.{option_or}
use Rattle.std.proofs.Common.{ap, ap₂, sym, ◌∙◌, arith}
use Rattle.std.proofs.lemmas.Bool.{cases_Bool, and_parts, or_left, or_right, or_from, eqb-true, eqb-false, false≢true, true≢false}
use Rattle.std.proofs.lemmas.List.Folds.{find-append}
use Rattle.std.proofs.lemmas.Option.{none-some, same_Some, slice_get_within}
use mathlib.Core.Logic.{inl, inr}
use Rattle.cst_core.specs.Path.{Path, same_path, has_path, above, last_item, counted_from}
use Rattle.cst_core.specs.Tree.{at}
use Rattle.cst_core.specs.declared.element.SyntaxElement.TheVariants as form
use Rattle.edit_change.specs.Aim.{Aim, FirstIn, AfterElement, Over, starts_at, replaces}
use Rattle.edit_change.specs.Rewriting.{NumberedAim, numbers, replacements_at, is_replaced}
use Rattle.edit_change.specs.ChangeAim.{aim}
use Rattle.edit_change.specs.Change.{targets, shared_targets}
use Rattle.edit_change.specs.Nesting.{pairs_with, first_clash, is_keeping, region, region_at, surroundings, is_around, is_dropped, owner, is_independent}
use Rattle.edit_change.specs.NewTree.{change_aims, independents}
use Rattle.edit_change.specs.declared.change.Change.{Change}
use Rattle.edit_change.specs.declared.change.Change.TheVariants.{Insert, InsertAll, Replace, ReplaceWithMany, ReplaceAll}
use Rattle.edit_change.proofs.Paths.{meets}
use Rattle.edit_change.proofs.RootTargets.{no-root-range}
use Rattle.edit_change.proofs.AimsApart.{starts, start_in_targets}
use Rattle.edit_change.proofs.Clashes.{clash, clashes-at}
use Rattle.edit_change.proofs.Lists.{all_weaker, all_enumerated}

-- ---- where a search finds nothing
parts-none : {X : Type 0} (a b : Option X) → option_or a b ≡ None → (a ≡ None) × (b ≡ None)
parts-none None b h = (refl, h)
parts-none (Some x) b h = absurd (none-some x (sym h))

module _ {X : Type 0} (test : X → Bool) where
  none-in-each : (g : ℕ → List X) (a n j : ℕ) → a ≤ j → j < a + n → find test (flat_map g (counted_from a n)) ≡ None → find test (g j) ≡ None
  none-in-each g a zero j l m h = absurd (omega (arith, l, m))
  none-in-each g a (suc n) j l m h =
      let both = parts-none (find test (g a)) (find test (flat_map g (counted_from (suc a) n))) (sym (find-append test (g a) (flat_map g (counted_from (suc a) n))) ∙ h) in
      elim (cases_Bool (nat_eq j a)) [
        | inl here ↦ ap (λ k. find test (g k)) (eqb-true j a here) ∙ both.0
        | inr there ↦ let differ : j ≡ a → ⊥ = eqb-false j a there in none-in-each g (suc a) n j (omega (arith, l, differ)) (omega (arith, m)) both.1
      ]

  none-of-map : (f : ℕ → X) (a n i : ℕ) → a ≤ i → i < a + n → find test (map f (counted_from a n)) ≡ None → test (f i) ≡ false
  none-of-map f a n i l m h = go (test (f i)) refl (none-in-each (λ k. f k ∷ []) a n i l m (ap (find test) (sym (as-map (counted_from a n))) ∙ h))
    where
      as-map : (ks : List ℕ) → map f ks ≡ flat_map (λ k. f k ∷ []) ks
      as-map [] = refl
      as-map (k ∷ ks) = ap (λ xs. f k ∷ xs) (as-map ks)

      go : (b : Bool) → test (f i) ≡ b → cond (test (f i)) (Some (f i)) None ≡ None → test (f i) ≡ false
      go false is none = is
      go true is none = absurd (none-some (f i) (sym none ∙ ap (λ b. cond b (Some (f i)) None) is))

  pub none-passes : (xs : List X) → find test xs ≡ None → AllByRecursion (λ x. test x ≡ false) xs
  none-passes [] h = tt
  none-passes (x ∷ xs) h =
      elim (cases_Bool (test x)) [
        | inl is ↦ absurd (none-some x (sym h ∙ ap (λ b. cond b (Some x) (find test xs)) is))
        | inr is ↦ (is, none-passes xs (ap (λ b. cond b (Some x) (find test xs)) (sym is) ∙ h))
      ]

  pub found-at : (xs : List X) (x : X) → find test xs ≡ Some x → (i : ℕ) × (slice_get xs i ≡ Some x) × (test x ≡ true)
  found-at [] x h = absurd (none-some x h)
  found-at (y ∷ xs) x h =
      elim (cases_Bool (test y)) [
        | inl is ↦
            let same : y ≡ x = same_Some y x (ap (λ b. cond b (Some y) (find test xs)) (sym is) ∙ h) in
            (0, ap Some same, ap test (sym same) ∙ is)
        | inr is ↦
            let rest = found-at xs x (ap (λ b. cond b (Some y) (find test xs)) (sym is) ∙ h) in
            (suc rest.0, rest.1, rest.2)
      ]

pub unclashed : (cs : List Change) (i j : ℕ) (c d : Change) → first_clash cs ≡ None → i < j → slice_get cs i ≡ Some c → slice_get cs j ≡ Some d → shared_targets c d ≡ false
unclashed cs i j c d apart less at_i at_j =
    clashes-at cs i j c d at_i at_j ∙ none-of-map (clash cs) (λ k. (k, j)) 0 j i (omega arith) (omega (arith, less)) (none-in-each (clash cs) pairs_with 0 (length cs) j (omega arith) (omega (arith, slice_get_within cs j d at_j)) apart)

-- ---- a change that replaces the root
root-target : (p : Path) → has_path (p ∷ []) [] ≡ true → p ≡ []
root-target [] h = refl
root-target (i ∷ p) h = absurd (false≢true h)

-- where it aims, it lies in nothing
pub record AtRoot (c : Change) : Type 0 where
  pub around : surroundings c ≡ []
  pub starts : starts_at [] (aim c) ≡ true

pub at-root : (c : Change) → has_path (targets c) [] ≡ true → AtRoot c
at-root (Insert at e) h = absurd (false≢true h)
at-root (InsertAll at es) h = absurd (false≢true h)
at-root (Replace (form.Node n) e) h = let top = root-target n.path h in record { around = ap above top; starts = ap (same_path []) top }
at-root (Replace (form.Token t) e) h = let top = root-target t.path h in record { around = ap above top; starts = ap (same_path []) top }
at-root (ReplaceWithMany (form.Node n) es) h = let top = root-target n.path h in record { around = ap above top; starts = ap (same_path []) top }
at-root (ReplaceWithMany (form.Token t) es) h = let top = root-target t.path h in record { around = ap above top; starts = ap (same_path []) top }
at-root (ReplaceAll first last es) h = absurd (false≢true (sym (no-root-range first last es) ∙ h))

nothing-around : (ps : List Path) → list_any (has_path []) ps ≡ false
nothing-around [] = refl
nothing-around (p ∷ ps) = nothing-around ps

pub free-at-root : (cs : List Change) (c : Change) → AtRoot c → is_independent cs c ≡ true
free-at-root cs c root =
    let never : (r : Change) → is_around r c ≡ false = λ r. ap (λ ps. list_any (has_path ps) (region r)) root.around ∙ nothing-around (region r) in
    let kept : is_dropped cs c ≡ false = none cs (λ r. ap (λ b. not (is_keeping r) && b) (never r) ∙ and-false (not (is_keeping r))) in
    let unowned : owner cs c ≡ None = ap (λ b. cond b None (last_item (filter_map (region_at cs) (surroundings c)))) kept ∙ ap (λ ps. last_item (filter_map (region_at cs) ps)) root.around in
    ap₂ (λ b o. not b && is_none o) kept unowned
  where
    and-false : (b : Bool) → (b && false) ≡ false
    and-false true = refl
    and-false false = refl

    none : (rs : List Change) → ((r : Change) → (not (is_keeping r) && is_around r c) ≡ false) → list_any (λ r. not (is_keeping r) && is_around r c) rs ≡ false
    none [] h = refl
    none (r ∷ rs) h = or_from _ _ (h r) (none rs h)

-- ---- the only one
abbrev starting : List Change → ℕ × Change → Bool
starting cs d = is_independent cs d.1 && starts_at [] (aim d.1)

numbered-starts : (p : ℕ × Change → Bool) (xs : List (ℕ × Change)) → replacements_at (change_aims (filter p xs)) [] ≡ map (λ d. d.0) (filter (λ d. p d && starts_at [] (aim d.1)) xs)
numbered-starts p [] = refl
numbered-starts p (d ∷ xs) =
    let rest = filter (λ d. p d && starts_at [] (aim d.1)) xs in
    elim (p d) as (λ b. replacements_at (change_aims (cond b (d ∷ filter p xs) (filter p xs))) [] ≡ map (λ d. d.0) (cond (b && starts_at [] (aim d.1)) (d ∷ rest) rest)) [
      | true ↦
          (elim (starts_at [] (aim d.1)) as (λ s. numbers (cond s ((d.0, aim d.1) ∷ filter (λ c. starts_at [] c.1) (change_aims (filter p xs))) (filter (λ c. starts_at [] c.1) (change_aims (filter p xs)))) ≡ map (λ d. d.0) (cond s (d ∷ rest) rest)) [
            | true ↦ ap (λ ns. d.0 ∷ ns) (numbered-starts p xs)
            | false ↦ numbered-starts p xs
          ])
      | false ↦ numbered-starts p xs
    ]

module _ {X : Type 0} (test : ℕ × X → Bool) (n : ℕ) where
  abbrev OnlyAt : List (ℕ × X) → Type 0
  OnlyAt ds = AllByRecursion (λ d. test d ≡ true → d.0 ≡ n) ds

  none-later : (k : ℕ) (xs : List X) → n < k → OnlyAt (enumerate_from k xs) → filter test (enumerate_from k xs) ≡ []
  none-later k [] l h = refl
  none-later k (x ∷ xs) l h =
      let rest = filter test (enumerate_from (k + 1) xs) in
      elim (cases_Bool (test (k, x))) [
        | inl is ↦ let same : k ≡ n = h.0 is in absurd (omega (arith, l, same))
        | inr is ↦ ap (λ b. cond b ((k, x) ∷ rest) rest) is ∙ none-later (k + 1) xs (omega (arith, l)) h.1
      ]

  only-one : (k i : ℕ) (xs : List X) (x : X) → k + i ≡ n → slice_get xs i ≡ Some x → test (n, x) ≡ true → OnlyAt (enumerate_from k xs) → map (λ d. d.0) (filter test (enumerate_from k xs)) ≡ n ∷ []
  only-one k i [] x e at_i passes h = absurd (none-some x at_i)
  only-one k zero (y ∷ xs) x e at_i passes h =
      let here : k ≡ n = omega (arith, e) in
      let rest = filter test (enumerate_from (k + 1) xs) in
      let pass : test (k, y) ≡ true = ap₂ (λ a b. test (a, b)) here (same_Some y x at_i) ∙ passes in
      ap (λ b. map (λ d. d.0) (cond b ((k, y) ∷ rest) rest)) pass ∙ ap₂ (λ a ds. a ∷ map (λ d. d.0) ds) here (none-later (k + 1) xs (omega (arith, here)) h.1)
  only-one k (suc i) (y ∷ xs) x e at_i passes h =
      let rest = filter test (enumerate_from (k + 1) xs) in
      elim (cases_Bool (test (k, y))) [
        | inl is ↦ let same : k ≡ n = h.0 is in absurd (omega (arith, e, same))
        | inr is ↦ ap (λ b. map (λ d. d.0) (cond b ((k, y) ∷ rest) rest)) is ∙ only-one (k + 1) i xs x (omega (arith, e)) at_i passes h.1
      ]

start-replaces : (p : Path) (a : Aim) → starts_at p a ≡ true → replaces p a ≡ true
start-replaces p (FirstIn q) s = absurd (false≢true s)
start-replaces p (AfterElement q) s = absurd (false≢true s)
start-replaces p (Over []) s = absurd (false≢true s)
start-replaces p (Over (q ∷ qs)) s = or_left (same_path p q) (has_path qs p) s

pub some-starts : (cs : List NumberedAim) (p : Path) (n : ℕ) → replacements_at cs p ≡ n ∷ [] → is_replaced cs p ≡ true
some-starts [] p n h = let l : 0 ≡ 1 = ap length h in absurd (omega (arith, l))
some-starts (c ∷ cs) p n h =
    let rest = filter (λ d. starts_at p d.1) cs in
    elim (cases_Bool (starts_at p c.1)) [
      | inl is ↦ or_left (replaces p c.1) (is_replaced cs p) (start-replaces p c.1 is)
      | inr is ↦ or_right (replaces p c.1) (is_replaced cs p) (some-starts cs p n (ap (λ b. numbers (cond b (c ∷ rest) rest)) (sym is) ∙ h))
    ]

pub root-alone : (cs : List Change) (i : ℕ) (c : Change) → first_clash cs ≡ None → slice_get cs i ≡ Some c → has_path (targets c) [] ≡ true → replacements_at (independents cs) [] ≡ i ∷ []
root-alone cs i c apart at_i h =
    let root = at-root c h in
    let passes : starting cs (i, c) ≡ true = ap₂ (λ a b. a && b) (free-at-root cs c root) root.starts in
    numbered-starts (λ d. is_independent cs d.1) (enumerate_from 0 cs) ∙ only-one (starting cs) i 0 i cs c (omega arith) at_i passes (all_weaker (λ d. slice_get cs d.0 ≡ Some d.1) (λ d. starting cs d ≡ true → d.0 ≡ i) (enumerate_from 0 cs) (λ d at_d pass. one d.0 d.1 at_d (start_in_targets d.1 [] (starts (aim d.1) [] (and_parts (is_independent cs d.1) (starts_at [] (aim d.1)) pass).1))) (all_enumerated cs))
  where
    one : (j : ℕ) (d : Change) → slice_get cs j ≡ Some d → has_path (targets d) [] ≡ true → j ≡ i
    one j d at_j k =
        let before : i < j → ⊥ = λ less. true≢false (sym (meets (targets c) (targets d) [] h k) ∙ unclashed cs i j c d apart less at_i at_j) in
        let after : j < i → ⊥ = λ less. true≢false (sym (meets (targets d) (targets c) [] k h) ∙ unclashed cs j i d c apart less at_j at_i) in
        omega (arith, before, after)
