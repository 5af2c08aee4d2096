-- An owner: it replaces a node by a node and is not dropped.
--     owner-keeps, target-is        an owner replaces a node by a node; its one target is where it aims
--     has_left                      what a list has, it has with more after it
--     above-trans                   what is above a path that is above another one is above that
--     surrounds-above               what is above a surrounding is a surrounding
--     owner-undropped               an owner is not dropped
--     owns-nothing                  a change that is none owns nothing
use Rattle.std.specs.Prelude.{◌≡◌, ℕ, zero, suc, Bool, true, false, not, ◌&&◌, List, [], ◌∷◌, ◌++◌, map, slice_get, unwrap_or, Some, refl}
use Rattle.std.specs.List.{AllByRecursion, list_any}
use Rattle.std.specs.Option.{option_map_or}
use Rattle.std.proofs.Common.{ap, sym, ◌∙◌}
use Rattle.std.proofs.lemmas.Bool.{cases_Bool, and_parts, and_from, or_cases, or_left, or_right, or_parts, false≢true, true≢false}
use Rattle.std.proofs.lemmas.Option.{none-some, same_Some}
use mathlib.Core.Logic.{inl, inr}
use Rattle.cst_core.specs.Path.{Path, same_path, has_path, above, up_to, first_item}
use Rattle.cst_core.specs.SyntaxElement.{element_of}
use Rattle.cst_core.specs.declared.element.SyntaxElement.TheVariants.{Node}
use Rattle.edit_change.specs.Position.{anchor}
use Rattle.edit_change.specs.Change.{targets}
use Rattle.edit_change.specs.ChangeAim.{aim_path}
use Rattle.edit_change.specs.Nesting.{region, surroundings, is_keeping, is_around, is_dropped, owner}
use Rattle.edit_change.specs.declared.change.Change.{Change}
use Rattle.edit_change.specs.declared.change.Change.TheVariants.{Insert, InsertAll, Replace, ReplaceWithMany, ReplaceAll}
use Rattle.edit_change.proofs.Owners.{HasRegion, owner_cases, owner_region}
use Rattle.edit_change.proofs.Paths.{meets, same_path-true, same_path_from}
use Rattle.edit_change.specs.NewTree.{targets_of}
use Rattle.edit_change.proofs.AimsApart.{has_map, has-append, only_one}

-- ---- an owner replaces a node by a node
any-at : {X : Type 0} (p : X → Bool) (xs : List X) (i : ℕ) (x : X) → list_any p xs ≡ false → slice_get xs i ≡ Some x → p x ≡ false
any-at p [] i x none is = absurd (none-some x is)
any-at p (y ∷ xs) zero x none is = ap p (sym (same_Some y x is)) ∙ (or_parts (p y) (list_any p xs) none).0
any-at p (y ∷ xs) (suc i) x none is = any-at p xs i x (or_parts (p y) (list_any p xs) none).1 is

all-in : (ps qs : List Path) → ((q : Path) → has_path ps q ≡ true → has_path qs q ≡ true) → AllByRecursion (λ q. has_path qs q ≡ true) ps
all-in [] qs h = tt
all-in (p ∷ ps) qs h = (h p (or_left (same_path p p) (has_path ps p) (same_path_from p p refl)), all-in ps qs (λ q k. h q (or_right (same_path q p) (has_path ps q) k)))

pub owner-keeps : (cs : List Change) (d : Change) (c : ℕ) → owner cs d ≡ Some c → (r : Change) × (slice_get cs c ≡ Some r) × (is_keeping r ≡ true)
owner-keeps cs d c by =
    let found : HasRegion (λ q. has_path (surroundings d) q ≡ true) cs c = owner_region (λ q. has_path (surroundings d) q ≡ true) cs d c (all-in (surroundings d) (surroundings d) (λ q h. h)) by in
    let kept : (not (is_keeping found.0) && is_around found.0 d) ≡ false = any-at (λ r. not (is_keeping r) && is_around r d) cs c found.0 (owner_cases cs d c by).0 found.2 in
    (found.0, found.2, keeps (is_keeping found.0) (is_around found.0 d) (meets (surroundings d) (region found.0) found.1 found.4 found.3) kept)
  where
    keeps : (k a : Bool) → a ≡ true → (not k && a) ≡ false → k ≡ true
    keeps true a h e = refl
    keeps false a h e = absurd (true≢false (sym h ∙ e))

-- its one target is where it aims
pub target-is : (cs : List Change) (c : ℕ) (r : Change) → slice_get cs c ≡ Some r → is_keeping r ≡ true → unwrap_or (first_item (targets_of cs c)) [] ≡ aim_path r
target-is cs c r is keeps = ap (λ o. unwrap_or (first_item (option_map_or targets o [])) []) is ∙ one r keeps
  where
    one : (r : Change) → is_keeping r ≡ true → unwrap_or (first_item (targets r)) [] ≡ aim_path r
    one (Replace t e) h = refl
    one _ h = absurd (false≢true h)

-- ---- an owner is not dropped
has_map_cons : (i : ℕ) (p : Path) (ps : List Path) → has_path ps p ≡ true → has_path (map (λ q. i ∷ q) ps) (i ∷ p) ≡ true
has_map_cons i p [] h = h
has_map_cons i p (q ∷ ps) h =
    elim (or_cases (same_path p q) (has_path ps p) h) [
      | inl here ↦ or_left (same_path (i ∷ p) (i ∷ q)) (has_path (map (λ r. i ∷ r) ps) (i ∷ p)) (same_path_from (i ∷ p) (i ∷ q) (ap (λ r. i ∷ r) (same_path-true p q here)))
      | inr there ↦ or_right (same_path (i ∷ p) (i ∷ q)) (has_path (map (λ r. i ∷ r) ps) (i ∷ p)) (has_map_cons i p ps there)
    ]

pub above-trans : (a x p : Path) → has_path (above a) x ≡ true → has_path (above x) p ≡ true → has_path (above a) p ≡ true
above-trans [] x p h k = absurd (false≢true h)
above-trans (i ∷ a) [] p h k = absurd (false≢true k)
above-trans (i ∷ a) (j ∷ x) [] h k = refl
above-trans (i ∷ a) (j ∷ x) (l ∷ p) h k =
    let lower : (m : Path) × (j ∷ x ≡ i ∷ m) × (has_path (above a) m ≡ true) = has_map i (above a) (j ∷ x) h in
    let upper : (m : Path) × (l ∷ p ≡ j ∷ m) × (has_path (above x) m ≡ true) = has_map j (above x) (l ∷ p) k in
    let slot : j ≡ i = cc (lower.1) in
    let tail : x ≡ lower.0 = cc (lower.1) in
    let there : has_path (above a) upper.0 ≡ true = above-trans a x upper.0 (ap (has_path (above a)) tail ∙ lower.2) upper.2 in
    ap (has_path (map (λ q. i ∷ q) (above a))) (upper.1 ∙ ap (λ n. n ∷ upper.0) slot) ∙ has_map_cons i upper.0 (above a) there

pub has_left : (ps qs : List Path) (p : Path) → has_path ps p ≡ true → has_path (ps ++ qs) p ≡ true
has_left [] qs p h = absurd (false≢true h)
has_left (q ∷ ps) qs p h =
    elim (or_cases (same_path p q) (has_path ps p) h) [
      | inl here ↦ or_left (same_path p q) (has_path (ps ++ qs) p) here
      | inr there ↦ or_right (same_path p q) (has_path (ps ++ qs) p) (has_left ps qs p there)
    ]

up_to-above : (a x p : Path) → has_path (up_to a) x ≡ true → has_path (above x) p ≡ true → has_path (up_to a) p ≡ true
up_to-above a x p h k =
    has_left (above a) (a ∷ []) p (elim (has-append (above a) (a ∷ []) x h) [
      | inl up ↦ above-trans a x p up k
      | inr own ↦ ap (λ y. has_path (above y) p) (sym (only_one x a own)) ∙ k
    ])

pub surrounds-above : (c : Change) (x p : Path) → has_path (surroundings c) x ≡ true → has_path (above x) p ≡ true → has_path (surroundings c) p ≡ true
surrounds-above (Insert at e) x p h k = up_to-above (anchor at).path x p h k
surrounds-above (InsertAll at es) x p h k = up_to-above (anchor at).path x p h k
surrounds-above (Replace t e) x p h k = above-trans (element_of t).path x p h k
surrounds-above (ReplaceWithMany t es) x p h k = above-trans (element_of t).path x p h k
surrounds-above (ReplaceAll first last es) x p h k = above-trans (element_of first).path x p h k

-- a path of the region of a change that keeps, and what is around that change
kept-region : (r : Change) (x : Path) → is_keeping r ≡ true → has_path (region r) x ≡ true → surroundings r ≡ above x
kept-region (Replace (Node n) (Some (Node r))) x keeps h = ap above (sym (only_one x n.path h))
kept-region _ x keeps h = absurd (false≢true keeps)

any-met : (ps qs : List Path) → list_any (has_path ps) qs ≡ true → (p : Path) × (has_path ps p ≡ true) × (has_path qs p ≡ true)
any-met ps [] h = absurd (false≢true h)
any-met ps (q ∷ qs) h =
    elim (or_cases (has_path ps q) (list_any (has_path ps) qs) h) [
      | inl here ↦ (q, here, or_left (same_path q q) (has_path qs q) (same_path_from q q refl))
      | inr there ↦ let rest = any-met ps qs there in (rest.0, rest.1, or_right (same_path rest.0 q) (has_path qs rest.0) rest.2)
    ]

any-weaker : (f g : Change → Bool) (cs : List Change) → ((r : Change) → f r ≡ true → g r ≡ true) → list_any f cs ≡ true → list_any g cs ≡ true
any-weaker f g [] w h = absurd (false≢true h)
any-weaker f g (c ∷ cs) w h =
    elim (or_cases (f c) (list_any f cs) h) [
      | inl here ↦ or_left (g c) (list_any g cs) (w c here)
      | inr there ↦ or_right (g c) (list_any g cs) (any-weaker f g cs w there)
    ]

-- what drops the owner drops what it owns
pub owner-undropped : (cs : List Change) (d : Change) (c : ℕ) (r : Change) → owner cs d ≡ Some c → slice_get cs c ≡ Some r → is_dropped cs r ≡ false
owner-undropped cs d c r by at =
    let found : HasRegion (λ q. has_path (surroundings d) q ≡ true) cs c = owner_region (λ q. has_path (surroundings d) q ≡ true) cs d c (all-in (surroundings d) (surroundings d) (λ q h. h)) by in
    let keeps = owner-keeps cs d c by in
    let same : found.0 ≡ r = same_Some found.0 r (sym found.2 ∙ at) in
    let kept : is_keeping r ≡ true = ap is_keeping (same_Some r keeps.0 (sym at ∙ keeps.1)) ∙ keeps.2 in
    let around : surroundings r ≡ above found.1 = kept-region r found.1 kept (ap (λ x. has_path (region x) found.1) (sym same) ∙ found.3) in
    let upper : (q : Change) → (not (is_keeping q) && is_around q r) ≡ true → (not (is_keeping q) && is_around q d) ≡ true = λ q h.
    let both = and_parts (not (is_keeping q)) (is_around q r) h in
    let met = any-met (surroundings r) (region q) both.1 in
    and_from (not (is_keeping q)) (is_around q d) both.0 (meets (surroundings d) (region q) met.0 (surrounds-above d found.1 met.0 found.4 (ap (λ ps. has_path ps met.0) (sym around) ∙ met.1)) met.2) in
    elim (cases_Bool (is_dropped cs r)) [
      | inl dropped ↦ absurd (true≢false (sym (any-weaker (λ q. not (is_keeping q) && is_around q r) (λ q. not (is_keeping q) && is_around q d) cs upper dropped) ∙ (owner_cases cs d c by).0))
      | inr stays ↦ stays
    ]
