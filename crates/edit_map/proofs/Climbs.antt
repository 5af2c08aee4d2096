-- The way up from a target to a payload.
--     copied-or                      the copy that was found, or the node itself
--     child-of-parent                an element is a child of its parent, at its last slot
--     met, not-met                   what a test of two nodes says
--     StandsFor-down                 what stands one step below
--     Climbed                        the slots noted so far lead from here to the target
--     climbed-start, climbed-step    at the target; one step on
--     climbed-there, climbed-nowhere the payload is met; a root is met instead
--     climbed-to, climbed-past       on to the last stop; where there is none, nothing stands for the target
--     way, way-falls                 how long the way can get, at most; less with each step
use Rattle.std.specs.Prelude.{◌≡◌, ◌≢◌, ℕ, suc, ◌+◌, ◌*◌, ◌<◌, ◌≤◌, true, false, not, cond, [], ◌∷◌, ◌++◌, length, reverse, take, drop, find, Option, Some, None, option_map, unwrap_or, refl}
use Rattle.std.specs.Option.{option_map_or}
use Rattle.std.proofs.Common.{ap, ap₂, sym, subst, ◌∙◌, arith, inl, inr, add-one, get_or, append_assoc, append-nil}
use Rattle.std.proofs.Math.Nat.{mul-le-mul_right, suc-mul}
use Rattle.std.proofs.lemmas.Bool.{true≢false, true_from_ne_false}
use Rattle.std.proofs.lemmas.Option.{none-some, same_Some}
use Rattle.std.proofs.lemmas.List.{same_from_push, reverse-append, take-append-drop, drop_more, length-append, length-take-le}
use Rattle.std.proofs.Math.Seq.{take-append-add}
use Rattle.cst_core.specs.Path.{Path, parent_path, last_slot}
use Rattle.cst_core.specs.Element.{Address, Element, address, same_address, element_at, parent_of}
use Rattle.cst_core.proofs.LastSlot.{parent-and-slot}
use Rattle.edit_map.specs.Mapping.{Mapping, copy, copied, IsRising, child_address, StandsFor}
use Rattle.edit_map.specs.inner.Climbing.{in_tree, at_depth, Passes, HasNoCopy}
use Rattle.edit_map.proofs.Copies.{same_addresses, same_address-true, same_address-itself}
use Rattle.edit_map.proofs.Followed.{counted, copy-falls}
use Rattle.edit_map.proofs.Places.{StandsFor-push, last_view}
use Rattle.edit_map.proofs.Tables.{alike}

pub copied-or : {B : Type 0} (element : B → Element) (m : Mapping) (o : Option B) (b r : B) → r ≡ unwrap_or o b → option_map element o ≡ copy m (address (element b)) → address (element r) ≡ copied m (address (element b))
copied-or element m None b r at is = ap (λ c. address (element c)) at ∙ ap (λ o. option_map_or address o (address (element b))) is
copied-or element m (Some c) b r at is = ap (λ c. address (element c)) at ∙ ap (λ o. option_map_or address o (address (element b))) is

pub child-of-parent : (e parent : Element) → Some parent ≡ parent_of e → address e ≡ child_address (address parent) (last_slot e.path)
child-of-parent e parent is =
    (elim e.path as (λ p. e.path ≡ p → Some parent ≡ parent_of e → address e ≡ child_address (address parent) (last_slot e.path)) [
      | [] ↦ λ at is. absurd (none-some parent (sym (is ∙ rw at refl)))
      | i ∷ p ↦ λ at is. (
          let same : parent ≡ element_at e (parent_path (i ∷ p)) = same_Some parent (element_at e (parent_path (i ∷ p))) (is ∙ rw at refl) in
          same_addresses (address e) (child_address (address parent) (last_slot e.path)) (sym (ap (λ (f : Element). f.number) same)) (rw (same, at) (parent-and-slot i p)))
    ]) refl is

-- ---- whether a payload is met
pub met : (e f : Element) → not (alike e f) ≡ false → address e ≡ address f
met e f h = same_address-true (address e) (address f) (true_from_ne_false (alike e f) (λ none. true≢false (sym (ap not none) ∙ h)))

pub not-met : (e f : Element) → not (alike e f) ≡ true → address e ≡ address f → ⊥
not-met e f h same = true≢false (sym h ∙ ap not (ap (λ a. same_address a (address f)) same ∙ same_address-itself (address f)))

-- ---- the way so far
pub StandsFor-down : (m : Mapping) (r : Address) (p : Path) (i : ℕ) (x q : Address) → StandsFor m r p q → copied m x ≡ child_address q i → StandsFor m r (p ++ i ∷ []) x
StandsFor-down m r [] i x q stands is = (x, is ∙ ap (λ a. child_address a i) stands, refl)
StandsFor-down m r (j ∷ p) i x q (y, at, below) is = (y, at, StandsFor-down m y p i x q below is)

pub record Climbed (m : Mapping) (r target : Address) (slots : Path) (here : Address) : Type 0 where
  pub down : (p : Path) → StandsFor m r p here → StandsFor m r (p ++ reverse slots) target
  pub up : (p : Path) → StandsFor m r p target → (q : Path) × StandsFor m r q here

pub climbed-start : (m : Mapping) (r target : Address) → Climbed m r target [] target
climbed-start m r target = record {
  down = λ p stands. rw append-nil stands;
  up = λ p stands. (p, stands);
}

no-root : (p : Path) (i : ℕ) → p ++ i ∷ [] ≡ [] → ⊥
no-root [] i e = cc
no-root (j ∷ p) i e = cc

module _ (m : Mapping) (r target : Address) (slots : Path) (here : Address) (climbed : Climbed m r target slots here) where
  -- what stands in the payload and is not the payload stands one step below something
  step-up : (here ≡ r → ⊥) → (q : Path) → StandsFor m r q here → (p : Path) × (i : ℕ) × (y : Address) × StandsFor m r p y × (copied m here ≡ child_address y i)
  step-up other q stands =
      elim (last_view q) [
        | inl e ↦ absurd (other (subst (λ s. StandsFor m r s here) e stands))
        | inr v ↦ (
            let above : (y : Address) × StandsFor m r v.0 y × (copied m here ≡ child_address y v.1) = StandsFor-push m r v.0 v.1 here (subst (λ s. StandsFor m r s here) v.2 stands) in
            (v.0, v.1, above.0, above.1, above.2))
      ]

  pub climbed-step : (i : ℕ) (parent : Address) → (here ≡ r → ⊥) → copied m here ≡ child_address parent i → Climbed m r target (slots ++ i ∷ []) parent
  climbed-step i parent other is = record {
    down = λ p stands. rw (reverse-append, ← append_assoc) (climbed.down (p ++ i ∷ []) (StandsFor-down m r p i here parent stands is));
    up = λ p stands. moved (step-up other (climbed.up p stands).0 (climbed.up p stands).1);
  }
    where
      moved : (p : Path) × (j : ℕ) × (y : Address) × StandsFor m r p y × (copied m here ≡ child_address y j) → (q : Path) × StandsFor m r q parent
      moved (p, j, y, stands, at) =
          let same : child_address y j ≡ child_address parent i = sym at ∙ is in
          let path : y.path ≡ parent.path = (same_from_push y.path parent.path j i (ap (λ (a : Address). a.path) same)).0 in
          (p, subst (StandsFor m r p) (same_addresses y parent (ap (λ (a : Address). a.number) same) path) stands)

  pub climbed-there : here ≡ r → StandsFor m r (reverse slots) target
  climbed-there same = climbed.down [] same

  pub climbed-nowhere : (here ≡ r → ⊥) → (copied m here).path ≡ [] → (p : Path) → StandsFor m r p target → ⊥
  climbed-nowhere other root p stands = at_root (step-up other (climbed.up p stands).0 (climbed.up p stands).1)
    where
      at_root : (p : Path) × (j : ℕ) × (y : Address) × StandsFor m r p y × (copied m here ≡ child_address y j) → ⊥
      at_root (p, j, y, stands, at) = no-root y.path j (sym (ap (λ (a : Address). a.path) at) ∙ root)

-- ---- several steps, where what is between has no copy and is not the payload
climbed-far : (m : Mapping) (r target : Address) (slots : Path) (here : Address) → Climbed m r target slots here → here ≢ r → (n : ℕ) (q : Path) (i : ℕ) (s : Path) → copied m here ≡ in_tree n (q ++ i ∷ s)
    → ((k : ℕ) → 0 < k → k < length (i ∷ s) → HasNoCopy m (in_tree n (q ++ take k (i ∷ s))) × (in_tree n (q ++ take k (i ∷ s)) ≢ r)) → Climbed m r target (slots ++ reverse (i ∷ s)) (in_tree n q)
climbed-far m r target slots here climbed other n q i [] is between = climbed-step m r target slots here climbed i (in_tree n q) other is
climbed-far m r target slots here climbed other n q i (j ∷ s) is between =
    let next = in_tree n (q ++ i ∷ []) in
    let further : (k : ℕ) → 0 < k → k < length (j ∷ s) → HasNoCopy m (in_tree n ((q ++ i ∷ []) ++ take k (j ∷ s))) × (in_tree n ((q ++ i ∷ []) ++ take k (j ∷ s)) ≢ r) =
    λ k more below. subst (λ p. HasNoCopy m (in_tree n p) × (in_tree n p ≢ r)) (sym (append_assoc q (i ∷ []) (take k (j ∷ s)))) (between (suc k) (omega (arith, more)) (omega (arith, below))) in
    let below : Climbed m r target (slots ++ reverse (j ∷ s)) next = climbed-far m r target slots here climbed other n (q ++ i ∷ []) j s (is ∙ ap (in_tree n) (sym (append_assoc q (i ∷ []) (j ∷ s)))) further in
    let passed : HasNoCopy m next × (next ≢ r) = between 1 (omega arith) (omega arith) in
    let step = climbed-step m r target (slots ++ reverse (j ∷ s)) next below i (in_tree n q) passed.1 (ap (λ o. option_map_or address o next) passed.0) in
    subst (λ all. Climbed m r target all (in_tree n q)) (append_assoc slots (reverse (j ∷ s)) (i ∷ []) ∙ ap (λ all. slots ++ all) (sym (reverse-append (i ∷ []) (j ∷ s)))) step

module _ (m : Mapping) (r target : Address) (slots : Path) (here x : Address) (climbed : Climbed m r target slots here) (other : here ≢ r) (is : copied m here ≡ x) where
  pub climbed-to : (d : ℕ) → d < length x.path → ((k : ℕ) → d < k → k < length x.path → Passes (HasNoCopy m) r x k) → Climbed m r target (slots ++ reverse (drop d x.path)) (at_depth x d)
  climbed-to d within passes =
      let q = take d x.path in
      let i = get_or x.path d 0 in
      let s = drop (d + 1) x.path in
      let rest : drop d x.path ≡ i ∷ s = drop_more x.path d 0 within in
      let split : x.path ≡ q ++ i ∷ s = sym (take-append-drop d x.path) ∙ ap (λ u. q ++ u) rest in
      let long : length q ≡ d = length-take-le d x.path (omega (arith, within)) in
      let lengths : length x.path ≡ length q + length (i ∷ s) = ap length split ∙ length-append q (i ∷ s) in
      let at : (k : ℕ) → at_depth x (d + k) ≡ in_tree x.number (q ++ take k (i ∷ s)) = λ k. ap (in_tree x.number) (ap₂ (λ a p. take (a + k) p) (sym long) split ∙ take-append-add q (i ∷ s) k) in
      let between : (k : ℕ) → 0 < k → k < length (i ∷ s) → HasNoCopy m (in_tree x.number (q ++ take k (i ∷ s))) × (in_tree x.number (q ++ take k (i ∷ s)) ≢ r) =
      λ k more below. subst (λ a. HasNoCopy m a × (a ≢ r)) (at k) (passes (d + k) (omega (arith, more)) (omega (arith, below, lengths, long))) in
      subst (λ u. Climbed m r target (slots ++ reverse u) (in_tree x.number q)) (sym rest) (climbed-far m r target slots here climbed other x.number q i s (is ∙ ap (in_tree x.number) split) between)

  pub climbed-past : ((k : ℕ) → k < length x.path → Passes (HasNoCopy m) r x k) → (p : Path) → StandsFor m r p target → ⊥
  climbed-past passes p stands = by_path x.path refl
    where
      by_path : (q : Path) → x.path ≡ q → ⊥
      by_path [] none = climbed-nowhere m r target slots here climbed other (ap (λ (a : Address). a.path) is ∙ none) p stands
      by_path (i ∷ q) some =
          let within : 0 < length x.path = omega (arith, ap length some) in
          let top : Climbed m r target (slots ++ reverse (drop 0 x.path)) (at_depth x 0) = climbed-to 0 within (λ k more below. passes k below) in
          let passed = passes 0 within in
          climbed-nowhere m r target (slots ++ reverse (drop 0 x.path)) (at_depth x 0) top passed.1 (ap (λ o. (option_map_or address o (at_depth x 0)).path) passed.0) p stands

-- ---- how long it can get
-- the lengths of the paths of all copies
abbrev lengths : Mapping → ℕ
lengths [] = 0
lengths (pair ∷ m) = length pair.1.path + lengths m

copy-short : (m : Mapping) (x : Address) (c : Element) → copy m x ≡ Some c → length c.path ≤ lengths m
copy-short [] x c is = absurd (none-some c is)
copy-short (pair ∷ m) x c is =
    (elim (same_address (address pair.0) x) as (λ b. option_map (λ (d : Element × Element). d.1) (cond b (Some pair) (find (λ d. same_address (address d.0) x) m)) ≡ Some c → length c.path ≤ length pair.1.path + lengths m) [
      | true ↦ λ this. omega (arith, ap (λ (d : Element). length d.path) (same_Some pair.1 c this))
      | false ↦ λ that. omega (arith, copy-short m x c that)
    ]) is

-- Each copy on the way uses up a pair, and between copies the paths get shorter.
abbrev pub way : Mapping → Address → ℕ
way m x = counted x.number m * suc (lengths m) + length x.path

less-way : (a b l p q : ℕ) → a < b → p ≤ l → a * suc l + p < b * suc l + q
less-way a b l p q less short =
    let enough : (a + 1) * suc l ≤ b * suc l = mul-le-mul_right (suc l) (omega (arith, less)) in
    let more : suc a * suc l ≡ a * suc l + suc l = suc-mul a (suc l) in
    let one : (a + 1) * suc l ≡ suc a * suc l = ap (λ n. n * suc l) (add-one a) in
    omega (arith, enough, more, one, short)

pub way-falls : (m : Mapping) → IsRising m → (x y : Address) → (copied m x).number ≡ y.number → length y.path < length (copied m x).path → way m y < way m x
way-falls m rising x y =
    (elim (copy m x) as (λ o. copy m x ≡ o → (option_map_or address o x).number ≡ y.number → length y.path < length (option_map_or address o x).path → way m y < way m x) [
      | None ↦ λ _ number short. (
          let counts : counted y.number m ≡ counted x.number m = ap (λ n. counted n m) (sym number) in
          rw counts (omega (arith, short)))
      | Some c ↦ λ of number short. (
          let fewer : counted y.number m < counted x.number m = rw (← number) ((copy-falls m rising x c of).1) in
          less-way (counted y.number m) (counted x.number m) (lengths m) (length y.path) (length x.path) fewer (omega (arith, short, copy-short m x c of)))
    ]) refl
