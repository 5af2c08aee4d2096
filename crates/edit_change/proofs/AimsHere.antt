-- What an aim says of the top and of its own children.
use Rattle.std.specs.Prelude.{◌≡◌, ℕ, zero, suc, ◌-◌, ◌<◌, ◌≤◌, Bool, true, false, ◌&&◌, ◌||◌, nat_eq, List, [], ◌∷◌, ◌++◌, map, nat_lt, refl, length}
use Rattle.std.proofs.Common.{ap, sym, ◌∙◌, arith}
use Rattle.std.proofs.lemmas.Bool.{cases_eq, cases_lt, eq-eqb, ne_eqb, lt-ltb, le-ltb}
use mathlib.Core.Logic.{inl, inr}
use Rattle.green_tree.specs.Path.{Path, same_path, has_path, counted_from, parent_path, last_slot}
use Rattle.edit_change.specs.Aim.{starts_at, replaces}
use Rattle.edit_change.specs.Aim as aim
use Rattle.edit_change.specs.declared.aimed.AimForm.TheVariants.{Over}
use Rattle.edit_change.specs.inner.Aimed.{aim_in, has_parent}

-- ---- a range of slots
own : (b x : Bool) → b ≡ false → ((b && true) || x) ≡ x
own true x h = cc
own false x h = refl

none : (b x : Bool) → x ≡ false → ((b && false) || x) ≡ false
none true x h = h
none false x h = h

lt_suc : (a b : ℕ) → nat_lt a b ≡ nat_lt (suc a) (suc b)
lt_suc a b =
    elim (cases_lt a b) [
      | inl less ↦ lt-ltb a b less ∙ sym (lt-ltb (suc a) (suc b) (omega arith))
      | inr most ↦ le-ltb a b most ∙ sym (le-ltb (suc a) (suc b) (omega arith))
    ]

pub range_before : (f n j : ℕ) → j < f → has_path (map (λ s. s ∷ []) (counted_from f n)) (j ∷ []) ≡ false
range_before f zero j h = refl
range_before f (suc n) j h = own (nat_eq j f) _ (ne_eqb j f (λ e. absurd (omega (arith, e)))) ∙ range_before (suc f) n j (omega arith)

pub range_here : (f n j : ℕ) → f ≤ j → has_path (map (λ s. s ∷ []) (counted_from f n)) (j ∷ []) ≡ nat_lt (j - f) n
range_here f zero j h = sym (le-ltb (j - f) 0 (omega arith))
range_here f (suc n) j h =
    elim (cases_eq j f) [
      | inl same ↦ ap (λ b. (b && true) || has_path (map (λ s. s ∷ []) (counted_from (suc f) n)) (j ∷ [])) (eq-eqb j f same) ∙ sym (lt-ltb (j - f) (suc n) (omega arith))
      | inr other ↦
          let after : j - f ≡ suc (j - suc f) = omega arith in
          own (nat_eq j f) _ (ne_eqb j f other) ∙ range_here (suc f) n j (omega arith) ∙ (lt_suc (j - suc f) n ∙ ap (λ m. nat_lt m (suc n)) (sym after))
    ]

-- siblings that stand deeper
pub range_deeper : (k : ℕ) (q : Path) (f n j : ℕ) → has_path (map (λ s. k ∷ (q ++ s ∷ [])) (counted_from f n)) (j ∷ []) ≡ false
range_deeper k q f zero j = refl
range_deeper k [] f (suc n) j = none (nat_eq j k) _ (range_deeper k [] (suc f) n j)
range_deeper k (i ∷ q) f (suc n) j = none (nat_eq j k) _ (range_deeper k (i ∷ q) (suc f) n j)

-- no sibling is the top
range_top : (q : Path) (f n : ℕ) → has_path (map (λ s. q ++ s ∷ []) (counted_from f n)) [] ≡ false
range_top q f zero = refl
range_top [] f (suc n) = range_top [] (suc f) n
range_top (i ∷ q) f (suc n) = range_top (i ∷ q) (suc f) n

nothing : (b : Bool) → (b && false) ≡ false
nothing true = refl
nothing false = refl

no_top : (p : Path) (j : ℕ) → same_path [] (p ++ j ∷ []) ≡ false
no_top [] j = refl
no_top (i ∷ p) j = refl

pub some_slot : (q : Path) → (length q ≡ 0 → ⊥) → 1 ≤ length q
some_slot [] h = absurd (h refl)
some_slot (i ∷ q) h = omega arith

-- ---- aims over siblings
pub top_deeper : (q : Path) (n : ℕ) → 1 ≤ length q → replaces [] (aim_in q (Over n)) ≡ false
top_deeper [] n h = absurd (omega arith)
top_deeper (i ∷ q) n h = range_top (parent_path (i ∷ q)) (last_slot (i ∷ q)) n

pub top_start : (q : Path) (n : ℕ) → 1 ≤ length q → starts_at [] (aim_in q (Over n)) ≡ false
top_start [] n h = absurd (omega arith)
top_start (i ∷ q) zero h = refl
top_start (i ∷ q) (suc n) h = no_top (parent_path (i ∷ q)) (last_slot (i ∷ q))

pub start_deeper : (q : Path) (n slot : ℕ) → 2 ≤ length q → starts_at (slot ∷ []) (aim_in q (Over n)) ≡ false
start_deeper [] n slot h = absurd (omega arith)
start_deeper (i ∷ []) n slot h = absurd (omega arith)
start_deeper (i ∷ k ∷ q) zero slot h = refl
start_deeper (i ∷ k ∷ q) (suc n) slot h = ap (λ b. nat_eq slot i && b) (no_top (parent_path (k ∷ q)) (last_slot (k ∷ q))) ∙ nothing (nat_eq slot i)

pub replaces_deeper : (q : Path) (n slot : ℕ) → 2 ≤ length q → replaces (slot ∷ []) (aim_in q (Over n)) ≡ false
replaces_deeper [] n slot h = absurd (omega arith)
replaces_deeper (i ∷ []) n slot h = absurd (omega arith)
replaces_deeper (i ∷ k ∷ q) n slot h = range_deeper i (parent_path (k ∷ q)) (last_slot (k ∷ q)) n slot

pub over_some : (c : ℕ) (p : Path) (j : ℕ) (ps : List Path) → has_parent (c, aim.Over ((p ++ j ∷ []) ∷ ps)) ≡ true
over_some c [] j ps = refl
over_some c (i ∷ p) j ps = refl

pub parent_over : (c : ℕ) (q : Path) (n : ℕ) → 1 ≤ length q → has_parent (c, aim_in q (Over n)) ≡ nat_lt 0 n
parent_over c [] n h = absurd (omega arith)
parent_over c (i ∷ q) zero h = refl
parent_over c (i ∷ q) (suc n) h = over_some c (parent_path (i ∷ q)) (last_slot (i ∷ q)) (map (λ j. parent_path (i ∷ q) ++ j ∷ []) (counted_from (suc (last_slot (i ∷ q))) n)) ∙ sym (lt-ltb 0 (suc n) (omega arith))

pub first_false : (b x : Bool) → (b || x) ≡ false → b ≡ false
first_false true x h = h
first_false false x h = refl

pub second_false : (b x : Bool) → (b || x) ≡ false → x ≡ false
second_false true x h = absurd (cc)
second_false false x h = h
