-- What stands for an address in a payload stands there alone: a place is unique.
--     StandsFor-push                 the last step of a place
--     LastView, last_view            a path is empty, or ends in a slot
--     StandsFor-unique               a place is unique
use Rattle.std.specs.Prelude.{◌≡◌, ℕ, zero, suc, ◌+◌, ◌<◌, ◌≤◌, [], ◌∷◌, ◌++◌, length, Some, None, refl}
use Rattle.std.specs.Option.{option_map_or}
use Rattle.std.proofs.Common.{ap, ap₂, sym, ◌∙◌, arith, ◌⊎◌, inl, inr, subst}
use Rattle.std.proofs.lemmas.List.{same_from_push, length_push}
use Rattle.cst_core.specs.Path.{Path}
use Rattle.cst_core.specs.Element.{Address, Element, address}
use Rattle.edit_map.specs.Mapping.{Mapping, copy, copied, Rises, IsRising, child_address, StandsFor}
use Rattle.edit_map.proofs.Copies.{same_addresses, pair_of_copy}

pub StandsFor-push : (m : Mapping) (r : Address) (p : Path) (i : ℕ) (x : Address) → StandsFor m r (p ++ i ∷ []) x → (q : Address) × StandsFor m r p q × (copied m x ≡ child_address q i)
StandsFor-push m r [] i x (y, at, same) = (r, refl, ap (copied m) same ∙ at)
StandsFor-push m r (j ∷ p) i x (y, at, below) =
    let found : (q : Address) × StandsFor m y p q × (copied m x ≡ child_address q i) = StandsFor-push m y p i x below in
    (found.0, (y, at, found.1), found.2)

abbrev pub LastView : Path → Type 0
LastView p = (p ≡ []) ⊎ ((q : Path) × (i : ℕ) × (p ≡ q ++ i ∷ []))

pub last_view : (p : Path) → LastView p
last_view [] = inl refl
last_view (i ∷ p) = elim (last_view p) [ inl e ↦ inr ([], i, ap (λ s. i ∷ s) e) | inr v ↦ inr (i ∷ v.0, v.1, ap (λ s. i ∷ s) v.2) ]

-- ---- numbers rise from an address to its copy, so up a payload they never fall
abbrev RisesBy : Address → Address → Type 0
RisesBy x y = (x.number < y.number) ⊎ (y ≡ x)

abbrev Above : Address → Path → Address → Type 0
Above r p x = (x.number < r.number) ⊎ ((x.number ≡ r.number) × (length x.path ≡ length r.path + length p))

module _ (m : Mapping) (rising : IsRising m) where
  copied-rises : (x : Address) → RisesBy x (copied m x)
  copied-rises x =
      (elim (copy m x) as (λ o. copy m x ≡ o → RisesBy x (option_map_or address o x)) [
        | None ↦ λ _. inr refl
        | Some c ↦ λ is. (
            let found : (pair : Element × Element) × Rises pair × (address pair.0 ≡ x) × (pair.1 ≡ c) = pair_of_copy Rises m x c rising is in
            let from : found.0.0.number ≡ x.number = ap (λ a. a.number) found.2 in
            let to : found.0.1.number ≡ c.number = ap (λ e. e.number) found.3 in
            inl (omega (arith, found.1.0)))
      ]) refl

  combined : (r x y : Address) (p : Path) → Above y p x → (y.number < r.number) ⊎ ((y.number ≡ r.number) × (length y.path ≡ suc (length r.path))) → (x.number < r.number) ⊎ ((x.number ≡ r.number) × (length x.path ≡ length r.path + suc (length p)))
  combined r x y p (inl h) (inl k) = inl (omega arith)
  combined r x y p (inl h) (inr k) = inl (omega arith)
  combined r x y p (inr h) (inl k) = inl (omega arith)
  combined r x y p (inr h) (inr k) = inr (h.0 ∙ k.0, omega arith)

  StandsFor-above : (r : Address) (p : Path) (x : Address) → StandsFor m r p x → Above r p x
  StandsFor-above r [] x same = inr (ap (λ a. a.number) same, ap (λ a. length a.path) same ∙ omega arith)
  StandsFor-above r (i ∷ p) x (y, at, below) =
      let number : (copied m y).number ≡ r.number = ap (λ a. a.number) at in
      let long : length (copied m y).path ≡ suc (length r.path) = ap (λ a. length a.path) at ∙ length_push r.path i ∙ omega arith in
      combined r x y p (StandsFor-above y p x below) (elim (copied-rises y) [ inl h ↦ inl (omega arith) | inr e ↦ inr (sym (ap (λ a. a.number) e) ∙ number, sym (ap (λ a. length a.path) e) ∙ long) ])

  not_within_itself : (r : Address) (p : Path) (i : ℕ) → StandsFor m r (p ++ i ∷ []) r → ⊥
  not_within_itself r p i stands =
      elim (StandsFor-above r (p ++ i ∷ []) r stands) [ inl h ↦ omega arith | inr h ↦ omega (arith, h.1, length_push p i) ]

  by_views : (n : ℕ) (r : Address) (p q : Path) (x : Address) → LastView p → LastView q → length p ≤ n → StandsFor m r p x → StandsFor m r q x → p ≡ q
  by_views n r p q x (inl e) (inl f) short at_p at_q = e ∙ sym f
  by_views n r p q x (inl e) (inr f) short at_p at_q =
      let top : x ≡ r = subst (λ s. StandsFor m r s x) e at_p in
      absurd (not_within_itself r f.0 f.1 (subst (λ y. StandsFor m r (f.0 ++ f.1 ∷ []) y) top (subst (λ s. StandsFor m r s x) f.2 at_q)))
  by_views n r p q x (inr e) (inl f) short at_p at_q =
      let top : x ≡ r = subst (λ s. StandsFor m r s x) f at_q in
      absurd (not_within_itself r e.0 e.1 (subst (λ y. StandsFor m r (e.0 ++ e.1 ∷ []) y) top (subst (λ s. StandsFor m r s x) e.2 at_p)))
  by_views zero r p q x (inr e) (inr f) short at_p at_q =
      let long : length p ≡ length e.0 + 1 = ap (λ (s : Path). length s) e.2 ∙ length_push e.0 e.1 in absurd (omega arith)
  by_views (suc n) r p q x (inr e) (inr f) short at_p at_q =
      let a : (y : Address) × StandsFor m r e.0 y × (copied m x ≡ child_address y e.1) = StandsFor-push m r e.0 e.1 x (subst (λ s. StandsFor m r s x) e.2 at_p) in
      let b : (y : Address) × StandsFor m r f.0 y × (copied m x ≡ child_address y f.1) = StandsFor-push m r f.0 f.1 x (subst (λ s. StandsFor m r s x) f.2 at_q) in
      let same : child_address a.0 e.1 ≡ child_address b.0 f.1 = sym a.2 ∙ b.2 in
      let parts : (a.0.path ≡ b.0.path) × (e.1 ≡ f.1) = same_from_push a.0.path b.0.path e.1 f.1 (ap (λ (c : Address). c.path) same) in
      let parent : b.0 ≡ a.0 = sym (same_addresses a.0 b.0 (ap (λ (c : Address). c.number) same) parts.0) in
      let long : length p ≡ length e.0 + 1 = ap (λ (s : Path). length s) e.2 ∙ length_push e.0 e.1 in
      let front : e.0 ≡ f.0 = by_views n r e.0 f.0 a.0 (last_view e.0) (last_view f.0) (omega arith) a.1 (subst (λ y. StandsFor m r f.0 y) parent b.1) in
      e.2 ∙ ap₂ (λ s i. s ++ i ∷ []) front parts.1 ∙ sym f.2

  pub StandsFor-unique : (r : Address) (p q : Path) (x : Address) → StandsFor m r p x → StandsFor m r q x → p ≡ q
  StandsFor-unique r p q x at_p at_q = by_views (length p) r p q x (last_view p) (last_view q) (omega arith) at_p at_q
