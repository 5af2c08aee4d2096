-- Following ends: each step uses a pair of the mapping whose address has the number that is left.
--     counted                        how many pairs have this number or a greater one at their address
--     copy-falls                     a copy has a greater number, and fewer pairs count there
--     followed-is_followed           the element that is reached where no step is possible is reached, and none is possible there
--     followed_unique                there is no other
use Rattle.std.specs.Prelude.{◌≡◌, ℕ, zero, suc, ◌<◌, ◌≤◌, true, false, cond, nat_le, [], ◌∷◌, length, find, Option, Some, None, option_map, IsSomeAnd, refl}
use Rattle.std.specs.Option.{option_map_or}
use Rattle.std.proofs.Common.{ap, sym, subst, ◌∙◌, arith}
use Rattle.std.proofs.lemmas.Bool.{and_parts, eqb-true, leb-true, le-leb, lt-leb}
use Rattle.std.proofs.lemmas.Option.{none-some, same_Some}
use Rattle.std.proofs.lemmas.List.Elements.{All-head, All-tail}
use Rattle.cst_core.specs.Path.{Path, up_to}
use Rattle.cst_core.specs.Element.{Address, Element, address, same_address}
use Rattle.edit_map.specs.Mapping.{Mapping, copy, Rises, IsRising, step, below_copy, Steps, IsFollowed, followed_within, followed}
use Rattle.edit_map.proofs.Lists.{last_item-filter_map}

abbrev pub counted : ℕ → Mapping → ℕ
counted n [] = 0
counted n (pair ∷ m) = cond (nat_le n pair.0.number) (suc (counted n m)) (counted n m)

counted-le-length : (n : ℕ) (m : Mapping) → counted n m ≤ length m
counted-le-length n [] = omega arith
counted-le-length n (pair ∷ m) =
    elim (nat_le n pair.0.number) as (λ b. cond b (suc (counted n m)) (counted n m) ≤ suc (length m)) [ true ↦ omega (arith, counted-le-length n m) | false ↦ omega (arith, counted-le-length n m) ]

counted_le : (a b : ℕ) → a ≤ b → (m : Mapping) → counted b m ≤ counted a m
counted_le a b h [] = omega arith
counted_le a b h (pair ∷ m) =
    (elim (nat_le b pair.0.number) as (λ t. nat_le b pair.0.number ≡ t → cond t (suc (counted b m)) (counted b m) ≤ cond (nat_le a pair.0.number) (suc (counted a m)) (counted a m)) [
      | true ↦ λ e. rw (le-leb a pair.0.number (omega (arith, h, leb-true b pair.0.number e))) (omega (arith, counted_le a b h m))
      | false ↦ λ _. elim (nat_le a pair.0.number) as (λ t. counted b m ≤ cond t (suc (counted a m)) (counted a m)) [ true ↦ omega (arith, counted_le a b h m) | false ↦ counted_le a b h m ]
    ]) refl

one_more : (a b : ℕ) → a ≤ b → (pair : Element × Element) (m : Mapping) → counted b m < counted a m → counted b (pair ∷ m) < counted a (pair ∷ m)
one_more a b h pair m less =
    (elim (nat_le b pair.0.number) as (λ t. nat_le b pair.0.number ≡ t → cond t (suc (counted b m)) (counted b m) < cond (nat_le a pair.0.number) (suc (counted a m)) (counted a m)) [
      | true ↦ λ e. rw (le-leb a pair.0.number (omega (arith, h, leb-true b pair.0.number e))) (omega (arith, less))
      | false ↦ λ _. elim (nat_le a pair.0.number) as (λ t. counted b m < cond t (suc (counted a m)) (counted a m)) [ true ↦ omega (arith, less) | false ↦ less ]
    ]) refl

-- the pair of a copy counts at the number of the address and not at the copy's
pub copy-falls : (m : Mapping) → IsRising m → (x : Address) (c : Element) → copy m x ≡ Some c → (x.number < c.number) × (counted c.number m < counted x.number m)
copy-falls [] rising x c is = absurd (none-some c is)
copy-falls (pair ∷ m) rising x c is =
    let first : Rises pair = All-head Rises pair m rising in
    (elim (same_address (address pair.0) x) as (λ b. same_address (address pair.0) x ≡ b → option_map (λ d. d.1) (cond b (Some pair) (find (λ d. same_address (address d.0) x) m)) ≡ Some c → (x.number < c.number) × (counted c.number (pair ∷ m) < counted x.number (pair ∷ m))) [
      | true ↦ λ e this. (
          let key : pair.0.number ≡ x.number = eqb-true pair.0.number x.number (and_parts _ _ e).0 in
          let value : pair.1.number ≡ c.number = ap (λ (d : Element). d.number) (same_Some pair.1 c this) in
          let up : x.number < c.number = omega (arith, key, value, first.0) in
          (up, rw (le-leb x.number pair.0.number (omega (arith, key)), lt-leb c.number pair.0.number (omega (arith, key, up))) (omega (arith, counted_le x.number c.number (omega (arith, up)) m))))
      | false ↦ λ _ that. (
          let later : (x.number < c.number) × (counted c.number m < counted x.number m) = copy-falls m (All-tail Rises pair m rising) x c that in
          (later.0, one_more x.number c.number (omega (arith, later.0)) pair m later.1))
    ]) refl is

step-falls : (m : Mapping) → IsRising m → (e f : Element) → step m e ≡ Some f → counted f.number m < counted e.number m
step-falls m rising e f is =
    let found : (p : Path) × (option_map (below_copy e p) (copy m (record { number = e.number; path = p })) ≡ Some f) = last_item-filter_map _ f (up_to e.path) is in
    from_copy found.0 (copy m (record { number = e.number; path = found.0 })) refl found.1
  where
    from_copy : (p : Path) (o : Option Element) → copy m (record { number = e.number; path = p }) ≡ o → option_map (below_copy e p) o ≡ Some f → counted f.number m < counted e.number m
    from_copy p None _ none = absurd (none-some f none)
    from_copy p (Some c) at some =
        let same : c.number ≡ f.number = ap (λ (d : Element). d.number) (same_Some (below_copy e p c) f some) in
        rw (← same) ((copy-falls m rising (record { number = e.number; path = p }) c at).1)

-- ---- an end is reached
followed_within-ends : (m : Mapping) → IsRising m → (k : ℕ) (e : Element) → counted e.number m ≤ k → step m (followed_within k m e) ≡ None
followed_within-ends m rising zero e h = at_once (step m e) refl
  where
    at_once : (o : Option Element) → step m e ≡ o → step m e ≡ None
    at_once None is = is
    at_once (Some f) is = absurd (omega (arith, h, step-falls m rising e f is))
followed_within-ends m rising (suc k) e h =
    (elim (step m e) as (λ o. step m e ≡ o → step m (option_map_or (followed_within k m) o e) ≡ None) [
      | None ↦ λ is. is
      | Some f ↦ λ is. followed_within-ends m rising k f (omega (arith, h, step-falls m rising e f is))
    ]) refl

Steps-followed_within : (m : Mapping) (k : ℕ) (e : Element) → (n : ℕ) × Steps m n e (followed_within k m e)
Steps-followed_within m zero e = (0, refl)
Steps-followed_within m (suc k) e =
    (elim (step m e) as (λ o. step m e ≡ o → (n : ℕ) × Steps m n e (option_map_or (followed_within k m) o e)) [
      | None ↦ λ _. (0, refl)
      | Some f ↦ λ is. (
          let rest : (n : ℕ) × Steps m n f (followed_within k m f) = Steps-followed_within m k f in
          (suc rest.0, subst (λ o. IsSomeAnd o (λ g. Steps m rest.0 g (followed_within k m f))) (sym is) rest.1))
    ]) refl

pub followed-is_followed : (m : Mapping) → IsRising m → (e : Element) → IsFollowed m e (followed m e)
followed-is_followed m rising e = record {
  reached = Steps-followed_within m (length m) e;
  ends = followed_within-ends m rising (length m) e (counted-le-length e.number m);
}

-- ---- and no other
module _ (m : Mapping) where
  no_step : (e f : Element) (n : ℕ) → step m e ≡ None → Steps m (suc n) e f → ⊥
  no_step e f n none steps = subst (λ o. IsSomeAnd o (λ g. Steps m n g f)) none steps

  same_end : (n k : ℕ) (e f g : Element) → Steps m n e f → step m f ≡ None → Steps m k e g → step m g ≡ None → f ≡ g
  same_end zero zero e f g at_f end_f at_g end_g = sym at_f ∙ at_g
  same_end zero (suc k) e f g at_f end_f at_g end_g = absurd (no_step e g k (ap (step m) at_f ∙ end_f) at_g)
  same_end (suc n) zero e f g at_f end_f at_g end_g = absurd (no_step e f n (ap (step m) at_g ∙ end_g) at_f)
  same_end (suc n) (suc k) e f g at_f end_f at_g end_g =
      (elim (step m e) as (λ o. IsSomeAnd o (λ h. Steps m n h f) → IsSomeAnd o (λ h. Steps m k h g) → f ≡ g) [
        | None ↦ λ a b. absurd a
        | Some h ↦ λ a b. same_end n k h f g a end_f b end_g
      ]) at_f at_g

pub followed_unique : (m : Mapping) → IsRising m → (e f : Element) → IsFollowed m e f → f ≡ followed m e
followed_unique m rising e f is =
    let own : IsFollowed m e (followed m e) = followed-is_followed m rising e in
    same_end m is.reached.0 own.reached.0 e f (followed m e) is.reached.1 is.ends own.reached.1 own.ends
