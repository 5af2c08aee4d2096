-- A list in which the first item that passes a test is exchanged, or one more put at the end.
--     taken-here, taken-after     where the first item passes; where it does not
--     taken-set, taken-none        by the index of the first item that passes
--     all-taken                    what holds of each of its items
--     filter_map-taken             what a test finds in it, where it finds what passes
--     filter_map-passed            the same, where it finds nothing of what passes
--     test_of                      the test of what is found there
use Rattle.std.specs.Prelude.{◌≡◌, ℕ, suc, ◌+◌, Bool, true, false, List, [], ◌∷◌, ◌++◌, take, drop, cond, find, filter_map, position, Option, Some, None, option_map, is_some, All, refl}
use Rattle.std.specs.List.{before_first, after_first, cons_option, position_or_len}
use Rattle.std.specs.Option.{option_map_or}
use Rattle.std.proofs.Common.{ap, sym, subst, ◌∙◌, arith, get_or, set}
use Rattle.std.proofs.lemmas.Option.{none-some, same_Some}
use Rattle.edit_change.proofs.Positions.{position-cons}
use Rattle.std.proofs.lemmas.Bool.{cases_Bool}
use Rattle.std.proofs.lemmas.List.Elements.{All-head, All-tail, All-cons, All-push, All-same}
use mathlib.Core.Logic.{inl, inr}

module _ {X : Type 0} (p : X → Bool) (change : X → X) (more : X) where
  abbrev pub taken : List X → List X
  taken xs = option_map_or (λ x. before_first p xs ++ change x ∷ after_first p xs) (find p xs) (xs ++ more ∷ [])

  pub taken-here : (x : X) (xs : List X) → p x ≡ true → taken (x ∷ xs) ≡ change x ∷ xs
  taken-here x xs passes = rw passes refl

  pub taken-after : (x : X) (xs : List X) → p x ≡ false → taken (x ∷ xs) ≡ x ∷ taken xs
  taken-after x xs fails = rw fails (elim (find p xs) as (λ o. option_map_or (λ y. take (1 + position_or_len p xs) (x ∷ xs) ++ change y ∷ drop (1 + position_or_len p xs + 1) (x ∷ xs)) o (x ∷ xs ++ more ∷ []) ≡ x ∷ option_map_or (λ y. before_first p xs ++ change y ∷ after_first p xs) o (xs ++ more ∷ [])) [
    | None ↦ refl
    | Some y ↦ one_on (1 + position_or_len p xs) (position_or_len p xs) (omega arith) y
  ])
    where
      one_on : (m n : ℕ) → m ≡ suc n → (y : X) → take m (x ∷ xs) ++ change y ∷ drop (m + 1) (x ∷ xs) ≡ x ∷ take n xs ++ change y ∷ drop (n + 1) xs
      one_on m n next y =
          let further : suc n + 1 ≡ suc (n + 1) = omega arith in
          rw (next, further) refl

  pub all-taken : (P : X → Type 0) → ((x : X) → p x ≡ true → P x → P (change x)) → P more → (xs : List X) → All P xs → All P (taken xs)
  all-taken P kept last [] all = All-push P [] more all last
  all-taken P kept last (x ∷ xs) all =
      elim (cases_Bool (p x)) [
        | inl passes ↦ All-same P _ _ (taken-here x xs passes) (All-cons P (change x) xs (kept x passes (All-head P x xs all)) (All-tail P x xs all))
        | inr fails ↦ All-same P _ _ (taken-after x xs fails) (All-cons P x (taken xs) (All-head P x xs all) (all-taken P kept last xs (All-tail P x xs all)))
      ]

-- what stands first, exchanged; or one, where there is none
abbrev pub answered : {Y : Type 0} → (Y → Y) → Y → List Y → List Y
answered k y [] = y ∷ []
answered k y (z ∷ zs) = k z ∷ zs

module _ {X Y : Type 0} (p : X → Bool) (change : X → X) (more : X) (found : X → Option Y) where
  pub filter_map-taken : (k : Y → Y) (y : Y) → ((x : X) → p x ≡ is_some (found x)) → ((x : X) → found (change x) ≡ option_map k (found x)) → found more ≡ Some y → (xs : List X) → filter_map found (taken p change more xs) ≡ answered k y (filter_map found xs)
  filter_map-taken k y tests changes last [] = rw last refl
  filter_map-taken k y tests changes last (x ∷ xs) =
      (elim (found x) as (λ o. found x ≡ o → filter_map found (taken p change more (x ∷ xs)) ≡ answered k y (cons_option o (filter_map found xs))) [
        | None ↦ λ e.
            ap (filter_map found) (taken-after p change more x xs (tests x ∙ ap is_some e)) ∙ ap (λ o. cons_option o (filter_map found (taken p change more xs))) e ∙ filter_map-taken k y tests changes last xs
        | Some z ↦ λ e.
            ap (filter_map found) (taken-here p change more x xs (tests x ∙ ap is_some e)) ∙ ap (λ o. cons_option o (filter_map found xs)) (changes x ∙ ap (option_map k) e)
      ]) refl

  pub filter_map-passed : ((x : X) → p x ≡ true → found x ≡ None) → ((x : X) → p x ≡ true → found (change x) ≡ None) → found more ≡ None → (xs : List X) → filter_map found (taken p change more xs) ≡ filter_map found xs
  filter_map-passed before after last [] = rw last refl
  filter_map-passed before after last (x ∷ xs) =
      elim (cases_Bool (p x)) [
        | inl passes ↦
            ap (filter_map found) (taken-here p change more x xs passes) ∙ ap (λ o. cons_option o (filter_map found xs)) (after x passes ∙ sym (before x passes))
        | inr fails ↦
            ap (filter_map found) (taken-after p change more x xs fails) ∙ ap (cons_option (found x)) (filter_map-passed before after last xs)
      ]

-- ---- by the index of the first item that passes
module _ {X : Type 0} (p : X → Bool) (change : X → X) (more : X) where
  position-first : (x : X) (xs : List X) → p x ≡ true → position p (x ∷ xs) ≡ Some 0
  position-first x xs passes = position-cons p x xs ∙ ap (λ b. cond b (Some 0) (option_map suc (position p xs))) passes

  position-later : (x : X) (xs : List X) → p x ≡ false → position p (x ∷ xs) ≡ option_map suc (position p xs)
  position-later x xs fails = position-cons p x xs ∙ ap (λ b. cond b (Some 0) (option_map suc (position p xs))) fails

  set-later : (x : X) (xs : List X) (i : ℕ) (d : X) → ((j : ℕ) → position p xs ≡ Some j → set xs j (change (get_or xs j d)) ≡ taken p change more xs) → (o : Option ℕ) → position p xs ≡ o → option_map suc o ≡ Some i → set (x ∷ xs) i (change (get_or (x ∷ xs) i d)) ≡ x ∷ taken p change more xs
  set-later x xs i d below None is k = absurd (none-some i k)
  set-later x xs i d below (Some j) is k =
      subst (λ n. set (x ∷ xs) n (change (get_or (x ∷ xs) n d)) ≡ x ∷ taken p change more xs) (same_Some (suc j) i k) (ap (λ ys. x ∷ ys) (below j is))

  pub taken-set : (xs : List X) (i : ℕ) (d : X) → position p xs ≡ Some i → set xs i (change (get_or xs i d)) ≡ taken p change more xs
  taken-set [] i d h = absurd (none-some i h)
  taken-set (x ∷ xs) i d h =
      elim (cases_Bool (p x)) [
        | inl passes ↦ let here : 0 ≡ i = same_Some 0 i (sym (position-first x xs passes) ∙ h) in subst (λ k. set (x ∷ xs) k (change (get_or (x ∷ xs) k d)) ≡ taken p change more (x ∷ xs)) here (sym (taken-here p change more x xs passes))
        | inr fails ↦ set-later x xs i d (λ j is. taken-set xs j d is) (position p xs) refl (sym (position-later x xs fails) ∙ h) ∙ sym (taken-after p change more x xs fails)
      ]

  pub taken-none : (xs : List X) → position p xs ≡ None → xs ++ more ∷ [] ≡ taken p change more xs
  taken-none [] h = refl
  taken-none (x ∷ xs) h =
      elim (cases_Bool (p x)) [
        | inl passes ↦ absurd (none-some 0 (sym h ∙ position-first x xs passes))
        | inr fails ↦ ap (λ ys. x ∷ ys) (taken-none xs (no-more (position p xs) refl (sym (position-later x xs fails) ∙ h))) ∙ sym (taken-after p change more x xs fails)
      ]
    where
      no-more : (o : Option ℕ) → position p xs ≡ o → option_map suc o ≡ None → position p xs ≡ None
      no-more None is k = is
      no-more (Some j) is k = cc

pub test_of : {Y : Type 0} (b : Bool) (y : Y) → is_some (cond b (Some y) None) ≡ true → b ≡ true
test_of true y h = refl
test_of false y h = h
