-- Where the first item that passes a test stands.
--     position-pushed, position-added      with one more item at the end, which does not pass; which is the first that does
--     none-found                           where no item passes, nothing is found of any
--     position-taken, position-kept        where the first item that passes is exchanged, or one more put at the end: by that test, and by one that no such item passes
--     taken-alike, filter_map-alike        two tests, two finders, that answer alike on a list
use Rattle.std.specs.Prelude.{◌≡◌, ℕ, suc, Bool, true, false, cond, List, [], ◌∷◌, ◌++◌, length, filter_map, position, Option, Some, None, option_map, is_some, unwrap_or, All, refl}
use Rattle.std.specs.List.{cons_option}
use Rattle.std.proofs.Common.{ap, sym, ◌∙◌}
use Rattle.std.proofs.lemmas.Option.{none-some}
use Rattle.std.proofs.lemmas.Bool.{cases_Bool}
use Rattle.std.proofs.lemmas.List.Elements.{All-head, All-tail}
use mathlib.Core.Logic.{inl, inr}
use Rattle.edit_change.proofs.Positions.{position-cons}
use Rattle.change_list.proofs.TakenUp.{taken, taken-here, taken-after}

module _ {X : Type 0} (p : X → Bool) where
  pub position-here : (x : X) (xs : List X) → p x ≡ true → position p (x ∷ xs) ≡ Some 0
  position-here x xs passes = position-cons p x xs ∙ ap (λ b. cond b (Some 0) (option_map suc (position p xs))) passes

  pub position-after : (x : X) (xs : List X) → p x ≡ false → position p (x ∷ xs) ≡ option_map suc (position p xs)
  position-after x xs fails = position-cons p x xs ∙ ap (λ b. cond b (Some 0) (option_map suc (position p xs))) fails

  pub position-pushed : (xs : List X) (y : X) → p y ≡ false → position p (xs ++ y ∷ []) ≡ position p xs
  position-pushed [] y fails = position-after y [] fails
  position-pushed (x ∷ xs) y fails =
      position-cons p x (xs ++ y ∷ []) ∙ ap (λ o. cond (p x) (Some 0) (option_map suc o)) (position-pushed xs y fails) ∙ sym (position-cons p x xs)

  none-later : (o : Option ℕ) → option_map suc o ≡ None → o ≡ None
  none-later None e = refl
  none-later (Some j) e = cc

  -- no item passes where none is found
  none-first : (x : X) (xs : List X) → position p (x ∷ xs) ≡ None → (p x ≡ false) × (position p xs ≡ None)
  none-first x xs none =
      elim (cases_Bool (p x)) [
        | inl passes ↦ absurd (none-some 0 (sym none ∙ position-here x xs passes))
        | inr fails ↦ (fails, none-later (position p xs) (sym (position-after x xs fails) ∙ none))
      ]

  pub position-added : (xs : List X) (y : X) → position p xs ≡ None → p y ≡ true → position p (xs ++ y ∷ []) ≡ Some (length xs)
  position-added [] y none passes = position-here y [] passes
  position-added (x ∷ xs) y none passes =
      let parts = none-first x xs none in
      position-after x (xs ++ y ∷ []) parts.0 ∙ ap (option_map suc) (position-added xs y parts.1 passes)

module _ {X Y : Type 0} (f : X → Option Y) where
  nothing-found : (o : Option Y) (ys : List Y) → is_some o ≡ false → ys ≡ [] → cons_option o ys ≡ []
  nothing-found None ys e none = none
  nothing-found (Some y) ys e none = cc

  pub none-found : (xs : List X) → position (λ x. is_some (f x)) xs ≡ None → filter_map f xs ≡ []
  none-found [] none = refl
  none-found (x ∷ xs) none =
      let parts = none-first (λ y. is_some (f y)) x xs none in
      nothing-found (f x) (filter_map f xs) parts.0 (none-found xs parts.1)

  pub filter_map-alike : (g : X → Option Y) (xs : List X) → All (λ x. f x ≡ g x) xs → filter_map f xs ≡ filter_map g xs
  filter_map-alike g [] all = refl
  filter_map-alike g (x ∷ xs) all =
      ap (λ o. cons_option o (filter_map f xs)) (All-head (λ y. f y ≡ g y) x xs all) ∙ ap (cons_option (g x)) (filter_map-alike g xs (All-tail (λ y. f y ≡ g y) x xs all))

module _ {X : Type 0} (p : X → Bool) (change : X → X) (more : X) where
  or-length : (n : ℕ) (o : Option ℕ) → option_map suc (Some (unwrap_or o n)) ≡ Some (unwrap_or (option_map suc o) (suc n))
  or-length n None = refl
  or-length n (Some j) = refl

  pub position-taken : ((x : X) → p x ≡ true → p (change x) ≡ true) → p more ≡ true → (xs : List X) → position p (taken p change more xs) ≡ Some (unwrap_or (position p xs) (length xs))
  position-taken stays last [] = position-here p more [] last
  position-taken stays last (x ∷ xs) =
      elim (cases_Bool (p x)) [
        | inl passes ↦ ap (position p) (taken-here p change more x xs passes) ∙ position-here p (change x) xs (stays x passes) ∙ ap (λ o. Some (unwrap_or o (suc (length xs)))) (sym (position-here p x xs passes))
        | inr fails ↦ ap (position p) (taken-after p change more x xs fails) ∙ position-after p x (taken p change more xs) fails ∙ ap (option_map suc) (position-taken stays last xs) ∙ or-length (length xs) (position p xs) ∙ ap (λ o. Some (unwrap_or o (suc (length xs)))) (sym (position-after p x xs fails))
      ]

  pub position-kept : (q : X → Bool) → ((x : X) → p x ≡ true → q x ≡ false) → ((x : X) → p x ≡ true → q (change x) ≡ false) → q more ≡ false → (xs : List X) → position q (taken p change more xs) ≡ position q xs
  position-kept q before after last [] = position-after q more [] last
  position-kept q before after last (x ∷ xs) =
      elim (cases_Bool (p x)) [
        | inl passes ↦ ap (position q) (taken-here p change more x xs passes) ∙ position-after q (change x) xs (after x passes) ∙ sym (position-after q x xs (before x passes))
        | inr fails ↦ ap (position q) (taken-after p change more x xs fails) ∙ position-cons q x (taken p change more xs) ∙ ap (λ o. cond (q x) (Some 0) (option_map suc o)) (position-kept q before after last xs) ∙ sym (position-cons q x xs)
      ]

  pub taken-alike : (q : X → Bool) (xs : List X) → All (λ x. p x ≡ q x) xs → taken p change more xs ≡ taken q change more xs
  taken-alike q [] all = refl
  taken-alike q (x ∷ xs) all =
      let same : p x ≡ q x = All-head (λ y. p y ≡ q y) x xs all in
      elim (cases_Bool (p x)) [
        | inl passes ↦ taken-here p change more x xs passes ∙ sym (taken-here q change more x xs (sym same ∙ passes))
        | inr fails ↦ taken-after p change more x xs fails ∙ ap (λ ys. x ∷ ys) (taken-alike q xs (All-tail (λ y. p y ≡ q y) x xs all)) ∙ sym (taken-after q change more x xs (sym same ∙ fails))
      ]
