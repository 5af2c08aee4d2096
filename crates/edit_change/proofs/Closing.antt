-- The last item of a list, which is taken off.
--     last-push, split-last         the last item, after the others
--     mapped-last                   the last of what is made of each item
--     one-less                      one more that is taken off
use Rattle.std.specs.Prelude.{◌≡◌, ◌-◌, ℕ, zero, suc, List, [], ◌∷◌, ◌++◌, map, take, length, slice_get, Some, refl}
use Rattle.std.proofs.Common.{ap, sym, ◌∙◌, arith, append_assoc}
use Rattle.std.proofs.lemmas.List.{map-append}
use Rattle.std.proofs.lemmas.Option.{none-some, same_Some, slice_get_within}
use Rattle.cst_core.specs.Path.{last_item}

pub last-push : {X : Type 0} (xs : List X) (x : X) → last_item (xs ++ x ∷ []) ≡ Some x
last-push [] x = refl
last-push (y ∷ []) x = refl
last-push (y ∷ z ∷ xs) x = last-push (z ∷ xs) x

pub split-last : {X : Type 0} (xs : List X) (n : ℕ) (x : X) → slice_get xs n ≡ Some x → length xs ≡ suc n → xs ≡ take n xs ++ x ∷ []
split-last [] n x is l = absurd (none-some x is)
split-last (y ∷ []) zero x is l = ap (λ z. z ∷ []) (same_Some y x is)
split-last (y ∷ z ∷ xs) zero x is l = absurd (omega (arith, l))
split-last (y ∷ xs) (suc n) x is l = ap (λ zs. y ∷ zs) (split-last xs n x is (omega (arith, l)))

module _ {X Y : Type 0} (f : X → Y) (xs : List X) (x : X) (is : slice_get xs (length xs - 1) ≡ Some x) where
  split : xs ≡ take (length xs - 1) xs ++ x ∷ []
  split =
      let l = slice_get_within xs (length xs - 1) x is in
      split-last xs (length xs - 1) x is (omega (arith, l))

  pub mapped-last : last_item (map f xs) ≡ Some (f x)
  mapped-last =
      ap (λ ys. last_item (map f ys)) split ∙ ap last_item (map-append f (take (length xs - 1) xs) (x ∷ [])) ∙ last-push (map f (take (length xs - 1) xs)) (f x)

  pub one-less : (all gone : List Y) (rest : List X) (n : ℕ) → n ≡ length xs → rest ≡ take (n - 1) xs → all ≡ map f xs ++ gone → all ≡ map f rest ++ f x ∷ gone
  one-less all gone rest n long is_rest told =
      let before : xs ≡ rest ++ x ∷ [] = split ∙ ap (λ ys. ys ++ x ∷ []) (ap (λ k. take (k - 1) xs) (sym long) ∙ sym is_rest) in
      told ∙ ap (λ ys. ys ++ gone) (ap (map f) before ∙ map-append f rest (x ∷ [])) ∙ append_assoc (map f rest) (f x ∷ []) gone
