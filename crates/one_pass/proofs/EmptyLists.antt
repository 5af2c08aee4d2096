-- Empty lists.
--     empty-none                    a list of no element is empty
--     more-empty                    one empty list more
--     empty-at                      what is read from a table of empty lists is empty
use Rattle.std.specs.Prelude.{◌≡◌, ℕ, ◌==◌, true, List, [], ◌∷◌, ◌++◌, length, slice_get, Vec, Option, Some, None, zero, suc, refl}
use Rattle.std.specs.Global.{Global}
use Rattle.std.specs.Option.{option_map_or}
use Rattle.std.proofs.Common.{ap, sym, subst, ◌∙◌, arith}
use Rattle.std.proofs.lemmas.Bool.{eqb-true}
use Rattle.std.proofs.lemmas.Option.{get_or_from_slice_get, slice_get_within}
use Rattle.one_pass.specs.inner.Lists.{AreEmpty}

pub empty-none : {X : Type 0} (xs : List X) → (length xs == 0) ≡ true → xs ≡ []
empty-none [] h = refl
empty-none (x ∷ xs) h = absurd (omega (arith, eqb-true (suc (length xs)) 0 h))

end-empty : {T : Type 0} (lists : List (Vec T Global)) (v : Vec T Global) → v.items ≡ [] → AreEmpty lists → AreEmpty (lists ++ v ∷ [])
end-empty [] v none are zero d l = none
end-empty [] v none are (suc k) d l = absurd (omega (arith, l))
end-empty (w ∷ ws) v none are zero d l = are zero d (omega arith)
end-empty (w ∷ ws) v none are (suc k) d l = end-empty ws v none (λ i e m. are (suc i) e (omega (arith, m))) k d (omega (arith, l))

pub more-empty : {T : Type 0} (lists after : List (Vec T Global)) (v : Vec T Global) → after ≡ lists ++ v ∷ [] → v.items ≡ [] → AreEmpty lists → AreEmpty after
more-empty lists after v more none are = subst AreEmpty (sym more) (end-empty lists v none are)

pub empty-at : {T X : Type 0} (f : Vec T Global → List X) → ((v : Vec T Global) → v.items ≡ [] → f v ≡ []) → (lists : List (Vec T Global)) → AreEmpty lists → (k : ℕ) → option_map_or f (slice_get lists k) [] ≡ []
empty-at {T} {X} f empty lists are k = go (slice_get lists k) refl
  where
    go : (o : Option (Vec T Global)) → slice_get lists k ≡ o → option_map_or f o [] ≡ []
    go None at_k = refl
    go (Some v) at_k = empty v (ap (λ w. w.items) (sym (get_or_from_slice_get lists k v v at_k)) ∙ are k v (slice_get_within lists k v at_k))
