-- What a word says that is read by its name.
--     name-read     it says this
--     no-name       it says nothing, whatever is left behind it
use Rattle.std.proofs.Common.{◌≡◌, ℕ, List, ◌∷◌, Option, Some, None, IfSome, IsNone, Result, IfOk, OnErr, refl, sym, subst}
use Rattle.std.specs.Option.{ok_or}
use Rattle.script_lines.specs.declared.fault.Fault.{Fault}
use Rattle.script_lines.specs.inner.Taken.{Begins, IsTaken}

module _ {A : Type 0} (Says : List ℕ → A → Type 0) (all left : List (List ℕ)) (word : List ℕ) (begins : all ≡ word ∷ left) where
  pub name-read : (found : Option A) (fault : Fault) (r : Result A Fault) → IfSome found (Says word) → r ≡ ok_or found fault → IfOk r (IsTaken Says all left)
  name-read None fault r is given = subst (λ x. IfOk x (IsTaken Says all left)) (sym given) tt
  name-read (Some a) fault r is given = subst (λ x. IfOk x (IsTaken Says all left)) (sym given) (record { word = word; first = begins; says = is })

  not-said : ((a : A) → Says word a → ⊥) → (a : A) → Begins Says all a → ⊥
  not-said none a begun =
      let first : all ≡ begun.1.word ∷ begun.0 = begun.1.first in
      let same : begun.1.word ≡ word = cc in
      none a (subst (λ w. Says w a) same begun.1.says)

  pub no-name : (Q : A → Type 0) → ((a : A) → Q a → Begins Says all a) → (found : Option A) (fault : Fault) (r : Result A Fault) → (IsNone found → (a : A) → Says word a → ⊥) → r ≡ ok_or found fault → OnErr r ((a : A) → Q a → ⊥)
  no-name Q begun (Some a) fault r none given = subst (λ x. OnErr x ((a : A) → Q a → ⊥)) (sym given) tt
  no-name Q begun None fault r none given = subst (λ x. OnErr x ((a : A) → Q a → ⊥)) (sym given) (λ a q. not-said (none refl) a (begun a q))
