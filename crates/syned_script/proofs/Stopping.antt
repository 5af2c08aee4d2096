-- Results that stand for an error, results whose error is mapped, and two values that are there.
use Rattle.std.proofs.Common.{◌≡◌, Option, Some, Result, Ok, Err, IfErr, sym, ap, subst}
use Rattle.std.specs.Result.{IsErrAnd, MatchResult}
use Rattle.syned_script.specs.State.{of_both}

-- a `Result` that stands for an error
pub by-err : {T E : Type 0} (P : Result T E → Type 0) (r : Result T E) (x : E) → IsErrAnd r (λ e. e ≡ x) → P (Err x) → P r
by-err P (Ok t) x is holds = absurd is
by-err P (Err e) x is holds = subst (λ y. P (Err y)) (sym is) holds

-- what holds of an error that comes of another one
pub mapped-err : {T E F : Type 0} (P : F → Type 0) (Q : E → Type 0) (f : E → F) (r : Result T E) (mapped : Result T F) → ((e : E) → Q e → P (f e)) → MatchResult r (λ x. mapped ≡ Ok x) (λ e. IsErrAnd mapped (λ x. x ≡ f e)) → IfErr r Q → IfErr mapped P
mapped-err P Q f (Ok t) mapped so is h = subst (λ m. IfErr m P) (sym is) tt
mapped-err P Q f (Err e) (Ok t) so is h = absurd is
mapped-err P Q f (Err e) (Err x) so is h = subst P (sym is) (so e h)

-- two values
pub both-there : {A B C : Type 0} (f : A → B → C) (o : Option A) (o' : Option B) (x : A) (y : B) → o ≡ Some x → o' ≡ Some y → of_both f o o' ≡ Some (f x y)
both-there f o o' x y h h' = subst (λ v. of_both f v o' ≡ Some (f x y)) (sym h) (ap (of_both f (Some x)) h')
