-- What stays of a result whose error is exchanged.
use Rattle.std.proofs.Common.{◌≡◌, Result, Ok, Err, MatchResult, IfOk, IsErrAnd, subst, sym}

pub kept_by_map_err : {A E F : Type 0} (r : Result A E) (m : Result A F) (P : A → Type 0) (Q : E → F → Type 0) → MatchResult r (λ x. m ≡ Ok x) (λ e. IsErrAnd m (Q e)) → IfOk r P → IfOk m P
kept_by_map_err (Ok x) m P Q is holds = subst (λ v. IfOk v P) (sym is) holds
kept_by_map_err (Err e) (Err f) P Q is holds = tt
kept_by_map_err (Err e) (Ok x) P Q is holds = absurd is

-- what holds of the one value that there can be
pub of_the_value : {A E : Type 0} (r : Result A E) (a : A) (P : A → Type 0) → IfOk r (λ x. x ≡ a) → P a → IfOk r P
of_the_value (Ok x) a P is holds = subst P (sym is) holds
of_the_value (Err e) a P is holds = tt
