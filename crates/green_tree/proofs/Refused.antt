-- What is promised of a call that may be refused.
--     no-ok, no-value                        of a result that is an error, and of the value that it lacks
--     on-err, on_err-map, from-err, has-ok   what holds anyway; what follows from that; where it is refused, and where it is not
use Rattle.std.specs.Prelude.{◌≡◌, Result, Ok, Err, IfOk, OnOk, OnErr}
use Rattle.std.specs.Result.{IsErr, IsOk, is_ok}
use Rattle.std.proofs.Common.{ap, subst}
use Rattle.std.proofs.lemmas.Bool.{false≢true}

pub no-ok : {T E : Type 0} (P : Type 0) (r : Result T E) → IsErr r → OnOk r P
no-ok P (Ok x) h = absurd (false≢true h)
no-ok P (Err e) h = tt

pub no-value : {T E : Type 0} (P : T → Type 0) (r : Result T E) → IsErr r → IfOk r P
no-value P (Ok x) h = absurd (false≢true h)
no-value P (Err e) h = tt

pub on-err : {T E : Type 0} (P : Type 0) (r : Result T E) → P → OnErr r P
on-err P (Ok x) h = tt
on-err P (Err e) h = h

pub on_err-map : {T E P Q : Type 0} (r : Result T E) → (P → Q) → OnErr r P → OnErr r Q
on_err-map (Ok x) f h = tt
on_err-map (Err e) f h = f h

pub from-err : {T E P : Type 0} (r : Result T E) (e : E) → r ≡ Err e → OnErr r P → P
from-err {P = P} r e is h = subst (λ s. OnErr s P) is h

pub has-ok : {T E : Type 0} (r : Result T E) (x : T) → r ≡ Ok x → IsOk r
has-ok r x is = ap is_ok is
