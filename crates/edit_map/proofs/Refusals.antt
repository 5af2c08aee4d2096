-- Why pairs are refused.
--     err-given                      an error that is handed on is the one that came
--     zip-left, zip-right            with an empty list nothing is paired
--     first-refused                  the first pair that is refused, among inputs and outputs
use Rattle.std.specs.Prelude.{◌≡◌, ◌≤◌, List, [], ◌∷◌, ◌++◌, length, All, Result, Ok, Err, IfErr, refl}
use Rattle.std.specs.Result.{IsErrAnd}
use Rattle.std.specs.List.{zip}
use Rattle.std.proofs.Common.{subst, sym, arith}
use Rattle.cst_core.specs.Element.{Element}
use Rattle.edit_map.specs.Builder.{IsPairUnder, RefusesPair, RefusesFirst, RefusesChildren}
use Rattle.edit_map.specs.declared.map_error.MapError.{MapError}
use Rattle.edit_map.specs.declared.map_error.MapError.TheVariants.{NotAChild, NotYounger, OtherShape, MoreInputs, Memory}

pub err-given : {A E : Type 0} (P : E → Type 0) (e : E) → P e → (r : Result A E) → IsErrAnd r (λ f. f ≡ e) → IfErr r P
err-given P e holds (Ok a) is = tt
err-given P e holds (Err f) is = subst P (sym is) holds

pub zip-left : {X Y : Type 0} (xs : List X) (ys : List Y) → length xs ≡ 0 → zip xs ys ≡ []
zip-left [] ys none = refl
zip-left (x ∷ xs) ys none = absurd (omega (arith, none))

pub zip-right : {X Y : Type 0} (xs : List X) (ys : List Y) → length ys ≡ 0 → zip xs ys ≡ []
zip-right [] ys none = refl
zip-right (x ∷ xs) [] none = refl
zip-right (x ∷ xs) (y ∷ ys) none = absurd (omega (arith, none))

module _ (parent : Element) (inputs outputs : List Element) (enough : length inputs ≤ length outputs) (before : List (Element × Element)) (pair : Element × Element) (after : List (Element × Element)) (is : zip inputs outputs ≡ before ++ pair ∷ after) (taken : All (IsPairUnder parent) before) where
  found : (e : MapError) → RefusesPair parent pair e → RefusesFirst parent (zip inputs outputs) e
  found e refused = record { before = before; pair = pair; after = after; is = is; taken = taken; refused = refused }

  pub first-refused : (e : MapError) → RefusesPair parent pair e → RefusesChildren parent inputs outputs e
  first-refused NotAChild refused = (enough, found NotAChild refused)
  first-refused NotYounger refused = (enough, found NotYounger refused)
  first-refused OtherShape refused = (enough, found OtherShape refused)
  first-refused MoreInputs refused = absurd refused
  first-refused Memory refused = enough
