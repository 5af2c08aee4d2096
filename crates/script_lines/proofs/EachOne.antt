-- A relation of two lists, one by one.
--     each-more     one more on both sides
--     each-at       what stands at an index is related to something
--     each-yielded, told-more     the same of the texts, and of the fields, at which a loop has been
--     some-at, refused-at         a field at which a loop is, said of all fields
use Rattle.std.proofs.Common.{◌≡◌, ℕ, zero, suc, ◌<◌, ◌+◌, List, [], ◌∷◌, ◌++◌, length, get_or, map, take, Bor, sym, ap, ◌∙◌, subst, arith}
use Rattle.std.proofs.lemmas.List.{map-append, take_more}
use Rattle.script_lines.specs.Line.{Each}
use Rattle.script_lines.specs.LineValue.{texts_of}
use Rattle.script_lines.specs.declared.field.Field.{Field}

pub each-more : {A B : Type 0} (R : A → B → Type 0) (xs : List A) (ys : List B) (x : A) (y : B) → Each R xs ys → R x y → Each R (xs ++ x ∷ []) (ys ++ y ∷ [])
each-more R [] [] x y so_far here = (here, tt)
each-more R [] (z ∷ ys) x y so_far here = absurd so_far
each-more R (w ∷ xs) [] x y so_far here = absurd so_far
each-more R (w ∷ xs) (z ∷ ys) x y so_far here = (so_far.0, each-more R xs ys x y so_far.1 here)

pub each-at : {A B : Type 0} (R : A → B → Type 0) (xs : List A) (ys : List B) (k : ℕ) (x : A) → Each R xs ys → k < length xs → x ≡ get_or xs k x → (y : B) × R x y
each-at R [] ys k x all within is = absurd (omega arith)
each-at R (w ∷ xs) [] k x all within is = absurd all
each-at R (w ∷ xs) (z ∷ ys) zero x all within is = (z, subst (λ v. R v z) (sym is) all.0)
each-at R (w ∷ xs) (z ∷ ys) (suc k) x all within is = each-at R xs ys k x all.1 (omega arith) is

abbrev pub EachText : {B : Type 0} → (List ℕ → B → Type 0) → List (Bor (List ℕ)) → List B → Type 0
EachText R xs ys = Each R (map (λ x. x.now) xs) ys

pub each-yielded : {B : Type 0} (R : List ℕ → B → Type 0) (xs : List (Bor (List ℕ))) (ys : List B) (x : Bor (List ℕ)) (y : B) (zs : List B) → zs ≡ ys ++ y ∷ [] → EachText R xs ys → R x.now y → EachText R (xs ++ x ∷ []) zs
each-yielded R xs ys x y zs is so_far here =
    let more = each-more R (map (λ t. t.now) xs) ys x.now y so_far here in
    subst (Each R (map (λ t. t.now) (xs ++ x ∷ []))) (sym is) (subst (λ l. Each R l (ys ++ y ∷ [])) (sym (map-append (λ t. t.now) xs (x ∷ []))) more)

-- ---- the fields of a line
pub told-more : {B : Type 0} (R : List ℕ → B → Type 0) (fields : List Field) (i : ℕ) (d : Field) (ys zs : List B) (y : B) → i < length fields → zs ≡ ys ++ y ∷ [] → Each R (texts_of (take i fields)) ys → R (get_or fields i d).text.now y → Each R (texts_of (take (i + 1) fields)) zs
told-more R fields i d ys zs y within is so_far here =
    let f = get_or fields i d in
    let more = each-more R (texts_of (take i fields)) ys f.text.now y so_far here in
    let front : texts_of (take (i + 1) fields) ≡ texts_of (take i fields) ++ f.text.now ∷ [] = ap texts_of (take_more fields i d within) ∙ map-append (λ g. g.text.now) (take i fields) (f ∷ []) in
    subst (Each R (texts_of (take (i + 1) fields))) (sym is) (subst (λ l. Each R l (ys ++ y ∷ [])) (sym front) more)

each-field : {B : Type 0} (R : List ℕ → B → Type 0) (fields : List Field) (i : ℕ) (d : Field) (ys : List B) → i < length fields → Each R (texts_of fields) ys → (y : B) × R (get_or fields i d).text.now y
each-field R [] i d ys within all = absurd (omega arith)
each-field R (f ∷ fields) i d [] within all = absurd all
each-field R (f ∷ fields) zero d (y ∷ ys) within all = (y, all.0)
each-field R (f ∷ fields) (suc i) d (y ∷ ys) within all = each-field R fields i d ys (omega arith) all.1

pub some-at : {B : Type 0} (R : List ℕ → B → Type 0) (fields : List Field) (all : List (List ℕ)) (i : ℕ) (d : Field) → texts_of fields ≡ all → i < length fields → (ys : List B) → Each R all ys → (y : B) × R (get_or fields i d).text.now y
some-at R fields all i d is within ys told = each-field R fields i d ys within (subst (λ l. Each R l ys) (sym is) told)

pub refused-at : {B : Type 0} (R : List ℕ → B → Type 0) (fields : List Field) (all : List (List ℕ)) (i : ℕ) (d : Field) → texts_of fields ≡ all → i < length fields → ((y : B) → R (get_or fields i d).text.now y → ⊥) → (ys : List B) → Each R all ys → ⊥
refused-at R fields all i d is within none ys told = let some = some-at R fields all i d is within ys told in none some.0 some.1
