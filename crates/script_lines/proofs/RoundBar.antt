-- The elements before and after a `|`.
--     refs-no-bar       no reference is one
--     first-bar-splits  the first one is between the elements
--     bar-here, no-bar-yet, no-bar-at-all     where it is among fields
--     rest-of-fields    the fields after a number of them, as the code cuts them off
--     no-bar            there is one
use Rattle.std.proofs.Common.{◌≡◌, ◌≢◌, ℕ, ◌+◌, ◌<◌, ◌≤◌, List, [], ◌∷◌, ◌++◌, length, take, drop, get_or, codes, refl, sym, ◌∙◌, ap, subst, drop-cons, add-one, length-drop, arith, ◌-◌}
use Rattle.std.specs.List.{AllByRecursion}
use Rattle.std.proofs.lemmas.Bool.{false≢true}
use Rattle.std.proofs.lemmas.List.{map-append, take_all, take_more, take-append-drop}
use Rattle.script_lines.specs.LineValue.{texts_of}
use Rattle.script_lines.specs.declared.field.Field.{Field}
use Rattle.script_lines.specs.Line.{Each, IsRef, between}
use Rattle.script_lines.specs.Name.{IsName}
use Rattle.script_lines.specs.ScriptLine.{Ref}
use Rattle.script_lines.specs.inner.Taken.{AreRoundBar, IsFirstBar}

abbrev bar : List ℕ
bar = codes "|"

not-named : IsName bar → ⊥
not-named named = false≢true named.0

not-bar : (f : List ℕ) (r : Ref) → IsRef f r → f ≢ bar
not-bar f r is same =
    let parts : bar ∷ [] ≡ r.name ∷ is.slots = sym (ap (between 47) same) ∙ is.parts in
    let name : r.name ≡ bar = cc in
    not-named (subst IsName name is.named)

pub refs-no-bar : (fs : List (List ℕ)) (rs : List Ref) → Each IsRef fs rs → AllByRecursion (λ f. f ≢ bar) fs
refs-no-bar [] [] all = tt
refs-no-bar [] (r ∷ rs) all = absurd all
refs-no-bar (f ∷ fs) [] all = absurd all
refs-no-bar (f ∷ fs) (r ∷ rs) all = (not-bar f r all.0, refs-no-bar fs rs all.1)

splits : (xs ys xs' ys' : List (List ℕ)) → xs ++ bar ∷ ys ≡ xs' ++ bar ∷ ys' → AllByRecursion (λ f. f ≢ bar) xs → AllByRecursion (λ f. f ≢ bar) xs' → (xs ≡ xs') × (ys ≡ ys')
splits [] ys [] ys' same none none' = let rest : ys ≡ ys' = cc in (refl, rest)
splits [] ys (x ∷ xs') ys' same none none' = let first : x ≡ bar = cc in absurd (none'.0 first)
splits (x ∷ xs) ys [] ys' same none none' = let first : x ≡ bar = cc in absurd (none.0 first)
splits (x ∷ xs) ys (x' ∷ xs') ys' same none none' =
    let first : x ≡ x' = cc in
    let rest : xs ++ bar ∷ ys ≡ xs' ++ bar ∷ ys' = cc in
    let more = splits xs ys xs' ys' rest none.1 none'.1 in
    (ap (λ l. x ∷ l) more.0 ∙ ap (λ y. y ∷ xs') first, more.1)

pub first-bar-splits : (fields : List Field) (i : ℕ) → IsFirstBar fields i → (refs : List Ref × List Ref) → (round : AreRoundBar (texts_of fields) refs) → (texts_of (take i fields) ≡ round.before) × (texts_of (drop (i + 1) fields) ≡ round.after)
first-bar-splits fields i first refs round =
    splits (texts_of (take i fields)) (texts_of (drop (i + 1) fields)) round.before round.after (sym first.is ∙ round.is) first.none_before (refs-no-bar round.before refs.0 round.are_before)

-- ---- where it is
parted : (fields : List Field) (i : ℕ) (d : Field) → i < length fields → fields ≡ take i fields ++ get_or fields i d ∷ drop (i + 1) fields
parted fields i d within = sym (take-append-drop i fields) ∙ ap (λ l. take i fields ++ l) (drop-cons fields i d within ∙ ap (λ n. get_or fields i d ∷ drop n fields) (sym (add-one i)))

pub bar-here : (fields : List Field) (i : ℕ) (d : Field) → i < length fields → AllByRecursion (λ f. f ≢ bar) (texts_of (take i fields)) → (get_or fields i d).text.now ≡ bar → IsFirstBar fields i
bar-here fields i d within none here = record {
  within = within;
  is = ap texts_of (parted fields i d within) ∙ map-append (λ f. f.text.now) (take i fields) (get_or fields i d ∷ drop (i + 1) fields) ∙ ap (λ t. texts_of (take i fields) ++ t ∷ texts_of (drop (i + 1) fields)) here;
  none_before = none;
}

all-but-bar : (xs : List (List ℕ)) (y : List ℕ) → AllByRecursion (λ f. f ≢ bar) xs → y ≢ bar → AllByRecursion (λ f. f ≢ bar) (xs ++ y ∷ [])
all-but-bar [] y all here = (here, tt)
all-but-bar (x ∷ xs) y all here = (all.0, all-but-bar xs y all.1 here)

pub no-bar-yet : (fields : List Field) (i : ℕ) (d : Field) → i < length fields → AllByRecursion (λ f. f ≢ bar) (texts_of (take i fields)) → ((get_or fields i d).text.now ≢ bar) → AllByRecursion (λ f. f ≢ bar) (texts_of (take (i + 1) fields))
no-bar-yet fields i d within none here =
    let f = get_or fields i d in
    let front : texts_of (take (i + 1) fields) ≡ texts_of (take i fields) ++ f.text.now ∷ [] = ap texts_of (take_more fields i d within) ∙ map-append (λ g. g.text.now) (take i fields) (f ∷ []) in
    subst (AllByRecursion (λ f. f ≢ bar)) (sym front) (all-but-bar (texts_of (take i fields)) f.text.now none here)

pub no-bar-at-all : (fields : List Field) (i : ℕ) → length fields ≤ i → AllByRecursion (λ f. f ≢ bar) (texts_of (take i fields)) → AllByRecursion (λ f. f ≢ bar) (texts_of fields)
no-bar-at-all fields i past none = subst (λ l. AllByRecursion (λ f. f ≢ bar) (texts_of l)) (take_all i fields past) none

pub rest-of-fields : (fields : List Field) (n : ℕ) → texts_of (take (length fields - n) (drop n fields)) ≡ texts_of (drop n fields)
rest-of-fields fields n = let l = length-drop n fields in ap texts_of (take_all (length fields - n) (drop n fields) (omega arith))

among : (xs ys : List (List ℕ)) → AllByRecursion (λ f. f ≢ bar) (xs ++ bar ∷ ys) → ⊥
among [] ys all = all.0 refl
among (x ∷ xs) ys all = among xs ys all.1

pub no-bar : (all : List (List ℕ)) → AllByRecursion (λ f. f ≢ bar) all → (refs : List Ref × List Ref) → AreRoundBar all refs → ⊥
no-bar all none refs round = among round.before round.after (subst (AllByRecursion (λ f. f ≢ bar)) round.is none)
