-- The lines of a text, and the parts between its newlines.
use Rattle.std.specs.List.{list_all, position_or_len}
use Rattle.std.proofs.Common.{◌≡◌, ℕ, zero, suc, Bool, true, false, not, cond, ◌==◌, get_or, take, drop, ◌+◌, ◌-◌, ◌<◌, add-one, drop-cons, length-take, length-drop, List, [], ◌∷◌, ◌++◌, length, refl, sym, ◌∙◌, ap, arith}
use Rattle.std.proofs.lemmas.List.{map-append, append-nil, take_all, take_more, take-append-drop}
use Rattle.std.proofs.lemmas.List.Folds.{list_all-append}
use denote.Ref.{Bor}
use Rattle.script_lines.specs.Line.{is_empty}
use Rattle.syned_script.specs.Script.{lines_of_parts}
use Rattle.syned_script.specs.inner.Run.{texts_in}

-- all parts are lines but an empty last one
cut : (init : List (List ℕ)) (rest : List ℕ) → lines_of_parts (init ++ rest ∷ []) ≡ init ++ cond (is_empty rest) [] (rest ∷ [])
cut [] rest = refl
cut (x ∷ []) rest = refl
cut (x ∷ y ∷ more) rest = ap (λ l. x ∷ l) (cut (y ∷ more) rest)

empty-is : (b : Bool) (text : List ℕ) → b ≡ (length text == 0) → is_empty text ≡ b
empty-is b [] h = grind arith
empty-is b (x ∷ xs) h = grind arith

pub without-rest : (parts lines : List (Bor (List ℕ))) (rest : Bor (List ℕ)) (b : Bool) → parts ≡ lines ++ rest ∷ [] → b ≡ (length rest.now == 0) → b ≡ true → texts_in lines ≡ lines_of_parts (texts_in parts)
without-rest parts lines rest b popped test empty =
    let e : is_empty rest.now ≡ true = empty-is b rest.now test ∙ empty in
    sym (ap lines_of_parts (ap texts_in popped ∙ map-append (λ (l : Bor (List ℕ)). l.now) lines (rest ∷ [])) ∙ cut (texts_in lines) rest.now ∙ ap (λ t. texts_in lines ++ cond t [] (rest.now ∷ [])) e ∙ append-nil (texts_in lines))

pub with-last : (parts lines : List (Bor (List ℕ))) (rest : Bor (List ℕ)) (b : Bool) → parts ≡ lines ++ rest ∷ [] → b ≡ (length rest.now == 0) → b ≡ false → texts_in parts ≡ lines_of_parts (texts_in parts)
with-last parts lines rest b popped test more =
    let e : is_empty rest.now ≡ false = empty-is b rest.now test ∙ more in
    let shown = ap texts_in popped ∙ map-append (λ (l : Bor (List ℕ)). l.now) lines (rest ∷ []) in
    shown ∙ sym (ap lines_of_parts shown ∙ cut (texts_in lines) rest.now ∙ ap (λ t. texts_in lines ++ cond t [] (rest.now ∷ [])) e)

-- ---- lines as texts
pub item-text : (lines : List (Bor (List ℕ))) (i : ℕ) (d : Bor (List ℕ)) → i < length lines → (get_or lines i d).now ≡ get_or (texts_in lines) i (get_or lines i d).now
item-text [] i d lt = absurd (omega (arith, lt))
item-text (x ∷ xs) zero d lt = refl
item-text (x ∷ xs) (suc i) d lt = item-text xs i d (omega (arith, lt))

pub texts-length : (lines : List (Bor (List ℕ))) → length (texts_in lines) ≡ length lines
texts-length [] = refl
texts-length (x ∷ xs) = ap suc (texts-length xs)

pub texts-drop : (n : ℕ) (lines : List (Bor (List ℕ))) → texts_in (drop n lines) ≡ drop n (texts_in lines)
texts-drop zero lines = refl
texts-drop (suc n) [] = refl
texts-drop (suc n) (x ∷ xs) = texts-drop n xs

-- ---- the first line that is not blank
pub first-here : (p : List ℕ → Bool) (xs : List (List ℕ)) (text : List ℕ) (rest : List (List ℕ)) → list_all p xs ≡ true → p text ≡ false → (list_all p (xs ++ text ∷ rest) ≡ false) × (position_or_len (λ x. not (p x)) (xs ++ text ∷ rest) ≡ length xs)
first-here p [] text rest all here = grind arith
first-here p (x ∷ xs) text rest all here = let more = first-here p xs text rest in grind (arith, more)

-- a list at a place
pub split-at : (texts : List (List ℕ)) (i : ℕ) (text : List ℕ) → i < length texts → text ≡ get_or texts i text → texts ≡ take i texts ++ text ∷ drop (i + 1) texts
split-at texts i text lt is = sym (take-append-drop i texts) ∙ ap (λ l. take i texts ++ l) (drop-cons texts i text lt ∙ ap (λ x. x ∷ drop (suc i) texts) (sym is) ∙ ap (λ n. text ∷ drop n texts) (sym (add-one i)))

-- the lines after a number of them, as the code cuts them off
pub rest-texts : (n : ℕ) (lines : List (Bor (List ℕ))) → texts_in (take (length lines - n) (drop n lines)) ≡ drop n (texts_in lines)
rest-texts n lines = let l = length-drop n lines in ap texts_in (take_all (length lines - n) (drop n lines) (omega arith)) ∙ texts-drop n lines

-- all lines up to one more
pub one-more-passes : (p : List ℕ → Bool) (texts : List (List ℕ)) (i : ℕ) (text : List ℕ) → i < length texts → text ≡ get_or texts i text → list_all p (take i texts) ≡ true → p text ≡ true → list_all p (take (i + 1) texts) ≡ true
one-more-passes p texts i text lt is all here =
    let next = take_more texts i text lt ∙ ap (λ x. take i texts ++ x ∷ []) (sym is) in
    let both = list_all-append p (take i texts) (text ∷ []) in
    ap (list_all p) next ∙ grind arith

-- the first line that does not pass
pub first-fails : (p : List ℕ → Bool) (texts : List (List ℕ)) (i : ℕ) (text : List ℕ) → i < length texts → text ≡ get_or texts i text → list_all p (take i texts) ≡ true → p text ≡ false → (list_all p texts ≡ false) × (i ≡ position_or_len (λ x. not (p x)) texts)
first-fails p texts i text lt is all here =
    let whole = split-at texts i text lt is in
    let first = first-here p (take i texts) text (drop (i + 1) texts) all here in
    let long : length (take i texts) ≡ i = let l = length-take i texts in grind arith in
    (ap (list_all p) whole ∙ first.0, sym (ap (position_or_len (λ x. not (p x))) whole ∙ first.1 ∙ long))

pub is-text : (lines : List (Bor (List ℕ))) (i : ℕ) → i < length lines → i < length (texts_in lines)
is-text lines i lt = let l = texts-length lines in omega arith
