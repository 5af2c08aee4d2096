-- Words and their numbers.
use Rattle.std.proofs.Common.{◌≡◌, ℕ, suc, ◌+◌, ◌≤◌, true, false, cond, eqb, List, [], ◌∷◌, ◌++◌, length, map, Option, Some, None, String, refl, sym, ◌∙◌, ap, subst, arith, length-append, eq-eqb, inl, inr}
use Rattle.std.specs.List.{AllByRecursion, list_any, position_or_len}
use Rattle.std.specs.Option.{option_or}
use Rattle.std.specs.Map.{update}
use Rattle.std.specs.Str.{bytes_eq}
use Rattle.std.specs.String.{string_bytes}
use Rattle.std.proofs.lemmas.List.Folds.{position_or_len_push}
use Rattle.std.proofs.lemmas.Slice.Eq.{bytes_eq-Decides}
use Rattle.std.proofs.lemmas.Bool.{cases_Bool, ne_eqb}
use Rattle.syned_script.specs.State.{annotation_of, with_word}
use Rattle.syned_script.specs.WordValue.{texts_of, word_of, with_number}
use Rattle.std.specs.HashMap.{HashMap, get_by_text}
use Rattle.std.specs.Global.{Global}
use Rattle.std.proofs.lemmas.List.{map-append}
use Rattle.syned_script.specs.inner.Numbered.{number_from, IsNumbered, AreNumbered}
use Rattle.syned_script.specs.declared.words.Word.{Word}

-- ---- what the numbers say
pub present : (word : List ℕ) (n : ℕ) (ts : List (List ℕ)) (a : ℕ) → number_from n ts word ≡ Some a → (list_any (bytes_eq word) ts ≡ true) × (a ≡ n + position_or_len (bytes_eq word) ts)
present word n [] a h = grind arith
present word n (t ∷ ts) a h = let rest = present word (suc n) ts a in grind (arith, rest)

pub absent : (word : List ℕ) (n : ℕ) (ts : List (List ℕ)) → number_from n ts word ≡ None → (list_any (bytes_eq word) ts ≡ false) × (position_or_len (bytes_eq word) ts ≡ length ts)
absent word n [] h = grind arith
absent word n (t ∷ ts) h = let rest = absent word (suc n) ts in grind (arith, rest)

pub number-push : (word new : List ℕ) (n : ℕ) (ts : List (List ℕ)) → number_from n (ts ++ new ∷ []) word ≡ option_or (number_from n ts word) (cond (bytes_eq word new) (Some (n + length ts)) None)
number-push word new n [] = grind arith
number-push word new n (t ∷ ts) = let rest = number-push word new (suc n) ts in grind (arith, rest)

-- ---- one more word
same-text : (word : List ℕ) → bytes_eq word word ≡ true
same-text word = (bytes_eq-Decides word word).1 refl

option_or-None : (o : Option ℕ) → option_or o None ≡ o
option_or-None None = refl
option_or-None (Some x) = refl

pub number-put : (word new : List ℕ) (ts : List (List ℕ)) (old : List ℕ → Option ℕ) → ((q : List ℕ) → old q ≡ number_from 1 ts q) → number_from 1 ts new ≡ None → update bytes_eq old new (Some (suc (length ts))) word ≡ number_from 1 (ts ++ new ∷ []) word
number-put word new ts old kept none =
    let pushed = number-push word new 1 ts in
    let now = kept word in
    elim (cases_Bool (bytes_eq new word)) [
      | inl e ↦
          let same : new ≡ word = (bytes_eq-Decides new word).0 e in
          let back : bytes_eq word new ≡ true = (bytes_eq-Decides word new).1 (sym same) in
          let gone : number_from 1 ts word ≡ None = subst (λ q. number_from 1 ts q ≡ None) same none in
          grind arith
      | inr e ↦
          let other : bytes_eq word new ≡ false = elim (cases_Bool (bytes_eq word new)) [ inl f ↦ grind (arith, (bytes_eq-Decides new word).1 (sym ((bytes_eq-Decides word new).0 f))) | inr f ↦ f ] in
          let same = option_or-None (number_from 1 ts word) in
          grind arith
    ]

numbered-on : (new : List ℕ) (ts : List (List ℕ)) (w : Word) → IsNumbered ts w → IsNumbered (ts ++ new ∷ []) w
numbered-on new ts w h =
    let word = string_bytes w.text in
    let pushed = position_or_len_push (bytes_eq word) ts new in
    let number = h.0 in
    let below = h.1 in
    let ne : eqb (position_or_len (bytes_eq word) ts) (length ts) ≡ false = ne_eqb _ _ (omega arith) in
    let more = length-append ts (new ∷ []) in
    (grind arith, omega arith)

pub all-on : (new : List ℕ) (ts : List (List ℕ)) (ws : List Word) → AllByRecursion (IsNumbered ts) ws → AllByRecursion (IsNumbered (ts ++ new ∷ [])) ws
all-on new ts [] h = tt
all-on new ts (w ∷ ws) h = (numbered-on new ts w h.0, all-on new ts ws h.1)

pub push-numbered : (P : Word → Type 0) (ws : List Word) (w : Word) → AllByRecursion P ws → P w → AllByRecursion P (ws ++ w ∷ [])
push-numbered P [] w h new = (new, tt)
push-numbered P (x ∷ xs) w h new = (h.0, push-numbered P xs w h.1 new)

pub number-of-new : (new : List ℕ) (ts : List (List ℕ)) → number_from 1 ts new ≡ None → annotation_of (ts ++ new ∷ []) new ≡ suc (length ts)
number-of-new new ts none =
    let pushed = position_or_len_push (bytes_eq new) ts new in
    let gone = (absent new 1 ts none).1 in
    let same = same-text new in
    let eq = eq-eqb (position_or_len (bytes_eq new) ts) (length ts) gone in
    grind arith

-- ---- words that are used
pub with-new : (word : List ℕ) (ts : List (List ℕ)) → number_from 1 ts word ≡ None → with_word word ts ≡ ts ++ word ∷ []
with-new word ts none = ap (λ b. cond b ts (ts ++ word ∷ [])) (absent word 1 ts none).0

pub with-used : (word : List ℕ) (ts : List (List ℕ)) (a : ℕ) → number_from 1 ts word ≡ Some a → with_word word ts ≡ ts
with-used word ts a some = ap (λ b. cond b ts (ts ++ word ∷ [])) (present word 1 ts a some).0

pub number-used : (word : List ℕ) (ts : List (List ℕ)) (a : ℕ) → number_from 1 ts word ≡ Some a → a ≡ annotation_of ts word
number-used word ts a some = let p = (present word 1 ts a some).1 in omega arith

pub listed : (ts : List (List ℕ)) (ws : List Word) → AllByRecursion (IsNumbered ts) ws → map word_of ws ≡ map (with_number ts) (texts_of ws)
listed ts [] h = refl
listed ts (w ∷ ws) h = ap (λ n. (string_bytes w.text, n) ∷ map word_of ws) h.0.0 ∙ ap (λ l. with_number ts (string_bytes w.text) ∷ l) (listed ts ws h.1)

-- ---- a table and a list with one more word
length-texts : (ws : List Word) → length (texts_of ws) ≡ length ws
length-texts [] = refl
length-texts (w ∷ ws) = ap suc (length-texts ws)

pub more-numbered : {S : Type 0} (old new : HashMap (String Global) ℕ S) (ws ws' : List Word) (w : Word) (word : List ℕ) → AreNumbered old ws → number_from 1 (texts_of ws) word ≡ None → string_bytes w.text ≡ word → w.annotation ≡ suc (length ws) → ws' ≡ ws ++ w ∷ [] → ((q : List ℕ) → get_by_text new q ≡ update bytes_eq (get_by_text old) word (Some w.annotation) q) → AreNumbered new ws' × (texts_of ws' ≡ texts_of ws ++ word ∷ []) × (w.annotation ≡ annotation_of (texts_of ws') word)
more-numbered old new ws ws' w word are none text number pushed put =
    let ts = texts_of ws in
    let count : length ts ≡ length ws = length-texts ws in
    let numbered : w.annotation ≡ suc (length ts) = number ∙ ap suc (sym count) in
    let texts : texts_of ws' ≡ ts ++ word ∷ [] = ap texts_of pushed ∙ map-append (λ (w : Word). string_bytes w.text) ws (w ∷ []) ∙ ap (λ x. ts ++ x ∷ []) text in
    let own : w.annotation ≡ annotation_of (ts ++ word ∷ []) word = numbered ∙ sym (number-of-new word ts none) in
    let more : w.annotation ≤ length (ts ++ word ∷ []) = let l = length-append ts (word ∷ []) in omega arith in
    let each : AllByRecursion (IsNumbered (ts ++ word ∷ [])) (ws ++ w ∷ []) = push-numbered (IsNumbered (ts ++ word ∷ [])) ws w (all-on word ts ws are.numbers) (subst (λ x. w.annotation ≡ annotation_of (ts ++ word ∷ []) x) (sym text) own, more) in (
      record {
        numbers = subst (λ l. AllByRecursion (IsNumbered (texts_of ws')) l) (sym pushed) (subst (λ l. AllByRecursion (IsNumbered l) (ws ++ w ∷ [])) (sym texts) each);
        kept = λ q. put q ∙ ap (λ n. update bytes_eq (get_by_text old) word (Some n) q) numbered ∙ number-put q word ts (get_by_text old) are.kept none ∙ ap (λ l. number_from 1 l q) (sym texts);
      },
      texts,
      subst (λ l. w.annotation ≡ annotation_of l word) (sym texts) own,
    )
