-- What stands after the last newline of a text, as a search from the end finds it.
--     after_none, after_found     where such a search finds no newline, and where it finds one
use Rattle.std.specs.Prelude.{◌≡◌, ℕ, ◌<◌, true, false, ◌||◌, List, ◌∷◌, ◌++◌, length, take, drop, slice_index, Bool, cond, Option, Some, None, refl}
use Rattle.std.specs.List.{after_last}
use Rattle.std.specs.Str.{NoCharPasses}
use Rattle.std.specs.Str.Pattern.{RFindsChar, SplitsAroundMatch}
use Rattle.std.proofs.Common.{ap, sym, ◌∙◌, subst, lit<}
use Rattle.std.proofs.lemmas.Bool.{cases_Bool, cond-true, cond-false, eqb-true}
use Rattle.std.proofs.lemmas.List.{take-append-drop}
use Rattle.std.proofs.lemmas.List.Elements.{All-from_get_or}
use Rattle.std.proofs.lemmas.List.Folds.{list_any-append, list_any_none}
use Rattle.std.proofs.lemmas.Str.Pattern.{NoCharPasses-char, drop_at_char}
use mathlib.Core.Logic.{inl, inr}
use Rattle.whitespace.specs.Level.{newline, is_newline, has_newline}
use Rattle.whitespace.proofs.Lines.{after_last-last}

no_newline : (s : List ℕ) → NoCharPasses is_newline s → has_newline s ≡ false
no_newline s none =
    list_any_none is_newline s (All-from_get_or (λ b. is_newline b ≡ false) s 0 (λ i below. other i below))
  where
    other : (i : ℕ) → i < length s → is_newline (slice_index s i) ≡ false
    other i below =
        elim (cases_Bool (is_newline (slice_index s i))) [
          | inl is ↦ absurd (NoCharPasses-char newline s i none (lit< tt) below (eqb-true _ newline is))
          | inr isnt ↦ isnt
        ]

abbrev pub AfterElement : List ℕ → Option (List ℕ) → Type 0
AfterElement s line = line ≡ cond (has_newline s) (Some (after_last is_newline s)) None

pub after_none : (s : List ℕ) → RFindsChar newline s None → AfterElement s None
after_none s none = sym (cond-false _ _ _ (no_newline s none))

module _ (s : List ℕ) (i j : ℕ) (found : RFindsChar newline s (Some (i, j))) where
  whole : take i s ++ newline ∷ drop j s ≡ s
  whole = ap (λ t. take i s ++ t) (sym (drop_at_char newline s i j found.1 (lit< tt))) ∙ take-append-drop i s

  or_true : (b : Bool) → (b || true) ≡ true
  or_true true = refl
  or_true false = refl

  holds : has_newline s ≡ true
  holds = subst (λ t. has_newline t ≡ true) whole (list_any-append is_newline (take i s) (newline ∷ drop j s) ∙ or_true (has_newline (take i s)))

  last : after_last is_newline s ≡ drop j s
  last = subst (λ t. after_last is_newline t ≡ drop j s) whole (after_last-last (take i s) (drop j s) (no_newline (drop j s) found.0))

pub after_found : (s front back : List ℕ) → SplitsAroundMatch (RFindsChar newline) s front back → AfterElement s (Some back)
after_found s front back split =
    let i = split.0 in
    let j = split.1 in
    ap Some (split.4 ∙ sym (last s i j split.2)) ∙ sym (cond-true _ _ _ (holds s i j split.2))
