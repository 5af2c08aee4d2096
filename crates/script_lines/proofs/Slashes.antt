-- The parts of a reference, from one slash to the next.
--     parts-behind     the first part, and then those behind the slash
--     parts-whole      a text with no slash is one part
use Rattle.std.proofs.Common.{◌≡◌, ◌≢◌, ℕ, suc, ◌==◌, ◌<◌, Bool, false, List, [], ◌∷◌, ◌++◌, length, get_or, refl, ◌∙◌, ap, arith}
use Rattle.std.specs.List.{All}
use Rattle.std.proofs.lemmas.Bool.Decides.{nat_tests}
use Rattle.std.proofs.lemmas.List.Elements.{All-cons, All-nil}
use Rattle.std.proofs.lemmas.List.Splits.{slice_split_none, slice_split_at}
use Rattle.script_lines.specs.Line.{between}

abbrev is_slash : ℕ → Bool
is_slash b = b == 47

no-slash : (s : List ℕ) → ((i : ℕ) → i < length s → get_or s i 0 ≢ 47) → All (λ b. is_slash b ≡ false) s
no-slash [] none = All-nil (λ b. is_slash b ≡ false)
no-slash (b ∷ s) none =
    let n : b ≢ 47 = none 0 (omega arith) in
    All-cons (λ x. is_slash x ≡ false) b s (grind (arith, nat_tests)) (no-slash s (λ i within. none (suc i) (omega arith)))

pub parts-behind : (text name behind : List ℕ) → text ≡ name ++ (47 ∷ behind) → ((i : ℕ) → i < length name → get_or name i 0 ≢ 47) → between 47 text ≡ name ∷ between 47 behind
parts-behind text name behind is none = ap (between 47) is ∙ slice_split_at is_slash name 47 behind (no-slash name none) refl

pub parts-whole : (text : List ℕ) → ((i : ℕ) → i < length text → get_or text i 0 ≢ 47) → between 47 text ≡ text ∷ []
parts-whole text none = slice_split_none is_slash text (no-slash text none)
