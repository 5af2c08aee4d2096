-- A text that a loop writes piece by piece.
use Rattle.std.proofs.Common.{◌≡◌, ℕ, ◌+◌, ◌<◌, ◌≤◌, List, [], ◌∷◌, ◌++◌, length, get_or, drop, refl, sym, ap, ◌∙◌, append_assoc, append-nil, add-one, drop-cons}
use Rattle.std.proofs.Output.{has_written_append, has_written_of_eq, writes_in_calls_nil}
use Rattle.std.proofs.lemmas.List.{drop_all}
use Rattle.std.specs.Fmt.{HasWritten, IsPlainFormatter}
use Rattle.std.specs.declared.fmt.Formatter.{Formatter}

module _ {W X : Type 0} (took : W → List ℕ → W → Type 0) (one : X → List ℕ) (whole : List X → List ℕ) where
  -- g is f after writing a text, which with that of the elements from a number on is the text of all
  pub record IsWrittenUpTo (xs : List X) (i : ℕ) (f g : Formatter W) : Type 0 where
    pub done : List ℕ
    pub wrote : HasWritten took f done g
    pub rest : done ++ whole (drop i xs) ≡ whole xs

  pub none_written : (xs : List X) (f : Formatter W) → IsPlainFormatter f → IsWrittenUpTo xs 0 f f
  none_written xs f plain = record {
    done = [];
    wrote = record { wrote = writes_in_calls_nil took f.writer; plain = plain };
    rest = refl;
  }

  pub one_more_written : ((x : X) (xs : List X) → whole (x ∷ xs) ≡ one x ++ whole xs) → (xs : List X) (i : ℕ) (x : X) (f g h : Formatter W)
      → i < length xs → x ≡ get_or xs i x → IsWrittenUpTo xs i f g → HasWritten took g (one x) h → IsWrittenUpTo xs (i + 1) f h
  one_more_written split xs i x f g h within is so_far more =
      let next : drop i xs ≡ x ∷ drop (i + 1) xs = rw (add-one, is) (drop-cons xs i x within) in
      record {
        done = so_far.done ++ one x;
        wrote = has_written_append took _ _ _ _ _ so_far.wrote more;
        rest = append_assoc so_far.done (one x) (whole (drop (i + 1) xs)) ∙ ap (λ t. so_far.done ++ t) (sym (ap whole next ∙ split x (drop (i + 1) xs))) ∙ so_far.rest;
      }

  pub all_written : whole [] ≡ [] → (xs : List X) (i : ℕ) (f g : Formatter W) → length xs ≤ i → IsWrittenUpTo xs i f g → HasWritten took f (whole xs) g
  all_written end xs i f g past so_far =
      has_written_of_eq took _ _ _ _ (sym (ap (λ t. so_far.done ++ t) (ap whole (drop_all i xs past) ∙ end) ∙ append-nil so_far.done) ∙ so_far.rest) so_far.wrote
