-- Texts that fall into two.
--     then               one text after another
--     regroup-right, regroup-left      three in a row, from either side
--     widen, widen-first, widen-second      where the parts answer other descriptions too
--     drop-exactly       what stands behind a given text
use Rattle.std.proofs.Common.{◌≡◌, ℕ, List, ◌++◌, refl, sym, ap, ◌∙◌, append_assoc, subst}
use Rattle.std.proofs.lemmas.List.{append_cancel_left}
use Rattle.tree_text.specs.Grammar.{◌⨾◌, IsExactly}

pub then : {P Q : List ℕ → Type 0} (a b : List ℕ) → P a → Q b → (P ⨾ Q) (a ++ b)
then a b p q = record { first = a; second = b; joined = refl; is_first = p; is_second = q }

pub regroup-right : {P Q R : List ℕ → Type 0} (w : List ℕ) → ((P ⨾ Q) ⨾ R) w → (P ⨾ (Q ⨾ R)) w
regroup-right w h = let l = h.is_first in record {
  first = l.first;
  second = l.second ++ h.second;
  joined = h.joined ∙ ap (λ x. x ++ h.second) l.joined ∙ append_assoc l.first l.second h.second;
  is_first = l.is_first;
  is_second = then l.second h.second l.is_second h.is_second;
}

pub regroup-left : {P Q R : List ℕ → Type 0} (w : List ℕ) → (P ⨾ (Q ⨾ R)) w → ((P ⨾ Q) ⨾ R) w
regroup-left w h = let r = h.is_second in record {
  first = h.first ++ r.first;
  second = r.second;
  joined = h.joined ∙ ap (λ x. h.first ++ x) r.joined ∙ sym (append_assoc h.first r.first r.second);
  is_first = then h.first r.first h.is_first r.is_first;
  is_second = r.is_second;
}

pub widen : {P Q R S : List ℕ → Type 0} (w : List ℕ) → ((x : List ℕ) → P x → R x) → ((x : List ℕ) → Q x → S x) → (P ⨾ Q) w → (R ⨾ S) w
widen w f g h = record { first = h.first; second = h.second; joined = h.joined; is_first = f h.first h.is_first; is_second = g h.second h.is_second }

pub drop-exactly : {Q : List ℕ → Type 0} (s w : List ℕ) → (IsExactly s ⨾ Q) (s ++ w) → Q w
drop-exactly {Q} s w h =
    let same : s ++ w ≡ s ++ h.second = h.joined ∙ ap (λ x. x ++ h.second) h.is_first in
    subst Q (sym (append_cancel_left s w h.second same)) h.is_second
