-- The lines of a plan, one by one.
--     line-within, line-at          a change in a list with numbers
--     lines-past                    there are as many lines as changes
--     number-at                     a number of a list
use Rattle.std.specs.Prelude.{◌≡◌, ◌<◌, ◌≤◌, ◌+◌, ℕ, List, length}
use Rattle.std.specs.List.{enumerate_from}
use Rattle.std.proofs.Common.{ap, ap₂, sym, ◌∙◌, arith, get_or}
use Rattle.std.proofs.lemmas.List.FromFn.{length-enumerate_from, get_or-enumerate_from}
use Rattle.std.proofs.lemmas.Option.{same_Some, slice_get-get_or}
use Rattle.edit_change.specs.Nesting.{Numbered}
use Rattle.edit_change.specs.declared.change.Change.{Change}

module _ (cs items : List Change) (same : items ≡ cs) (i : ℕ) where
  pub line-within : i < length items → i < length (enumerate_from 0 cs)
  line-within l = omega (arith, l, ap length same, length-enumerate_from 0 cs)

  pub line-at : (c : Change) → i < length items → c ≡ get_or items i c → ◌≡◌ {A = Numbered} (i, c) (get_or (enumerate_from 0 cs) i (i, c))
  line-at c l is =
      let start : i ≡ 0 + i = omega arith in
      ap₂ {A = ℕ} {B = Change} {C = Numbered} (λ n d. (n, d)) start (is ∙ ap (λ ds. get_or ds i c) same) ∙ sym (get_or-enumerate_from 0 cs i (i, c) (omega (arith, l, ap length same)))

  pub lines-past : length items ≤ i → length (enumerate_from 0 cs) ≤ i
  lines-past l = omega (arith, l, ap length same, length-enumerate_from 0 cs)

pub number-at : (ns : List ℕ) (i d : ℕ) → i < length ns → get_or ns i d ≡ get_or ns i (get_or ns i d)
number-at ns i d l =
    same_Some (get_or ns i d) (get_or ns i (get_or ns i d)) (sym (slice_get-get_or ns i d l) ∙ slice_get-get_or ns i (get_or ns i d) l)
