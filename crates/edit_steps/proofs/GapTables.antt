-- A number put into a table of gaps.
--     put_at-first, put_at-after   at a gap of either form
--     some-mapped                   an option with its value exchanged
use Rattle.std.specs.Prelude.{◌≡◌, ℕ, Bool, true, false, cond, List, Option, Some, None, Vec, option_map, is_some, refl}
use Rattle.std.specs.Global.{Global}
use Rattle.std.specs.Map.{lookup, KeepsOthers}
use Rattle.std.proofs.Common.{ap, sym, ◌∙◌}
use Rattle.std.proofs.lemmas.Bool.{cases_Bool, false≢true, true≢false}
use mathlib.Core.Logic.{inl, inr}
use Rattle.cst_core.specs.Path.{Path, same_path}
use Rattle.edit_change.specs.Aim.{FirstIn, AfterElement, Over}
use Rattle.edit_change.specs.ChangeAim.{position_aim}
use Rattle.edit_change.specs.Position.{anchor, first_of}
use Rattle.edit_change.specs.PositionForm.{FirstChild, After}
use Rattle.edit_change.specs.declared.position.Position.{Position}
use Rattle.edit_change.proofs.Paths.{same_path-true, same_path_from}
use Rattle.edit_change.proofs.Positions.{same-test}
use Rattle.edit_steps.specs.inner.GapTable.{gap_entry, IsPut}
use Rattle.edit_steps.specs.declared.order.gap_table.GapTable.{GapTable}

-- ---- a number put at a path
abbrev key : Path → Vec ℕ Global → Bool
key p k = same_path p k.items

same-turned : (p q r : Path) → same_path p q ≡ true → same_path p r ≡ same_path q r
same-turned p q r h = ap (λ s. same_path s r) (same_path-true p q h)

put : (old new : List (Vec ℕ Global × ℕ)) (k : Vec ℕ Global) (n : ℕ) → lookup (key k.items) new ≡ Some n → KeepsOthers (λ x y. same_path x.items y.items) (key k.items) old new → (p : Path) → lookup (key p) new ≡ cond (same_path p k.items) (Some n) (lookup (key p) old)
unfolding KeepsOthers
put old new k n here others p =
    elim (cases_Bool (same_path p k.items)) [
      | inl same ↦ ap (λ q. lookup (key q) new) (same_path-true p k.items same) ∙ here ∙ sym (ap (λ b. cond b (Some n) (lookup (key p) old)) same)
      | inr other ↦ others (key p) (λ x y h. same-turned p x.items y.items h) (λ x h. apart x h other) ∙ sym (ap (λ b. cond b (Some n) (lookup (key p) old)) other)
    ]
  where
    apart : (x : Vec ℕ Global) → key k.items x ≡ true → same_path p k.items ≡ false → key p x ≡ false
    apart x h other = ap (same_path p) (sym (same_path-true k.items x.items h)) ∙ other

turned : (p q : Path) → same_path p q ≡ same_path q p
turned p q = same-test (same_path p q) (same_path q p) (λ h. same_path_from q p (sym (same_path-true p q h))) (λ h. same_path_from p q (sym (same_path-true q p h)))

module _ (before after : GapTable) (k : Vec ℕ Global) (n : ℕ) where
  abbrev pub PutInto : List (Vec ℕ Global × ℕ) → List (Vec ℕ Global × ℕ) → Type 0
  PutInto old new = (lookup (λ x. same_path k.items x.items) new ≡ Some n) × KeepsOthers (λ x y. same_path x.items y.items) (λ x. same_path k.items x.items) old new

  number-put : (old new : List (Vec ℕ Global × ℕ)) → PutInto old new → (p q : Path) → k.items ≡ p → lookup (λ x. same_path q x.items) new ≡ cond (same_path p q) (Some n) (lookup (λ x. same_path q x.items) old)
  number-put old new into p q is =
      put old new k n into.0 into.1 q ∙ ap (λ b. cond b (Some n) (lookup (λ x. same_path q x.items) old)) (ap (same_path q) is ∙ turned q p)

  put-first : (p : Path) → k.items ≡ p → after.after_element ≡ before.after_element → PutInto before.first.entries after.first.entries → IsPut before after (FirstIn p) n
  put-first p is stays into (FirstIn q) = number-put before.first.entries after.first.entries into p q is
  put-first p is stays into (AfterElement q) = ap (λ m. gap_entry (record { first = after.first; after_element = m }) (AfterElement q)) stays
  put-first p is stays into (Over qs) = refl

  put-after : (p : Path) → k.items ≡ p → after.first ≡ before.first → PutInto before.after_element.entries after.after_element.entries → IsPut before after (AfterElement p) n
  put-after p is stays into (FirstIn q) = ap (λ m. gap_entry (record { first = m; after_element = after.after_element }) (FirstIn q)) stays
  put-after p is stays into (AfterElement q) = number-put before.after_element.entries after.after_element.entries into p q is
  put-after p is stays into (Over qs) = refl

  pub put_at-first : (position : Position) → is_some (first_of position) ≡ true → k.items ≡ (anchor position).path → after.after_element ≡ before.after_element → PutInto before.first.entries after.first.entries → IsPut before after (position_aim position) n
  put_at-first (FirstChild e) h is stays into = put-first e.path is stays into
  put_at-first (After e) h is stays into = absurd (false≢true h)

  pub put_at-after : (position : Position) → is_some (first_of position) ≡ false → k.items ≡ (anchor position).path → after.first ≡ before.first → PutInto before.after_element.entries after.after_element.entries → IsPut before after (position_aim position) n
  put_at-after (FirstChild e) h is stays into = absurd (true≢false h)
  put_at-after (After e) h is stays into = put-after (anchor (After e)).path is stays into

pub some-mapped : {X Y : Type 0} (f : X → Y) (o : Option X) → is_some (option_map f o) ≡ is_some o
some-mapped f None = refl
some-mapped f (Some x) = refl
