-- The links of the tables that code makes.
--     token-dropped, token-kept     to what replaces the token that a change stands after
--     none-alone, no-links          copies of no link are none; a table of none has none
--     put-before, put-after, passed-before     the table of gaps, from the first change on
use Rattle.std.specs.Prelude.{◌≡◌, ◌≢◌, ℕ, zero, suc, ◌<◌, ◌≤◌, Bool, true, false, ◌&&◌, ◌||◌, not, cond, List, [], ◌∷◌, length, slice_get, option_and_then, Option, Some, None, refl}
use Rattle.std.proofs.Common.{ap, ap₂, sym, ◌∙◌, arith, get_or-set_same, get_or-set_other, replicate}
use Rattle.std.proofs.lemmas.Bool.{cases_eq, or_left, false≢true}
use Rattle.std.proofs.lemmas.List.{append-nil}
use Rattle.std.proofs.lemmas.Map.Keys.{any_passes_from_place}
use Rattle.std.proofs.Math.ListN.{set}
use mathlib.Core.Logic.{inl, inr}
use Rattle.edit_change.specs.ChangeAim.{aim}
use Rattle.edit_change.specs.Nesting.{first_clash, is_keeping, is_around, is_dropped, surroundings}
use Rattle.edit_change.specs.inner.DocumentOrder.{StartsThere}
use Rattle.edit_change.specs.inner.Open.{replaced}
use Rattle.edit_change.specs.inner.Targets.{target_at}
use Rattle.cst_core.specs.Path.{Path, same_path, has_path, up_to}
use Rattle.cst_core.specs.SyntaxElement.{element_of}
use Rattle.cst_core.specs.declared.element.SyntaxElement.TheVariants.{Node, Token}
use Rattle.edit_change.specs.Aim.{Aim, FirstIn, AfterElement, Over, starts_at}
use Rattle.edit_change.specs.Change.{targets}
use Rattle.edit_change.specs.PositionForm.{FirstChild, After}
use Rattle.edit_change.specs.declared.change.Change.TheVariants.{Insert, InsertAll, Replace, ReplaceWithMany, ReplaceAll}
use Rattle.edit_change.proofs.Paths.{meets}
use Rattle.edit_change.proofs.Regions.{target-there}
use Rattle.edit_change.proofs.Sites.{replaced-aim, way-to}
use Rattle.edit_steps.proofs.LinkTables.{target-found}
use Rattle.edit_change.specs.declared.change.Change.{Change}
use Rattle.std.proofs.lemmas.Option.{none-some, same_Some}
use Rattle.edit_steps.specs.Schedule.{anchor_token}
use Rattle.edit_steps.specs.inner.Followers.{link, next_in_gap, gap_link, token_link, StartsAtToken}

-- ---- a token that is replaced
only : (b : Bool) → (b || false) ≡ true → b ≡ true
only true h = refl
only false h = h

on-its-way : (q p : Path) → q ≡ p → has_path (up_to q) p ≡ true
on-its-way q p same = ap (λ r. has_path (up_to r) p) (same ∙ sym (append-nil p)) ∙ way-to p []

starts-target : (a : Aim) (p : Path) → starts_at p a ≡ true → has_path (replaced a) p ≡ true
starts-target (FirstIn q) p h = absurd (false≢true h)
starts-target (AfterElement q) p h = absurd (false≢true h)
starts-target (Over []) p h = absurd (false≢true h)
starts-target (Over (q ∷ qs)) p h = or_left (same_path p q) (has_path qs p) h

-- what stands after a token is inside a range that is replaced over it
anchor-around : (c : Change) (p : Path) → anchor_token c ≡ Some p → has_path (surroundings c) p ≡ true
anchor-around (Insert (FirstChild n) e) p is = absurd (none-some p is)
anchor-around (Insert (After (Node n)) e) p is = absurd (none-some p is)
anchor-around (Insert (After (Token t)) e) p is = on-its-way t.path p (same_Some t.path p is)
anchor-around (InsertAll (FirstChild n) es) p is = absurd (none-some p is)
anchor-around (InsertAll (After (Node n)) es) p is = absurd (none-some p is)
anchor-around (InsertAll (After (Token t)) es) p is = on-its-way t.path p (same_Some t.path p is)
anchor-around (Replace t e) p is = absurd (none-some p is)
anchor-around (ReplaceWithMany t es) p is = absurd (none-some p is)
anchor-around (ReplaceAll first last es) p is = absurd (none-some p is)

module _ (cs : List Change) (c : Change) (apart : first_clash cs ≡ None) (stays : is_dropped cs c ≡ false) (p : Path) (is : anchor_token c ≡ Some p) where
  -- what replaces the token begins there
  begins : (d : Change) (m : ℕ) → slice_get cs m ≡ Some d → has_path (targets d) p ≡ true → starts_at p (aim d) ≡ true
  begins (Insert at e) m is_d h = absurd (false≢true h)
  begins (InsertAll at es) m is_d h = absurd (false≢true h)
  begins (Replace t e) m is_d h = only (same_path p (element_of t).path) h
  begins (ReplaceWithMany t es) m is_d h = only (same_path p (element_of t).path) h
  begins (ReplaceAll first last es) m is_d h =
      let d = ReplaceAll first last es in
      absurd (false≢true (sym stays ∙ any_passes_from_place (λ r. not (is_keeping r) && is_around r c) cs m d is_d (meets (surroundings c) (targets d) p (anchor-around c p is) h)))

  started-there : (o : Option ℕ) → StartsThere cs p o → o ≡ target_at cs p
  started-there (Some m) there = sym (target-there cs p m there.0 apart there.1 (ap (λ ps. has_path ps p) (sym (replaced-aim there.0)) ∙ starts-target (aim there.0) p there.2))
  started-there None none = go (target_at cs p) refl
    where
      go : (o : Option ℕ) → target_at cs p ≡ o → None ≡ target_at cs p
      go None at = sym at
      go (Some m) at =
          let found = target-found cs p m at in
          absurd (false≢true (sym (none m found.0 found.1) ∙ begins found.0 m found.1 found.2))

started : (cs : List Change) (c : Change) → first_clash cs ≡ None → is_dropped cs c ≡ false → (a : Option Path) → anchor_token c ≡ a → (o : Option ℕ) → StartsAtToken cs a o → o ≡ option_and_then (target_at cs) a
started cs c apart stays None is o none = none
started cs c apart stays (Some p) is o there = started-there cs c apart stays p is o there

module _ (cs : List Change) (n : ℕ) (c : Change) (b : Bool) (told : b ≡ is_dropped cs c) where
  pub token-dropped : (o : Option ℕ) → b ≡ true → o ≡ None → o ≡ token_link cs n c
  token-dropped o h is = is ∙ sym (ap (λ a. cond a None (option_and_then (target_at cs) (anchor_token c))) (sym told ∙ h))

  pub token-kept : (o : Option ℕ) → first_clash cs ≡ None → b ≡ false → StartsAtToken cs (anchor_token c) o → o ≡ token_link cs n c
  token-kept o apart h starts =
      started cs c apart (sym told ∙ h) (anchor_token c) refl o starts ∙ sym (ap (λ a. cond a None (option_and_then (target_at cs) (anchor_token c))) (sym told ∙ h))

-- ---- the table of gaps, before the first change
pub none-alone : (P : Option ℕ → Type 0) → ((k : ℕ) → P (Some k) → ⊥) → (o : Option ℕ) → P o → o ≡ None
none-alone P some None h = refl
none-alone P some (Some k) h = absurd (some k h)

pub no-links : (n k : ℕ) → link (replicate n None) k ≡ None
no-links zero k = refl
no-links (suc n) zero = refl
no-links (suc n) (suc k) = no-links n k

-- ---- the table of gaps, once the change with this number is met
module _ (cs : List Change) (n m : ℕ) (next : m ≡ suc n) (c : Change) (is : slice_get cs n ≡ Some c) (links : List (Option ℕ)) (before : (k : ℕ) (d : Change) → k < n → slice_get cs k ≡ Some d → link links k ≡ gap_link cs k d) where
  here-or-before : (k : ℕ) → k < m → (k ≡ n → ⊥) → k < n
  here-or-before k l apart = omega (arith, l, apart, next)

  pub passed-before : is_dropped cs c ≡ true → link links n ≡ None → (k : ℕ) (d : Change) → k < m → slice_get cs k ≡ Some d → link links k ≡ gap_link cs k d
  passed-before t none k d l is_k =
      elim (cases_eq k n) [
        | inl same ↦
            let alike : d ≡ c = same_Some d c (sym is_k ∙ ap (slice_get cs) same ∙ is) in
            ap (link links) same ∙ none ∙ sym (ap (λ b. cond b None (next_in_gap cs k (aim d))) (ap (is_dropped cs) alike ∙ t))
        | inr apart ↦ before k d (here-or-before k l apart) is_k
      ]

  module _ (o : Option ℕ) (within : n < length links) where
    pub put-before : is_dropped cs c ≡ false → o ≡ next_in_gap cs n (aim c) → (k : ℕ) (d : Change) → k < m → slice_get cs k ≡ Some d → link (set links n o) k ≡ gap_link cs k d
    put-before f found k d l is_k =
        elim (cases_eq k n) [
          | inl same ↦
              let alike : d ≡ c = same_Some d c (sym is_k ∙ ap (slice_get cs) same ∙ is) in
              ap (link (set links n o)) same ∙ get_or-set_same links n o None within ∙ found ∙ ap₂ (λ j e. next_in_gap cs j (aim e)) (sym same) (sym alike) ∙ sym (ap (λ b. cond b None (next_in_gap cs k (aim d))) (ap (is_dropped cs) alike ∙ f))
          | inr apart ↦ get_or-set_other links n k o None apart ∙ before k d (here-or-before k l apart) is_k
        ]

    pub put-after : ((k : ℕ) → n ≤ k → link links k ≡ None) → (k : ℕ) → m ≤ k → link (set links n o) k ≡ None
    put-after none k l = let apart : k ≢ n = omega (arith, l, next) in get_or-set_other links n k o None apart ∙ none k (omega (arith, l, next))
