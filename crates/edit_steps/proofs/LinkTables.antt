-- The three tables of links say what the three tests say.
--     owners-carry, gaps-carry, tokens-carry      each of them
--     replaces-targets              what an aim replaces are the targets of its change
use Rattle.std.specs.Prelude.{◌≡◌, ◌<◌, ◌≤◌, ◌+◌, ℕ, zero, suc, true, false, cond, nat_eq, List, [], ◌∷◌, length, slice_get, Option, Some, None, option_and_then, refl}
use Rattle.std.specs.Option.{option_map_or}
use Rattle.std.specs.List.{AllByRecursion}
use Rattle.std.proofs.Common.{ap, sym, subst, ◌∙◌, arith, get_or}
use Rattle.std.proofs.lemmas.Bool.{cases_Bool, cases_eq, false≢true, eq-eqb}
use Rattle.std.proofs.lemmas.List.Quantifiers.{position-Some}
use Rattle.std.proofs.lemmas.Option.{none-some, same_Some, slice_get_within, slice_get-get_or}
use mathlib.Core.Logic.{inl, inr}
use Rattle.cst_core.specs.Path.{Path, has_path}
use Rattle.edit_change.specs.Aim.{Aim, same_gap, replaces}
use Rattle.edit_change.specs.ChangeAim.{aim}
use Rattle.edit_change.specs.Change.{targets}
use Rattle.edit_change.specs.PositionForm.{FirstChild, After}
use Rattle.edit_change.specs.Nesting.{is_dropped, owner, has_owner}
use Rattle.edit_change.specs.Nesting.{first_clash}
use Rattle.edit_change.specs.inner.Targets.{target_at}
use Rattle.edit_change.proofs.Regions.{target-there}
use Rattle.edit_change.specs.declared.change.Change.{Change}
use Rattle.edit_change.specs.declared.change.Change.TheVariants.{Insert, InsertAll, Replace, ReplaceWithMany, ReplaceAll}
use Rattle.edit_change.proofs.Owners.{owner_cases, owner_from, owner_at}
use Rattle.edit_steps.specs.Schedule.{owned_first, gap_first, token_first, anchor_token}
use Rattle.edit_steps.specs.inner.Followers.{link, next_in_gap, owner_link, gap_link, token_link, IsLinked}
use Rattle.edit_steps.proofs.Gaps.{gap_first-later, gap_first_from, same_gap-sym, same_gap-trans, next-here, next-past}
use Rattle.edit_steps.proofs.Orders.{Leads, Carries, one_link, leads_on}
use Rattle.edit_steps.proofs.Tables.{linked_some, has_at}

all_at : {X : Type 0} (P : X → Type 0) (xs : List X) (i : ℕ) (x : X) → AllByRecursion P xs → slice_get xs i ≡ Some x → P x
all_at P [] i x a is = absurd (none-some x is)
all_at P (y ∷ xs) zero x a is = subst P (same_Some y x is) a.0
all_at P (y ∷ xs) (suc i) x a is = all_at P xs i x a.1 is

-- ---- owners
has_owner_from : (cs : List Change) (d : ℕ) (c : Change) → owner cs c ≡ Some d → has_owner cs d c ≡ true
has_owner_from cs d c h = ap (λ o. option_map_or (nat_eq d) o false) h ∙ eq-eqb d d refl

pub owners-carry : (cs : List Change) (table : List (Option ℕ)) → IsLinked (owner_link cs) cs table → Carries (owned_first cs) cs table
owners-carry cs table linked = record {
  sound = λ n m is.
      let from = linked_some (owner_link cs) cs table n m linked is in
      let owned = owner_at cs from.0 m from.2 in
      (from.0, owned.0, from.1, (owner_cases cs from.0 m from.2).0, owned.1, has_owner_from cs m from.0 from.2);
  covers = λ n m c d is_c c_stays is_d d_stays first. one_link table n m (linked.at n c is_c ∙ owner_from cs m c first);
}

-- ---- gaps
-- what the next insert of a gap is
abbrev IsNext : List Change → Aim → ℕ → ℕ → Type 0
IsNext cs a n m = (m < n) × ((d : Change) × (slice_get cs m ≡ Some d) × (is_dropped cs d ≡ false) × (same_gap (aim d) a ≡ true))

next-found : (cs : List Change) (a : Aim) (n m : ℕ) → n ≤ length cs → next_in_gap cs n a ≡ Some m → IsNext cs a n m
next-found cs a zero m l h = absurd (none-some m h)
next-found cs a (suc n) m l h =
    let at = has_at cs n (omega (arith, l)) in
    let on : next_in_gap cs n a ≡ Some m → IsNext cs a (suc n) m = λ next. let rest = next-found cs a n m (omega (arith, l)) next in (omega (arith, rest.0), rest.1) in
    elim (cases_Bool (is_dropped cs at.0)) [
      | inl gone ↦ on (sym (next-past cs n at.0 at.1 a gone) ∙ h)
      | inr stays ↦ elim (cases_Bool (same_gap (aim at.0) a)) [
        | inl here ↦
            let same : n ≡ m = same_Some n m (sym (next-here cs n at.0 at.1 a stays ∙ ap (λ b. cond b (Some n) (next_in_gap cs n a)) here) ∙ h) in
            (omega (arith, same), (at.0, ap (slice_get cs) (sym same) ∙ at.1, stays, here))
        | inr other ↦ on (sym (next-here cs n at.0 at.1 a stays ∙ ap (λ b. cond b (Some n) (next_in_gap cs n a)) other) ∙ h)
      ]
    ]

-- there is one, and none between
next-greatest : (cs : List Change) (a : Aim) (n m : ℕ) (d : Change) → m < n → n ≤ length cs → slice_get cs m ≡ Some d → is_dropped cs d ≡ false → same_gap (aim d) a ≡ true → (i : ℕ) × (next_in_gap cs n a ≡ Some i) × (m ≤ i)
next-greatest cs a zero m d l within is stays gap = absurd (omega (arith, l))
next-greatest cs a (suc n) m d l within is stays gap =
    elim (cases_eq m n) [
      | inl same ↦
          let here = ap (slice_get cs) (sym same) ∙ is in
          (n, next-here cs n d here a stays ∙ ap (λ b. cond b (Some n) (next_in_gap cs n a)) gap, omega (arith, same))
      | inr apart ↦
          let at = has_at cs n (omega (arith, within)) in
          let rest = next-greatest cs a n m d (omega (arith, l, apart)) (omega (arith, within)) is stays gap in
          elim (cases_Bool (is_dropped cs at.0)) [
            | inl gone ↦ (rest.0, next-past cs n at.0 at.1 a gone ∙ rest.1, rest.2)
            | inr on ↦ elim (cases_Bool (same_gap (aim at.0) a)) [
              | inl here ↦ (n, next-here cs n at.0 at.1 a on ∙ ap (λ b. cond b (Some n) (next_in_gap cs n a)) here, omega (arith, l))
              | inr other ↦ (rest.0, next-here cs n at.0 at.1 a on ∙ ap (λ b. cond b (Some n) (next_in_gap cs n a)) other ∙ rest.1, rest.2)
            ]
          ]
    ]

module _ (cs : List Change) (table : List (Option ℕ)) (linked : IsLinked (gap_link cs) cs table) where
  -- the link of an insert that stays
  gap-linked : (n : ℕ) (c : Change) → slice_get cs n ≡ Some c → is_dropped cs c ≡ false → link table n ≡ next_in_gap cs n (aim c)
  gap-linked n c is stays = linked.at n c is ∙ ap (λ b. cond b None (next_in_gap cs n (aim c))) stays

  next-of : (n m : ℕ) (c : Change) → slice_get cs n ≡ Some c → next_in_gap cs n (aim c) ≡ Some m → IsNext cs (aim c) n m
  next-of n m c is next = let l = slice_get_within cs n c is in next-found cs (aim c) n m (omega (arith, l)) next

  gap-leads : (k n m : ℕ) (c d : Change) → n ≤ m + k → m < n → slice_get cs n ≡ Some c → is_dropped cs c ≡ false → slice_get cs m ≡ Some d → is_dropped cs d ≡ false → same_gap (aim c) (aim d) ≡ true → Leads table n m
  gap-leads zero n m c d near l is_c c_stays is_d d_stays gap = absurd (omega (arith, near, l))
  gap-leads (suc k) n m c d near l is_c c_stays is_d d_stays gap =
      let within = slice_get_within cs n c is_c in
      let greatest = next-greatest cs (aim c) n m d l (omega (arith, within)) is_d d_stays (same_gap-sym (aim c) (aim d) gap) in
      let i = greatest.0 in
      let next = next-of n i c is_c greatest.1 in
      let here : link table n ≡ Some i = gap-linked n c is_c c_stays ∙ greatest.1 in
      elim (cases_eq i m) [
        | inl same ↦ one_link table n m (here ∙ ap (λ j. Some j) same)
        | inr apart ↦
            let on : m < i = omega (arith, apart, greatest.2) in
            let e = next.1.0 in
            leads_on table n i m here (gap-leads k i m e d (omega (arith, near, next.0)) on next.1.1 next.1.2 is_d d_stays (same_gap-trans (aim e) (aim c) (aim d) next.1.3 gap))
      ]

  gap-sound : (n m : ℕ) → link table n ≡ Some m → (c : Change) × (d : Change) × (slice_get cs n ≡ Some c) × (is_dropped cs c ≡ false) × (slice_get cs m ≡ Some d) × (gap_first (n, c) (m, d) ≡ true)
  gap-sound n m is =
      let from = linked_some (gap_link cs) cs table n m linked is in
      let c = from.0 in
      elim (cases_Bool (is_dropped cs c)) [
        | inl gone ↦ absurd (none-some m (sym (ap (λ b. cond b None (next_in_gap cs n (aim c))) gone) ∙ from.2))
        | inr stays ↦
            let next = next-of n m c from.1 (sym (ap (λ b. cond b None (next_in_gap cs n (aim c))) stays) ∙ from.2) in
            let d = next.1.0 in
            (c, d, from.1, stays, next.1.1, gap_first_from (n, c) (m, d) (same_gap-sym (aim d) (aim c) next.1.3) next.0)
      ]

  pub gaps-carry : Carries gap_first cs table
  gaps-carry = record {
    sound = gap-sound;
    covers = λ n m c d is_c c_stays is_d d_stays first.
        let later = gap_first-later (n, c) (m, d) first in
        gap-leads n n m c d (omega arith) later.1 is_c c_stays is_d d_stays later.0;
  }

-- ---- tokens
pub replaces-targets : (p : Path) (d : Change) → replaces p (aim d) ≡ has_path (targets d) p
replaces-targets p (Insert (FirstChild n) e) = refl
replaces-targets p (Insert (After f) e) = refl
replaces-targets p (InsertAll (FirstChild n) es) = refl
replaces-targets p (InsertAll (After f) es) = refl
replaces-targets p (Replace t e) = refl
replaces-targets p (ReplaceWithMany t es) = refl
replaces-targets p (ReplaceAll first last es) = refl

pub target-found : (cs : List Change) (p : Path) (m : ℕ) → target_at cs p ≡ Some m → (d : Change) × (slice_get cs m ≡ Some d) × (has_path (targets d) p ≡ true)
target-found [] p m h = absurd (none-some m h)
target-found (c ∷ cs) p m h =
    let found = position-Some (λ e. has_path (targets e) p) (c ∷ cs) m c h in
    (get_or (c ∷ cs) m c, slice_get-get_or (c ∷ cs) m c found.0, found.1)

module _ (cs : List Change) (table : List (Option ℕ)) (apart : first_clash cs ≡ None) (linked : IsLinked (token_link cs) cs table) where
  token-sound : (n m : ℕ) → link table n ≡ Some m → (c : Change) × (d : Change) × (slice_get cs n ≡ Some c) × (is_dropped cs c ≡ false) × (slice_get cs m ≡ Some d) × (token_first (n, c) (m, d) ≡ true)
  token-sound n m is =
      let from = linked_some (token_link cs) cs table n m linked is in
      let c = from.0 in
      elim (cases_Bool (is_dropped cs c)) [
        | inl gone ↦ absurd (none-some m (sym (ap (λ b. cond b None (option_and_then (target_at cs) (anchor_token c))) gone) ∙ from.2))
        | inr stays ↦
            let at = go (anchor_token c) (sym (ap (λ b. cond b None (option_and_then (target_at cs) (anchor_token c))) stays) ∙ from.2) in
            (c, at.0, from.1, stays, at.1, at.2)
      ]
    where
      go : (o : Option Path) → option_and_then (target_at cs) o ≡ Some m → (d : Change) × (slice_get cs m ≡ Some d) × (option_map_or (λ p. replaces p (aim d)) o false ≡ true)
      go None h = absurd (none-some m h)
      go (Some p) h = let found = target-found cs p m h in (found.0, found.1, replaces-targets p found.0 ∙ found.2)

  token-covers : (n m : ℕ) (c d : Change) → slice_get cs n ≡ Some c → is_dropped cs c ≡ false → slice_get cs m ≡ Some d → token_first (n, c) (m, d) ≡ true → link table n ≡ Some m
  token-covers n m c d is_c c_stays is_d first =
      linked.at n c is_c ∙ ap (λ b. cond b None (option_and_then (target_at cs) (anchor_token c))) c_stays ∙ go (anchor_token c) first
    where
      go : (o : Option Path) → option_map_or (λ p. replaces p (aim d)) o false ≡ true → option_and_then (target_at cs) o ≡ Some m
      go None h = absurd (false≢true h)
      go (Some p) h = target-there cs p m d apart is_d (sym (replaces-targets p d) ∙ h)

  pub tokens-carry : Carries token_first cs table
  tokens-carry = record {
    sound = token-sound;
    covers = λ n m c d is_c c_stays is_d d_stays first. one_link table n m (token-covers n m c d is_c c_stays is_d first);
  }
