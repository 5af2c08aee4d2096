-- Which changes may be carried out next, from what code keeps of them.
--     free-done, done-free          a change waits for none exactly if all that must come before it is done
--     IsReleased, counted-done      one change more is done
--     standing-read                 a standing as code reads it
--     ready-not, ready-undone       by the standing of a change
--     waiting-done, new-counted, waiting-new      all that code keeps, once one more is done; before any is
--     none-done-yet                 before any is, none is told as done
use Rattle.std.specs.Prelude.{◌≡◌, ◌<◌, ◌-◌, ℕ, zero, suc, Bool, true, false, not, ◌&&◌, ◌||◌, cond, nat_eq, List, [], ◌∷◌, map, length, count_by, slice_get, slice_index, Option, Some, None, option_map, refl}
use Rattle.std.specs.List.{list_all}
use Rattle.std.proofs.Common.{ap, ap₂, sym, subst, ◌∙◌, arith, get_or, get_or-set_same, get_or-set_other}
use Rattle.std.proofs.Math.ListN.{set}
use Rattle.std.proofs.lemmas.Bool.{cases_Bool, cases_eq, or_cases, or_left, or_right, and_parts, and_from, not_from_true, not_from_false, not-true, eq-eqb, ne_eqb, eqb-true, false≢true}
use Rattle.std.proofs.lemmas.List.{length-set, length-map}
use Rattle.std.proofs.lemmas.Option.{same_Some, slice_get_within, slice_get-map, get_or_from_slice_get}
use mathlib.Core.Logic.{inl, inr}
use Rattle.edit_change.specs.Nesting.{is_dropped, owner, Numbered, undropped}
use Rattle.edit_change.specs.inner.Fate.{fate, by_owner}
use Rattle.edit_change.specs.Nesting.{first_clash}
use Rattle.edit_change.specs.declared.change.Change.{Change}
use Rattle.edit_change.specs.declared.fate.Fate.{Fate}
use Rattle.edit_change.specs.declared.fate.Fate.TheVariants as fates
use Rattle.edit_change.proofs.Positions.{same-test}
use Rattle.edit_steps.specs.Schedule.{owned_first, gap_first, token_first, comes_first, is_ready}
use Rattle.edit_steps.specs.inner.Waiting.{IsWaiting, is_done}
use Rattle.edit_steps.specs.inner.Followers.{link, steps, owner_link, gap_link, token_link, IsLinked}
use Rattle.edit_steps.specs.inner.Waits.{one_if, points_at, waits_for, IsCounted, standing_in}
use Rattle.edit_steps.specs.declared.order.waits.Waits.{Waits}
use Rattle.edit_steps.specs.declared.order.waiting.Waiting.{Waiting}
use Rattle.edit_steps.specs.declared.order.waiting.Standing.{Standing}
use Rattle.edit_steps.specs.declared.order.waiting.Standing.TheVariants.{Dropped, Undone, Done}
use Rattle.edit_steps.proofs.LinkTables.{owners-carry, gaps-carry, tokens-carry}
use Rattle.edit_steps.proofs.Orders.{Carries, first_step}
use Rattle.edit_steps.proofs.Tables.{has_at}
use Rattle.edit_steps.proofs.Undropped.{all-undropped, all_undropped_from}
use Rattle.edit_steps.proofs.WaitCounts.{none-done, zero-done, done-zero, waits-done}

-- what is read there, whatever stands in for nothing
pub standing-read : (cs : List Change) (done : ℕ → Bool) (w : Waiting) → IsWaiting cs done w → (n : ℕ) (c : Change) → slice_get cs n ≡ Some c → (s : Standing) → s ≡ get_or w.standings.items n s → get_or w.standings.items n Dropped ≡ s
standing-read cs done w is n c at s read =
    let found = has_at w.standings.items n (omega (arith, is.long, slice_get_within cs n c at)) in
    get_or_from_slice_get w.standings.items n found.0 Dropped found.1 ∙ sym (read ∙ get_or_from_slice_get w.standings.items n found.0 s found.1)

-- what becomes of the counts where a change is done
pub record IsReleased (old new : Waits) (n : ℕ) : Type 0 where
  pub links : new.links ≡ old.links
  pub long : length new.counts.items ≡ length old.counts.items
  pub counts : (m : ℕ) → m < length old.counts.items → slice_index new.counts.items m ≡ slice_index old.counts.items m - one_if (points_at m (link old.links.items n))

module _ (first : Numbered → Numbered → Bool) (f : ℕ → Change → Option ℕ) (cs : List Change) (done : ℕ → Bool) (w : Waits) (is : IsCounted f cs done w) (carries : Carries first cs w.links.items) (n : ℕ) (c : Change) (at : slice_get cs n ≡ Some c) where
  -- all that must come before a change is done
  abbrev pub AllDone : Type 0
  AllDone = (i : ℕ) (e : Change) → slice_get cs i ≡ Some e → is_dropped cs e ≡ false → first (i, e) (n, c) ≡ true → done i ≡ true

  leads-done : waits_for done w.links.items n ≡ 0 → (k i : ℕ) → steps w.links.items (suc k) i ≡ Some n → done i ≡ true
  leads-done none zero i h =
      let one = first_step w.links.items i 0 n h in
      zero-done done w.links.items n none i (one.1 ∙ one.2)
  leads-done none (suc k) i h =
      let one = first_step w.links.items i (suc k) n h in
      is.closed i one.0 one.1 (leads-done none k one.0 one.2)

  pub free-done : is_dropped cs c ≡ false → nat_eq (slice_index w.counts.items n) 0 ≡ true → AllDone
  free-done stays free i e is_e e_stays comes =
      let none = sym (is.counted n (slice_get_within cs n c at)) ∙ eqb-true (slice_index w.counts.items n) 0 free in
      let on = carries.covers i n e c is_e e_stays at stays comes in
      leads-done none on.0 i on.1

  -- each link to it leads from what must come before it
  linked-done : AllDone → (i : ℕ) → link w.links.items i ≡ Some n → done i ≡ true
  linked-done all i h =
      let ends = carries.sound i n h in
      all i ends.0 ends.2 ends.3 (ap (λ d. first (i, ends.0) (n, d)) (sym (same_Some ends.1 c (sym ends.4 ∙ at))) ∙ ends.5)

  pub done-free : AllDone → nat_eq (slice_index w.counts.items n) 0 ≡ true
  done-free all =
      eq-eqb (slice_index w.counts.items n) 0 (is.counted n (slice_get_within cs n c at) ∙ done-zero done w.links.items n (linked-done all))

  pub counted-done : (new : Waits) → done n ≡ false → AllDone → IsReleased w new n → IsCounted f cs (λ i. nat_eq n i || done i) new
  counted-done new undone all released =
      let same : new.links.items ≡ w.links.items = ap (λ v. v.items) released.links in
      let within : n < length w.links.items = omega (arith, slice_get_within cs n c at, is.linked.long) in
      record {
        linked = subst (IsLinked f cs) (sym same) is.linked;
        long = released.long ∙ is.long;
        counted = λ m l. released.counts m (omega (arith, l, is.long)) ∙ ap (λ k. k - one_if (points_at m (link w.links.items n))) (is.counted m l) ∙ waits-done done w.links.items m n within undone ∙ sym (ap (λ t. waits_for (λ i. nat_eq n i || done i) t m) same);
        closed = λ i m h is_done. or_right (nat_eq n i) (done i) (before i m (ap (λ t. link t i) (sym same) ∙ h) is_done);
      }
    where
      before : (i m : ℕ) → link w.links.items i ≡ Some m → (nat_eq n m || done m) ≡ true → done i ≡ true
      before i m h is_done =
          elim (or_cases (nat_eq n m) (done m) is_done) [
            | inl here ↦ linked-done all i (h ∙ ap (λ k. Some k) (sym (eqb-true n m here)))
            | inr there ↦ is.closed i m h there
          ]

-- ---- one change
abbrev stands_as : Bool → Bool → Standing
stands_as b d = cond b Dropped (cond d Done Undone)

module _ (cs : List Change) (done : ℕ → Bool) (w : Waiting) (is : IsWaiting cs done w) (n : ℕ) (c : Change) (at : slice_get cs n ≡ Some c) where
  abbrev all_before : Bool
  all_before = list_all (λ e. not (comes_first cs e (n, c)) || done e.0) (undropped cs)

  -- what its standing says of it
  standing-parts : (b d : Bool) (s : Standing) → s ≡ cond b Dropped (cond d Done Undone) → (s ≡ Undone → (b ≡ false) × (d ≡ false)) × ((s ≡ Undone → ⊥) → (not b && not d) ≡ false)
  standing-parts true d s e = (λ h. absurd (differ (sym e ∙ h)), λ h. refl)
    where
      differ : Dropped ≡ Undone → ⊥
      differ x = cc
  standing-parts false true s e = (λ h. absurd (differ (sym e ∙ h)), λ h. refl)
    where
      differ : Done ≡ Undone → ⊥
      differ x = cc
  standing-parts false false s e = (λ h. (refl, refl), λ h. absurd (h e))

  pub ready-not : (s : Standing) → s ≡ get_or w.standings.items n Dropped → (s ≡ Undone → ⊥) → false ≡ is_ready cs done (n, c)
  ready-not s here other =
      let parts = standing-parts (is_dropped cs c) (done n) s (here ∙ is.stands n c at) in
      sym (ap (λ b. b && all_before) (parts.1 other))

  abbrev free : Waits → Bool
  free x = nat_eq (slice_index x.counts.items n) 0

  owners-counted : Carries (owned_first cs) cs w.owners.links.items
  owners-counted = owners-carry cs w.owners.links.items is.owners.linked

  gaps-counted : Carries gap_first cs w.gaps.links.items
  gaps-counted = gaps-carry cs w.gaps.links.items is.gaps.linked

  tokens-counted : Carries token_first cs w.tokens.links.items
  tokens-counted = tokens-carry cs w.tokens.links.items is.apart is.tokens.linked

  -- what comes before is done, whatever the reason
  before-done : (first : Numbered → Numbered → Bool) → ((e : Numbered) → first e (n, c) ≡ true → comes_first cs e (n, c) ≡ true) → all_before ≡ true → (i : ℕ) (e : Change) → slice_get cs i ≡ Some e → is_dropped cs e ≡ false → first (i, e) (n, c) ≡ true → done i ≡ true
  before-done first among all i e is_e e_stays comes =
      let one = all-undropped (λ d. not (comes_first cs d (n, c)) || done d.0) cs all i e is_e e_stays in
      elim (or_cases (not (comes_first cs (i, e) (n, c))) (done i) one) [
        | inl never ↦ absurd (false≢true (sym (not_from_true (comes_first cs (i, e) (n, c)) (among (i, e) comes)) ∙ never))
        | inr is_done ↦ is_done
      ]

  owned-among : (e : Numbered) → owned_first cs e (n, c) ≡ true → comes_first cs e (n, c) ≡ true
  owned-among e h = or_left (owned_first cs e (n, c) || gap_first e (n, c)) (token_first e (n, c)) (or_left (owned_first cs e (n, c)) (gap_first e (n, c)) h)

  gap-among : (e : Numbered) → gap_first e (n, c) ≡ true → comes_first cs e (n, c) ≡ true
  gap-among e h = or_left (owned_first cs e (n, c) || gap_first e (n, c)) (token_first e (n, c)) (or_right (owned_first cs e (n, c)) (gap_first e (n, c)) h)

  token-among : (e : Numbered) → token_first e (n, c) ≡ true → comes_first cs e (n, c) ≡ true
  token-among e h = or_right (owned_first cs e (n, c) || gap_first e (n, c)) (token_first e (n, c)) h

  free-before : is_dropped cs c ≡ false → (free w.owners && free w.gaps && free w.tokens) ≡ true → all_before ≡ true
  free-before stays h =
      let two = and_parts (free w.owners && free w.gaps) (free w.tokens) h in
      let one = and_parts (free w.owners) (free w.gaps) two.0 in
      all_undropped_from (λ e. not (comes_first cs e (n, c)) || done e.0) cs (λ i e is_e e_stays.
      elim (cases_Bool (comes_first cs (i, e) (n, c))) [
        | inl comes ↦ or_right (not (comes_first cs (i, e) (n, c))) (done i) (elim (or_cases (owned_first cs (i, e) (n, c) || gap_first (i, e) (n, c)) (token_first (i, e) (n, c)) comes) [
          | inl either ↦ elim (or_cases (owned_first cs (i, e) (n, c)) (gap_first (i, e) (n, c)) either) [
            | inl owned ↦ free-done (owned_first cs) (owner_link cs) cs done w.owners is.owners owners-counted n c at stays one.0 i e is_e e_stays owned
            | inr gap ↦ free-done gap_first (gap_link cs) cs done w.gaps is.gaps gaps-counted n c at stays one.1 i e is_e e_stays gap
          ]
          | inr token ↦ free-done token_first (token_link cs) cs done w.tokens is.tokens tokens-counted n c at stays two.1 i e is_e e_stays token
        ])
        | inr never ↦ or_left (not (comes_first cs (i, e) (n, c))) (done i) (not_from_false (comes_first cs (i, e) (n, c)) never)
      ])

  before-free : all_before ≡ true → (free w.owners && free w.gaps && free w.tokens) ≡ true
  before-free all =
      and_from (free w.owners && free w.gaps) (free w.tokens) (and_from (free w.owners) (free w.gaps) (done-free (owned_first cs) (owner_link cs) cs done w.owners is.owners owners-counted n c at (before-done (owned_first cs) owned-among all)) (done-free gap_first (gap_link cs) cs done w.gaps is.gaps gaps-counted n c at (before-done gap_first gap-among all))) (done-free token_first (token_link cs) cs done w.tokens is.tokens tokens-counted n c at (before-done token_first token-among all))

  pub ready-undone : (b : Bool) → get_or w.standings.items n Dropped ≡ Undone → b ≡ (free w.owners && free w.gaps && free w.tokens) → b ≡ is_ready cs done (n, c)
  ready-undone b here tells =
      let parts = (standing-parts (is_dropped cs c) (done n) (get_or w.standings.items n Dropped) (is.stands n c at)).0 here in
      tells ∙ same-test (free w.owners && free w.gaps && free w.tokens) all_before (free-before parts.0) before-free ∙ sym (ap₂ (λ x y. (not x && not y) && all_before) parts.0 parts.1)

  -- ---- one change more is done
  pub waiting-done : (new : Waiting) → is_ready cs done (n, c) ≡ true → new.standings.items ≡ set w.standings.items n Done → IsReleased w.owners new.owners n → IsReleased w.gaps new.gaps n → IsReleased w.tokens new.tokens n → IsWaiting cs (λ i. nat_eq n i || done i) new
  waiting-done new ready put owners gaps tokens =
      let two = and_parts (not (is_dropped cs c) && not (done n)) all_before ready in
      let one = and_parts (not (is_dropped cs c)) (not (done n)) two.0 in
      let stays = not-true (is_dropped cs c) one.0 in
      let undone = not-true (done n) one.1 in
      let within = slice_get_within cs n c at in
      record {
        long = ap length put ∙ length-set w.standings.items n Done ∙ is.long;
        stands = λ k d is_d. elim (cases_eq k n) [
          | inl same ↦
              let alike : d ≡ c = same_Some d c (sym is_d ∙ ap (slice_get cs) same ∙ at) in
              let now : (nat_eq n k || done k) ≡ true = or_left (nat_eq n k) (done k) (eq-eqb n k (sym same)) in
              ap₂ (λ ss j. get_or ss j Dropped) put same ∙ get_or-set_same w.standings.items n Done Dropped (omega (arith, within, is.long)) ∙ sym (ap₂ stands_as (ap (is_dropped cs) alike ∙ stays) now)
          | inr apart ↦
              let was : (nat_eq n k || done k) ≡ done k = ap (λ b. b || done k) (ne_eqb n k (λ e. apart (sym e))) in
              ap (λ ss. get_or ss k Dropped) put ∙ get_or-set_other w.standings.items n k Done Dropped apart ∙ is.stands k d is_d ∙ sym (ap (stands_as (is_dropped cs d)) was)
        ];
        apart = is.apart;
        owners = counted-done (owned_first cs) (owner_link cs) cs done w.owners is.owners owners-counted n c at new.owners undone (before-done (owned_first cs) owned-among two.1) owners;
        gaps = counted-done gap_first (gap_link cs) cs done w.gaps is.gaps gaps-counted n c at new.gaps undone (before-done gap_first gap-among two.1) gaps;
        tokens = counted-done token_first (token_link cs) cs done w.tokens is.tokens tokens-counted n c at new.tokens undone (before-done token_first token-among two.1) tokens;
      }

-- ---- before any is done
standing-told : (cs : List Change) (c : Change) → standing_in (fate cs c) ≡ cond (is_dropped cs c) Dropped Undone
standing-told cs c = go (is_dropped cs c) (owner cs c)
  where
    go : (b : Bool) (o : Option ℕ) → standing_in (cond b fates.Dropped (by_owner o)) ≡ cond b Dropped Undone
    go true o = refl
    go false None = refl
    go false (Some d) = refl

pub new-counted : (f : ℕ → Change → Option ℕ) (cs : List Change) (w : Waits) (table : List (Option ℕ)) → IsLinked f cs table → w.links.items ≡ table → length w.counts.items ≡ length table → ((n : ℕ) → n < length table → slice_index w.counts.items n ≡ count_by (points_at n) table) → IsCounted f cs (λ n. false) w
new-counted f cs w table linked same long counted = record {
  linked = subst (IsLinked f cs) (sym same) linked;
  long = long ∙ linked.long;
  counted = λ n l. counted n (omega (arith, l, linked.long)) ∙ sym (ap (λ t. waits_for (λ i. false) t n) same ∙ none-done table n);
  closed = λ n m h never. absurd (false≢true never);
}

pub waiting-new : (cs : List Change) (fs : List Fate) (w : Waiting) → fs ≡ map (fate cs) cs → w.standings.items ≡ map standing_in fs → first_clash cs ≡ None → IsCounted (owner_link cs) cs (λ n. false) w.owners → IsCounted (gap_link cs) cs (λ n. false) w.gaps → IsCounted (token_link cs) cs (λ n. false) w.tokens → IsWaiting cs (λ n. false) w
waiting-new cs fs w are is apart owners gaps tokens =
    let all : w.standings.items ≡ map standing_in (map (fate cs) cs) = is ∙ ap (map standing_in) are in
    record {
      long = ap length all ∙ length-map (map (fate cs) cs) standing_in ∙ length-map cs (fate cs);
      stands = λ n c at. ap (λ ss. get_or ss n Dropped) all ∙ get_or_from_slice_get (map standing_in (map (fate cs) cs)) n (standing_in (fate cs c)) Dropped (slice_get-map standing_in (map (fate cs) cs) n ∙ ap (λ o. option_map standing_in o) (slice_get-map (fate cs) cs n ∙ ap (λ o. option_map (fate cs) o) at)) ∙ standing-told cs c;
      apart = apart;
      owners = owners;
      gaps = gaps;
      tokens = tokens;
    }

pub none-done-yet : (cs : List Change) (fs : List Fate) (standings : List Standing) → fs ≡ map (fate cs) cs → standings ≡ map standing_in fs → map is_done standings ≡ map (λ c. false) cs
none-done-yet cs fs standings are is = ap (map is_done) (is ∙ ap (map standing_in) are) ∙ go cs
  where
    never : (f : Fate) → is_done (standing_in f) ≡ false
    never fates.Independent = refl
    never fates.Dropped = refl
    never (fates.Owned d) = refl

    go : (ds : List Change) → map is_done (map standing_in (map (fate cs) ds)) ≡ map (λ c. false) ds
    go [] = refl
    go (d ∷ ds) = ap₂ (λ b bs. b ∷ bs) (never (fate cs d)) (go ds)
