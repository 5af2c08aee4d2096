-- The default order keeps to what must come first.
--     owned-default, gap-default, token-default      what must come first comes first in the default order
--     respects-weaker               an order that keeps to a test keeps to a stronger one
use Rattle.std.specs.Prelude.{◌≡◌, ℕ, suc, ◌-◌, Bool, true, false, not, ◌&&◌, ◌||◌, List, [], ◌∷◌, ◌++◌, slice_get, Some, refl}
use Rattle.std.specs.List.{AllByRecursion}
use Rattle.std.specs.Option.{option_map_or}
use Rattle.std.proofs.Common.{ap, ap₂, sym, ◌∙◌, arith}
use Rattle.std.proofs.lemmas.Bool.{or_cases, or_left, or_right, and_parts, and_from, false≢true, not_from_false}
use Rattle.std.proofs.lemmas.Option.{same_Some}
use mathlib.Core.Logic.{inl, inr}
use Rattle.cst_core.specs.Path.{Path, same_path, has_path, precedes, parent_path, last_slot}
use Rattle.cst_core.specs.SyntaxElement.{element_of}
use Rattle.cst_core.specs.declared.element.SyntaxElement.TheVariants.{Node, Token}
use Rattle.edit_change.specs.Aim.{same_gap, replaces}
use Rattle.edit_change.specs.ChangeAim.{aim, position_aim}
use Rattle.edit_change.specs.Change.{targets}
use Rattle.edit_change.specs.Position.{anchor}
use Rattle.edit_change.specs.PositionForm.{FirstChild, After}
use Rattle.edit_change.specs.Nesting.{region, surroundings, Numbered}
use Rattle.edit_change.specs.declared.position.Position.{Position}
use Rattle.edit_change.specs.declared.change.Change.{Change}
use Rattle.edit_change.specs.declared.change.Change.TheVariants.{Insert, InsertAll, Replace, ReplaceWithMany, ReplaceAll}
use Rattle.edit_change.proofs.Owners.{HasRegion, owner_from, owner_region}
use Rattle.edit_change.proofs.Paths.{same_path-true}
use Rattle.edit_steps.specs.Schedule.{respects, stands_last, owned_first, gap_first, token_first, token_before, anchor_token}
use Rattle.edit_steps.specs.DefaultOrder.{gap_path, document_path, fills_gap, stands_ahead, default_first}
use Rattle.edit_steps.proofs.LinkTables.{replaces-targets}
use Rattle.edit_steps.proofs.Gaps.{same_gap-sym}
use Rattle.edit_steps.proofs.Orders.{respects_to, respects_from}
use Rattle.edit_steps.proofs.PathOrder.{precedes-self, all-above, all-up_to, before-first, before-next, range-after}

-- ---- what stands ahead
path-ahead : (c d : Numbered) → precedes (document_path d.1) (document_path c.1) ≡ true → default_first c d ≡ true
path-ahead c d h =
    or_left (stands_ahead d.1 c.1) (not (stands_ahead c.1 d.1) && stands_last c.0 d.0) (or_left (precedes (document_path d.1) (document_path c.1)) (same_path (document_path d.1) (document_path c.1) && (fills_gap d.1 && not (fills_gap c.1))) h)

-- what a replacement replaces does not stand before the path that the change has
one-after : (p q : Path) → has_path (p ∷ []) q ≡ true → (r : Path) → precedes q r ≡ true → precedes p r ≡ true
one-after p q h r k =
    elim (or_cases (same_path q p) false h) [
      | inl here ↦ ap (λ x. precedes x r) (sym (same_path-true q p here)) ∙ k
      | inr none ↦ absurd (false≢true none)
    ]

targets-after : (d : Change) (q : Path) → has_path (targets d) q ≡ true → (r : Path) → precedes q r ≡ true → precedes (document_path d) r ≡ true
targets-after (Insert at e) q h = absurd (false≢true h)
targets-after (InsertAll at es) q h = absurd (false≢true h)
targets-after (Replace t e) q h = one-after (element_of t).path q h
targets-after (ReplaceWithMany t es) q h = one-after (element_of t).path q h
targets-after (ReplaceAll first last es) q h =
    range-after (element_of first).path (last_slot (element_of first).path) (suc (last_slot (element_of last).path) - last_slot (element_of first).path) q (omega arith) h

region-target : (d : Change) (q : Path) → has_path (region d) q ≡ true → has_path (targets d) q ≡ true
region-target (Insert at e) q h = h
region-target (InsertAll at es) q h = h
region-target (Replace (Node n) e) q h = h
region-target (Replace (Token t) e) q h = absurd (false≢true h)
region-target (ReplaceWithMany (Node n) es) q h = h
region-target (ReplaceWithMany (Token t) es) q h = absurd (false≢true h)
region-target (ReplaceAll first last es) q h = h

-- ---- owners
surrounded-path : (at : Position) → precedes (anchor at).path (gap_path at) ≡ true
surrounded-path (FirstChild n) = before-first n.path
surrounded-path (After e) = before-next (element_of e).path

surroundings-ahead : (c : Change) → AllByRecursion (λ q. precedes q (document_path c) ≡ true) (surroundings c)
surroundings-ahead (Insert at e) = all-up_to (anchor at).path (gap_path at) (surrounded-path at)
surroundings-ahead (InsertAll at es) = all-up_to (anchor at).path (gap_path at) (surrounded-path at)
surroundings-ahead (Replace t e) = all-above (element_of t).path
surroundings-ahead (ReplaceWithMany t es) = all-above (element_of t).path
surroundings-ahead (ReplaceAll first last es) = all-above (element_of first).path

pub owned-default : (cs : List Change) (n m : ℕ) (c d : Change) → slice_get cs m ≡ Some d → owned_first cs (n, c) (m, d) ≡ true → default_first (n, c) (m, d) ≡ true
owned-default cs n m c d is_d owned =
    let P : Path → Type 0 = λ q. precedes q (document_path c) ≡ true in
    let found : HasRegion P cs m = owner_region P cs c m (surroundings-ahead c) (owner_from cs m c owned) in
    let same : found.0 ≡ d = same_Some found.0 d (sym found.2 ∙ is_d) in
    let ahead : precedes (document_path found.0) (document_path c) ≡ true = targets-after found.0 found.1 (region-target found.0 found.1 found.3) (document_path c) found.4 in
    path-ahead (n, c) (m, d) (ap (λ x. precedes (document_path x) (document_path c)) (sym same) ∙ ahead)

-- ---- gaps
record InOneGap (c d : Change) : Type 0 where
  pub path : document_path c ≡ document_path d
  pub one : fills_gap c ≡ true
  pub other : fills_gap d ≡ true

gap_path-same : (at to : Position) → same_gap (position_aim at) (position_aim to) ≡ true → gap_path at ≡ gap_path to
gap_path-same (FirstChild n) (FirstChild m) h = ap (λ p. p ++ 0 ∷ []) (same_path-true n.path m.path h)
gap_path-same (FirstChild n) (After f) h = absurd (false≢true h)
gap_path-same (After e) (FirstChild m) h = absurd (false≢true h)
gap_path-same (After e) (After f) h = ap (λ p. parent_path p ++ suc (last_slot p) ∷ []) (same_path-true (element_of e).path (element_of f).path h)

in_one_gap : (c d : Change) → same_gap (aim c) (aim d) ≡ true → same_gap (aim d) (aim c) ≡ true → InOneGap c d
in_one_gap (Insert at e) (Insert to f) h k = record { path = gap_path-same at to h; one = refl; other = refl }
in_one_gap (Insert at e) (InsertAll to fs) h k = record { path = gap_path-same at to h; one = refl; other = refl }
in_one_gap (Insert at e) (Replace t f) h k = absurd (false≢true k)
in_one_gap (Insert at e) (ReplaceWithMany t fs) h k = absurd (false≢true k)
in_one_gap (Insert at e) (ReplaceAll first last fs) h k = absurd (false≢true k)
in_one_gap (InsertAll at es) (Insert to f) h k = record { path = gap_path-same at to h; one = refl; other = refl }
in_one_gap (InsertAll at es) (InsertAll to fs) h k = record { path = gap_path-same at to h; one = refl; other = refl }
in_one_gap (InsertAll at es) (Replace t f) h k = absurd (false≢true k)
in_one_gap (InsertAll at es) (ReplaceWithMany t fs) h k = absurd (false≢true k)
in_one_gap (InsertAll at es) (ReplaceAll first last fs) h k = absurd (false≢true k)
in_one_gap (Replace t e) d h k = absurd (false≢true h)
in_one_gap (ReplaceWithMany t es) d h k = absurd (false≢true h)
in_one_gap (ReplaceAll first last es) d h k = absurd (false≢true h)

not-ahead : (c d : Change) → InOneGap c d → stands_ahead c d ≡ false
not-ahead c d gap =
    ap₂ (λ p b. precedes p (document_path d) || (same_path p (document_path d) && (b && not (fills_gap d)))) gap.path gap.one ∙ ap₂ (λ a b. a || (same_path (document_path d) (document_path d) && (true && not b))) (precedes-self (document_path d)) gap.other ∙ no-one (same_path (document_path d) (document_path d))
  where
    no-one : (a : Bool) → (a && false) ≡ false
    no-one true = refl
    no-one false = refl

pub gap-default : (c d : Numbered) → gap_first c d ≡ true → default_first c d ≡ true
gap-default c d h =
    let parts = and_parts (same_gap (aim c.1) (aim d.1)) (stands_last c.0 d.0) h in
    let gap = in_one_gap c.1 d.1 parts.0 (same_gap-sym (aim c.1) (aim d.1) parts.0) in
    or_right (stands_ahead d.1 c.1) (not (stands_ahead c.1 d.1) && stands_last c.0 d.0) (and_from (not (stands_ahead c.1 d.1)) (stands_last c.0 d.0) (not_from_false (stands_ahead c.1 d.1) (not-ahead c.1 d.1 gap)) parts.1)

-- ---- tokens
pub token-default : (c d : Numbered) → token_first c d ≡ true → default_first c d ≡ true
token-default c d h = path-ahead c d (ahead c.1 h)
  where
    at-token : (at : Position) → option_map_or (λ p. replaces p (aim d.1)) (token_before at) false ≡ true → precedes (document_path d.1) (gap_path at) ≡ true
    at-token (FirstChild n) k = absurd (false≢true k)
    at-token (After (Node n)) k = absurd (false≢true k)
    at-token (After (Token t)) k = targets-after d.1 t.path (sym (replaces-targets t.path d.1) ∙ k) (gap_path (After (Token t))) (before-next t.path)

    ahead : (e : Change) → option_map_or (λ p. replaces p (aim d.1)) (anchor_token e) false ≡ true → precedes (document_path d.1) (document_path e) ≡ true
    ahead (Insert at e) k = at-token at k
    ahead (InsertAll at es) k = at-token at k
    ahead (Replace t e) k = absurd (false≢true k)
    ahead (ReplaceWithMany t es) k = absurd (false≢true k)
    ahead (ReplaceAll first last es) k = absurd (false≢true k)

-- ---- orders
pub respects-weaker : (first other : Numbered → Numbered → Bool) (cs : List Change) (order : List ℕ) → ((n m : ℕ) (c d : Change) → slice_get cs m ≡ Some d → first (n, c) (m, d) ≡ true → other (n, c) (m, d) ≡ true) → respects other cs order ≡ true → respects first cs order ≡ true
respects-weaker first other cs order stronger h =
    let keeps = respects_to other cs order h in
    respects_from first cs order (record { at = λ n m c d is_c c_stays is_d d_stays comes. keeps.at n m c d is_c c_stays is_d d_stays (stronger n m c d is_d comes) })
