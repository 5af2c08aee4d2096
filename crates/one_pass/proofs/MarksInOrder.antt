-- Sought marks in document order: which of them are in a child, and where they are found in what is kept.
--     First                         no path is before this one
--     below-order                   those in a child are in order
--     from-below, before-below      no mark from a child on is in one before it; none before a child is in one from it on
--     child-order                   a path that is not before one that is behind a child is behind it too
--     child-parted                  so a search finds those before a child
--     seen-inside                   those in a child, as they are seen from it, are those of a longer way down
--     parted-below, parted-order    those in a child, and those behind it
--     tops-found, opened-below, opened-order      those at a node, and those in its children
--     kept, kept_run, kept-run      a tree, children, each labelled by what is sought there; the children of a node
--     carried_in, carried           where a mark is found in children that are kept, by its path
--     kept-found                    in what is kept each mark is found that leads somewhere
--     run-found                     the same of children side by side
use Rattle.std.specs.Prelude.{◌≡◌, ℕ, zero, suc, ◌+◌, ◌<◌, ◌≤◌, true, false, cond, nat_eq, List, [], ◌∷◌, ◌++◌, map, flat_map, take, drop, get_or, slice_get, Option, Some, None, option_and_then, refl}
use Rattle.std.specs.List.{AllByRecursion}
use Rattle.std.specs.List.Sorted.{IsPartitionedBy}
use Rattle.std.specs.Option.{option_map_or, is_some}
use Rattle.std.proofs.Common.{ap, ap₂, sym, subst, ◌∙◌, arith}
use Rattle.std.proofs.lemmas.Bool.{cases_eq, cases_lt, eq-eqb, ne_eqb, lt-ltb, ltb-true, ltb-false}
use Rattle.std.proofs.lemmas.List.{append_assoc, append-nil, map-append, take-append-drop}
use Rattle.std.proofs.lemmas.Grind.{flat_map-append}
use mathlib.Core.Logic.{inl, inr}
use Rattle.green_tree.specs.Path.{Path}
use Rattle.green_tree.specs.Tree.{SyntaxTree, Forest, Token, Node, end, more, trees, forest, at}
use Rattle.edit_change.specs.Rewriting.{rewritten, rewritten_from}
use Rattle.edit_change.specs.inner.DocumentOrder.{is_before}
use Rattle.edit_change.proofs.Lists.{all-append}
use Rattle.edit_change.proofs.SeenBelow.{seen-below}
use Rattle.edit_change.proofs.Untouched.{untouched}
use Rattle.one_pass.specs.declared.mark.Sought.{Sought}
use Rattle.one_pass.specs.inner.Marked.{MarkTree, Marking, marked, marked_from, mark_below, mark_seen, marks_seen, marks_at, wanted, leads, kept_in, seen_below, sought_below, is_before_child, BeforeChild, FromChild, InPathOrder}
use Rattle.one_pass.proofs.Ascending.{all-part, ascending-part, ascending-far, ascending-under}
use Rattle.one_pass.proofs.Children.{trees-forest}
use Rattle.one_pass.proofs.Marks.{marks-node, marks-token, marks-none}
use Rattle.one_pass.proofs.MarksKept.{marks-below}
use Rattle.one_pass.proofs.OneAim.{order-key, order-inside}

abbrev pub First : Path → List Marking → Type 0
First q ms = AllByRecursion (λ (m : Marking). is_before m.1 q ≡ false) ms

-- ---- those in a child
other-child : (i n j : ℕ) (q : Path) → (i ≡ j → ⊥) → seen_below i n (j ∷ q) ≡ []
other-child i n j q other = ap (λ b. cond b ((n, q) ∷ []) []) (ne_eqb i j other)

none-before : (i s n : ℕ) (p q : Path) → i < s → is_before q (s ∷ p) ≡ false → seen_below i n q ≡ []
none-before i s n p [] l h = absurd (cc)
none-before i s n p (j ∷ q) l h =
    let far = order-key (j ∷ q) (s ∷ p) h in
    other-child i n j q (λ e. absurd (omega (arith, l, e, far)))

below-none : (i s : ℕ) (p : Path) (ms : List Marking) → i < s → First (s ∷ p) ms → sought_below i ms ≡ []
below-none i s p [] l h = refl
below-none i s p (m ∷ ms) l h = ap₂ (λ xs ys. xs ++ ys) (none-before i s m.0 p m.1 l h.0) (below-none i s p ms l h.1)

first-one : (s n : ℕ) (p q : Path) → is_before q (s ∷ p) ≡ false → First p (seen_below s n q)
first-one s n p [] h = tt
first-one s n p (j ∷ q) h =
    elim (cases_eq s j) [
      | inl same ↦
          let here : is_before q p ≡ false = sym (order-inside s q p) ∙ ap (λ k. is_before (k ∷ q) (s ∷ p)) same ∙ h in
          subst (λ b. First p (cond b ((n, q) ∷ []) [])) (sym (eq-eqb s j same)) (here, tt)
      | inr other ↦ subst (λ b. First p (cond b ((n, q) ∷ []) [])) (sym (ne_eqb s j other)) tt
    ]

below-first : (s : ℕ) (p : Path) (ms : List Marking) → First (s ∷ p) ms → First p (sought_below s ms)
below-first s p [] h = tt
below-first s p (m ∷ ms) h =
    all-append (λ (m : Marking). is_before m.1 p ≡ false) (seen_below s m.0 m.1) (sought_below s ms) (first-one s m.0 p m.1 h.0) (below-first s p ms h.1)

order-one : (i n : ℕ) (q : Path) (ms : List Marking) → First q ms → InPathOrder (sought_below i ms) → InPathOrder (seen_below i n q ++ sought_below i ms)
order-one i n [] ms h rest = rest
order-one i n (j ∷ q) ms h rest =
    elim (cases_eq i j) [
      | inl same ↦ subst (λ b. InPathOrder (cond b ((n, q) ∷ []) [] ++ sought_below i ms)) (sym (eq-eqb i j same)) (below-first i q ms (subst (λ k. First (k ∷ q) ms) (sym same) h), rest)
      | inr other ↦ subst (λ b. InPathOrder (cond b ((n, q) ∷ []) [] ++ sought_below i ms)) (sym (ne_eqb i j other)) rest
    ]

pub below-order : (i : ℕ) (ms : List Marking) → InPathOrder ms → InPathOrder (sought_below i ms)
below-order i [] h = tt
below-order i (m ∷ ms) h = order-one i m.0 m.1 ms h.0 (below-order i ms h.1)

from-one : (slot i n : ℕ) (q : Path) → i < slot → is_before_child slot q ≡ false → seen_below i n q ≡ []
from-one slot i n [] l h = absurd (cc)
from-one slot i n (j ∷ q) l h =
    let far = ltb-false j slot h in
    other-child i n j q (λ e. absurd (omega (arith, l, e, far)))

pub from-below : (slot i : ℕ) (ms : List Marking) → i < slot → FromChild slot ms → sought_below i ms ≡ []
from-below slot i [] l h = refl
from-below slot i (m ∷ ms) l h = ap₂ (λ xs ys. xs ++ ys) (from-one slot i m.0 m.1 l h.0) (from-below slot i ms l h.1)

before-one : (slot i n : ℕ) (q : Path) → slot ≤ i → is_before_child slot q ≡ true → seen_below i n q ≡ []
before-one slot i n [] l h = refl
before-one slot i n (j ∷ q) l h =
    let near = ltb-true j slot h in
    other-child i n j q (λ e. absurd (omega (arith, l, e, near)))

pub before-below : (slot i : ℕ) (ms : List Marking) → slot ≤ i → BeforeChild slot ms → sought_below i ms ≡ []
before-below slot i [] l h = refl
before-below slot i (m ∷ ms) l h = ap₂ (λ xs ys. xs ++ ys) (before-one slot i m.0 m.1 l h.0) (before-below slot i ms l h.1)

pub child-order : (slot : ℕ) (p q : Path) → is_before q p ≡ false → is_before_child slot q ≡ true → is_before_child slot p ≡ true
child-order slot [] q h l = refl
child-order slot (s ∷ p) [] h l = absurd (cc)
child-order slot (s ∷ p) (j ∷ q) h l =
    let far = order-key (j ∷ q) (s ∷ p) h in
    let near = ltb-true j slot l in
    lt-ltb s slot (omega (arith, far, near))

-- ---- as they are seen from a child
one-further : (d : ℕ) (p q : Path) (i : ℕ) → drop d p ≡ i ∷ q → drop (suc d) p ≡ q
one-further zero [] q i h = absurd (cc)
one-further zero (j ∷ p) q i h = cc
one-further (suc d) [] q i h = absurd (cc)
one-further (suc d) (j ∷ p) q i h = one-further d p q i h

one-inside : (i d n : ℕ) (p q : Path) → drop d p ≡ q → is_before_child i q ≡ false → is_before_child (suc i) q ≡ true → (n, drop (suc d) p) ∷ [] ≡ seen_below i n q
one-inside i d n p [] is from before = absurd (cc)
one-inside i d n p (j ∷ q) is from before =
    let low = ltb-false j i from in
    let high = ltb-true j (suc i) before in
    let same : i ≡ j = omega (arith, low, high) in
    ap (λ r. (n, r) ∷ []) (one-further d p q j is) ∙ ap (λ b. cond b ((n, q) ∷ []) []) (sym (eq-eqb i j same))

pub seen-inside : (i d : ℕ) (xs : List Sought) → FromChild i (marks_seen d xs) → BeforeChild (suc i) (marks_seen d xs) → marks_seen (suc d) xs ≡ sought_below i (marks_seen d xs)
seen-inside i d [] from before = refl
seen-inside i d (x ∷ xs) from before =
    ap₂ (λ ms ns. ms ++ ns) (one-inside i d x.number x.path.now (drop d x.path.now) refl from.0 before.0) (seen-inside i d xs from.1 before.1)

-- ---- those in a child, and those behind it
module _ (slot d n : ℕ) (xs : List Sought) (order : InPathOrder (marks_seen d xs)) (from : FromChild slot (marks_seen d xs)) (here : BeforeChild (suc slot) (marks_seen d (take n xs))) (behind : FromChild (suc slot) (marks_seen d (drop n xs))) where
  two-parts : marks_seen d xs ≡ marks_seen d (take n xs) ++ marks_seen d (drop n xs)
  two-parts = ap (marks_seen d) (sym (take-append-drop n xs)) ∙ map-append (mark_seen d) (take n xs) (drop n xs)

  own : FromChild slot (marks_seen d (take n xs))
  own = (all-part (λ (m : Marking). is_before_child slot m.1 ≡ false) (marks_seen d (take n xs)) (marks_seen d (drop n xs)) (subst (FromChild slot) two-parts from)).0

  below-parts : (i : ℕ) → sought_below i (marks_seen d xs) ≡ sought_below i (marks_seen d (take n xs)) ++ sought_below i (marks_seen d (drop n xs))
  below-parts i = ap (sought_below i) two-parts ∙ flat_map-append (λ m. seen_below i m.0 m.1) (marks_seen d (take n xs)) (marks_seen d (drop n xs))

  pub record AreParted : Type 0 where
    pub inside : marks_seen (suc d) (take n xs) ≡ sought_below slot (marks_seen d xs)
    pub ascending : InPathOrder (marks_seen d (drop n xs))
    pub others : (i : ℕ) → suc slot ≤ i → sought_below i (marks_seen d (drop n xs)) ≡ sought_below i (marks_seen d xs)

  pub parted-below : AreParted
  parted-below = record {
    inside = seen-inside slot d (take n xs) own here ∙ sym (below-parts slot ∙ ap (λ ms. sought_below slot (marks_seen d (take n xs)) ++ ms) (from-below (suc slot) slot (marks_seen d (drop n xs)) (omega arith) behind) ∙ append-nil (sought_below slot (marks_seen d (take n xs))));
    ascending = (ascending-part (λ (m : Marking). m.1) (marks_seen d (take n xs)) (marks_seen d (drop n xs)) (subst InPathOrder two-parts order)).1;
    others = λ i l. sym (below-parts i ∙ ap (λ ms. ms ++ sought_below i (marks_seen d (drop n xs))) (before-below (suc slot) i (marks_seen d (take n xs)) l here));
  }

  pub parted-order : InPathOrder (marks_seen (suc d) (take n xs))
  parted-order = subst InPathOrder (sym parted-below.inside) (below-order slot (marks_seen d xs) order)

-- ---- those at a node, and those in its children
none-there : (n : ℕ) (q : Path) (ms : List Marking) → is_before_child 0 q ≡ false → marks_at ((n, q) ∷ ms) [] ≡ marks_at ms []
none-there n [] ms h = absurd (cc)
none-there n (j ∷ q) ms h = refl

none-at : (ms : List Marking) → FromChild 0 ms → marks_at ms [] ≡ []
none-at [] h = refl
none-at (m ∷ ms) h = none-there m.0 m.1 ms h.0 ∙ none-at ms h.1

one-here : (path : Path) (n : ℕ) (q : Path) (rest : List Marking) (ms : List Marking) → is_before_child 0 q ≡ true → rest ≡ map (λ n. (n, path)) (marks_at ms []) → (n, path) ∷ rest ≡ map (λ n. (n, path)) (marks_at ((n, q) ∷ ms) [])
one-here path n [] rest ms h is = ap (λ us. (n, path) ∷ us) is
one-here path n (j ∷ q) rest ms h is = absurd (omega (arith, ltb-true j 0 h))

here-marks : (path : Path) (ms ns : List Marking) → BeforeChild 0 ms → FromChild 0 ns → map {B = Marking} (λ m. (m.0, path)) ms ≡ map {B = Marking} (λ n. (n, path)) (marks_at (ms ++ ns) [])
here-marks path [] ns a b = ap (map {B = Marking} (λ n. (n, path))) (sym (none-at ns b))
here-marks path (m ∷ ms) ns a b = one-here path m.0 m.1 (map (λ m. (m.0, path)) ms) (ms ++ ns) a.0 (here-marks path ms ns a.1 b)

module _ (d n : ℕ) (xs : List Sought) (order : InPathOrder (marks_seen d xs)) (here : BeforeChild 0 (marks_seen d (take n xs))) (behind : FromChild 0 (marks_seen d (drop n xs))) where
  both-parts : marks_seen d xs ≡ marks_seen d (take n xs) ++ marks_seen d (drop n xs)
  both-parts = ap (marks_seen d) (sym (take-append-drop n xs)) ∙ map-append (mark_seen d) (take n xs) (drop n xs)

  opened-marks : (path : Path) → map {B = Marking} (λ m. (m.0, path)) (marks_seen d (take n xs)) ≡ map {B = Marking} (λ n. (n, path)) (marks_at (marks_seen d xs) [])
  opened-marks path = here-marks path (marks_seen d (take n xs)) (marks_seen d (drop n xs)) here behind ∙ ap (λ ms. map {B = Marking} (λ n. (n, path)) (marks_at ms [])) (sym both-parts)

  pub tops-found : (path : Path) → map (mark_below path) (flat_map (λ (s : Sought). (s.number, []) ∷ []) (take n xs)) ≡ map {B = Marking} (λ n. (n, path)) (marks_at (marks_seen d xs) [])
  tops-found path = each (take n xs) ∙ opened-marks path
    where
      each : (ys : List Sought) → map (mark_below path) (flat_map (λ (s : Sought). (s.number, []) ∷ []) ys) ≡ map {B = Marking} (λ m. (m.0, path)) (marks_seen d ys)
      each [] = refl
      each (y ∷ ys) = ap₂ (λ p ms. (y.number, p) ∷ ms) (append-nil path) (each ys)

  pub opened-below : (i : ℕ) → sought_below i (marks_seen d (drop n xs)) ≡ sought_below i (marks_seen d xs)
  opened-below i = sym (ap (sought_below i) both-parts ∙ flat_map-append (λ m. seen_below i m.0 m.1) (marks_seen d (take n xs)) (marks_seen d (drop n xs)) ∙ ap (λ ms. ms ++ sought_below i (marks_seen d (drop n xs))) (before-below 0 i (marks_seen d (take n xs)) (omega arith) here))

  pub opened-order : InPathOrder (marks_seen d (drop n xs))
  opened-order = (ascending-part (λ (m : Marking). m.1) (marks_seen d (take n xs)) (marks_seen d (drop n xs)) (subst InPathOrder both-parts order)).1

-- ---- what is kept
abbrev pub kept : List Marking → SyntaxTree → MarkTree
kept ms t = rewritten (wanted ms) (λ c. []) [] [] t

abbrev pub kept_run : List Marking → ℕ → List SyntaxTree → List MarkTree
kept_run ms i [] = []
kept_run ms i (t ∷ ts) = kept (sought_below i ms) t ∷ kept_run ms (suc i) ts

kept-child : (ms : List Marking) (i : ℕ) (t : SyntaxTree) → rewritten (wanted ms) (λ c. []) [] (i ∷ []) t ≡ kept (sought_below i ms) t
kept-child ms i t = sym (seen-below (wanted ms) (wanted (sought_below i ms)) (λ c. []) [] [] i t (λ p k. marks-below ms i p) refl)

pub kept-run : (ms : List Marking) (i : ℕ) (f : Forest ℕ) → rewritten_from (wanted ms) (λ c. []) [] [] i f ≡ kept_run ms i (trees f)
kept-run ms i end = refl
kept-run ms i (more t f) = ap₂ (λ u us. u ∷ us) (kept-child ms i t) (kept-run ms (suc i) f)

kept-node : (ms : List Marking) (k : ℕ) (f : Forest ℕ) → marked (kept ms (Node k f)) ≡ map (λ m. (m, [])) (marks_at ms []) ++ marked_from 0 (kept_run ms 0 (trees f))
kept-node ms k f =
    let us = rewritten_from (wanted ms) (λ c. []) [] [] 0 f in
    marks-node (marks_at ms []) (forest us) ∙ ap (λ vs. map (λ m. (m, [])) (marks_at ms []) ++ marked_from 0 vs) (trees-forest us ∙ kept-run ms 0 f)

pub unmarked : (t : SyntaxTree) → marked (kept [] t) ≡ []
unmarked t = ap marked (untouched (λ k. []) (λ c. []) [] refl [] t) ∙ marks-none t

run-same : (ms ns : List Marking) (i : ℕ) (ts : List SyntaxTree) → ((j : ℕ) → i ≤ j → sought_below j ms ≡ sought_below j ns) → kept_run ms i ts ≡ kept_run ns i ts
run-same ms ns i [] same = refl
run-same ms ns i (t ∷ ts) same = ap₂ (λ xs us. kept xs t ∷ us) (same i (omega arith)) (run-same ms ns (suc i) ts (λ j l. same j (omega (arith, l))))

-- ---- one mark more, before all others
abbrev lead : SyntaxTree → ℕ → Path → List Marking
lead t n p = cond (leads t p) ((n, p) ∷ []) []

-- where the first of the children stands in the first slot, and the mark's path has this one
abbrev pub carried_in : ℕ → ℕ → List SyntaxTree → ℕ → ℕ → Path → List Marking
carried_in place i [] n s p = []
carried_in place i (t ∷ ts) n s p = cond (nat_eq i s) (cond (leads t p) ((n, place ∷ p) ∷ []) []) (carried_in (suc place) (suc i) ts n s p)

abbrev pub carried : ℕ → ℕ → List SyntaxTree → ℕ → Path → List Marking
carried place i ts n [] = []
carried place i ts n (s ∷ p) = carried_in place i ts n s p

pub carried-there : (place i : ℕ) (ts : List SyntaxTree) (n s d to : ℕ) (p : Path) → s ≡ i + d → to ≡ place + d → carried_in place i ts n s p ≡ option_map_or (λ t. cond (leads t p) ((n, to ∷ p) ∷ []) []) (slice_get ts d) []
carried-there place i [] n s d to p is there = refl
carried-there place i (t ∷ ts) n s zero to p is there =
    let here : i ≡ s = omega (arith, is) in
    let at : place ≡ to = omega (arith, there) in
    ap (λ b. cond b (cond (leads t p) ((n, place ∷ p) ∷ []) []) (carried_in (suc place) (suc i) ts n s p)) (eq-eqb i s here) ∙ ap (λ k. cond (leads t p) ((n, k ∷ p) ∷ []) []) at
carried-there place i (t ∷ ts) n s (suc d) to p is there =
    ap (λ b. cond b (cond (leads t p) ((n, place ∷ p) ∷ []) []) (carried_in (suc place) (suc i) ts n s p)) (ne_eqb i s (λ e. absurd (omega (arith, e, is)))) ∙ carried-there (suc place) (suc i) ts n s d to p (omega (arith, is)) (omega (arith, there))

shown-lead : (t : SyntaxTree) (n place : ℕ) (p : Path) → map (mark_below (place ∷ [])) (lead t n p) ≡ cond (leads t p) ((n, place ∷ p) ∷ []) []
shown-lead t n place p = elim (leads t p) as (λ b. map (mark_below (place ∷ [])) (cond b ((n, p) ∷ []) []) ≡ cond b ((n, place ∷ p) ∷ []) []) [ true ↦ refl | false ↦ refl ]

-- the child that it is in
front-here : (n s place : ℕ) (p : Path) (ms : List Marking) (t : SyntaxTree) (ts : List SyntaxTree) → marked (kept ((n, p) ∷ sought_below s ms) t) ≡ lead t n p ++ marked (kept (sought_below s ms) t) → marked_from place (kept_run ((n, s ∷ p) ∷ ms) s (t ∷ ts)) ≡ carried_in place s (t ∷ ts) n s p ++ marked_from place (kept_run ms s (t ∷ ts))
front-here n s place p ms t ts own =
    let there = cond (leads t p) ((n, place ∷ p) ∷ []) [] in
    let below : List Marking = map (mark_below (place ∷ [])) (marked (kept (sought_below s ms) t)) in
    let rest = marked_from (suc place) (kept_run ms (suc s) ts) in
    let first = ap (λ b. map (mark_below (place ∷ [])) (marked (kept (cond b ((n, p) ∷ []) [] ++ sought_below s ms) t))) (eq-eqb s s refl) ∙ ap (map (mark_below (place ∷ []))) own ∙ map-append (mark_below (place ∷ [])) (lead t n p) (marked (kept (sought_below s ms) t)) ∙ ap (λ xs. xs ++ below) (shown-lead t n place p) in
    let others = run-same ((n, s ∷ p) ∷ ms) ms (suc s) ts (λ j l. ap (λ xs. xs ++ sought_below j ms) (other-child j n s p (λ e. absurd (omega (arith, e, l))))) in
    ap₂ (λ xs us. xs ++ marked_from (suc place) us) first others ∙ append_assoc there below rest ∙ ap (λ b. cond b there (carried_in (suc place) (suc s) ts n s p) ++ (below ++ rest)) (sym (eq-eqb s s refl))

no-marks : (n s : ℕ) (p q : Path) (ms : List Marking) → is_before q (s ∷ p) ≡ false → marks_at ((n, q) ∷ ms) [] ≡ marks_at ms []
no-marks n s p [] ms h = absurd (cc)
no-marks n s p (j ∷ q) ms h = refl

here-none : (s : ℕ) (p : Path) (ms : List Marking) → First (s ∷ p) ms → marks_at ms [] ≡ []
here-none s p [] h = refl
here-none s p (m ∷ ms) h = no-marks m.0 s p m.1 ms h.0 ∙ here-none s p ms h.1

nothing-here : (ms : List Marking) (place i : ℕ) (t : SyntaxTree) (ts : List SyntaxTree) → sought_below i ms ≡ [] → marked_from place (kept_run ms i (t ∷ ts)) ≡ marked_from (suc place) (kept_run ms (suc i) ts)
nothing-here ms place i t ts none =
    ap (λ xs. map (mark_below (place ∷ [])) (marked (kept xs t)) ++ marked_from (suc place) (kept_run ms (suc i) ts)) none ∙ ap (λ xs. map (mark_below (place ∷ [])) xs ++ marked_from (suc place) (kept_run ms (suc i) ts)) (unmarked t)

-- a child before it, and the child itself
run-step : (n s place i : ℕ) (p : Path) (ms : List Marking) (t : SyntaxTree) (ts : List SyntaxTree) → First (s ∷ p) ms → i ≤ s → marked_from place (kept_run ((n, s ∷ p) ∷ ms) s (t ∷ ts)) ≡ carried_in place s (t ∷ ts) n s p ++ marked_from place (kept_run ms s (t ∷ ts)) → (suc i ≤ s → marked_from (suc place) (kept_run ((n, s ∷ p) ∷ ms) (suc i) ts) ≡ carried_in (suc place) (suc i) ts n s p ++ marked_from (suc place) (kept_run ms (suc i) ts)) → marked_from place (kept_run ((n, s ∷ p) ∷ ms) i (t ∷ ts)) ≡ carried_in place i (t ∷ ts) n s p ++ marked_from place (kept_run ms i (t ∷ ts))
run-step n s place i p ms t ts h l here further =
    elim (cases_eq i s) [
      | inl same ↦ subst (λ j. marked_from place (kept_run ((n, s ∷ p) ∷ ms) j (t ∷ ts)) ≡ carried_in place j (t ∷ ts) n s p ++ marked_from place (kept_run ms j (t ∷ ts))) (sym same) here
      | inr other ↦
          let before : i < s = omega (arith, l, other) in
          let none = below-none i s p ms before h in
          let more_none : sought_below i ((n, s ∷ p) ∷ ms) ≡ [] = ap₂ (λ xs ys. xs ++ ys) (other-child i n s p other) none in
          nothing-here ((n, s ∷ p) ∷ ms) place i t ts more_none ∙ further (omega (arith, before)) ∙ ap₂ (λ b xs. cond b (cond (leads t p) ((n, place ∷ p) ∷ []) []) (carried_in (suc place) (suc i) ts n s p) ++ xs) (sym (ne_eqb i s other)) (sym (nothing-here ms place i t ts none))
    ]

same-lead : (o : Option SyntaxTree) (n s : ℕ) (p : Path) → option_map_or (λ t. cond {A = List Marking} (leads t p) ((n, s ∷ p) ∷ []) []) o [] ≡ cond {A = List Marking} (is_some (option_and_then (λ c. at c p) o)) ((n, s ∷ p) ∷ []) []
same-lead None n s p = refl
same-lead (Some t) n s p = refl

mutual
  front : (t : SyntaxTree) (n : ℕ) (q : Path) (ms : List Marking) → First q ms → marked (kept ((n, q) ∷ ms) t) ≡ lead t n q ++ marked (kept ms t)
  front (Token k x) n [] ms h = marks-token (n ∷ marks_at ms []) x ∙ ap (λ xs. (n, []) ∷ xs) (sym (marks-token (marks_at ms []) x))
  front (Token k x) n (s ∷ p) ms h = refl
  front (Node k f) n [] ms h =
      kept-node ((n, []) ∷ ms) k f ∙ ap (λ us. (n, []) ∷ (map (λ m. (m, [])) (marks_at ms []) ++ marked_from 0 us)) (run-same ((n, []) ∷ ms) ms 0 (trees f) (λ j l. refl)) ∙ ap (λ xs. (n, []) ∷ xs) (sym (kept-node ms k f))
  front (Node k f) n (s ∷ p) ms h =
      let there : carried_in 0 0 (trees f) n s p ≡ lead (Node k f) n (s ∷ p) = carried-there 0 0 (trees f) n s s s p (omega arith) (omega arith) ∙ same-lead (slice_get (trees f) s) n s p in
      let none = here-none s p ms h in
      kept-node ((n, s ∷ p) ∷ ms) k f ∙ ap (λ ns. map (λ m. (m, [])) ns ++ marked_from 0 (kept_run ((n, s ∷ p) ∷ ms) 0 (trees f))) none ∙ front-run n s p ms h 0 0 f (omega arith) ∙ ap₂ (λ xs ns. xs ++ (map (λ m. (m, [])) ns ++ marked_from 0 (kept_run ms 0 (trees f)))) there (sym none) ∙ ap (λ xs. lead (Node k f) n (s ∷ p) ++ xs) (sym (kept-node ms k f))

  front-run : (n s : ℕ) (p : Path) (ms : List Marking) → First (s ∷ p) ms → (place i : ℕ) (f : Forest ℕ) → i ≤ s → marked_from place (kept_run ((n, s ∷ p) ∷ ms) i (trees f)) ≡ carried_in place i (trees f) n s p ++ marked_from place (kept_run ms i (trees f))
  front-run n s p ms h place i end l = refl
  front-run n s p ms h place i (more t f) l =
      run-step n s place i p ms t (trees f) h l (front-here n s place p ms t (trees f) (front t n p (sought_below s ms) (below-first s p ms h))) (front-run n s p ms h (suc place) (suc i) f)

-- ---- all marks
pub kept-found : (t : SyntaxTree) (ms : List Marking) → InPathOrder ms → marked (kept ms t) ≡ kept_in t ms
kept-found t [] h = unmarked t
kept-found t (m ∷ ms) h =
    front t m.0 m.1 ms h.0 ∙ ap (λ xs. lead t m.0 m.1 ++ xs) (kept-found t ms h.1) ∙ elim (leads t m.1) as (λ b. cond b (m ∷ []) [] ++ kept_in t ms ≡ cond b (m ∷ kept_in t ms) (kept_in t ms)) [ true ↦ refl | false ↦ refl ]

run-none : (place i : ℕ) (ts : List SyntaxTree) → marked_from place (kept_run [] i ts) ≡ []
run-none place i [] = refl
run-none place i (t ∷ ts) = ap₂ (λ xs ys. map (mark_below (place ∷ [])) xs ++ ys) (unmarked t) (run-none (suc place) (suc i) ts)

pub carried-before : (place i : ℕ) (ts : List SyntaxTree) (n s : ℕ) (p : Path) → s < i → carried_in place i ts n s p ≡ []
carried-before place i [] n s p l = refl
carried-before place i (t ∷ ts) n s p l =
    ap (λ b. cond b (cond (leads t p) ((n, place ∷ p) ∷ []) []) (carried_in (suc place) (suc i) ts n s p)) (ne_eqb i s (λ e. absurd (omega (arith, e, l)))) ∙ carried-before (suc place) (suc i) ts n s p (omega (arith, l))

run-front : (place i n : ℕ) (ts : List SyntaxTree) (q : Path) (ms : List Marking) → First q ms → marked_from place (kept_run ((n, q) ∷ ms) i ts) ≡ carried place i ts n q ++ marked_from place (kept_run ms i ts)
run-front place i n ts [] ms h = ap (marked_from place) (run-same ((n, []) ∷ ms) ms i ts (λ j l. refl))
run-front place i n ts (s ∷ p) ms h =
    elim (cases_lt s i) [
      | inl before ↦ ap (marked_from place) (run-same ((n, s ∷ p) ∷ ms) ms i ts (λ j l. ap (λ xs. xs ++ sought_below j ms) (other-child j n s p (λ e. absurd (omega (arith, e, l, before)))))) ∙ ap (λ xs. xs ++ marked_from place (kept_run ms i ts)) (sym (carried-before place i ts n s p before))
      | inr far ↦ subst (λ us. marked_from place (kept_run ((n, s ∷ p) ∷ ms) i us) ≡ carried_in place i us n s p ++ marked_from place (kept_run ms i us)) (trees-forest ts) (front-run n s p ms h place i (forest ts) far)
    ]

pub run-found : (place i : ℕ) (ts : List SyntaxTree) (ms : List Marking) → InPathOrder ms → marked_from place (kept_run ms i ts) ≡ flat_map (λ m. carried place i ts m.0 m.1) ms
run-found place i ts [] h = run-none place i ts
run-found place i ts (m ∷ ms) h =
    run-front place i m.0 ts m.1 ms h.0 ∙ ap (λ xs. carried place i ts m.0 m.1 ++ xs) (run-found place i ts ms h.1)

-- ---- as code finds them
pub child-parted : (depth slot : ℕ) (xs : List Sought) → InPathOrder (marks_seen depth xs) → IsPartitionedBy (λ (m : Sought). is_before_child slot (drop depth m.path.now)) xs
child-parted depth slot xs order i j d l k h =
    child-order slot (drop depth (get_or xs i d).path.now) (drop depth (get_or xs j d).path.now) (ascending-far (λ (m : Sought). drop depth m.path.now) xs (ascending-under (λ (m : Marking). m.1) (mark_seen depth) xs order) i j d l k) h
