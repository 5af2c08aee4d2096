-- Where a kept element stands in the rewritten tree, and an update of the node that stands there.
--     splice_at                      a list of three parts, of which the middle one is exchanged
--     width, widths                  how much the gaps and slots hold
--     to_gap, to_slot, new_path      where a gap and a slot begin in the new child list; the path in the rewritten tree
--     Keeps                          no slot at or above a path is replaced
--     before, after, cut             the rewritten children up to a gap, and those from it on
--     split                          the rewritten children around one that is kept
--     at-new_path                    at its new path stands the element, rewritten
--     Elsewhere, rewritten_by-update       where two sets of edits agree but at one node, the one tree is an update of the other there
use Rattle.std.specs.Prelude.{◌≡◌, ℕ, zero, suc, ◌+◌, ◌<◌, ◌≤◌, List, [], ◌∷◌, ◌++◌, length, slice_get, Option, Some, None, option_and_then, refl}
use Rattle.std.specs.Option.{option_map_or}
use Rattle.std.proofs.Common.{ap, ap₂, sym, ◌∙◌, take, arith}
use Rattle.std.proofs.lemmas.List.{append_assoc, length-append, take_at, drop_at}
use Rattle.std.proofs.lemmas.Option.{same_Some, slice_get_within}
use Rattle.green_tree.specs.Path.{Path}
use Rattle.green_tree.specs.Tree.{Tree, Forest, Token, Node, end, more, SyntaxTree, forest, trees, children, at}
use Rattle.green_tree.proofs.Lookup.{trees-forest}
use Rattle.green_tree.specs.inner.Splices.{spliced_list, spliced, updated_at}
use Rattle.edit_change.proofs.Edits.{Edits, below, below_path, filled, rewritten_by, rewritten_by_from}

pub slice_get_at : {X : Type 0} (xs : List X) (y : X) (ys : List X) (n : ℕ) → length xs ≡ n → slice_get (xs ++ y ∷ ys) n ≡ Some y
slice_get_at [] y ys n l = ap (λ k. slice_get (y ∷ ys) k) (sym l)
slice_get_at (x ∷ xs) y ys n l =
    ap (λ k. slice_get (x ∷ (xs ++ y ∷ ys)) k) (sym l) ∙ slice_get_at xs y ys (length xs) refl

pub splice_at : {X : Type 0} (front mid back xs : List X) (from n : ℕ) → length front ≡ from → length mid ≡ n → spliced_list from n xs (front ++ mid ++ back) ≡ front ++ xs ++ back
splice_at front mid back xs from n l m =
    let whole : length (front ++ mid) ≡ from + n = length-append front mid ∙ ap₂ (λ a b. a + b) l m in
    ap₂ (λ x y. x ++ xs ++ y) (ap (λ t. take from t) (append_assoc front mid back) ∙ take_at front (mid ++ back) from l) (drop_at (front ++ mid) back (from + n) whole)

-- ---- widths and indices
abbrev pub width : Option (List SyntaxTree) → ℕ
width (Some ts) = length ts
width None = 1

-- of so many slots from one on, each with the gap before it
abbrev pub widths : Edits ℕ → ℕ → ℕ → ℕ
widths e i zero = 0
widths e i (suc n) = length (e.gap [] i) + width (e.slot [] i) + widths e (suc i) n

-- where gap i starts
abbrev pub to_gap : Edits ℕ → ℕ → ℕ
to_gap e i = widths e 0 i

abbrev pub to_slot : Edits ℕ → ℕ → ℕ
to_slot e i = to_gap e i + length (e.gap [] i)

abbrev pub new_path : Edits ℕ → Path → Path
new_path e [] = []
new_path e (i ∷ p) = to_slot e i ∷ new_path (below i e) p

abbrev pub Keeps : Edits ℕ → Path → Type 0
Keeps e [] = Unit {0}
Keeps e (i ∷ p) = (e.slot [] i ≡ None) × Keeps (below i e) p

pub keeps_from : (e : Edits ℕ) (p : Path) → ((q : Path) (i : ℕ) (r : Path) → q ++ i ∷ r ≡ p → e.slot q i ≡ None) → Keeps e p
keeps_from e [] h = tt
keeps_from e (i ∷ p) h = (h [] i p refl, keeps_from (below i e) p (λ q j r same. h (i ∷ q) j r (ap (λ x. i ∷ x) same)))

pub length-filled : (o : Option (List SyntaxTree)) (t : SyntaxTree) → length (filled o t) ≡ width o
length-filled (Some ts) t = refl
length-filled None t = refl

-- ---- the rewritten children before a gap, and the children after it
abbrev pub before : Edits ℕ → ℕ → Forest ℕ → ℕ → List SyntaxTree
before e i f zero = []
before e i end (suc n) = []
before e i (more t f) (suc n) = e.gap [] i ++ filled (e.slot [] i) (rewritten_by (below i e) t) ++ before e (suc i) f n

abbrev pub after : {L : Type 0} → Forest L → ℕ → Forest L
after f zero = f
after end (suc n) = end
after (more t f) (suc n) = after f n

pub cut : (e : Edits ℕ) (k : ℕ) (f : Forest ℕ) (n i : ℕ) → n ≤ length (trees f) → k + n ≡ i → rewritten_by_from e k f ≡ before e k f n ++ rewritten_by_from e i (after f n)
cut e k f zero i l m = let same : k ≡ i = omega arith in ap (λ j. rewritten_by_from e j f) same
cut e k end (suc n) i l m = absurd (omega arith)
cut e k (more t f) (suc n) i l m =
    let item = e.gap [] k ++ filled (e.slot [] k) (rewritten_by (below k e) t) in
    ap (λ xs. item ++ xs) (cut e (suc k) f n i (omega arith) (omega arith)) ∙ sym (append_assoc item (before e (suc k) f n) (rewritten_by_from e i (after f n)))

pub length-before : (e : Edits ℕ) (k : ℕ) (f : Forest ℕ) (n : ℕ) → n ≤ length (trees f) → length (before e k f n) ≡ widths e k n
length-before e k f zero l = refl
length-before e k end (suc n) l = absurd (omega arith)
length-before e k (more t f) (suc n) l =
    let this = filled (e.slot [] k) (rewritten_by (below k e) t) in
    length-append (e.gap [] k ++ this) (before e (suc k) f n) ∙ ap₂ (λ a b. a + b) (length-append (e.gap [] k) this ∙ ap (λ a. length (e.gap [] k) + a) (length-filled (e.slot [] k) (rewritten_by (below k e) t))) (length-before e (suc k) f n (omega arith))

pub after-more : {L : Type 0} (f : Forest L) (n : ℕ) (c : Tree L) → slice_get (trees f) n ≡ Some c → after f n ≡ more c (after f (suc n))
after-more end n c h = cc
after-more (more t f) zero c h = ap (λ u. more u f) (same_Some t c h)
after-more (more t f) (suc n) c h = after-more f n c h

pub length-after : {L : Type 0} (f : Forest L) (n : ℕ) → n ≤ length (trees f) → n + length (trees (after f n)) ≡ length (trees f)
length-after f zero l = omega arith
length-after end (suc n) l = absurd (omega arith)
length-after (more t f) (suc n) l = omega (arith, length-after f n (omega arith))

-- the children around one that is kept
pub split : (e : Edits ℕ) (f : Forest ℕ) (i : ℕ) (c : SyntaxTree) → slice_get (trees f) i ≡ Some c → e.slot [] i ≡ None → rewritten_by_from e 0 f ≡ (before e 0 f i ++ e.gap [] i) ++ rewritten_by (below i e) c ∷ rewritten_by_from e (suc i) (after f (suc i))
split e f i c h s =
    let within : i < length (trees f) = slice_get_within (trees f) i c h in
    let rest = rewritten_by_from e (suc i) (after f (suc i)) in
    cut e 0 f i i (omega arith) (omega arith) ∙ ap (λ g. before e 0 f i ++ rewritten_by_from e i g) (after-more f i c h) ∙ ap (λ o. before e 0 f i ++ (e.gap [] i ++ filled o (rewritten_by (below i e) c) ++ rest)) s ∙ ap (λ xs. before e 0 f i ++ xs) (append_assoc (e.gap [] i) (rewritten_by (below i e) c ∷ []) rest) ∙ sym (append_assoc (before e 0 f i) (e.gap [] i) (rewritten_by (below i e) c ∷ rest))

pub length-to : (e : Edits ℕ) (f : Forest ℕ) (i : ℕ) (c : SyntaxTree) → slice_get (trees f) i ≡ Some c → length (before e 0 f i ++ e.gap [] i) ≡ to_slot e i
length-to e f i c h =
    let within : i < length (trees f) = slice_get_within (trees f) i c h in
    length-append (before e 0 f i) (e.gap [] i) ∙ ap (λ n. n + length (e.gap [] i)) (length-before e 0 f i (omega arith))

-- ---- at the new_path of a kept element stands that element, rewritten
-- the child on the way to an element below a node
abbrev pub Through : SyntaxTree → ℕ → Path → SyntaxTree → Type 0
Through t i p u = (c : SyntaxTree) × (slice_get (children t) i ≡ Some c) × (at c p ≡ Some u)

pub through : (t : SyntaxTree) (i : ℕ) (p : Path) (u : SyntaxTree) → at t (i ∷ p) ≡ Some u → Through t i p u
through t i p u h = go (slice_get (children t) i) refl h
  where
    go : (o : Option SyntaxTree) → slice_get (children t) i ≡ o → option_and_then (λ c. at c p) o ≡ Some u → Through t i p u
    go None is had = cc
    go (Some c) is had = (c, is, had)

pub at-new_path : (e : Edits ℕ) (p : Path) (t u : SyntaxTree) → at t p ≡ Some u → Keeps e p → at (rewritten_by e t) (new_path e p) ≡ Some (rewritten_by (below_path p e) u)
at-new_path e [] t u h k = ap (λ v. Some (rewritten_by e v)) (same_Some t u h)
at-new_path e (i ∷ p) (Token l s) u h k = cc
at-new_path e (i ∷ p) (Node l f) u h k =
    let way = through (Node l f) i p u h in
    let c = way.0 in
    let list = before e 0 f i ++ e.gap [] i in
    let new = rewritten_by (below i e) c in
    let found : slice_get (trees (forest (rewritten_by_from e 0 f))) (to_slot e i) ≡ Some new = ap (λ ts. slice_get ts (to_slot e i)) (trees-forest (rewritten_by_from e 0 f) ∙ split e f i c way.1 k.0) ∙ slice_get_at list new (rewritten_by_from e (suc i) (after f (suc i))) (to_slot e i) (length-to e f i c way.1) in
    ap (λ o. option_and_then (λ d. at d (new_path (below i e) p)) o) found ∙ at-new_path (below i e) p c u way.2 k.1

-- ---- an update of one element
pub record Elsewhere (d e : Edits ℕ) (p : Path) : Type 0 where
  pub labels : d.label_at ≡ e.label_at
  pub gaps : (q : Path) → (q ≡ p → ⊥) → d.gap q ≡ e.gap q
  pub slots : (q : Path) → (q ≡ p → ⊥) → d.slot q ≡ e.slot q

-- the edits of one node agree, and all edits below its other children
pub record Beside (d e : Edits ℕ) (i : ℕ) : Type 0 where
  pub gap : d.gap [] ≡ e.gap []
  pub slot : d.slot [] ≡ e.slot []
  pub others : (j : ℕ) → (j ≡ i → ⊥) → below j d ≡ below j e

pub elsewhere_below : (d e : Edits ℕ) (i : ℕ) (p : Path) → Elsewhere d e (i ∷ p) → Elsewhere (below i d) (below i e) p
elsewhere_below d e i p h = record {
  labels = ap (λ o q. o (i ∷ q)) h.labels;
  gaps = λ q n. h.gaps (i ∷ q) (λ x. n (cc));
  slots = λ q n. h.slots (i ∷ q) (λ x. n (cc));
}

pub beside : (d e : Edits ℕ) (i : ℕ) (p : Path) → Elsewhere d e (i ∷ p) → Beside d e i
beside d e i p h = record {
  gap = h.gaps [] (λ x. cc);
  slot = h.slots [] (λ x. cc);
  others = λ j n. (λ k. record { label_at = λ q. h.labels k (j ∷ q); gap = λ q. h.gaps (j ∷ q) (λ x. n (cc)) k; slot = λ q. h.slots (j ∷ q) (λ x. n (cc)) k });
}

-- ---- where two sets of edits agree
abbrev pub SameItem : Edits ℕ → Edits ℕ → ℕ → Type 0
SameItem d e k = (t : SyntaxTree) → d.gap [] k ++ filled (d.slot [] k) (rewritten_by (below k d) t) ≡ e.gap [] k ++ filled (e.slot [] k) (rewritten_by (below k e) t)

module _ (d e : Edits ℕ) where
  pub same_item : (k : ℕ) → d.gap [] k ≡ e.gap [] k → d.slot [] k ≡ e.slot [] k → below k d ≡ below k e → SameItem d e k
  same_item k g s b t = ap₂ (λ xs ys. xs ++ ys) g (ap₂ (λ o c. filled o (rewritten_by c t)) s b)

  pub before-same : (k : ℕ) (f : Forest ℕ) (n i : ℕ) → k + n ≡ i → ((j : ℕ) → j < i → SameItem d e j) → before d k f n ≡ before e k f n
  before-same k f zero i m h = refl
  before-same k end (suc n) i m h = refl
  before-same k (more t f) (suc n) i m h =
      ap₂ (λ xs ys. xs ++ ys) (h k (omega arith) t) (before-same (suc k) f n i (omega arith) h)

  pub from-same : (i k : ℕ) (f : Forest ℕ) → i ≤ k → ((j : ℕ) → i ≤ j → j < k + length (trees f) → SameItem d e j) → ((j : ℕ) → i ≤ j → j ≤ k + length (trees f) → d.gap [] j ≡ e.gap [] j) → rewritten_by_from d k f ≡ rewritten_by_from e k f
  from-same i k end l h g = g k l (omega arith)
  from-same i k (more t f) l h g =
      ap₂ (λ xs ys. xs ++ ys) (h k l (omega arith) t) (from-same i (suc k) f (omega arith) (λ j a b. h j a (omega arith)) (λ j a b. g j a (omega arith)))

pub rewritten_by-update : (d e : Edits ℕ) (p : Path) (t u : SyntaxTree) (h : SyntaxTree → SyntaxTree) → at t p ≡ Some u → Keeps d p → Elsewhere d e p → h (rewritten_by (below_path p d) u) ≡ rewritten_by (below_path p e) u → rewritten_by e t ≡ updated_at (rewritten_by d t) (new_path d p) h
rewritten_by-update d e [] t u h a k s n =
    let same = same_Some t u a in
    sym (rw (← same) at n)
rewritten_by-update d e (i ∷ p) (Token l x) u h a k s n = cc
rewritten_by-update d e (i ∷ p) (Node l f) u h a k s n =
    let way = through (Node l f) i p u a in
    let c = way.0 in
    let b = beside d e i p s in
    let front = before d 0 f i ++ d.gap [] i in
    let back = rewritten_by_from d (suc i) (after f (suc i)) in
    let old = rewritten_by (below i d) c in
    let new = updated_at old (new_path (below i d) p) h in
    let kept : e.slot [] i ≡ None = ap (λ o. o i) (sym b.slot) ∙ k.0 in
    let item : (j : ℕ) → (j ≡ i → ⊥) → SameItem d e j = λ j n. same_item d e j (ap (λ g. g j) b.gap) (ap (λ o. o j) b.slot) (b.others j n) in
    let same_front : before d 0 f i ≡ before e 0 f i = before-same d e 0 f i i (omega arith) (λ j l. item j (λ x. absurd (omega arith))) in
    let same_back : back ≡ rewritten_by_from e (suc i) (after f (suc i)) = from-same d e (suc i) (suc i) (after f (suc i)) (omega arith) (λ j l u. item j (λ x. absurd (omega arith))) (λ j l u. ap (λ g. g j) b.gap) in
    let long : length front ≡ to_slot d i = length-to d f i c way.1 in
    let deeper : rewritten_by (below i e) c ≡ new = rewritten_by-update (below i d) (below i e) p c u h way.2 k.1 (elsewhere_below d e i p s) n in
    let split_e : rewritten_by_from e 0 f ≡ front ++ new ∷ back = split e f i c way.1 kept ∙ ap₂ (λ xs ys. xs ++ ys) (ap₂ (λ xs ys. xs ++ ys) (sym same_front) (ap (λ g. g i) (sym b.gap))) (ap₂ (λ x ys. x ∷ ys) deeper (sym same_back)) in
    let old_list : trees (forest (rewritten_by_from d 0 f)) ≡ front ++ old ∷ back = trees-forest (rewritten_by_from d 0 f) ∙ split d f i c way.1 k.0 in
    let found : slice_get (trees (forest (rewritten_by_from d 0 f))) (to_slot d i) ≡ Some old = ap (λ ts. slice_get ts (to_slot d i)) old_list ∙ slice_get_at front old back (to_slot d i) long in
    let written : spliced_list (to_slot d i) 1 (new ∷ []) (trees (forest (rewritten_by_from d 0 f))) ≡ front ++ new ∷ back = ap (λ ts. spliced_list (to_slot d i) 1 (new ∷ []) ts) (old_list ∙ sym (append_assoc front (old ∷ []) back)) ∙ splice_at front (old ∷ []) back (new ∷ []) (to_slot d i) 1 long refl ∙ append_assoc front (new ∷ []) back in
    ap₂ (λ o xs. Node (o [] l) (forest xs)) (sym s.labels) (split_e ∙ sym written) ∙ sym (ap (λ o. option_map_or (λ y. spliced (to_slot d i) 1 (updated_at y (new_path (below i d) p) h ∷ []) (rewritten_by d (Node l f))) o (rewritten_by d (Node l f))) found)
