-- One aim more in the list, an insert or a replacement: the rewritten tree is spliced at one node.
--     same_path-true, same_path_from, same_path-false      the test of two paths
--     gap_is, one_gap                the gap that an insert fills; there is no other
--     stands_first-least             an insert that is numbered before all others of its gap stands first in it
--     range                          so many slots of a node
--     IsKept, keeps                  no slot on the way to a node is replaced
--     elsewhere-insert, elsewhere-replace      the edits with the aim are those without it but at its node
--     inserted, insert_more          an insert that stands first in its gap
--     replaced, replace_more         a replacement of slots that are kept, with no insert between them
use Rattle.std.specs.Prelude.{◌≡◌, ℕ, zero, suc, ◌+◌, ◌<◌, ◌≤◌, Bool, true, false, cond, ◌&&◌, ◌||◌, nat_eq, List, [], ◌∷◌, ◌++◌, length, map, filter, flat_map, Option, Some, None, refl}
use Rattle.std.specs.List.{list_any}
use Rattle.std.specs.Option.{option_map_or}
use Rattle.std.proofs.lemmas.Option.{same_Some}
use Rattle.std.proofs.Common.{ap, ap₂, sym, subst, ◌∙◌, arith}
use Rattle.std.proofs.lemmas.List.{append-nil, length-append, same_from_push}
use Rattle.std.proofs.lemmas.List.Elements.{filter-append}
use Rattle.std.proofs.lemmas.Bool.{cases_eq, false≢true, false_from_ne_true, eqb-true, eq-eqb, and_parts, or_parts, or_left, or_right}
use mathlib.Core.Logic.{inl, inr}
use mathlib.Core.Path.{fun_ext}
use lib.Pointwise.{pointwise_decides}
use Rattle.green_tree.specs.Path.{Path, same_path, has_path, counted_from}
use Rattle.green_tree.specs.Tree.{Forest, Node, SyntaxTree, trees, at}
use Rattle.edit_change.specs.Aim.{Aim, FirstIn, AfterElement, Over, Gap, gap_of, aims_at_gap, starts_at, replaces}
use Rattle.edit_change.specs.inner.KindOnly.{kind_only}
use Rattle.edit_change.specs.Rewriting.{NumberedAim, numbers, inserts_at, replacements_at, is_replaced, gap_order, rewritten}
use Rattle.green_tree.specs.inner.Splices.{spliced, updated_at}
use Rattle.edit_change.proofs.Edits.{Edits, below, below_path, taken, edits_of, rewritten_is}
use Rattle.edit_steps.proofs.CurrentPaths.{to_gap, to_slot, new_path, Keeps, keeps_from, Elsewhere}
use Rattle.edit_steps.proofs.Steps.{Inserted, Replaced, step-inserted, step-replaced}

-- ---- paths
decides : (p q : Path) → (same_path p q ≡ true → p ≡ q) × (p ≡ q → same_path p q ≡ true)
decides = pointwise_decides (λ x y. (eqb-true x y, eq-eqb x y))

pub same_path-true : (p q : Path) → same_path p q ≡ true → p ≡ q
same_path-true p q h = (decides p q).0 h

pub same_path_from : (p q : Path) → p ≡ q → same_path p q ≡ true
same_path_from p q h = (decides p q).1 h

pub same_path-false : (p q : Path) → (p ≡ q → ⊥) → same_path p q ≡ false
same_path-false p q n = false_from_ne_true (same_path p q) (λ h. n (same_path-true p q h))

pub longer : (p : Path) (j : ℕ) (q : Path) → p ++ j ∷ q ≡ p → ⊥
longer p j q h =
    let long = length-append p (j ∷ q) in
    let same = ap length h in
    absurd (omega arith)

-- ---- lists with one element more
module _ {X : Type 0} (test : X → Bool) where
  pub filter_skip : (xs : List X) (c : X) (ys : List X) → test c ≡ false → filter test (xs ++ c ∷ ys) ≡ filter test (xs ++ ys)
  filter_skip [] c ys h = ap (λ b. cond b (c ∷ filter test ys) (filter test ys)) h
  filter_skip (x ∷ xs) c ys h = ap (λ zs. cond (test x) (x ∷ zs) zs) (filter_skip xs c ys h)

  pub filter_least : (xs : List X) (c : X) (ys : List X) → test c ≡ true → filter test xs ≡ [] → filter test (xs ++ c ∷ ys) ≡ c ∷ filter test (xs ++ ys)
  filter_least xs c ys h n =
      filter-append test xs (c ∷ ys) ∙ ap₂ (λ zs b. zs ++ cond b (c ∷ filter test ys) (filter test ys)) n h ∙ ap (λ zs. c ∷ zs) (sym (filter-append test xs ys ∙ ap (λ zs. zs ++ filter test ys) n))

  pub any_skip : (xs : List X) (c : X) (ys : List X) → test c ≡ false → list_any test (xs ++ c ∷ ys) ≡ list_any test (xs ++ ys)
  any_skip [] c ys h = ap (λ b. b || list_any test ys) h
  any_skip (x ∷ xs) c ys h = ap (λ b. test x || b) (any_skip xs c ys h)

  pub any_more : (xs : List X) (c : X) (ys : List X) → test c ≡ true → list_any test (xs ++ c ∷ ys) ≡ true
  any_more [] c ys h = ap (λ b. b || list_any test ys) h
  any_more (x ∷ xs) c ys h =
      ap (λ b. test x || b) (any_more xs c ys h) ∙ elim (test x) as (λ b. (b || true) ≡ true) [ true ↦ refl | false ↦ refl ]

  pub filter_none : (weaker : X → Bool) → ((x : X) → test x ≡ true → weaker x ≡ true) → (xs : List X) → list_any weaker xs ≡ false → filter test xs ≡ []
  filter_none weaker h [] n = refl
  filter_none weaker h (x ∷ xs) n =
      let parts = or_parts (weaker x) (list_any weaker xs) n in
      let not_it : test x ≡ false = false_from_ne_true (test x) (λ t. false≢true (sym parts.0 ∙ h x t)) in
      ap₂ (λ b zs. cond b (x ∷ zs) zs) not_it (filter_none weaker h xs parts.1)

  pub filter_only : (weaker : X → Bool) → ((x : X) → test x ≡ true → weaker x ≡ true) → (xs : List X) (c : X) (ys : List X) → test c ≡ true → list_any weaker (xs ++ ys) ≡ false → filter test (xs ++ c ∷ ys) ≡ c ∷ []
  filter_only weaker h [] c ys t n = ap₂ (λ b zs. cond b (c ∷ zs) zs) t (filter_none weaker h ys n)
  filter_only weaker h (x ∷ xs) c ys t n =
      let parts = or_parts (weaker x) (list_any weaker (xs ++ ys)) n in
      let not_it : test x ≡ false = false_from_ne_true (test x) (λ u. false≢true (sym parts.0 ∙ h x u)) in
      ap₂ (λ b zs. cond b (x ∷ zs) zs) not_it (filter_only weaker h xs c ys t parts.1)

-- ---- what an aim touches
pub gap_of_over : (p : Path) (i : ℕ) (qs : List Path) → aims_at_gap p i (Over qs) ≡ false
gap_of_over p i qs = refl

-- the gap that an insert fills
pub gap_is : (p : Path) (i : ℕ) (a : Aim) → aims_at_gap p i a ≡ true → gap_of a ≡ Some (record { node = p; index = i })
gap_is p i a h = go (gap_of a) h
  where
    go : (o : Option Gap) → option_map_or (λ g. same_path p g.node && nat_eq i g.index) o false ≡ true → o ≡ Some (record { node = p; index = i })
    go None k = absurd (false≢true k)
    go (Some g) k =
        let parts = and_parts (same_path p g.node) (nat_eq i g.index) k in
        ap₂ (λ q j. Some (record { node = q; index = j })) (sym (same_path-true p g.node parts.0)) (sym (eqb-true i g.index parts.1))

pub one_gap : (a : Aim) (p q : Path) (i j : ℕ) → aims_at_gap p i a ≡ true → aims_at_gap q j a ≡ true → (p ≡ q) × (i ≡ j)
one_gap a p q i j h k =
    let same = sym (gap_is p i a h) ∙ gap_is q j a k in
    let whole = same_Some (record { node = p; index = i }) (record { node = q; index = j }) same in
    (ap (λ g. g.node) whole, ap (λ g. g.index) whole)

other_gap : (a : Aim) (p q : Path) (i j : ℕ) → aims_at_gap p i a ≡ true → ((p ≡ q) × (i ≡ j) → ⊥) → aims_at_gap q j a ≡ false
other_gap a p q i j h n = false_from_ne_true (aims_at_gap q j a) (λ k. n (one_gap a p q i j h k))

pub no_slot : (a : Aim) (p q : Path) (i : ℕ) → aims_at_gap p i a ≡ true → (replaces q a ≡ false) × (starts_at q a ≡ false)
no_slot (FirstIn r) p q i h = (refl, refl)
no_slot (AfterElement r) p q i h = (refl, refl)
no_slot (Over rs) p q i h = absurd (false≢true h)

-- an insert that is numbered before all others of its gap stands first in it
pub stands_first-least : (xs : List NumberedAim) (c : NumberedAim) (ys : List NumberedAim) (p : Path) (i : ℕ) → aims_at_gap p i c.1 ≡ true → filter (λ d. aims_at_gap p i d.1) xs ≡ [] → gap_order (inserts_at (xs ++ c ∷ ys) p i) ≡ c.0 ∷ gap_order (inserts_at (xs ++ ys) p i)
stands_first-least xs c ys p i here least = ap (λ ds. gap_order (numbers ds)) (filter_least (λ d. aims_at_gap p i d.1) xs c ys here least)

pub starts-replaces : (q : Path) (a : Aim) → starts_at q a ≡ true → replaces q a ≡ true
starts-replaces q (FirstIn r) h = h
starts-replaces q (AfterElement r) h = h
starts-replaces q (Over []) h = h
starts-replaces q (Over (r ∷ rs)) h = or_left (same_path q r) (has_path rs q) h

-- so many slots of the node at p, from one on
abbrev pub range : Path → ℕ → ℕ → List Path
range p i n = map (λ j. p ++ j ∷ []) (counted_from i n)

pub in_range : (p : Path) (k n j : ℕ) → k ≤ j → j < k + n → has_path (range p k n) (p ++ j ∷ []) ≡ true
in_range p k zero j l u = absurd (omega arith)
in_range p k (suc n) j l u =
    elim (cases_eq j k) [
      | inl same ↦ or_left (same_path (p ++ j ∷ []) (p ++ k ∷ [])) (has_path (range p (suc k) n) (p ++ j ∷ [])) (same_path_from (p ++ j ∷ []) (p ++ k ∷ []) (ap (λ x. p ++ x ∷ []) same))
      | inr other ↦ or_right (same_path (p ++ j ∷ []) (p ++ k ∷ [])) (has_path (range p (suc k) n) (p ++ j ∷ [])) (in_range p (suc k) n j (omega arith) (omega arith))
    ]

pub out_range : (p : Path) (k n : ℕ) (q : Path) → ((j : ℕ) → k ≤ j → j < k + n → q ≡ p ++ j ∷ [] → ⊥) → has_path (range p k n) q ≡ false
out_range p k zero q h = refl
out_range p k (suc n) q h =
    ap₂ (λ a b. a || b) (same_path-false q (p ++ k ∷ []) (h k (omega arith) (omega arith))) (out_range p (suc k) n q (λ j l u. h j (omega arith) (omega arith)))

-- ---- kept paths: no slot at or above is replaced
pub record IsKept (cs : List NumberedAim) (p : Path) : Type 0 where
  pub not_replaced : (q : Path) (i : ℕ) (r : Path) → q ++ i ∷ r ≡ p → is_replaced cs (q ++ i ∷ []) ≡ false

pub taken-none : (given : ℕ → List SyntaxTree) (cs : List NumberedAim) (p : Path) → is_replaced cs p ≡ false → taken given cs p ≡ None
taken-none given cs p h = ap (λ b. cond b (Some (flat_map given (replacements_at cs p))) None) h

pub keeps : (given : ℕ → List SyntaxTree) (cs : List NumberedAim) (p : Path) → IsKept cs p → Keeps (edits_of kind_only given cs) p
keeps given cs p h = keeps_from (edits_of kind_only given cs) p (λ q i r same. taken-none given cs (q ++ i ∷ []) (h.not_replaced q i r same))

-- from absolute paths to the node at p
module _ (d e : Edits ℕ) (p : Path) where
  below-agree : (j : ℕ) → d.label_at ≡ e.label_at → ((q : Path) → (q ≡ p → ⊥) → d.gap q ≡ e.gap q) → ((q : Path) → (q ≡ p → ⊥) → d.slot q ≡ e.slot q) → below j (below_path p d) ≡ below j (below_path p e)
  below-agree j o g s = λ k. record {
    label_at = λ q. o k (p ++ j ∷ q);
    gap = λ q. g (p ++ j ∷ q) (longer p j q) k;
    slot = λ q. s (p ++ j ∷ q) (longer p j q) k;
  }

-- ---- an insert more
module _ (given : ℕ → List SyntaxTree) (xs : List NumberedAim) (c : NumberedAim) (ys : List NumberedAim) where
  abbrev old : Edits ℕ
  old = edits_of kind_only given (xs ++ ys)

  abbrev new : Edits ℕ
  new = edits_of kind_only given (xs ++ c ∷ ys)

  pub same_gap : (q : Path) (j : ℕ) → aims_at_gap q j c.1 ≡ false → old.gap q j ≡ new.gap q j
  same_gap q j h = ap (λ ds. flat_map given (gap_order (numbers ds))) (sym (filter_skip (λ d. aims_at_gap q j d.1) xs c ys h))

  pub same_slot : (q : Path) → replaces q c.1 ≡ false → starts_at q c.1 ≡ false → taken given (xs ++ ys) q ≡ taken given (xs ++ c ∷ ys) q
  same_slot q r s = ap₂ (λ b ds. cond b (Some (flat_map given (numbers ds))) None) (sym (any_skip (λ d. replaces q d.1) xs c ys r)) (sym (filter_skip (λ d. starts_at q d.1) xs c ys s))

  module _ (p : Path) (i : ℕ) (here : aims_at_gap p i c.1 ≡ true) where
    pub other_gaps : (q : Path) (j : ℕ) → ((p ≡ q) × (i ≡ j) → ⊥) → old.gap q j ≡ new.gap q j
    other_gaps q j n = same_gap q j (other_gap c.1 p q i j here n)

    pub slots : (q : Path) → old.slot q ≡ new.slot q
    slots q = fun_ext (λ j. same_slot (q ++ j ∷ []) (no_slot c.1 p (q ++ j ∷ []) i here).0 (no_slot c.1 p (q ++ j ∷ []) i here).1)

    pub elsewhere-insert : Elsewhere old new p
    elsewhere-insert = record {
      labels = refl;
      gaps = λ q n. fun_ext (λ j. other_gaps q j (λ same. n (sym same.0)));
      slots = λ q n. slots q;
    }

  module _ (p : Path) (i : ℕ) (here : aims_at_gap p i c.1 ≡ true) (stands : gap_order (inserts_at (xs ++ c ∷ ys) p i) ≡ c.0 ∷ gap_order (inserts_at (xs ++ ys) p i)) where
    first_in_gap : new.gap p i ≡ given c.0 ++ old.gap p i
    first_in_gap = ap (λ ns. flat_map given ns) stands

    pub inserted : Inserted (below_path p old) (below_path p new) i (given c.0)
    inserted = record {
      label = refl;
      first = subst (λ q. new.gap q i ≡ given c.0 ++ old.gap q i) (sym (append-nil p)) first_in_gap;
      gaps = λ j n. other_gaps p i here (p ++ []) j (λ same. n (sym same.1));
      slots = slots p i here (p ++ []);
      deeper = λ j. below-agree old new p j refl (elsewhere-insert p i here).gaps (elsewhere-insert p i here).slots;
    }

    -- THE STEP OF AN INSERT
    pub insert_more : (t : SyntaxTree) (l : ℕ) (f : Forest ℕ) → at t p ≡ Some (Node l f) → i ≤ length (trees f) → IsKept (xs ++ ys) p → rewritten kind_only given (xs ++ c ∷ ys) [] t ≡ updated_at (rewritten kind_only given (xs ++ ys) [] t) (new_path (edits_of kind_only given (xs ++ ys)) p) (spliced (to_gap (below_path p (edits_of kind_only given (xs ++ ys))) i) 0 (given c.0))
    insert_more t l f a w k =
        rewritten_is kind_only given (xs ++ c ∷ ys) [] t ∙ step-inserted old new p t l f i (given c.0) a w (keeps given (xs ++ ys) p k) (elsewhere-insert p i here) inserted ∙ ap (λ u. updated_at u (new_path old p) (spliced (to_gap (below_path p old) i) 0 (given c.0))) (sym (rewritten_is kind_only given (xs ++ ys) [] t))

  -- ---- a replacement more
  module _ (p : Path) (i wanted : ℕ) (here : c.1 ≡ Over (range p i (suc wanted))) where
    pub gaps_over : (q : Path) → old.gap q ≡ new.gap q
    gaps_over q = fun_ext (λ j. same_gap q j (ap (λ a. aims_at_gap q j a) here ∙ gap_of_over q j (range p i (suc wanted))))

    -- a slot outside the range
    pub slot_outside : (q : Path) → ((j : ℕ) → i ≤ j → j < i + suc wanted → q ≡ p ++ j ∷ [] → ⊥) → taken given (xs ++ ys) q ≡ taken given (xs ++ c ∷ ys) q
    slot_outside q n =
        same_slot q (ap (λ a. replaces q a) here ∙ out_range p i (suc wanted) q n) (ap (λ a. starts_at q a) here ∙ same_path-false q (p ++ i ∷ []) (n i (omega arith) (omega arith)))

    pub slots_over : (q : Path) → (q ≡ p → ⊥) → old.slot q ≡ new.slot q
    slots_over q n = fun_ext (λ j. slot_outside (q ++ j ∷ []) (λ k l u same. n ((same_from_push q p j k same).0)))

    pub elsewhere-replace : Elsewhere old new p
    elsewhere-replace = record {
      labels = refl;
      gaps = λ q n. gaps_over q;
      slots = slots_over;
    }

  -- of its slots m + 1 are there
  module _ (p : Path) (count i m wanted : ℕ) (here : c.1 ≡ Over (range p i (suc wanted))) (most : m ≤ wanted) (all : (j : ℕ) → i + m < j → j < count → i + wanted < j) (kept : (j : ℕ) → i ≤ j → j ≤ i + m → is_replaced (xs ++ ys) (p ++ j ∷ []) ≡ false) (free : (j : ℕ) → i < j → j ≤ i + m → inserts_at (xs ++ ys) p j ≡ []) where
    new_taken : (j : ℕ) → i ≤ j → j ≤ i + m → taken given (xs ++ c ∷ ys) (p ++ j ∷ []) ≡ Some (flat_map given (replacements_at (xs ++ c ∷ ys) (p ++ j ∷ [])))
    new_taken j l u =
        let it : replaces (p ++ j ∷ []) c.1 ≡ true = ap (λ a. replaces (p ++ j ∷ []) a) here ∙ in_range p i (suc wanted) j l (omega arith) in
        ap (λ b. cond b (Some (flat_map given (replacements_at (xs ++ c ∷ ys) (p ++ j ∷ [])))) None) (any_more (λ d. replaces (p ++ j ∷ []) d.1) xs c ys it)

    new_first : taken given (xs ++ c ∷ ys) (p ++ i ∷ []) ≡ Some (given c.0)
    new_first =
        let it : starts_at (p ++ i ∷ []) c.1 ≡ true = ap (λ a. starts_at (p ++ i ∷ []) a) here ∙ same_path_from (p ++ i ∷ []) (p ++ i ∷ []) refl in
        let one : replacements_at (xs ++ c ∷ ys) (p ++ i ∷ []) ≡ c.0 ∷ [] = ap numbers (filter_only (λ d. starts_at (p ++ i ∷ []) d.1) (λ d. replaces (p ++ i ∷ []) d.1) (λ d. starts-replaces (p ++ i ∷ []) d.1) xs c ys it (kept i (omega arith) (omega arith))) in
        new_taken i (omega arith) (omega arith) ∙ ap (λ ns. Some (flat_map given ns)) one ∙ ap (λ ts. Some ts) (append-nil (given c.0))

    new_later : (j : ℕ) → i < j → j ≤ i + m → taken given (xs ++ c ∷ ys) (p ++ j ∷ []) ≡ Some []
    new_later j l u =
        let not_it : starts_at (p ++ j ∷ []) c.1 ≡ false = ap (λ a. starts_at (p ++ j ∷ []) a) here ∙ same_path-false (p ++ j ∷ []) (p ++ i ∷ []) (λ same. absurd (let e = (same_from_push p p j i same).1 in omega arith)) in
        let none : replacements_at (xs ++ c ∷ ys) (p ++ j ∷ []) ≡ [] = ap numbers (filter_skip (λ d. starts_at (p ++ j ∷ []) d.1) xs c ys not_it ∙ filter_none (λ d. starts_at (p ++ j ∷ []) d.1) (λ d. replaces (p ++ j ∷ []) d.1) (λ d. starts-replaces (p ++ j ∷ []) d.1) (xs ++ ys) (kept j (omega arith) u)) in
        new_taken j (omega arith) u ∙ ap (λ ns. Some (flat_map given ns)) none

    -- the slots of the node itself
    own : {A : Type 0} (g h : Path → A) → g p ≡ h p → g (p ++ []) ≡ h (p ++ [])
    own g h same = subst (λ q. g q ≡ h q) (sym (append-nil p)) same

    pub replaced : Replaced (below_path p old) (below_path p new) count i m (given c.0)
    replaced = record {
      label = refl;
      gaps = gaps_over p i wanted here (p ++ []);
      no_insert = λ j l u. own (λ q. old.gap q j) (λ q. []) (ap (λ ns. flat_map given (gap_order ns)) (free j l u));
      kept = λ j l u. own (λ q. old.slot q j) (λ q. None) (taken-none given (xs ++ ys) (p ++ j ∷ []) (kept j l u));
      first = own (λ q. new.slot q i) (λ q. Some (given c.0)) new_first;
      later = λ j l u. own (λ q. new.slot q j) (λ q. Some []) (new_later j l u);
      below_it = λ j l. own (λ q. old.slot q j) (λ q. new.slot q j) (slot_outside p i wanted here (p ++ j ∷ []) (λ k a b same. absurd (let e = (same_from_push p p j k same).1 in omega arith)));
      above_it = λ j l u. own (λ q. old.slot q j) (λ q. new.slot q j) (slot_outside p i wanted here (p ++ j ∷ []) (λ k a b same. absurd (let e = (same_from_push p p j k same).1 in omega (arith, all j l u))));
      deeper = λ j. below-agree old new p j refl (λ q n. gaps_over p i wanted here q) (slots_over p i wanted here);
    }

    -- THE STEP OF A REPLACEMENT
    pub replace_more : (t : SyntaxTree) (l : ℕ) (f : Forest ℕ) → at t p ≡ Some (Node l f) → length (trees f) ≡ count → i + m < count → IsKept (xs ++ ys) p → rewritten kind_only given (xs ++ c ∷ ys) [] t ≡ updated_at (rewritten kind_only given (xs ++ ys) [] t) (new_path (edits_of kind_only given (xs ++ ys)) p) (spliced (to_slot (below_path p (edits_of kind_only given (xs ++ ys))) i) (suc m) (given c.0))
    replace_more t l f a n w k =
        rewritten_is kind_only given (xs ++ c ∷ ys) [] t ∙ step-replaced old new p t l f count i m (given c.0) a n w (keeps given (xs ++ ys) p k) (elsewhere-replace p i wanted here) replaced ∙ ap (λ u. updated_at u (new_path old p) (spliced (to_slot (below_path p old) i) (suc m) (given c.0))) (sym (rewritten_is kind_only given (xs ++ ys) [] t))
