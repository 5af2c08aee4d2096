-- A sweep over the aims of all changes in document order that looks for two that share a target, among those with numbers below one.
--     Scanned                       what is true before some aims are looked at
--     scanned-none, scanned-end     before the first one, behind the last
--     scanned-skip                  one that replaces nothing, or has no number below that one
--     scanned-closed, scanned-pushed, scanned-found     where what is over is taken off; what is true after it; two that share a target
--     skip-here, found-here, pushed-here     the same over a list in code
use Rattle.std.specs.Prelude.{◌≡◌, ◌≢◌, ◌<◌, ◌≤◌, ◌+◌, ◌⊎◌, ℕ, Bool, true, false, nat_eq, List, [], ◌∷◌, ◌++◌, drop, length, slice_get, Option, Some, None, refl}
use Rattle.std.specs.List.{AllByRecursion, list_any}
use Rattle.std.specs.Option.{option_map_or}
use Rattle.std.proofs.Common.{ap, ap₂, sym, subst, ◌∙◌, arith, append_assoc, get_or}
use Rattle.std.proofs.lemmas.Bool.{cases_Bool, cases_eq, cases_lt, or_from, ne_eqb, false_from_ne_true, false≢true, true≢false}
use Rattle.std.proofs.lemmas.Option.{same_Some}
use Rattle.std.proofs.lemmas.List.{map-append}
use mathlib.Core.Logic.{inl, inr}
use Rattle.cst_core.specs.Path.{Path, has_path, up_to, last_item}
use Rattle.edit_change.specs.Aim.{Aim}
use Rattle.edit_change.specs.ChangeAim.{aim}
use Rattle.edit_change.specs.Change.{shared_targets}
use Rattle.edit_change.specs.Nesting.{clashes}
use Rattle.edit_change.specs.Rewriting.{NumberedAim}
use Rattle.edit_change.specs.inner.Aimed.{siblings_from, aim_in, some_path, numbered, aims_of}
use Rattle.edit_change.specs.inner.Clash.{shares, ClashesBelow}
use Rattle.edit_change.specs.inner.DocumentOrder.{stands_before, InDocumentOrder, AreSorted}
use Rattle.edit_change.specs.inner.Open.{replaced, surrounds, Closes}
use Rattle.edit_change.specs.declared.aimed.Aimed.{Aimed}
use Rattle.edit_change.specs.declared.aimed.AimForm.{AimForm}
use Rattle.edit_change.specs.declared.aimed.AimForm.TheVariants as form
use Rattle.edit_change.specs.declared.change.Change.{Change}
use Rattle.edit_change.proofs.Clashes.{clashes-at}
use Rattle.edit_change.proofs.DocumentOrder.{OfChange, all-there}
use Rattle.edit_change.proofs.Lists.{all-append, all_last, all_weaker}
use Rattle.edit_change.proofs.OpenAims.{before-after, never-itself, stands-through}
use Rattle.edit_change.proofs.Shared.{RunAt, over-runs, shares-turned, shares-reaches, reaches-between, last-shares}
use Rattle.edit_change.proofs.Sites.{replaced-aim}
use Rattle.edit_change.proofs.Sweeping.{all-parts, order-without, order-last, order-before, has_number, has-append, all-numbered, has-each, all-both, neither, none-last, next-aim}

abbrev IsScanned : List Change → ℕ → NumberedAim → Type 0
IsScanned cs below a = OfChange cs a × (a.0 < below) × ((q : Path) × RunAt a.1 q)

abbrev IsAlone : Change → NumberedAim → Type 0
IsAlone r a = (q : Path) → RunAt a.1 q → shares (aim r) a.1 ≡ false

pub record Scanned (cs : List Change) (below : ℕ) (os rest : List NumberedAim) : Type 0 where
  pub of_open : AllByRecursion (IsScanned cs below) os
  pub of_rest : AllByRecursion (OfChange cs) rest
  pub in_order : InDocumentOrder (os ++ rest)
  -- a change that is neither open nor left shares nothing with those that are left
  pub complete : (n : ℕ) (r : Change) → slice_get cs n ≡ Some r → n < below → has_number (os ++ rest) n ≡ false → AllByRecursion (IsAlone r) rest
  pub apart : (n m : ℕ) (r d : Change) → slice_get cs n ≡ Some r → slice_get cs m ≡ Some d → n < below → m < below → n ≢ m → has_number rest n ≡ false → has_number rest m ≡ false → shares (aim r) (aim d) ≡ false

-- ---- two changes of the list
same-change : (cs : List Change) (a : NumberedAim) (n : ℕ) (r : Change) → OfChange cs a → a.0 ≡ n → slice_get cs n ≡ Some r → a.1 ≡ aim r
same-change cs a n r of e is =
    ap (λ (b : NumberedAim). b.1) of.2 ∙ ap aim (same_Some of.0 r (sym of.1 ∙ ap (slice_get cs) e ∙ is))

apart-numbers : (cs : List Change) (a b : NumberedAim) → OfChange cs a → OfChange cs b → stands_before a b ≡ true → a.0 ≢ b.0
apart-numbers cs a b of_a of_b before same =
    let alike : of_a.0 ≡ of_b.0 = same_Some of_a.0 of_b.0 (sym of_a.1 ∙ ap (slice_get cs) same ∙ of_b.1) in
    let equal : a ≡ b = of_a.2 ∙ ap₂ {A = ℕ} {B = Change} {C = NumberedAim} (λ n c. (n, aim c)) same alike ∙ sym of_b.2 in
    never-itself a (ap (stands_before a) equal ∙ before)

pub shares-is : (cs : List Change) (i j : ℕ) (c d : Change) → slice_get cs i ≡ Some c → slice_get cs j ≡ Some d → shares (aim c) (aim d) ≡ clashes cs i j
shares-is cs i j c d is_c is_d =
    ap₂ (λ ps qs. list_any (has_path ps) qs) (replaced-aim c) (replaced-aim d) ∙ clashes-at cs i j c d is_c is_d

no-change : (cs : List Change) (i j : ℕ) → ((c d : Change) → slice_get cs i ≡ Some c → slice_get cs j ≡ Some d → clashes cs i j ≡ false) → clashes cs i j ≡ false
no-change cs i j h = go (slice_get cs i) refl (slice_get cs j) refl
  where
    go : (o : Option Change) → slice_get cs i ≡ o → (p : Option Change) → slice_get cs j ≡ p → clashes cs i j ≡ false
    go None is_c p is_d = ap (λ x. option_map_or (λ e. option_map_or (shared_targets e) (slice_get cs j) false) x false) is_c
    go (Some c) is_c None is_d = ap₂ (λ x y. option_map_or (λ e. option_map_or (shared_targets e) y false) x false) is_c is_d
    go (Some c) is_c (Some d) is_d = h c d is_c is_d

pub scanned-none : (cs : List Change) (below : ℕ) (xs : List NumberedAim) → AreSorted cs xs → Scanned cs below [] xs
scanned-none cs below xs sorted = record {
  of_open = tt;
  of_rest = all-there cs xs sorted.each_once;
  in_order = sorted.in_order;
  complete = λ n r is l none. absurd (false≢true (sym none ∙ has-each cs xs n r sorted is));
  apart = λ n m r d is_r is_d l k other none_n none_m. absurd (false≢true (sym none_n ∙ has-each cs xs n r sorted is_r));
}

pub scanned-end : (cs : List Change) (below : ℕ) (os : List NumberedAim) → Scanned cs below os [] → ClashesBelow cs below false
scanned-end cs below os scanned =
    λ i j l k. no-change cs i j (λ c d is_c is_d. sym (shares-is cs i j c d is_c is_d) ∙ scanned.apart i j c d is_c is_d (omega (arith, l, k)) k (λ e. absurd (omega (arith, l, e))) refl refl)

nothing-shared : (a b : Aim) → replaced b ≡ [] → shares a b ≡ false
nothing-shared a b none = ap (λ qs. list_any (has_path (replaced a)) qs) none

module _ (cs : List Change) (below : ℕ) (x : NumberedAim) (rest : List NumberedAim) where
  -- what replaces nothing, and what has no number below
  pub scanned-skip : (os : List NumberedAim) → Scanned cs below os (x ∷ rest) → (below ≤ x.0) ⊎ (replaced x.1 ≡ []) → Scanned cs below os rest
  scanned-skip os scanned why = record {
    of_open = scanned.of_open;
    of_rest = scanned.of_rest.1;
    in_order = order-without os (x ∷ []) rest scanned.in_order;
    complete = λ n r is l none.
        let parts = neither (has_number os n) (has_number rest n) (sym (has-append os rest n) ∙ none) in
        elim (cases_eq n x.0) [
          | inl same ↦ all-alone n r (mine n r is l same) rest
          | inr other ↦ (scanned.complete n r is l (has-append os (x ∷ rest) n ∙ or_from (has_number os n) (has_number (x ∷ rest) n) parts.0 (or_from (nat_eq n x.0) (has_number rest n) (ne_eqb n x.0 other) parts.1))).1
        ];
    apart = λ n m r d is_r is_d l k other none_n none_m.
        elim (cases_eq n x.0) [
          | inl same ↦ shares-turned (aim r) (aim d) ∙ nothing-shared (aim d) (aim r) (mine n r is_r l same)
          | inr n_other ↦ elim (cases_eq m x.0) [
            | inl same ↦ nothing-shared (aim r) (aim d) (mine m d is_d k same)
            | inr m_other ↦ scanned.apart n m r d is_r is_d l k other (or_from (nat_eq n x.0) (has_number rest n) (ne_eqb n x.0 n_other) none_n) (or_from (nat_eq m x.0) (has_number rest m) (ne_eqb m x.0 m_other) none_m)
          ]
        ];
  }
    where
      mine : (n : ℕ) (r : Change) → slice_get cs n ≡ Some r → n < below → n ≡ x.0 → replaced (aim r) ≡ []
      mine n r is l same =
          elim why [
            | inl past ↦ absurd (omega (arith, past, l, same))
            | inr none ↦ ap replaced (sym (same-change cs x n r scanned.of_rest.0 (sym same) is)) ∙ none
          ]

      all-alone : (n : ℕ) (r : Change) → replaced (aim r) ≡ [] → (ys : List NumberedAim) → AllByRecursion (IsAlone r) ys
      all-alone n r none [] = tt
      all-alone n r none (y ∷ ys) = (λ q run. shares-turned (aim r) y.1 ∙ nothing-shared y.1 (aim r) none, all-alone n r none ys)

  module _ (q : Path) (run : RunAt x.1 q) (l : x.0 < below) where
    -- where what is over is taken off
    module _ (os ks : List NumberedAim) (scanned : Scanned cs below os (x ∷ rest)) (closes : Closes (up_to q) os ks) where
      open_parts : AllByRecursion (IsScanned cs below) ks × AllByRecursion (IsScanned cs below) closes.gone
      open_parts = all-parts (IsScanned cs below) ks closes.gone (subst (AllByRecursion (IsScanned cs below)) closes.is scanned.of_open)

      orders : AllByRecursion (λ a. stands_before a x ≡ true) os × AllByRecursion (λ d. stands_before x d ≡ true) rest
      orders = order-before os x rest scanned.in_order

      over : (n : ℕ) (r : Change) → slice_get cs n ≡ Some r → has_number closes.gone n ≡ true → AllByRecursion (IsAlone r) (x ∷ rest)
      over n r is_r h =
          let before = (all-parts (λ a. stands_before a x ≡ true) ks closes.gone (subst (AllByRecursion (λ a. stands_before a x ≡ true)) closes.is orders.0)).1 in
          let found = all-numbered (λ a. IsScanned cs below a × ((surrounds (up_to q) a.1 ≡ false) × (stands_before a x ≡ true))) closes.gone n (all-both (IsScanned cs below) (λ a. (surrounds (up_to q) a.1 ≡ false) × (stands_before a x ≡ true)) closes.gone open_parts.1 (all-both (λ a. surrounds (up_to q) a.1 ≡ false) (λ a. stands_before a x ≡ true) closes.gone closes.past before)) h in
          let g = found.0 in
          let its = found.2.0.2 in
          let g-is : g.1 ≡ aim r = same-change cs g n r found.2.0.0 found.1 is_r in
          let behind = before-after g x found.2.1.1 in
          let head : IsAlone r x = λ w at. false_from_ne_true (shares (aim r) x.1) (λ h. false≢true (sym found.2.1.0 ∙ shares-reaches g.1 x.1 its.0 q its.1 run behind (ap (λ a. shares a x.1) g-is ∙ h))) in
          let later : (y : NumberedAim) → stands_before x y ≡ true → IsAlone r y = λ y after w at. false_from_ne_true (shares (aim r) y.1) (λ h.
          let reaches = shares-reaches g.1 y.1 its.0 w its.1 at (before-after g y (stands-through g x y found.2.1.1 after)) (ap (λ a. shares a y.1) g-is ∙ h) in
          false≢true (sym found.2.1.0 ∙ reaches-between g.1 x.1 y.1 its.0 q w its.1 run at behind (before-after x y after) reaches)) in
          (head, all_weaker (λ y. stands_before x y ≡ true) (IsAlone r) rest later orders.1)

      pub scanned-closed : Scanned cs below ks (x ∷ rest)
      scanned-closed = record {
        of_open = open_parts.0;
        of_rest = scanned.of_rest;
        in_order = order-without ks closes.gone (x ∷ rest) (subst InDocumentOrder (ap (λ ys. ys ++ x ∷ rest) closes.is ∙ append_assoc ks closes.gone (x ∷ rest)) scanned.in_order);
        complete = λ n r is_r m none.
            let parts = neither (has_number ks n) (has_number (x ∷ rest) n) (sym (has-append ks (x ∷ rest) n) ∙ none) in
            elim (cases_Bool (has_number closes.gone n)) [
              | inl taken ↦ over n r is_r taken
              | inr never ↦ scanned.complete n r is_r m (has-append os (x ∷ rest) n ∙ or_from (has_number os n) (has_number (x ∷ rest) n) (ap (λ ys. has_number ys n) closes.is ∙ has-append ks closes.gone n ∙ or_from (has_number ks n) (has_number closes.gone n) parts.0 never) parts.1)
            ];
        apart = scanned.apart;
      }

    module _ (ks : List NumberedAim) (scanned : Scanned cs below ks (x ∷ rest)) (last : (o : NumberedAim) → last_item ks ≡ Some o → surrounds (up_to q) o.1 ≡ true) where
      abbrev shared_last : Bool
      shared_last = option_map_or (λ o. shares o.1 x.1) (last_item ks) false

      -- the last that is open shares nothing with it, so nothing does
      alone : shared_last ≡ false → (n : ℕ) (r : Change) → slice_get cs n ≡ Some r → n < below → has_number (x ∷ rest) n ≡ false → shares (aim r) x.1 ≡ false
      alone never n r is_r m away =
          elim (cases_Bool (has_number ks n)) [
            | inl still ↦ go (last_item ks) refl still
            | inr gone ↦ (scanned.complete n r is_r m (has-append ks (x ∷ rest) n ∙ or_from (has_number ks n) (has_number (x ∷ rest) n) gone away)).0 q run
          ]
        where
          go : (i : Option NumberedAim) → last_item ks ≡ i → has_number ks n ≡ true → shares (aim r) x.1 ≡ false
          go None is still = absurd (false≢true (ap (λ ys. has_number ys n) (sym (none-last ks is)) ∙ still))
          go (Some o) is still =
              let none : shares o.1 x.1 ≡ false = sym (ap (λ i. option_map_or (λ o. shares o.1 x.1) i false) is) ∙ never in
              let mine = all_last (IsScanned cs below) ks o scanned.of_open is in
              let orders = order-last ks (x ∷ rest) o scanned.in_order is in
              let found = all-numbered (λ a. IsScanned cs below a × ((a ≡ o) ⊎ (stands_before a o ≡ true))) ks n (all-both (IsScanned cs below) (λ a. (a ≡ o) ⊎ (stands_before a o ≡ true)) ks scanned.of_open orders.1) still in
              let a = found.0 in
              let its = found.2.0.2 in
              let a-is : a.1 ≡ aim r = same-change cs a n r found.2.0.0 found.1 is_r in
              elim found.2.1 [
                | inl same ↦ ap (λ b. shares b x.1) (sym a-is ∙ ap (λ (b : NumberedAim). b.1) same) ∙ none
                | inr before ↦ false_from_ne_true (shares (aim r) x.1) (λ h.
                    let shared : shares a.1 x.1 ≡ true = ap (λ b. shares b x.1) a-is ∙ h in
                    let front = orders.0.0 in
                    let reaches = shares-reaches a.1 x.1 its.0 q its.1 run (before-after a x (stands-through a o x before front)) shared in
                    let between = reaches-between a.1 o.1 x.1 its.0 mine.2.0 q its.1 mine.2.1 run (before-after a o before) (before-after o x front) reaches in
                    false≢true (sym none ∙ last-shares a.1 o.1 x.1 its.0 mine.2.0 q its.1 mine.2.1 run between (last o is) shared))
              ]

      pub scanned-pushed : shared_last ≡ false → (js : List NumberedAim) → js ≡ ks ++ x ∷ [] → Scanned cs below js rest
      scanned-pushed never js is =
          let moved : js ++ rest ≡ ks ++ x ∷ rest = ap (λ ys. ys ++ rest) is ∙ append_assoc ks (x ∷ []) rest in
          record {
            of_open = subst (AllByRecursion (IsScanned cs below)) (sym is) (all-append (IsScanned cs below) ks (x ∷ []) scanned.of_open ((scanned.of_rest.0, l, (q, run)), tt));
            of_rest = scanned.of_rest.1;
            in_order = subst InDocumentOrder (sym moved) scanned.in_order;
            complete = λ n r is_r m none. (scanned.complete n r is_r m (ap (λ ys. has_number ys n) (sym moved) ∙ none)).1;
            apart = λ n m r d is_r is_d n_low m_low other none_n none_m.
                elim (cases_eq n x.0) [
                  | inl same ↦
                      let away : has_number (x ∷ rest) m ≡ false = or_from (nat_eq m x.0) (has_number rest m) (ne_eqb m x.0 (λ e. other (same ∙ sym e))) none_m in
                      shares-turned (aim r) (aim d) ∙ ap (shares (aim d)) (sym (same-change cs x n r scanned.of_rest.0 (sym same) is_r)) ∙ alone never m d is_d m_low away
                  | inr n_other ↦
                      let away : has_number (x ∷ rest) n ≡ false = or_from (nat_eq n x.0) (has_number rest n) (ne_eqb n x.0 n_other) none_n in
                      elim (cases_eq m x.0) [
                        | inl same ↦ ap (shares (aim r)) (sym (same-change cs x m d scanned.of_rest.0 (sym same) is_d)) ∙ alone never n r is_r n_low away
                        | inr m_other ↦ scanned.apart n m r d is_r is_d n_low m_low other away (or_from (nat_eq m x.0) (has_number rest m) (ne_eqb m x.0 m_other) none_m)
                      ]
                ];
          }

      pub scanned-found : shared_last ≡ true → ClashesBelow cs below true
      scanned-found h = go (last_item ks) refl
        where
          go : (i : Option NumberedAim) → last_item ks ≡ i → ClashesBelow cs below true
          go None is = absurd (false≢true (sym (ap (λ i. option_map_or (λ o. shares o.1 x.1) i false) is) ∙ h))
          go (Some o) is =
              let shared : shares o.1 x.1 ≡ true = sym (ap (λ i. option_map_or (λ o. shares o.1 x.1) i false) is) ∙ h in
              let mine = all_last (IsScanned cs below) ks o scanned.of_open is in
              let of_o = mine.0 in
              let of_x = scanned.of_rest.0 in
              let other = apart-numbers cs o x of_o of_x (order-last ks (x ∷ rest) o scanned.in_order is).0.0 in
              let both : shares (aim of_o.0) (aim of_x.0) ≡ true = ap₂ shares (sym (same-change cs o o.0 of_o.0 of_o refl of_o.1)) (sym (same-change cs x x.0 of_x.0 of_x refl of_x.1)) ∙ shared in
              elim (cases_lt o.0 x.0) [
                | inl less ↦ (o.0, x.0, less, l, sym (shares-is cs o.0 x.0 of_o.0 of_x.0 of_o.1 of_x.1) ∙ both)
                | inr more ↦
                    let less : x.0 < o.0 = omega (arith, more, other) in
                    (x.0, o.0, less, mine.1, sym (shares-is cs x.0 o.0 of_x.0 of_o.0 of_x.1 of_o.1) ∙ shares-turned (aim of_x.0) (aim of_o.0) ∙ both)
              ]

-- ---- over a list in code
no-paths-none : (ps : List Path) → some_path ps ≡ false → ps ≡ []
no-paths-none [] h = refl
no-paths-none (p ∷ ps) h = absurd (true≢false h)

module _ (cs : List Change) (below : ℕ) (aims : List Aimed) (k : ℕ) (d : Aimed) (l : k < length aims) (before : List Aimed) (scanned : Scanned cs below (aims_of before) (aims_of (drop k aims))) where
  abbrev next : Aimed
  next = get_or aims k d

  abbrev left : List NumberedAim
  left = aims_of (drop (k + 1) aims)

  scanned-here : Scanned cs below (aims_of before) (numbered next ∷ left)
  scanned-here = subst (Scanned cs below (aims_of before)) (next-aim aims k d l) scanned

  pub skip-here : (after : List Aimed) → after ≡ before → (below ≤ next.change) ⊎ (some_path (replaced (numbered next).1) ≡ false) → Scanned cs below (aims_of after) left
  skip-here after same why =
      subst (λ xs. Scanned cs below (aims_of xs) left) (sym same) (scanned-skip cs below (numbered next) left (aims_of before) scanned-here (elim why [
        | inl past ↦ inl past
        | inr none ↦ inr (no-paths-none (replaced (numbered next).1) none)
      ]))

  module _ (low : next.change < below) (over : some_path (replaced (numbered next).1) ≡ true) (closed : List Aimed) (closes : Closes (up_to next.path.now) (aims_of before) (aims_of closed)) where
    runs : RunAt (numbered next).1 next.path.now
    runs = over-runs next.path.now next.form over

    closed-here : Scanned cs below (aims_of closed) (numbered next ∷ left)
    closed-here = scanned-closed cs below (numbered next) left next.path.now runs low (aims_of before) (aims_of closed) scanned-here closes

    pub found-here : option_map_or (λ (o : NumberedAim). shares o.1 (numbered next).1) (last_item (aims_of closed)) false ≡ true → ClashesBelow cs below true
    found-here h = scanned-found cs below (numbered next) left next.path.now runs low (aims_of closed) closed-here closes.last h

    pub pushed-here : (after : List Aimed) → option_map_or (λ (o : NumberedAim). shares o.1 (numbered next).1) (last_item (aims_of closed)) false ≡ false → after ≡ closed ++ next ∷ [] → Scanned cs below (aims_of after) left
    pushed-here after h push =
        scanned-pushed cs below (numbered next) left next.path.now runs low (aims_of closed) closed-here closes.last h (aims_of after) (ap aims_of push ∙ map-append numbered closed (next ∷ []))
