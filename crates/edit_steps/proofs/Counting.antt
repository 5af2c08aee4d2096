-- What is told of the gaps and slots of a node, and of those with one change more.
--     Told                           it is told what edits put and leave at the top
--     told-here, counted-from        what aims say is what their edits say
--     start-gap, start-slot          where a gap and a slot begin is found from it
--     most_width                     no place holds more than there are new children, and one
--     gap_least, gone_none, gone_kept      a gap's part in its place; what a change takes away is there
--     told-inserted, told-replaced   one change more is told by one more
--     told-same                      what edits at a node say stays as long as these edits do
use Rattle.std.specs.Prelude.{◌≡◌, ℕ, zero, suc, ◌+◌, ◌<◌, ◌≤◌, true, false, cond, List, [], ◌∷◌, ◌++◌, flat_map, length, Some, None, refl}
use Rattle.std.proofs.Common.{ap, ap₂, sym, subst, ◌∙◌, arith}
use Rattle.std.proofs.lemmas.Bool.{cases_eq, cases_lt, eq-eqb, ne_eqb}
use Rattle.std.proofs.lemmas.List.{append-nil, length-append}
use mathlib.Core.Logic.{inl, inr}
use mathlib.Core.Path.{fun_ext}
use Rattle.green_tree.specs.Path.{Path}
use Rattle.green_tree.specs.Tree.{Forest, end, more, SyntaxTree, forest, trees}
use Rattle.green_tree.proofs.Lookup.{trees-forest}
use Rattle.edit_change.specs.Rewriting.{NumberedAim, replacements_at, is_replaced, gap}
use Rattle.edit_change.specs.inner.KindOnly.{kind_only}
use Rattle.edit_steps.specs.declared.stage.among.Among.TheVariants.{Gap, Slots}
use Rattle.edit_steps.specs.inner.Widths.{total, Held, start, gone_at, come_at, IsPut}
use Rattle.edit_steps.specs.inner.Counts.{Counts, slot_width, IsCounted}
use Rattle.edit_change.proofs.Edits.{Edits, below_path, taken, edits_of, rewritten_by_from}
use Rattle.edit_steps.proofs.CurrentPaths.{width, widths, to_gap, to_slot, before, after, cut}
use Rattle.edit_steps.proofs.Steps.{Inserted, Replaced, room-inserted}
use Rattle.edit_steps.proofs.Widths.{gone_before, gone_inside, gone_past}

-- ---- what edits say of the node at the top
abbrev gap_here : Edits ℕ → ℕ → ℕ
gap_here e i = length (e.gap [] i)

abbrev slot_here : Edits ℕ → ℕ → ℕ
slot_here e i = width (e.slot [] i)

abbrev pub Told : Edits ℕ → ℕ → Held → Type 0
Told e count h = Counts (gap_here e) (slot_here e) count h

-- ---- what aims say
module _ (given : ℕ → List SyntaxTree) (cs : List NumberedAim) (p : Path) where
  abbrev here : Edits ℕ
  here = below_path p (edits_of kind_only given cs)

  taken-width : (q : Path) → slot_width given cs q ≡ width (taken given cs q)
  taken-width q =
      elim (is_replaced cs q) as (λ b. cond b (length (flat_map given (replacements_at cs q))) 1 ≡ width (cond b (Some (flat_map given (replacements_at cs q))) None)) [ true ↦ refl | false ↦ refl ]

  gaps-here : (λ i. length (gap kind_only given cs p i)) ≡ gap_here here
  gaps-here = fun_ext (λ i. ap (λ q. length (gap kind_only given cs q i)) (sym (append-nil p)))

  slots-here : (λ i. slot_width given cs (p ++ i ∷ [])) ≡ slot_here here
  slots-here = fun_ext (λ i. taken-width (p ++ i ∷ []) ∙ ap (λ q. width (taken given cs (q ++ i ∷ []))) (sym (append-nil p)))

  counts-are : (count : ℕ) (h : Held) → IsCounted given cs p count h ≡ Told here count h
  counts-are count h = λ j. Counts (gaps-here j) (slots-here j) count h

  pub told-here : (count : ℕ) (h : Held) → IsCounted given cs p count h → Told here count h
  told-here count h t = let P : Type 0 → Type 0 = λ A. A in subst P (counts-are count h) t

  pub counted-from : (count : ℕ) (h : Held) → Told here count h → IsCounted given cs p count h
  counted-from count h t = let P : Type 0 → Type 0 = λ A. A in subst P (sym (counts-are count h)) t

-- ---- where a gap and a slot begin
module _ (e : Edits ℕ) where
  widths-push : (k n i : ℕ) → k + n ≡ i → widths e k (suc n) ≡ widths e k n + (gap_here e i + slot_here e i)
  widths-push k zero i s =
      let same : k ≡ i = omega arith in
      let here : gap_here e k + slot_here e k ≡ gap_here e i + slot_here e i = ap (λ j. gap_here e j + slot_here e j) same in
      omega arith
  widths-push k (suc n) i s = let rest = widths-push (suc k) n i (omega arith) in omega arith

  module _ (count : ℕ) (h : Held) (t : Told e count h) where
    total-widths : (i : ℕ) → i ≤ count → total h.widths i ≡ to_gap e i
    total-widths zero l = refl
    total-widths (suc i) l =
        let before = total-widths i (omega arith) in
        let this = widths-push 0 i i (omega arith) in
        omega (arith, t.widths i (omega arith))

    pub start-gap : (i : ℕ) → i ≤ count → start h (Gap i) ≡ to_gap e i
    start-gap i l = total-widths i l

    pub start-slot : (i n : ℕ) → i ≤ count → start h (Slots i n) ≡ to_slot e i
    start-slot i n l = omega (arith, total-widths i l, t.gaps i l)

    pub gap_least : (i : ℕ) → i ≤ count → h.gaps i ≤ h.widths i
    gap_least i l =
        elim (cases_lt i count) [
          | inl less ↦ omega (arith, t.gaps i l, t.widths i less)
          | inr most ↦
              let same : i ≡ count = omega arith in
              let last : h.widths i ≡ gap_here e i + 1 = subst (λ k. h.widths k ≡ gap_here e k + 1) (sym same) t.last in
              omega (arith, t.gaps i l)
        ]

after-all : (f : Forest ℕ) → after f (length (trees f)) ≡ end
after-all end = refl
after-all (more t f) = after-all f

pub most_width : (e : Edits ℕ) (f : Forest ℕ) (h : Held) → Told e (length (trees f)) h → (i : ℕ) → i ≤ length (trees f) → h.widths i ≤ length (trees (forest (rewritten_by_from e 0 f))) + 1
most_width e f h t i l =
    elim (cases_lt i (length (trees f))) [
      | inl less ↦
          let next = widths-push e 0 i i (omega arith) in
          omega (arith, t.widths i less, room-inserted e f (suc i) less)
      | inr most ↦
          let count = length (trees f) in
          let same : i ≡ count = omega arith in
          let last : h.widths i ≡ gap_here e count + 1 = ap h.widths same ∙ t.last in
          let whole = ap length (trees-forest (rewritten_by_from e 0 f) ∙ cut e 0 f count count (omega arith) (omega arith)) in
          let parts = length-append (before e 0 f count) (rewritten_by_from e count (after f count)) in
          let rest : length (rewritten_by_from e count (after f count)) ≡ gap_here e count = ap (λ g. length (rewritten_by_from e count g)) (after-all f) in
          omega arith
    ]

-- ---- what a change takes away, and what it puts
pub gone_none : (first i : ℕ) → gone_at first 0 i ≡ 0
gone_none first i =
    elim (cases_lt i first) [
      | inl less ↦ gone_before first (first + 0) i less
      | inr from ↦ gone_past first (first + 0) i from (omega arith)
    ]

come-here : (first w i : ℕ) → i ≡ first → come_at first w i ≡ w
come-here first w i same = ap (λ b. cond b w 0) (eq-eqb i first same)

come-other : (first w i : ℕ) → (i ≡ first → ⊥) → come_at first w i ≡ 0
come-other first w i other = ap (λ b. cond b w 0) (ne_eqb i first other)

-- ---- one change more
pub told-same : (d e : Edits ℕ) (count : ℕ) (h : Held) → ((j : ℕ) → j ≤ count → d.gap [] j ≡ e.gap [] j) → ((j : ℕ) → j < count → d.slot [] j ≡ e.slot [] j) → Told d count h → Told e count h
told-same d e count h g s t = record {
  widths = λ i l. t.widths i l ∙ ap₂ (λ a b. a + b) (ap length (g i (omega arith))) (ap width (s i l));
  last = t.last ∙ ap (λ xs. length xs + 1) (g count (omega arith));
  gaps = λ i l. t.gaps i l ∙ ap length (g i l);
}

-- an insert
module _ (d e : Edits ℕ) (g : ℕ) (ts : List SyntaxTree) (h : Inserted d e g ts) (x y : Held) (put : IsPut x y (Gap g) (length ts)) where
  gap-more : (i : ℕ) → gap_here e i ≡ gap_here d i + come_at g (length ts) i
  gap-more i =
      elim (cases_eq i g) [
        | inl same ↦
            let here : gap_here e g ≡ length ts + gap_here d g = ap length h.first ∙ length-append ts (d.gap [] g) in
            let there : gap_here e i ≡ length ts + gap_here d i = subst (λ j. gap_here e j ≡ length ts + gap_here d j) (sym same) here in
            omega (arith, come-here g (length ts) i same)
        | inr other ↦
            let here : gap_here e i ≡ gap_here d i = ap length (sym (h.gaps i other)) in
            omega (arith, come-other g (length ts) i other)
      ]

  pub told-inserted : (count : ℕ) → Told d count x → Told e count y
  told-inserted count t = record {
    widths = λ i l. let slot : slot_here e i ≡ slot_here d i = ap width (ap (λ o. o i) (sym h.slots)) in
        omega (arith, put.widths i, gone_none g i, gap-more i, t.widths i l);
    last = omega (arith, put.widths count, gone_none g count, gap-more count, t.last);
    gaps = λ i l. omega (arith, put.gaps i, gap-more i, t.gaps i l);
  }

-- a replacement
module _ (d e : Edits ℕ) (count a m : ℕ) (ts : List SyntaxTree) (h : Replaced d e count a m ts) (room : a + m < count) (x : Held) (t : Told d count x) where
  kept-width : (i : ℕ) → a ≤ i → i ≤ a + m → x.widths i ≡ gap_here d i + 1
  kept-width i from to = t.widths i (omega arith) ∙ ap (λ o. gap_here d i + width o) (h.kept i from to)

  pub gone_kept : (i : ℕ) → gone_at a (suc m) i ≤ x.widths i
  gone_kept i =
      elim (cases_lt i a) [
        | inl less ↦ omega (arith, gone_before a (a + suc m) i less)
        | inr from ↦ elim (cases_lt i (a + suc m)) [
          | inl to ↦ omega (arith, gone_inside a (a + suc m) i from to, kept-width i from (omega arith))
          | inr past ↦ omega (arith, gone_past a (a + suc m) i from past)
        ]
      ]

  module _ (y : Held) (put : IsPut x y (Slots a (suc m)) (length ts)) where
    gap-same : (i : ℕ) → gap_here e i ≡ gap_here d i
    gap-same i = ap (λ g. length (g i)) (sym h.gaps)

    outside : (i : ℕ) → gone_at a (suc m) i ≡ 0 → (i ≡ a → ⊥) → y.widths i ≡ x.widths i
    outside i none other = omega (arith, put.widths i, come-other a (length ts) i other)

    widths-replaced : (i : ℕ) → i < count → y.widths i ≡ gap_here e i + slot_here e i
    widths-replaced i l =
        elim (cases_lt i a) [
          | inl less ↦
              let slot : slot_here e i ≡ slot_here d i = ap width (sym (h.below_it i less)) in
              omega (arith, outside i (gone_before a (a + suc m) i less) (λ s. absurd (omega arith)), gap-same i, t.widths i l)
          | inr from ↦ elim (cases_lt i (a + suc m)) [
            | inl to ↦
                let gone = gone_inside a (a + suc m) i from to in
                let was = kept-width i from (omega arith) in
                elim (cases_eq i a) [
                  | inl same ↦
                      let slot : slot_here e i ≡ length ts = ap (slot_here e) same ∙ ap width h.first in
                      omega (arith, put.widths i, come-here a (length ts) i same, gap-same i)
                  | inr other ↦
                      let slot : slot_here e i ≡ 0 = ap width (h.later i (omega arith) (omega arith)) in
                      omega (arith, put.widths i, come-other a (length ts) i other, gap-same i)
                ]
            | inr past ↦
                let slot : slot_here e i ≡ slot_here d i = ap width (sym (h.above_it i (omega arith) l)) in
                omega (arith, outside i (gone_past a (a + suc m) i from past) (λ s. absurd (omega arith)), gap-same i, t.widths i l)
          ]
        ]

    pub told-replaced : Told e count y
    told-replaced = record {
      widths = widths-replaced;
      last = omega (arith, outside count (gone_past a (a + suc m) count (omega arith) (omega arith)) (λ s. absurd (omega arith)), gap-same count, t.last);
      gaps = λ i l. omega (arith, put.gaps i, gap-same i, t.gaps i l);
    }
