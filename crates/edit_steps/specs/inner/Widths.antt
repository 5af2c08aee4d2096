-- How much stands in the places of a node's children and gaps, and where in the new child list each of them begins.
--     index_of, count_of            the slot before which a change begins, among the children of a node; how many of them it replaces
--     width_in, gap_in              by lists of the first ones: how much stands in the place of a child and of the gap before it; in a gap
--     total                         how much stands in the places of the first children and of the gaps before them
--     Held, nothing_put             both of each child of a node; where nothing is altered
--     VisitedNode, held_of          what code keeps of a node to which steps came; what it holds
--     start                         where in the new child list a gap or slots begin
--     gone_at, come_at, into_gap    how much of what stands in a place a change takes away; how much it puts there, and into a gap
--     CanHold, IsPut                a change can be carried out more; it is
use Rattle.std.specs.Prelude.{◌≡◌, ◌≤◌, ◌<◌, ◌+◌, ◌^◌, ℕ, zero, suc, cond, nat_eq, nat_lt, List, Option, slice_index_or}
use Rattle.edit_steps.specs.declared.stage.among.Among.{Among}
use Rattle.edit_steps.specs.declared.stage.among.Among.TheVariants.{Gap, Slots}

abbrev pub index_of : Among → ℕ
index_of (Gap i) = i
index_of (Slots i n) = i

abbrev pub count_of : Among → ℕ
count_of (Gap i) = 0
count_of (Slots i n) = n

-- ---- how much stands where
abbrev pub width_in : List ℕ → ℕ → ℕ
width_in ws i = slice_index_or ws i 1

abbrev pub gap_in : List ℕ → ℕ → ℕ
gap_in gs i = slice_index_or gs i 0

abbrev pub total : (ℕ → ℕ) → ℕ → ℕ
total f zero = 0
total f (suc i) = total f i + f i

pub record Held : Type 0 where
  pub widths : ℕ → ℕ
  pub gaps : ℕ → ℕ

abbrev pub nothing_put : Held
nothing_put = record { widths = λ i. 1; gaps = λ i. 0 }

-- by slot, what the first children and gaps hold, and the numbers of the nodes there
pub record VisitedNode : Type 0 where
  pub widths : List ℕ
  pub gaps : List ℕ
  pub below : List (Option ℕ)

abbrev pub held_of : VisitedNode → Held
held_of x = record { widths = width_in x.widths; gaps = gap_in x.gaps }

abbrev pub start : Held → Among → ℕ
start h (Gap i) = total h.widths i
start h (Slots i n) = total h.widths i + h.gaps i

-- ---- one change more
abbrev pub gone_at : ℕ → ℕ → ℕ → ℕ
gone_at first count i = cond (nat_lt i first) 0 (cond (nat_lt i (first + count)) 1 0)

abbrev pub come_at : ℕ → ℕ → ℕ → ℕ
come_at first w i = cond (nat_eq i first) w 0

abbrev pub into_gap : Among → ℕ → ℕ → ℕ
into_gap (Gap g) w i = come_at g w i
into_gap (Slots j n) w i = 0

pub record CanHold (h : Held) (at : Among) (w : ℕ) : Type 0 where
  pub there : (i : ℕ) → gone_at (index_of at) (count_of at) i ≤ h.widths i
  pub gap : h.gaps (index_of at) ≤ h.widths (index_of at)
  pub fits : h.widths (index_of at) + w < 2 ^ 64

pub record IsPut (before after : Held) (at : Among) (w : ℕ) : Type 0 where
  pub widths : (i : ℕ) → after.widths i + gone_at (index_of at) (count_of at) i ≡ before.widths i + come_at (index_of at) w i
  pub gaps : (i : ℕ) → after.gaps i ≡ before.gaps i + into_gap at w i
