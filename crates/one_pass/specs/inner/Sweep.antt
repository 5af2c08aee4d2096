-- What is left of a node whose children are made anew, by the aims that are still to come, in document order.
--     lowered, seen_at              an aim as it is seen from a node so many slots down its path; those of a list
--     parted, inside_one, inside_child      those that alter something inside a child, as they are seen from the child
--     gap_test, start_test, over_test       an aim inserts into a gap; it replaces from a child on; it replaces a child
--     in_gap, from_slot, covered    what aims put into a gap, in the place of the child in a slot; that child is replaced
--     in_slot, left                 what stands in a slot, where the slots before one are passed over; from a slot on, gap by gap
--     Ascending                     none has a lesser key than one that comes earlier; keys are compared as lists
--     Rising, AreOrdered            none stands before one that comes earlier; the same of aims in code
--     first_of, key, From           the first number of a site; how far on an aim is: a gap counts twice, a slot twice and one; all aims are this far on
--     IsGap, IsRun, IsBelow         an aim inserts into a gap; it replaces so many children from one on; it alters something inside a child
--     QuietSlot, PassesAll          it says nothing of a child; of any of n children, nor of a gap
--     IsSite                        this is where it stands among n children
--     BelowUpTo, EndsBelow          the first n of some aims are inside a child; the one behind them is not
--     IsReordered                   the same aims in another order, those of one site in theirs
use Rattle.std.specs.Prelude.{◌≡◌, ◌≤◌, ◌<◌, ℕ, suc, Bool, true, false, cond, ◌||◌, nat_lt, ⊤, List, [], ◌∷◌, ◌++◌, map, filter, flat_map, drop, length, get_or, Option, Some, None}
use Rattle.std.specs.List.{list_any, AllByRecursion}
use Rattle.std.specs.List.Sorted.{IsPermutation}
use Rattle.green_tree.specs.Path.{Path, same_path}
use Rattle.green_tree.specs.declared.green.GreenElement.{GreenElement}
use Rattle.edit_change.specs.Aim.{aims_at_gap, starts_at, replaces}
use Rattle.edit_change.specs.Rewriting.{NumberedAim}
use Rattle.edit_change.specs.inner.Aimed.{FormedAim, aim_in, formed, of_formed, has_parent, seen_from}
use Rattle.edit_change.specs.inner.DocumentOrder.{site, is_before}
use Rattle.edit_change.specs.declared.aimed.Aimed.{Aimed}
use Rattle.edit_change.specs.declared.aimed.AimForm.{AimForm}
use Rattle.edit_change.specs.declared.aimed.AimForm.TheVariants as form
use Rattle.one_pass.specs.declared.site.Site.{Site}
use Rattle.one_pass.specs.declared.site.Site.TheVariants.{Gap, Slots, Below, Nowhere}

-- ---- as aims are seen from a node below
abbrev pub lowered : ℕ → Aimed → FormedAim
lowered depth a = record { change = a.change; path = drop depth a.path.now; form = a.form }

abbrev pub seen_at : ℕ → List Aimed → List FormedAim
seen_at depth xs = map (lowered depth) xs

abbrev pub parted : Option FormedAim → List FormedAim
parted None = []
parted (Some a) = cond (has_parent (of_formed a)) (a ∷ []) []

abbrev pub inside_one : ℕ → FormedAim → List FormedAim
inside_one i a = parted (seen_from i a)

abbrev pub inside_child : ℕ → List FormedAim → List FormedAim
inside_child i xs = flat_map (inside_one i) xs

-- ---- what they put
abbrev pub gap_test : ℕ → FormedAim → Bool
gap_test g a = aims_at_gap [] g (aim_in a.path a.form)

abbrev pub start_test : ℕ → FormedAim → Bool
start_test i a = starts_at (i ∷ []) (aim_in a.path a.form)

abbrev pub over_test : ℕ → FormedAim → Bool
over_test i a = replaces (i ∷ []) (aim_in a.path a.form)

abbrev pub covered : ℕ → List FormedAim → Bool
covered i xs = list_any (over_test i) xs

-- of whatever changes give, and what is made of a child by the aims inside it
module _ {X : Type 0} (given : ℕ → List X) where
  abbrev pub in_gap : ℕ → List FormedAim → List X
  in_gap g xs = flat_map (λ a. cond (gap_test g a) (given a.change) []) xs

  abbrev pub from_slot : ℕ → List FormedAim → List X
  from_slot i xs = flat_map (λ a. cond (start_test i a) (given a.change) []) xs

  module _ (made : ℕ → List FormedAim → GreenElement → X) (passed : ℕ) where
    abbrev pub in_slot : List FormedAim → ℕ → GreenElement → List X
    in_slot xs i e = cond (covered i xs || nat_lt i passed) (from_slot i xs) (made i (inside_child i xs) e ∷ [])

    abbrev pub left : List FormedAim → ℕ → List GreenElement → List X
    left xs i [] = in_gap i xs
    left xs i (e ∷ es) = in_gap i xs ++ (in_slot xs i e ++ left xs (suc i) es)

-- ---- their order
abbrev pub Ascending : {X : Type 0} → (X → List ℕ) → List X → Type 0
Ascending key [] = ⊤
Ascending key (x ∷ xs) = AllByRecursion (λ y. is_before (key y) (key x) ≡ false) xs × Ascending key xs

abbrev pub Rising : List FormedAim → Type 0
Rising xs = Ascending (λ a. site (aim_in a.path a.form)) xs

abbrev pub AreOrdered : List Aimed → Type 0
AreOrdered xs = Rising (map formed xs)

abbrev pub first_of : List ℕ → ℕ
first_of [] = 0
first_of (x ∷ xs) = x

abbrev pub key : FormedAim → ℕ
key a = first_of (site (aim_in a.path a.form))

abbrev pub From : ℕ → List FormedAim → Type 0
From n xs = AllByRecursion (λ a. n ≤ key a) xs

-- ---- where one stands
abbrev pub IsGap : ℕ → Path → AimForm → Type 0
IsGap g [] form.FirstIn = g ≡ 0
IsGap g [] form.AfterElement = ⊥
IsGap g [] (form.Over n) = ⊥
IsGap g (s ∷ []) form.FirstIn = ⊥
IsGap g (s ∷ []) form.AfterElement = g ≡ suc s
IsGap g (s ∷ []) (form.Over n) = ⊥
IsGap g (s ∷ t ∷ p) w = ⊥

abbrev pub IsRun : ℕ → ℕ → Path → AimForm → Type 0
IsRun f n [] w = ⊥
IsRun f n (s ∷ []) form.FirstIn = ⊥
IsRun f n (s ∷ []) form.AfterElement = ⊥
IsRun f n (s ∷ []) (form.Over k) = (s ≡ f) × (k ≡ n) × (0 < n)
IsRun f n (s ∷ t ∷ p) w = ⊥

abbrev pub IsBelow : ℕ → FormedAim → Type 0
IsBelow i a = (q : Path) × (a.path ≡ i ∷ q) × (has_parent (a.change, aim_in q a.form) ≡ true)

pub record QuietSlot (a : FormedAim) (i : ℕ) : Type 0 where
  pub start : start_test i a ≡ false
  pub over : over_test i a ≡ false
  pub inside : inside_one i a ≡ []

pub record PassesAll (n : ℕ) (a : FormedAim) : Type 0 where
  pub gaps : (j : ℕ) → j ≤ n → gap_test j a ≡ false
  pub slots : (j : ℕ) → j < n → QuietSlot a j

abbrev pub IsSite : ℕ → FormedAim → Site → Type 0
IsSite n a (Gap g) = (g ≤ n) × IsGap g a.path a.form
IsSite n a (Slots f k) = (f < n) × IsRun f k a.path a.form
IsSite n a (Below s) = (s < n) × IsBelow s a
IsSite n a Nowhere = PassesAll n a

abbrev pub BelowUpTo : ℕ → ℕ → List Aimed → ℕ → Type 0
BelowUpTo depth i xs n = (k : ℕ) (d : Aimed) → k < n → IsBelow i (lowered depth (get_or xs k d))

abbrev pub EndsBelow : ℕ → ℕ → List Aimed → ℕ → Type 0
EndsBelow depth i xs n = (d : Aimed) → n < length xs → IsBelow i (lowered depth (get_or xs n d)) → ⊥

-- ---- the same aims in another order, those of one site in theirs
pub record IsReordered (cs ds : List NumberedAim) : Type 0 where
  pub each_once : IsPermutation cs ds
  pub by_site : (s : List ℕ) → filter (λ c. same_path s (site c.1)) ds ≡ filter (λ c. same_path s (site c.1)) cs
