-- All that proofs use of the order of several inserts of one gap: a change of the rule changes this file alone.
use Rattle.std.specs.Prelude.{◌≡◌, ℕ, List, ◌∷◌, ◌++◌, map, refl}
use Rattle.std.specs.List.{AllByRecursion}
use Rattle.edit_change.specs.Rewriting.{gap_order}

-- what holds of each insert holds of each in their order
pub all-gap_order : (P : ℕ → Type 0) (ns : List ℕ) → AllByRecursion P ns → AllByRecursion P (gap_order ns)
all-gap_order P ns a = a

-- of several inserts and several more, those of the first stand first
pub gap_order-append : (ms ns : List ℕ) → gap_order (ms ++ ns) ≡ gap_order ms ++ gap_order ns
gap_order-append ms ns = refl

pub gap_order-first : (n : ℕ) (ns : List ℕ) → gap_order (n ∷ ns) ≡ n ∷ gap_order ns
gap_order-first n ns = refl

-- it goes by the places of the numbers alone
pub gap_order-map : (f : ℕ → ℕ) (ns : List ℕ) → gap_order (map f ns) ≡ map f (gap_order ns)
gap_order-map f ns = refl
