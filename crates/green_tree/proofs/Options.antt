-- Optional values: one or else another, and a function of what is there.
use Rattle.std.proofs.Common.{◌≡◌, Option, Some, None, refl, ap}
use Rattle.std.specs.Prelude.{option_map, IsSome}
use Rattle.std.specs.Option.{option_or}
use Rattle.green_tree.proofs.FoundTokens.{some_is_not_none}

pub or_mapped : {X Y : Type 0} (f : X → Y) (o : Option X) (p : Option Y) → IsSome o → option_or (option_map f o) p ≡ option_map f o
or_mapped f (Some x) p h = refl
or_mapped f None p h = absurd (cc)

pub or_none : {X : Type 0} (o : Option X) → option_or o None ≡ o
or_none (Some x) = refl
or_none None = refl

pub map_or : {X Y : Type 0} (f : X → Y) (o p : Option X) → option_map f (option_or o p) ≡ option_or (option_map f o) (option_map f p)
map_or f (Some x) p = refl
map_or f None p = refl

pub or_or : {X : Type 0} (o p q : Option X) → option_or (option_or o p) q ≡ option_or o (option_or p q)
or_or (Some x) p q = refl
or_or None p q = refl

pub map_map : {X Y Z : Type 0} (f : Y → Z) (g : X → Y) (h : X → Z) (o : Option X) → ((x : X) → f (g x) ≡ h x) → option_map f (option_map g o) ≡ option_map h o
map_map f g h (Some x) same = ap Some (same x)
map_map f g h None same = refl

pub map_same : {X : Type 0} (f : X → X) (o : Option X) → ((x : X) → f x ≡ x) → option_map f o ≡ o
map_same f (Some x) same = ap Some (same x)
map_same f None same = refl

pub mapped_is_not_none : {X Y : Type 0} (f : X → Y) (o : Option X) → IsSome o → option_map f o ≡ None → ⊥
mapped_is_not_none f (Some x) h none = some_is_not_none none
mapped_is_not_none f None h none = absurd (cc)

pub map_each : {X Y : Type 0} (f g : X → Y) (o : Option X) → ((x : X) → f x ≡ g x) → option_map f o ≡ option_map g o
map_each f g (Some x) same = ap Some (same x)
map_each f g None same = refl
