-- Mappings pair by pair.
--     alike                          nodes of equal number and path
--     copy-cons                      a pair before two lists that give an address the same copy
--     made-itself, made-again        a mapping is made of itself; what is made of more pairs and what is made of it is made of these and it
--     reverse-first                  the first item comes last
--     cells-end                      there are as many cells as pairs
--     empty                          what has no pairs is empty
use Rattle.std.specs.Prelude.{◌≡◌, ℕ, Bool, true, false, cond, List, [], ◌∷◌, ◌++◌, ◌==◌, map, reverse, find, Option, Some, option_map, Contains, ◌⊎◌, refl}
use Rattle.std.specs.Cmp.Lexicographic.{pointwise}
use Rattle.std.specs.Ordering.{on, eq_of_both}
use Rattle.std.proofs.Common.{length, ap, ◌∙◌, inl, inr, arith, append_assoc}
use Rattle.std.proofs.lemmas.List.{reverse-append}
use Rattle.std.proofs.lemmas.List.Elements.{All-weaker, All-contains, All-contains_itself, Contains-append_left, Contains-append_right, Contains-append_cases}
use Rattle.cst_core.specs.Element.{Address, Element, address, same_address}
use Rattle.edit_map.specs.Mapping.{Mapping, copy}
use Rattle.edit_map.specs.Builder.{IsMadeOf}

abbrev pub alike : Element → Element → Bool
alike = eq_of_both (on (λ n. n.number) ◌==◌) (on (λ n. n.path) (pointwise ◌==◌))

-- ---- what pairs make, pair by pair
pub copy-cons : (pair : Element × Element) (m n : Mapping) (x : Address) → copy m x ≡ copy n x → copy (pair ∷ m) x ≡ copy (pair ∷ n) x
copy-cons pair m n x same =
    elim (same_address (address pair.0) x) as (λ b. option_map (λ (d : Element × Element). d.1) (cond b (Some pair) (find (λ d. same_address (address d.0) x) m)) ≡ option_map (λ (d : Element × Element). d.1) (cond b (Some pair) (find (λ d. same_address (address d.0) x) n))) [ true ↦ refl | false ↦ same ]

pub made-itself : (m : Mapping) → IsMadeOf m m
made-itself m = record { copies = λ x. refl; among = All-contains_itself m }

-- what more pairs make of what a mapping was made of
pub made-again : (pairs m n o : Mapping) → IsMadeOf m n → IsMadeOf (pairs ++ n) o → IsMadeOf (pairs ++ m) o
made-again pairs m n o made more = record {
  copies = λ x. more.copies x ∙ rest pairs x;
  among = All-weaker (Contains (pairs ++ n)) (Contains (pairs ++ m)) (λ d. held d) o more.among;
}
  where
    rest : (ps : Mapping) (x : Address) → copy (ps ++ n) x ≡ copy (ps ++ m) x
    rest [] x = made.copies x
    rest (p ∷ ps) x = copy-cons p (ps ++ n) (ps ++ m) x (rest ps x)

    held : (d : Element × Element) → Contains (pairs ++ n) d → Contains (pairs ++ m) d
    held d there =
        elim (Contains-append_cases pairs n d there) [
          | inl early ↦ Contains-append_left pairs m d early
          | inr late ↦ Contains-append_right pairs m d (All-contains (Contains m) n d made.among late)
        ]

pub reverse-first : {X : Type 0} (x : X) (xs ys : List X) → reverse (x ∷ xs) ++ ys ≡ reverse xs ++ x ∷ ys
reverse-first x xs ys = ap (λ zs. zs ++ ys) (reverse-append (x ∷ []) xs) ∙ append_assoc (reverse xs) (x ∷ []) ys

-- as many cells as pairs, where one of both ends
pub cells-end : {X : Type 0} (f : X → Option ℕ) (ns : List ℕ) (xs : List X) → map (λ k. Some k) ns ≡ map f xs → (length ns ≡ 0) ⊎ (length xs ≡ 0) → xs ≡ []
cells-end f ns [] same ends = refl
cells-end f [] (x ∷ xs) same ends = cc
cells-end f (n ∷ ns) (x ∷ xs) same (inl none) = absurd (omega (arith, none))
cells-end f (n ∷ ns) (x ∷ xs) same (inr none) = absurd (omega (arith, none))

pub empty : (m : Mapping) → length m ≡ 0 → m ≡ []
empty [] none = refl
empty (pair ∷ m) none = absurd (omega (arith, none))
