-- What mappings are made of.
--     copy-append                    the copy in two lists, one before the other
--     made-through, made-ahead, ok-ahead    made of what something is made of; the same before other pairs, where a call succeeds
--     made-pairs, either-mapping     what is made of pairs of nodes that rise are such pairs; and a mapping, whether it was made or refused
--     under-more                     more pairs under a parent, the newest first
--     pairs-rise                     such pairs rise
use Rattle.std.specs.Prelude.{◌≡◌, true, false, cond, [], ◌∷◌, ◌++◌, find, reverse, Some, option_map, Result, Ok, Err, OnOk, OnErr, All, Contains, refl}
use Rattle.std.specs.Option.{option_or}
use Rattle.std.proofs.Common.{ap, sym, ◌∙◌, inl, inr}
use Rattle.std.proofs.lemmas.List.Elements.{All-same, All-weaker, All-contains, All-append, Contains-append_left, Contains-append_right, Contains-append_cases}
use Rattle.std.proofs.lemmas.List.Sorted.{All-permutation, IsPermutation-reverse}
use Rattle.cst_core.specs.Element.{Address, Element, address, same_address}
use Rattle.edit_map.specs.Mapping.{Mapping, copy, Rises, IsRising}
use Rattle.edit_map.specs.Builder.{IsMadeOf, IsPair, ArePairs, AreDistinct, IsMapping, IsPairUnder, ArePairsUnder}

pub copy-append : (m n : Mapping) (x : Address) → copy (m ++ n) x ≡ option_or (copy m x) (copy n x)
copy-append [] n x = refl
copy-append (pair ∷ m) n x =
    elim (same_address (address pair.0) x) as (λ b. option_map (λ (d : Element × Element). d.1) (cond b (Some pair) (find (λ d. same_address (address d.0) x) (m ++ n))) ≡ option_or (option_map (λ (d : Element × Element). d.1) (cond b (Some pair) (find (λ d. same_address (address d.0) x) m))) (copy n x)) [ true ↦ refl | false ↦ copy-append m n x ]

-- ---- in a row
pub made-through : (l m n : Mapping) → IsMadeOf l m → IsMadeOf m n → IsMadeOf l n
made-through l m n first second = record {
  copies = λ x. second.copies x ∙ first.copies x;
  among = All-weaker (Contains m) (Contains l) (λ d there. All-contains (Contains l) m d first.among there) n second.among;
}

pub made-ahead : (l m old n : Mapping) → IsMadeOf l m → IsMadeOf (m ++ old) n → IsMadeOf (l ++ old) n
made-ahead l m old n first second = record {
  copies = λ x. second.copies x ∙ copy-append m old x ∙ ap (λ o. option_or o (copy old x)) (first.copies x) ∙ sym (copy-append l old x);
  among = All-weaker (Contains (m ++ old)) (Contains (l ++ old)) held n second.among;
}
  where
    held : (d : Element × Element) → Contains (m ++ old) d → Contains (l ++ old) d
    held d there =
        elim (Contains-append_cases m old d there) [
          | inl early ↦ Contains-append_left l old d (All-contains (Contains l) m d first.among early)
          | inr late ↦ Contains-append_right l old d late
        ]

-- ---- rising
pub made-pairs : (m old n : Mapping) → ArePairs m → ArePairs old → IsMadeOf (reverse m ++ old) n → ArePairs n
made-pairs m old n pairs old_pairs made =
    let all : ArePairs (reverse m ++ old) = All-append IsPair (reverse m) old (All-permutation IsPair m (reverse m) (IsPermutation-reverse m) pairs) old_pairs in
    All-weaker (Contains (reverse m ++ old)) IsPair (λ d there. All-contains IsPair (reverse m ++ old) d all there) n made.among

either-pairs : {A E : Type 0} (m old n : Mapping) → ArePairs m → ArePairs old → (r : Result A E) → OnOk r (IsMadeOf (reverse m ++ old) n) → OnErr r (n ≡ old) → ArePairs n
either-pairs m old n pairs old_pairs (Ok a) made kept = made-pairs m old n pairs old_pairs made
either-pairs m old n pairs old_pairs (Err e) made kept = All-same IsPair n old kept old_pairs

pub either-mapping : {A E : Type 0} (m old n : Mapping) → ArePairs m → ArePairs old → AreDistinct n → (r : Result A E) → OnOk r (IsMadeOf (reverse m ++ old) n) → OnErr r (n ≡ old) → IsMapping n
either-mapping m old n pairs old_pairs distinct r made kept = record { pairs = either-pairs m old n pairs old_pairs r made kept; distinct = distinct }

pub under-more : (parent : Element) (old more new : Mapping) → new ≡ old ++ more → All (IsPairUnder parent) old → All (IsPairUnder parent) more → ArePairsUnder (record { parent = parent; pairs = reverse new })
under-more parent old more new is old_under more_under =
    All-permutation (IsPairUnder parent) new (reverse new) (IsPermutation-reverse new) (All-same (IsPairUnder parent) new (old ++ more) is (All-append (IsPairUnder parent) old more old_under more_under))

pub pairs-rise : (m : Mapping) → ArePairs m → IsRising m
pairs-rise m pairs = All-weaker IsPair Rises (λ d pair. pair.rises) m pairs

pub ok-ahead : {A E : Type 0} (l m old n : Mapping) → IsMadeOf l m → (r : Result A E) → OnOk r (IsMadeOf (m ++ old) n) → OnOk r (IsMadeOf (l ++ old) n)
ok-ahead l m old n first (Ok a) second = made-ahead l m old n first second
ok-ahead l m old n first (Err e) second = tt
