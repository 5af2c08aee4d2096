-- The names of the kinds, and where a name stands in a list of names.
--     item-option_copied      what a call of get lends is the item at that index
--     kind_at, kind_name-is   the kind at an index, if one was found; the same of the kinds' names, which differ
--     name_of-get             the name that a call of get gives
--     All-equal               two functions that give the same list agree at each item
use Rattle.std.proofs.Common.{◌≡◌, ℕ, zero, suc, ◌+◌, Bool, true, false, not, ◌&&◌, cond, List, [], ◌∷◌, length, map, slice_get, position, Option, Some, None, option_map, Bor, ◌↔◌, nat_eq, refl, sym, ap, ◌∙◌, arith}
use Rattle.std.specs.Cmp.Lexicographic.{pointwise}
use Rattle.std.specs.List.{All, list_any, position_from}
use Rattle.std.specs.Option.{option_copied}
use Rattle.std.specs.Slice.{IsItemAt}
use Rattle.std.proofs.lemmas.Iterator.Adapters.{position_from-zero}
use Rattle.std.proofs.lemmas.List.Elements.{All-nil, All-cons}
use Rattle.std.proofs.lemmas.List.Folds.{list_any_at}
use Rattle.std.proofs.lemmas.Option.{slice_get-map, slice_get_past, slice_get_read, slice_get_within, get_or_from_slice_get}
use Rattle.std.proofs.lemmas.Slice.Eq.{bytes_eq-Decides}
use Rattle.green_tree.specs.Kind.{kind_names, name_of}
use Rattle.green_tree.specs.declared.kind.SyntaxKind.{SyntaxKind}

pub item-option_copied : {X : Type 0} (xs : List X) (i : ℕ) (r : Option (Bor X)) → IsItemAt xs i r → option_copied r ≡ slice_get xs i
item-option_copied xs i None h = sym (slice_get_past xs i h.3)
item-option_copied xs i (Some x) h = sym (slice_get_read xs (length xs) i x.now refl h.3.0 (h.3.1 x.now))

abbrev Name : Type 0
Name = List ℕ

-- no name stands twice in the list
abbrev differ : List Name → Bool
differ [] = true
differ (m ∷ ns) = not (list_any (pointwise nat_eq m) ns) && differ ns

abbrev index_from : Name → ℕ → List Name → Option ℕ
index_from n i ns = position_from (λ m. pointwise nat_eq m n) i ns

same : (m n : Name) → pointwise nat_eq m n ≡ true → m ≡ n
same m n = (bytes_eq-Decides m n).0

and_left : (a b : Bool) → (a && b) ≡ true → a ≡ true
and_left true b h = refl
and_left false b h = h

and_right : (a b : Bool) → (a && b) ≡ true → b ≡ true
and_right true b h = h
and_right false b h = cc

index-stands : (n : Name) (i : ℕ) (ns : List Name) (k : ℕ) → index_from n i ns ≡ Some k → (j : ℕ) × (k ≡ i + j) × (slice_get ns j ≡ Some n)
index-stands n i [] k h = cc
index-stands n i (m ∷ ns) k h =
    let P : Bool → Type 0 = λ b. pointwise nat_eq m n ≡ b → cond b (Some i) (index_from n (i + 1) ns) ≡ Some k → (j : ℕ) × (k ≡ i + j) × (slice_get (m ∷ ns) j ≡ Some n) in
    let found : i ≡ k → k ≡ i + 0 = λ e. omega arith in
    let on : (j : ℕ) → k ≡ (i + 1) + j → k ≡ i + suc j = λ j e. omega arith in
    (elim (pointwise nat_eq m n) as P [
      | true ↦ λ e g. (0, found (cc), ap Some (same m n e))
      | false ↦ λ e g. let r = index-stands n (i + 1) ns k g in (suc r.0, on r.0 r.1, r.2)
    ]) refl h

fresh : (n m : Name) (ns : List Name) (j : ℕ) → not (list_any (pointwise nat_eq m) ns) ≡ true → slice_get ns j ≡ Some n → pointwise nat_eq m n ≡ false
fresh n m ns j d h =
    let P : Bool → Type 0 = λ b. pointwise nat_eq m n ≡ b → b ≡ false in
    (elim (pointwise nat_eq m n) as P [
      | true ↦ λ e. let a = list_any_at (pointwise nat_eq m) ns j n (slice_get_within ns j n h) (ap (pointwise nat_eq m) (get_or_from_slice_get ns j n n h) ∙ e) in sym (ap not (sym a) ∙ d)
      | false ↦ λ e. refl
    ]) refl

index-of : (n : Name) (i : ℕ) (ns : List Name) (j : ℕ) → differ ns ≡ true → slice_get ns j ≡ Some n → index_from n i ns ≡ Some (i + j)
index-of n i [] j d h = cc
index-of n i (m ∷ ns) zero d h =
    let e : i ≡ i + 0 = omega arith in
    ap (λ b. cond b (Some i) (index_from n (i + 1) ns)) ((bytes_eq-Decides m n).1 (cc)) ∙ ap Some e
index-of n i (m ∷ ns) (suc j) d h =
    let new = fresh n m ns j (and_left _ _ d) h in
    let e : (i + 1) + j ≡ i + suc j = omega arith in
    ap (λ b. cond b (Some i) (index_from n (i + 1) ns)) new ∙ index-of n (i + 1) ns j (and_right _ _ d) h ∙ ap Some e

-- the index that is found for a name
abbrev index_in : List (Bor Name) → Name → Option ℕ
index_in es n = position (λ e. pointwise nat_eq e.now n) es

index_from-now : (n : Name) (i : ℕ) (es : List (Bor Name)) → position_from (λ e. pointwise nat_eq e.now n) i es ≡ index_from n i (map (λ e. e.now) es)
index_from-now n i [] = refl
index_from-now n i (e ∷ es) = ap (cond (pointwise nat_eq e.now n) (Some i)) (index_from-now n (i + 1) es)

index_in-now : (es : List (Bor Name)) (ns : List Name) (n : Name) → map (λ e. e.now) es ≡ ns → index_in es n ≡ index_from n 0 ns
index_in-now es ns n h = position_from-zero (λ e. pointwise nat_eq e.now n) es ∙ index_from-now n 0 es ∙ ap (index_from n 0) h

-- in a list of names that differ it is the one where the name stands
index-is : (es : List (Bor Name)) (ns : List Name) → map (λ e. e.now) es ≡ ns → differ ns ≡ true → (n : Name) (k : ℕ) → (index_in es n ≡ Some k) ↔ (slice_get ns k ≡ Some n)
index-is es ns h d n k =
    let e = index_in-now es ns n h in (
      λ g. let r = index-stands n 0 ns k (sym e ∙ g) in let same_index : r.0 ≡ k = omega arith in ap (slice_get ns) (sym same_index) ∙ r.2,
      λ g. let zero_on : 0 + k ≡ k = omega arith in e ∙ index-of n 0 ns k d g ∙ ap Some zero_on,
    )

-- the kind at an index, if one was found
abbrev pub kind_at : Option ℕ → Option SyntaxKind
kind_at r = option_map (λ k. record { 0 = k }) r

kind_at-is : (r : Option ℕ) (k : ℕ) → (kind_at r ≡ Some (record { 0 = k })) ↔ (r ≡ Some k)
kind_at-is None k = (λ g. cc, λ g. cc)
kind_at-is (Some j) k =
    let number : Option SyntaxKind → Option ℕ = option_map (λ x. x.0) in
    (λ g. ap number g, λ g. ap kind_at g)

pub kind_name-is : (es : List (Bor Name)) → map (λ e. e.now) es ≡ kind_names → (n : Name) (r : Option ℕ) → r ≡ index_in es n → (x : Option SyntaxKind) → x ≡ kind_at r → (k : ℕ) → (x ≡ Some (record { 0 = k })) ↔ (name_of k ≡ Some n)
kind_name-is es h n r e x f k =
    let it = index-is es kind_names h refl n k in
    let kind = kind_at-is r k in (
      λ g. it.0 (sym e ∙ kind.0 (sym f ∙ g)),
      λ g. f ∙ kind.1 (e ∙ it.1 g),
    )

pub name_of-get : (es : List (Bor Name)) → map (λ e. e.now) es ≡ kind_names → (k : ℕ) (r : Option (Bor (Bor Name))) → IsItemAt es k r → option_map (λ s. s.now) (option_copied r) ≡ name_of k
name_of-get es h k r g =
    ap (option_map (λ s. s.now)) (item-option_copied es k r g) ∙ sym (slice_get-map (λ e. e.now) es k) ∙ ap (λ ns. slice_get ns k) h

abbrev item_or : {X : Type 0} → X → List X → X
item_or d [] = d
item_or d (x ∷ xs) = x

abbrev items_after : {X : Type 0} → List X → List X
items_after [] = []
items_after (x ∷ xs) = xs

pub All-equal : {X Y : Type 0} (f g : X → Y) (xs : List X) → map f xs ≡ map g xs → All (λ x. f x ≡ g x) xs
All-equal f g [] h = All-nil (λ x. f x ≡ g x)
All-equal f g (x ∷ xs) h = All-cons (λ x. f x ≡ g x) x xs (ap (item_or (f x)) h) (All-equal f g xs (ap items_after h))
