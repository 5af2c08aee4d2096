-- Tables of links.
--     link-mapped, linked-mapped    a table that has the link of each change in turn
--     enumerated-push               one change more, with its number
--     linked-more, linked-all       one link more; the whole table
--     has_at                        there is something at each number below the length
--     get-past                      past the end there is nothing
--     linked_some                   what a link says of its change
use Rattle.std.specs.Prelude.{◌≡◌, ◌≤◌, ◌<◌, ℕ, zero, suc, ◌+◌, List, [], ◌∷◌, ◌++◌, map, length, take, slice_get, Option, Some, None, refl}
use Rattle.std.specs.List.{enumerate_from}
use Rattle.std.proofs.Common.{ap, ap₂, sym, ◌∙◌, arith, get_or}
use Rattle.std.proofs.lemmas.Bool.{cases_lt}
use Rattle.std.proofs.lemmas.List.{length-map, length-take-le, map-append, take_all}
use Rattle.std.proofs.lemmas.List.FromFn.{length-enumerate_from}
use Rattle.std.proofs.lemmas.Option.{none-some, same_Some}
use mathlib.Core.Logic.{inl, inr}
use Rattle.edit_change.specs.declared.change.Change.{Change}
use Rattle.edit_change.proofs.Positions.{push-of-take}
use Rattle.edit_steps.specs.inner.Followers.{link, IsLinked}

link-mapped : (f : ℕ → Change → Option ℕ) (k : ℕ) (cs : List Change) (n : ℕ) (c : Change) → slice_get cs n ≡ Some c → link (map (λ d. f d.0 d.1) (enumerate_from k cs)) n ≡ f (k + n) c
link-mapped f k [] n c h = absurd (none-some c h)
link-mapped f k (d ∷ cs) zero c h = let e : k ≡ k + 0 = omega arith in ap (λ m. f m d) e ∙ ap (f (k + 0)) (same_Some d c h)
link-mapped f k (d ∷ cs) (suc n) c h =
    let e : k + 1 + n ≡ k + suc n = omega arith in
    link-mapped f (k + 1) cs n c h ∙ ap (λ m. f m c) e

pub linked-mapped : (f : ℕ → Change → Option ℕ) (cs : List Change) (table : List (Option ℕ)) → table ≡ map (λ c. f c.0 c.1) (enumerate_from 0 cs) → IsLinked f cs table
linked-mapped f cs table is = record {
  long = ap length is ∙ length-map (enumerate_from 0 cs) (λ c. f c.0 c.1) ∙ length-enumerate_from 0 cs;
  at = λ n c h. let e : 0 + n ≡ n = omega arith in ap (λ t. link t n) is ∙ link-mapped f 0 cs n c h ∙ ap (λ m. f m c) e;
}

pub enumerated-push : {X : Type 0} (k : ℕ) (xs : List X) (x : X) → enumerate_from k (xs ++ x ∷ []) ≡ enumerate_from k xs ++ (k + length xs, x) ∷ []
enumerated-push {X} k [] x = let e : k ≡ k + 0 = omega arith in ap {A = ℕ} {B = List (ℕ × X)} (λ m. (m, x) ∷ []) e
enumerated-push {X} k (y ∷ xs) x =
    let e : k + 1 + length xs ≡ k + suc (length xs) = omega arith in
    ap (λ zs. (k, y) ∷ zs) (enumerated-push (k + 1) xs x ∙ ap {A = ℕ} {B = List (ℕ × X)} (λ m. enumerate_from (k + 1) xs ++ (m, x) ∷ []) e)

-- past the end there is none
pub get-past : {X : Type 0} (xs : List X) (n : ℕ) (d : X) → length xs ≤ n → get_or xs n d ≡ d
get-past [] n d l = refl
get-past (x ∷ xs) zero d l = absurd (omega (arith, l))
get-past (x ∷ xs) (suc n) d l = get-past xs n d (omega (arith, l))

-- what stands at a number below the length
pub has_at : {X : Type 0} (xs : List X) (n : ℕ) → n < length xs → (x : X) × (slice_get xs n ≡ Some x)
has_at [] n l = absurd (omega (arith, l))
has_at (x ∷ xs) zero l = (x, refl)
has_at (x ∷ xs) (suc n) l = has_at xs n (omega (arith, l))

pub linked_some : (f : ℕ → Change → Option ℕ) (cs : List Change) (table : List (Option ℕ)) (n m : ℕ) → IsLinked f cs table → link table n ≡ Some m → (c : Change) × (slice_get cs n ≡ Some c) × (f n c ≡ Some m)
linked_some f cs table n m linked h =
    elim (cases_lt n (length cs)) [
      | inl l ↦
          let found = has_at cs n l in
          (found.0, found.1, sym (linked.at n found.0 found.1) ∙ h)
      | inr l ↦ absurd (none-some m (sym (get-past table n None (omega (arith, l, linked.long))) ∙ h))
    ]

-- one link more, at the end of the table
pub linked-more : (f : ℕ → Change → Option ℕ) (cs : List Change) (n : ℕ) (c : Change) (before after : List (Option ℕ)) (o : Option ℕ) → n < length cs → c ≡ get_or cs n c → before ≡ map (λ d. f d.0 d.1) (enumerate_from 0 (take n cs)) → after ≡ before ++ o ∷ [] → o ≡ f n c → after ≡ map (λ d. f d.0 d.1) (enumerate_from 0 (take (n + 1) cs))
linked-more f cs n c before after o l is kept push here =
    let e : 0 + length (take n cs) ≡ n = omega (arith, length-take-le n cs (omega (arith, l))) in
    let link = λ (d : ℕ × Change). f d.0 d.1 in
    push ∙ ap₂ (λ xs x. xs ++ x ∷ []) kept here ∙ sym (ap (λ ds. map link (enumerate_from 0 ds)) (push-of-take n cs c l is) ∙ ap (map link) (enumerated-push 0 (take n cs) c) ∙ map-append link (enumerate_from 0 (take n cs)) ((0 + length (take n cs), c) ∷ []) ∙ ap (λ m. map link (enumerate_from 0 (take n cs)) ++ f m c ∷ []) e)

-- the whole table
pub linked-all : (f : ℕ → Change → Option ℕ) (cs : List Change) (n : ℕ) (table : List (Option ℕ)) → length cs ≤ n → table ≡ map (λ d. f d.0 d.1) (enumerate_from 0 (take n cs)) → IsLinked f cs table
linked-all f cs n table l is =
    linked-mapped f cs table (is ∙ ap (λ ds. map (λ d. f d.0 d.1) (enumerate_from 0 ds)) (take_all n cs l))
