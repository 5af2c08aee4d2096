-- The way to the path that was entered last.
--     way-more                      it leads through the same cells where there are more steps
--     way-cut, way-push             cut off; one step further
--     end-push                      where it ends then
--     shared-more, end-more         one slot more that a way shares with a path; where it ends then
--     way-leads, end-within         its slots lead to its end, which is a cell of the table
use Rattle.std.specs.Prelude.{◌≡◌, ℕ, zero, suc, ◌+◌, ◌<◌, ◌≤◌, List, [], ◌∷◌, ◌++◌, length, take, Some, refl}
use Rattle.std.proofs.Common.{ap, ap₂, sym, ◌∙◌, get_or}
use Rattle.std.proofs.lemmas.List.{take_more, map-append}
use Rattle.path_table.specs.inner.Steps.{Steps, step, Way, slots_of, way_end, IsWay}
use Rattle.path_table.specs.inner.PathTable.{cell_further, size, IsTree}
use Rattle.path_table.specs.declared.table.PathTable.{PathTable}

pub way-more : (s u : Steps) → ((n i m : ℕ) → step s n i ≡ Some m → step u n i ≡ Some m) → (n : ℕ) (way : Way) → IsWay s n way → IsWay u n way
way-more s u stay n [] is = tt
way-more s u stay n (x ∷ way) is = (stay n x.0 x.1 is.0, way-more s u stay x.1 way is.1)

pub way-cut : (s : Steps) (k n : ℕ) (way : Way) → IsWay s n way → IsWay s n (take k way)
way-cut s zero n way is = tt
way-cut s (suc k) n [] is = tt
way-cut s (suc k) n (x ∷ way) is = (is.0, way-cut s k x.1 way is.1)

pub way-push : (s : Steps) (n : ℕ) (way : Way) (i m : ℕ) → IsWay s n way → step s (way_end n way) i ≡ Some m → IsWay s n (way ++ (i, m) ∷ [])
way-push s n [] i m is at = (at, tt)
way-push s n (x ∷ way) i m is at = (is.0, way-push s x.1 way i m is.1 at)

pub end-push : (n : ℕ) (way : Way) (i m : ℕ) → way_end n (way ++ (i, m) ∷ []) ≡ m
end-push n [] i m = refl
end-push n (x ∷ way) i m = end-push x.1 way i m

pub shared-more : (way : Way) (path : List ℕ) (k : ℕ) → k < length way → k < length path → slots_of (take k way) ≡ take k path → (get_or way k (0, 0)).0 ≡ get_or path k 0 → slots_of (take (k + 1) way) ≡ take (k + 1) path
shared-more way path k within within_path same next =
    ap slots_of (take_more way k (0, 0) within) ∙ map-append (λ x. x.0) (take k way) (get_or way k (0, 0) ∷ []) ∙ ap₂ (λ xs x. xs ++ x ∷ []) same next ∙ sym (take_more path k 0 within_path)

pub end-more : (way : Way) (k : ℕ) → k < length way → way_end 0 (take (k + 1) way) ≡ (get_or way k (0, 0)).1
end-more way k within = ap (way_end 0) (take_more way k (0, 0) within) ∙ end-push 0 (take k way) (get_or way k (0, 0)).0 (get_or way k (0, 0)).1

pub way-leads : {V : Type 0} (t : PathTable V) (n : ℕ) (way : Way) → IsWay t.steps n way → cell_further t (Some n) (slots_of way) ≡ Some (way_end n way)
way-leads t n [] is = refl
way-leads t n (x ∷ way) is = ap (λ o. cell_further t o (slots_of way)) is.0 ∙ way-leads t x.1 way is.1

pub end-within : {V : Type 0} (t : PathTable V) → IsTree t → (n : ℕ) (way : Way) → n ≤ size t → IsWay t.steps n way → way_end n way ≤ size t
end-within t tree n [] here is = here
end-within t tree n (x ∷ way) here is = end-within t tree x.1 way ((tree.steps n x.0 x.1 is.0).1) is.1
