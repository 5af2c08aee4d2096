use Rattle.std.specs.Prelude.{false, nat_eq, cond, ℕ, zero, suc, ◌<◌, List, [], ◌∷◌, ◌++◌, map, filter, length, Vec}
use Rattle.std.specs.Global.{Global}
use Rattle.std.proofs.Common.{◌≡◌, get_or, refl, arith, ap, ap₂, sym, subst, ◌∙◌}
use Rattle.std.proofs.Math.ListN.{set, length-set}
use Rattle.std.proofs.lemmas.Bool.{cases_eq, eq-eqb, ne_eqb}
use Rattle.std.proofs.lemmas.List.{append_assoc, map-append, get_or-set_same, get_or-set_other}
use mathlib.Core.Logic.{inl, inr}
use Rattle.edit_change.specs.Topmost.{paths_of}
use Rattle.one_pass.specs.inner.Marked.{Marking, mark_of, marks_of}
use Rattle.one_pass.specs.inner.Marks.{paths_of_mark}
use Rattle.one_pass.proofs.mark.mark_paths.Goals as goal

-- the paths of another mark
skip : (k : ℕ) (m : Marking) (ms : List Marking) → nat_eq k m.0 ≡ false → paths_of_mark k (m ∷ ms) ≡ paths_of_mark k ms
skip k m ms h = ap (λ b. map (λ (n : Marking). n.1) (cond b (m ∷ filter (λ (n : Marking). nat_eq k n.0) ms) (filter (λ (n : Marking). nat_eq k n.0) ms))) h

-- one path more, in the list of its mark
same-item : {X : Type 0} (xs : List X) (n : ℕ) (d e : X) → n < length xs → get_or xs n d ≡ get_or xs n e
same-item [] n d e l = absurd (omega (arith, l))
same-item (x ∷ xs) zero d e l = refl
same-item (x ∷ xs) (suc n) d e l = same-item xs n d e (omega (arith, l))

one-path : (lists : List (Vec (Vec ℕ Global) Global)) (n : ℕ) (v w : Vec (Vec ℕ Global) Global) (path : Vec ℕ Global) (ms : List Marking) (k : ℕ) (d : Vec (Vec ℕ Global) Global) → n < length lists → v ≡ get_or lists n v → w.items ≡ v.items ++ path ∷ [] → paths_of (get_or (set lists n w) k d).items ++ paths_of_mark k ms ≡ paths_of (get_or lists k d).items ++ paths_of_mark k ((n, path.items) ∷ ms)
one-path lists n v w path ms k d l is more =
    elim (cases_eq k n) [
      | inl same ↦
          let before : get_or lists k d ≡ v = ap (λ j. get_or lists j d) same ∙ same-item lists n d v l ∙ sym is in
          let after : get_or (set lists n w) k d ≡ w = ap (λ j. get_or (set lists n w) j d) same ∙ get_or-set_same lists n w d l in
          let found : paths_of_mark k ((n, path.items) ∷ ms) ≡ path.items ∷ paths_of_mark k ms = ap (λ b. map (λ (m : Marking). m.1) (cond b ((n, path.items) ∷ filter (λ (m : Marking). nat_eq k m.0) ms) (filter (λ (m : Marking). nat_eq k m.0) ms))) (eq-eqb k n same) in
          ap (λ (u : Vec (Vec ℕ Global) Global). paths_of u.items ++ paths_of_mark k ms) after ∙ ap (λ ps. ps ++ paths_of_mark k ms) (ap paths_of more ∙ map-append (λ (u : Vec ℕ Global). u.items) v.items (path ∷ [])) ∙ append_assoc (paths_of v.items) (path.items ∷ []) (paths_of_mark k ms) ∙ ap₂ (λ (u : Vec (Vec ℕ Global) Global) ps. paths_of u.items ++ ps) (sym before) (sym found)
      | inr other ↦ ap₂ (λ (u : Vec (Vec ℕ Global) Global) ps. paths_of u.items ++ ps) (get_or-set_other lists n k w d other) (sym (skip k (n, path.items) ms (ne_eqb k n other)))
    ]

pub loop-mark-preserved : goal.loop-mark-preserved
loop-mark-preserved c =
    let m = c.in-Some.mark in
    let ms = marks_of c.next.new.self.rest.items in
    let step : marks_of c.loop-mark.mark-iterator.rest.items ≡ mark_of m ∷ ms = ap marks_of c.in-Some.ensures.steps.0 in
    let lists = c.loop-mark.lists in
    record {
      size = c.loop-mark.invariant.size;
      lists = λ k d l.
          let other = ne_eqb k m.number (λ same. absurd (omega (arith, same, l, c.loop-mark.invariant.size, c.if-number-len.false, c.len.ensures, lists.ok.0))) in
          ap (λ ns. paths_of (get_or lists.items k d).items ++ ns) (sym (ap (paths_of_mark k) step ∙ skip k (mark_of m) ms other)) ∙ c.loop-mark.invariant.lists k d l;
    }

pub loop-mark-preserved-in-Continue-branch-2 : goal.loop-mark-preserved-in-Continue-branch-2
loop-mark-preserved-in-Continue-branch-2 c =
    let m = c.in-Some.mark in
    let lists = c.loop-mark.lists.items in
    let there : m.number < length lists = omega (arith, c.if-number-len.true, c.len.ensures, c.loop-mark.lists.ok.0) in
    record {
      size = length-set lists m.number c.push.new.self ∙ c.loop-mark.invariant.size;
      lists = λ k d l. one-path lists m.number c.index_mut.result.now c.push.new.self m.path (marks_of c.next.new.self.rest.items) k d there c.index_mut.ensures.value c.in_ok-push.ensures.items ∙ ap (λ ns. paths_of (get_or lists k d).items ++ paths_of_mark k ns) (sym (ap marks_of c.in-Some.ensures.steps.0)) ∙ c.loop-mark.invariant.lists k d l;
    }

pub loop-mark-init : goal.loop-mark-init
loop-mark-init c =
    let size = c.in_ok-lists.ensures.size in
    let first = c.into_iter-mark-iterator.ensures.into_iter_gives.0 in
    record {
      size = size;
      lists = λ k d l. ap₂ (λ ps ms. paths_of ps ++ paths_of_mark k (marks_of ms)) (c.in_ok-lists.ensures.empty k d (subst (λ n. k < n) (sym size) l)) first;
    }

pub returns-clause-size : goal.returns-clause-size
returns-clause-size c = c.loop-mark.invariant.size
