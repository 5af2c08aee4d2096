use Rattle.std.specs.Prelude.{Vec}
use Rattle.std.specs.Global.{Global}
use Rattle.std.proofs.Common.{◌≡◌, ◌++◌, ℕ, List, [], ◌∷◌, map, ap, ap₂, sym, ◌∙◌, refl, inl, inr, append-nil, append_assoc}
use Rattle.std.proofs.lemmas.List.{map-append, nil_from_length}
use Rattle.cst_core.specs.Path.{Path}
use Rattle.cst_core.specs.declared.element.SyntaxElement.{SyntaxElement}
use Rattle.edit_change.specs.Topmost.{paths_of}
use Rattle.edit_plan.specs.Engine.{annotated_path}
use Rattle.edit_plan.specs.inner.Annotating.{numbered_paths}
use Rattle.edit_change.specs.inner.PathLists.{path_lists}
use Rattle.edit_plan.proofs.found.annotated_paths.Goals as goal

none-numbered : (ns : List ℕ) → numbered_paths ns [] ≡ []
none-numbered [] = refl
none-numbered (n ∷ ns) = refl

-- one path more of a registration
one-more-path : (n : ℕ) (p : Vec ℕ Global) (before after : List (ℕ × Vec ℕ Global)) (left rest : List (Vec ℕ Global)) (others all : List (ℕ × Path)) → after ≡ before ++ (n, p) ∷ [] → left ≡ p ∷ rest → map annotated_path before ++ (map (λ q. (n, q)) (paths_of left) ++ others) ≡ all → map annotated_path after ++ (map (λ q. (n, q)) (paths_of rest) ++ others) ≡ all
one-more-path n p before after left rest others all more is so_far =
    let behind : List (ℕ × Path) = map (λ q. (n, q)) (paths_of rest) ++ others in
    ap (λ ps. map annotated_path ps ++ behind) more
    ∙ ap (λ ps. ps ++ behind) (map-append annotated_path before ((n, p) ∷ []))
    ∙ append_assoc (map annotated_path before) ((n, p.items) ∷ []) behind
    ∙ ap (λ vs. map annotated_path before ++ (map (λ q. (n, q)) (paths_of vs) ++ others)) (sym is)
    ∙ so_far

pub loop-registration-preserved : goal.loop-registration-preserved
loop-registration-preserved c =
    let own : List (List ℕ) → List (ℕ × Path) = map (λ p. (c.in-Some.registration.now.1, p)) in
    let others : List (ℕ × Path) = numbered_paths (map (λ r. r.1) c.next.new.self.a.rest.now) (path_lists c.next.new.self.b.rest.items) in
    let last = c.loop-path.path-iterator.rest in
    ap (λ vs. map annotated_path c.loop-path.found.items ++ (own (paths_of vs) ++ others)) (sym (nil_from_length last.items (sym last.ok.0 ∙ c.in-None-path.ensures.steps.0))) ∙ c.loop-path.invariant

pub returns : goal.returns
returns c =
    let before : List (ℕ × Path) = map annotated_path c.loop-registration.found.items in
    let rs = c.loop-registration.registration-iterator.a.rest.now in
    let last = c.loop-registration.registration-iterator.b.rest in
    let ls = last.items in
    let none : numbered_paths (map (λ r. r.1) rs) (path_lists ls) ≡ [] = elim c.in-None.ensures.steps [
      | inl e ↦ ap (λ us. numbered_paths (map (λ r. r.1) us) (path_lists ls)) (nil_from_length rs e.1.0)
      | inr e ↦ ap (λ us. numbered_paths (map (λ r. r.1) rs) (path_lists us)) (nil_from_length ls (sym last.ok.0 ∙ e.1.0)) ∙ none-numbered (map (λ r. r.1) rs)
    ] in
    sym (ap (λ ms. before ++ ms) none ∙ append-nil before) ∙ c.loop-registration.invariant

pub loop-path-init : goal.loop-path-init
loop-path-init c =
    let so_far : List (ℕ × Path) = map annotated_path c.loop-registration.found.items in
    let own : List (List ℕ) → List (ℕ × Path) = map (λ p. (c.in-Some.registration.now.1, p)) in
    let others : List (ℕ × Path) = numbered_paths (map (λ r. r.1) c.next.new.self.a.rest.now) (path_lists c.next.new.self.b.rest.items) in
    let steps = c.in-Some.ensures.steps in
    ap (λ vs. so_far ++ (own (paths_of vs) ++ others)) c.into_iter-path-iterator.ensures.into_iter_gives.0
    ∙ sym (ap₂ (λ (rs : List (SyntaxElement × ℕ)) ls. so_far ++ numbered_paths (map (λ r. r.1) rs) (path_lists ls)) steps.0 steps.1.0)
    ∙ c.loop-registration.invariant

pub loop-registration-init : goal.loop-registration-init
loop-registration-init c =
    let first = c.into_iter-registration-iterator.result in
    let made = c.into_iter-registration-iterator.ensures.into_iter_gives in
    let zipped = c.zip-registration-items.ensures in
    let rs = ap (λ i. i.a.rest.now) made ∙ ap (λ i. i.rest.now) zipped.first ∙ c.iter.ensures.rest in
    let ls = ap (λ i. i.b.rest.items) made ∙ zipped.second.0 in
    ap (λ ps. map annotated_path ps ++ numbered_paths (map (λ r. r.1) first.a.rest.now) (path_lists first.b.rest.items)) c.in_ok-found.ensures.items
    ∙ ap₂ (λ (xs : List (SyntaxElement × ℕ)) vs. numbered_paths (map (λ r. r.1) xs) (path_lists vs)) rs ls

pub loop-path-preserved : goal.loop-path-preserved
loop-path-preserved c =
    let number = c.in-Some.registration.now.1 in
    let others : List (ℕ × Path) = numbered_paths (map (λ r. r.1) c.next.new.self.a.rest.now) (path_lists c.next.new.self.b.rest.items) in
    one-more-path number c.in-Some-path.path c.loop-path.found.items c.push.new.self.items c.loop-path.path-iterator.rest.items c.next-in-loop-path.new.self.rest.items others _ c.in_ok-push.ensures.items c.in-Some-path.ensures.steps.0 c.loop-path.invariant
