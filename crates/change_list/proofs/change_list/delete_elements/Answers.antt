use Rattle.std.proofs.Common.{◌≡◌, ◌<◌, ◌≤◌, ◌+◌, ◌∷◌, ℕ, List, [], Option, Some, length, map, refl, ap, ap₂, sym, ◌∙◌, arith}
use Rattle.std.proofs.lemmas.List.{length-map}
use mathlib.Core.Logic.{inl, inr}
use Rattle.cst_core.specs.SyntaxElement.{element_of}
use Rattle.change_list.specs.inner.ByPath.{delete_each_at}
use Rattle.change_list.specs.inner.Indexing.{place_of}
use Rattle.change_list.proofs.change_list.delete_elements.Goals as goal

module _ {X : Type 0} (xs : List X) (x : X) (rest : List X) (is : xs ≡ x ∷ rest) where
  room : (n capacity : ℕ) → n + length xs ≤ capacity → n < capacity
  room n capacity within = let long : length xs ≡ length (x ∷ rest) = ap length is in omega (arith, within, long)

  room-left : (n m capacity more : ℕ) → n + length xs ≤ capacity → m ≤ n + 1 → more ≡ capacity → m + length rest ≤ more
  room-left n m capacity more within grown same = let long : length xs ≡ length (x ∷ rest) = ap length is in omega (arith, within, long, grown, same)

  module _ (f : X → Option ℕ) (ks : List ℕ) (k : ℕ) (later : List ℕ) (ks-is : ks ≡ k ∷ later) (all : map (λ k. Some k) ks ≡ map f xs) where
    first-and-rest : (f x ≡ Some k) × (map (λ k. Some k) later ≡ map f rest)
    first-and-rest =
        let both : Some k ∷ map (λ k. Some k) later ≡ f x ∷ map f rest = sym (ap (map (λ k. Some k)) ks-is) ∙ all ∙ ap (map f) is in
        (cc, cc)

alike : {X Y : Type 0} (f g : X → Y) (xs : List X) → ((x : X) → g x ≡ f x) → map f xs ≡ map g xs
alike f g [] same = refl
alike f g (x ∷ xs) same = ap₂ (λ y ys. y ∷ ys) (sym (same x)) (alike f g xs same)

none-left : {X : Type 0} (xs : List X) → length xs ≡ 0 → xs ≡ []
none-left [] h = refl
none-left (x ∷ xs) h = absurd (omega (arith, h))

pub delete_element-requires-clause-has_room : goal.delete_element-requires-clause-has_room
delete_element-requires-clause-has_room c = room _ _ _ c.in-Some.ensures.steps.1.0 _ _ c.loop-place.invariant.has_room

pub delete_element-requires-clause-place : goal.delete_element-requires-clause-place
delete_element-requires-clause-place c =
    let steps = c.in-Some.ensures.steps in
    (first-and-rest _ _ _ steps.1.0 (place_of c.loop-place.replaced) _ _ _ steps.0 c.loop-place.invariant.places).0

pub delete_element-requires-clause-agrees : goal.delete_element-requires-clause-agrees
delete_element-requires-clause-agrees c = c.loop-place.invariant.agrees

pub loop-place-preserved : goal.loop-place-preserved
loop-place-preserved c =
    let steps = c.in-Some.ensures.steps in
    let later = c.next.new.self.b.rest.items in
    let made = c.delete_element.ensures in
    record {
      agrees = made.agrees;
      has_room = room-left _ _ later steps.1.0 _ _ _ _ c.loop-place.invariant.has_room made.len made.capacity;
      places =
          (first-and-rest _ _ later steps.1.0 (place_of c.loop-place.replaced) _ _ _ steps.0 c.loop-place.invariant.places).1
          ∙ alike (place_of c.loop-place.replaced) (place_of c.delete_element.new.replaced) later (λ e. made.places (element_of e).path);
      list = ap (delete_each_at later) made.list ∙ ap (λ es. delete_each_at es c.loop-place.changes.items) (sym steps.1.0) ∙ c.loop-place.invariant.list;
    }

pub returns-clause-agrees : goal.returns-clause-agrees
returns-clause-agrees c = c.loop-place.invariant.agrees

pub returns-clause-list : goal.returns-clause-list
returns-clause-list c =
    let left = c.loop-place.place-iterator.b.rest in
    let ended : left.items ≡ [] → c.loop-place.changes.items ≡ delete_each_at c.args.elements.items c.args.changes.now.items = λ none. sym (ap (λ es. delete_each_at es c.loop-place.changes.items) none) ∙ c.loop-place.invariant.list in
    elim c.in-None.ensures.steps [
      | inl w ↦ ended (none-left left.items (sym (length-map left.items (place_of c.loop-place.replaced)) ∙ ap length (sym c.loop-place.invariant.places) ∙ length-map c.loop-place.place-iterator.a.rest.now (λ k. Some k) ∙ w.1.0))
      | inr w ↦ ended (none-left left.items (sym left.ok.0 ∙ w.1.0))
    ]
