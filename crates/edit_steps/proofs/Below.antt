-- What a change replaces lies strictly below each path of its surroundings, also once it is moved.
--     IsStrictlyUnder               a path is strictly below this one
--     targets_under                 each target lies strictly below the change's surroundings
--     ComesFrom, moved_replaces     what a moved aim replaces comes from what the aim replaces
use Rattle.std.specs.Prelude.{◌≡◌, ℕ, suc, ◌-◌, true, List, [], ◌∷◌, ◌++◌, map, refl}
use Rattle.std.proofs.Common.{ap, ◌∙◌}
use Rattle.std.proofs.lemmas.Bool.{false≢true, or_cases, or_right}
use Rattle.std.proofs.lemmas.List.{append_assoc}
use mathlib.Core.Logic.{inl, inr}
use Rattle.cst_core.specs.Path.{Path, same_path, has_path, parent_path, last_slot, counted_from}
use Rattle.cst_core.specs.SyntaxElement.{element_of}
use Rattle.edit_change.specs.Aim.{Aim, FirstIn, AfterElement, Over, replaces}
use Rattle.edit_change.specs.ChangeAim.{aim}
use Rattle.edit_change.specs.Nesting.{surroundings}
use Rattle.edit_change.specs.PositionForm.{FirstChild, After}
use Rattle.edit_change.specs.declared.change.Change.{Change}
use Rattle.edit_change.specs.declared.change.Change.TheVariants.{Insert, InsertAll, Replace, ReplaceWithMany, ReplaceAll}
use Rattle.edit_change.proofs.Paths.{same_path-true}
use Rattle.edit_change.specs.NewTree.{moved_path, moved_aim}
use Rattle.edit_change.proofs.AimsApart.{has_own, above_is_under, only_one}

abbrev pub IsStrictlyUnder : Path → Path → Type 0
IsStrictlyUnder n p = (i : ℕ) × (r : Path) × (p ≡ n ++ i ∷ r)

-- ---- targets
parent_path-append : (n : Path) (i : ℕ) (r : Path) → parent_path (n ++ i ∷ r) ≡ n ++ parent_path (i ∷ r)
parent_path-append [] i r = refl
parent_path-append (j ∷ []) i r = refl
parent_path-append (j ∷ k ∷ n) i r = ap (λ q. j ∷ q) (parent_path-append (k ∷ n) i r)

some_slot : (p : Path) (j : ℕ) → IsStrictlyUnder [] (p ++ j ∷ [])
some_slot [] j = (j, [], refl)
some_slot (i ∷ p) j = (i, p ++ j ∷ [], refl)

siblings_under : (x n : Path) (slots : List ℕ) (y : Path) → IsStrictlyUnder n x → has_path (map (λ i. parent_path x ++ i ∷ []) slots) y ≡ true → IsStrictlyUnder n y
siblings_under x n [] y u h = absurd (false≢true h)
siblings_under x n (i ∷ slots) y u h =
    elim (or_cases (same_path y (parent_path x ++ i ∷ [])) (has_path (map (λ i. parent_path x ++ i ∷ []) slots) y) h) [
      | inl here ↦
          let up = parent_path (u.0 ∷ u.1) in
          let first = some_slot up i in
          (first.0, first.1, same_path-true y (parent_path x ++ i ∷ []) here ∙ ap (λ q. parent_path q ++ i ∷ []) u.2 ∙ ap (λ q. q ++ i ∷ []) (parent_path-append n u.0 u.1) ∙ append_assoc n up (i ∷ []) ∙ ap (λ q. n ++ q) first.2)
      | inr there ↦ siblings_under x n slots y u there
    ]

one_under : (x n y : Path) → IsStrictlyUnder n x → has_path (x ∷ []) y ≡ true → IsStrictlyUnder n y
one_under x n y u h = (u.0, u.1, only_one y x h ∙ u.2)

pub targets_under : (d : Change) (n y : Path) → has_path (surroundings d) n ≡ true → replaces y (aim d) ≡ true → IsStrictlyUnder n y
targets_under (Insert (FirstChild e) x) n y a h = absurd (false≢true h)
targets_under (Insert (After e) x) n y a h = absurd (false≢true h)
targets_under (InsertAll (FirstChild e) xs) n y a h = absurd (false≢true h)
targets_under (InsertAll (After e) xs) n y a h = absurd (false≢true h)
targets_under (Replace t e) n y a h =
    one_under (element_of t).path n y (above_is_under (element_of t).path n a) h
targets_under (ReplaceWithMany t es) n y a h =
    one_under (element_of t).path n y (above_is_under (element_of t).path n a) h
targets_under (ReplaceAll first last es) n y a h =
    siblings_under (element_of first).path n (counted_from (last_slot (element_of first).path) (suc (last_slot (element_of last).path) - last_slot (element_of first).path)) y (above_is_under (element_of first).path n a) h

-- ---- moved
abbrev pub ComesFrom : Path → Path → Aim → Path → Type 0
ComesFrom n q a x = (y : Path) × (replaces y a ≡ true) × (x ≡ moved_path n q y)

moved_in : (n q : Path) (ps : List Path) (x : Path) → has_path (map (moved_path n q) ps) x ≡ true → (y : Path) × (has_path ps y ≡ true) × (x ≡ moved_path n q y)
moved_in n q [] x h = absurd (false≢true h)
moved_in n q (p ∷ ps) x h =
    elim (or_cases (same_path x (moved_path n q p)) (has_path (map (moved_path n q) ps) x) h) [
      | inl here ↦ (p, has_own p ps, same_path-true x (moved_path n q p) here)
      | inr there ↦
          let rest = moved_in n q ps x there in
          (rest.0, or_right (same_path rest.0 p) (has_path ps rest.0) rest.1, rest.2)
    ]

pub moved_replaces : (n q : Path) (a : Aim) (x : Path) → replaces x (moved_aim n q a) ≡ true → ComesFrom n q a x
moved_replaces n q (FirstIn p) x h = absurd (false≢true h)
moved_replaces n q (AfterElement p) x h = absurd (false≢true h)
moved_replaces n q (Over ps) x h = moved_in n q ps x h
