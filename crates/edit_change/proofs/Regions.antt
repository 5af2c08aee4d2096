-- What a region and a fate say.
--     region-in                     a region has targets alone
--     target-there                  the change that replaces what is at a path, where no two clash
--     found-at, found-within, found-target      it is there, and what is at the path is one of its targets
--     owner-told                    the owner of a change, from its fate
use Rattle.std.specs.Prelude.{◌≡◌, ℕ, Bool, true, false, cond, ◌<◌, filter_map, slice_get, Option, Some, None, refl}
use Rattle.std.proofs.Common.{ap, sym, ◌∙◌, arith, get_or}
use Rattle.std.proofs.lemmas.Bool.{cases_eq, cases_lt, false≢true, true≢false}
use Rattle.std.proofs.lemmas.List.Quantifiers.{position-Some}
use Rattle.std.proofs.lemmas.Option.{none-some, slice_get-get_or}
use mathlib.Core.Logic.{inl, inr}
use Rattle.cst_core.specs.Path.{Path, has_path, last_item}
use Rattle.cst_core.specs.declared.element.SyntaxElement.TheVariants.{Node, Token}
use Rattle.edit_change.specs.Change.{targets}
use Rattle.edit_change.specs.Nesting.{region, surroundings, is_dropped, region_at, owner, first_clash}
use Rattle.edit_change.specs.inner.Targets.{target_at}
use Rattle.edit_change.proofs.Clashes.{at-index}
use Rattle.edit_change.proofs.Lists.{all_at}
use Rattle.edit_change.proofs.Paths.{meets}
use Rattle.edit_change.proofs.Positions.{none-passes}
use Rattle.edit_change.proofs.RootAlone.{unclashed}
use Rattle.edit_change.specs.inner.Fate.{by_owner, owner_in, fate}
use Rattle.edit_change.specs.declared.change.Change.{Change}
use Rattle.edit_change.specs.declared.change.Change.TheVariants.{Insert, InsertAll, Replace, ReplaceWithMany, ReplaceAll}
use Rattle.edit_change.specs.declared.fate.Fate.TheVariants.{Dropped}
use Rattle.std.specs.Prelude.{List, [], ◌∷◌, length}

pub region-in : (c : Change) (p : Path) → has_path (targets c) p ≡ false → has_path (region c) p ≡ false
region-in (Insert at e) p h = refl
region-in (InsertAll at es) p h = refl
region-in (Replace (Node n) e) p h = h
region-in (Replace (Token t) e) p h = refl
region-in (ReplaceWithMany (Node n) es) p h = h
region-in (ReplaceWithMany (Token t) es) p h = refl
region-in (ReplaceAll first last es) p h = h

pub owner-told : (cs : List Change) (c : Change) → owner_in (fate cs c) ≡ owner cs c
owner-told cs c = go (is_dropped cs c) (last_item (filter_map (region_at cs) (surroundings c)))
  where
    go : (b : Bool) (o : Option ℕ) → owner_in (cond b Dropped (by_owner (cond b None o))) ≡ cond b None o
    go true o = refl
    go false None = refl
    go false (Some d) = refl

-- where no two share a target, the change that replaces what is at a path is the only one that does
pub target-there : (cs : List Change) (p : Path) (n : ℕ) (c : Change) → first_clash cs ≡ None → slice_get cs n ≡ Some c → has_path (targets c) p ≡ true → target_at cs p ≡ Some n
target-there cs p n c apart is h = go (target_at cs p) refl
  where
    go : (o : Option ℕ) → target_at cs p ≡ o → target_at cs p ≡ Some n
    go None none = absurd (false≢true (sym (all_at (λ d. has_path (targets d) p ≡ false) cs n c (none-passes (λ d. has_path (targets d) p) cs none) is) ∙ h))
    go (Some m) found =
        let there = position-Some (λ d. has_path (targets d) p) cs m c found in
        let d = get_or cs m c in
        let is_d = slice_get-get_or cs m c there.0 in
        elim (cases_eq n m) [
          | inl same ↦ found ∙ ap (λ k. Some k) (sym same)
          | inr other ↦ elim (cases_lt n m) [
            | inl less ↦ absurd (true≢false (sym (meets (targets c) (targets d) p h there.1) ∙ unclashed cs n m c d apart less is is_d))
            | inr more ↦
                let less : m < n = omega (arith, more, other) in
                absurd (true≢false (sym (meets (targets d) (targets c) p there.1 h) ∙ unclashed cs m n d c apart less is_d is))
          ]
        ]

-- it is there, and what is at the path is one of its targets
pub found-at : (cs : List Change) (p : Path) (n : ℕ) (c : Change) → target_at cs p ≡ Some n → c ≡ get_or cs n c → slice_get cs n ≡ Some c
found-at cs p n c found is =
    at-index cs n c (position-Some (λ r. has_path (targets r) p) cs n c found).0 is

pub found-within : (cs : List Change) (p : Path) (n : ℕ) → target_at cs p ≡ Some n → n < length cs
found-within [] p n found = absurd (none-some n found)
found-within (c ∷ cs) p n found = (position-Some (λ r. has_path (targets r) p) (c ∷ cs) n c found).0

pub found-target : (cs : List Change) (p : Path) (n : ℕ) (c : Change) → target_at cs p ≡ Some n → c ≡ get_or cs n c → has_path (targets c) p ≡ true
found-target cs p n c found is =
    ap (λ d. has_path (targets d) p) is ∙ (position-Some (λ r. has_path (targets r) p) cs n c found).1
