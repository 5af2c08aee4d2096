-- Tables of what each change owns.
--     dependents-to                 what a change owns, of the first so many
--     none-entered, one-entered     one change more: without an owner, and with one
use Rattle.std.specs.Prelude.{◌≡◌, ◌≢◌, ℕ, suc, ◌+◌, ◌<◌, ◌≤◌, Bool, true, false, cond, nat_eq, List, [], ◌∷◌, ◌++◌, map, filter, length, take, slice_get, unwrap_or, Vec, Option, Some, None, option_and_then, get_or, refl}
use Rattle.std.specs.Global.{Global}
use Rattle.std.specs.List.{enumerate_from}
use Rattle.std.specs.Option.{option_map_or}
use Rattle.std.proofs.Common.{ap, ap₂, sym, subst, ◌∙◌, arith}
use Rattle.std.proofs.lemmas.Bool.{cases_Bool, eqb-true, eq-eqb, false≢true}
use Rattle.std.proofs.lemmas.List.{map-append, append-nil, length-take}
use Rattle.std.proofs.lemmas.List.Elements.{filter-append}
use Rattle.std.proofs.Math.ListN.{set}
use Rattle.std.proofs.lemmas.Option.{same_Some, none-some, slice_get-get_or, get_or_from_slice_get}
use Rattle.std.proofs.Math.Seq.{take-suc}
use mathlib.Core.Logic.{inl, inr}
use Rattle.cst_core.specs.Path.{Path, first_item}
use Rattle.cst_core.specs.Tree as tree
use Rattle.cst_core.specs.declared.element.SyntaxElement.TheVariants.{Token}
use Rattle.edit_change.specs.Rewriting.{NumberedAim}
use Rattle.edit_change.specs.ChangeAim.{aim}
use Rattle.edit_change.specs.Nesting.{owner, has_owner}
use Rattle.edit_change.specs.StagedChange.{staged_aim}
use Rattle.one_pass.specs.inner.OwnerTables.{moved_dependent, dependents_in}
use Rattle.edit_change.specs.NewTree.{moved_aim, targets_of, dependents}
use Rattle.edit_change.specs.declared.change.Change.{Change}
use Rattle.one_pass.specs.declared.dependent.Dependent.{Dependent}
use Rattle.edit_change.specs.declared.change.Change.TheVariants.{ReplaceWithMany}
use Rattle.edit_change.proofs.Independents.{enumerate-push, take-whole}
use Rattle.edit_change.proofs.Lists.{slice_get-set_same, slice_get-set_other}

-- ---- tables of what is owned
pub entered-here : (table : List (Vec Dependent Global)) (o : ℕ) (v w : Vec Dependent Global) (d : Dependent) → o < length table → v ≡ get_or table o v → w.items ≡ v.items ++ d ∷ [] → dependents_in (set table o w) o ≡ dependents_in table o ++ moved_dependent d ∷ []
entered-here table o v w d there is more =
    ap (λ x. option_map_or (λ u. map moved_dependent u.items) x []) (slice_get-set_same table o w there) ∙ ap (map moved_dependent) more ∙ map-append moved_dependent v.items (d ∷ []) ∙ ap (λ x. option_map_or (λ u. map moved_dependent u.items) x [] ++ moved_dependent d ∷ []) (sym (slice_get-get_or table o v there ∙ ap (λ u. Some u) (sym is)))

pub entered-elsewhere : (table : List (Vec Dependent Global)) (o : ℕ) (w : Vec Dependent Global) (c : ℕ) → c ≢ o → dependents_in (set table o w) c ≡ dependents_in table c
entered-elsewhere table o w c other = ap (λ x. option_map_or (λ u. map moved_dependent u.items) x []) (slice_get-set_other table o c w other)

-- ---- what each change owns, of the first so many
module _ (cs : List Change) (places : ℕ → Path) where
  abbrev entry : ℕ → ℕ × Change → NumberedAim
  entry c d = (d.0, moved_aim (unwrap_or (first_item (targets_of cs c)) []) (places c) (aim d.1))

  abbrev pub dependents-to : ℕ → ℕ → List NumberedAim
  dependents-to n c = map (entry c) (filter (λ d. has_owner cs c d.1) (enumerate_from 0 (take n cs)))

  pub dependents-whole : (n c : ℕ) → length cs ≤ n → dependents-to n c ≡ dependents cs places c
  dependents-whole n c l = ap (λ xs. map (entry c) (filter (λ d. has_owner cs c d.1) (enumerate_from 0 xs))) (take-whole n cs l)

  module _ (i : ℕ) (d : Change) (l : i < length cs) (is : d ≡ get_or cs i d) where
    one-further : (c : ℕ) → dependents-to (i + 1) c ≡ dependents-to i c ++ cond (has_owner cs c d) (entry c (i, d) ∷ []) []
    one-further c =
        let test : ℕ × Change → Bool = λ x. has_owner cs c x.1 in
        let pair : ℕ × Change = (i, d) in
        let more : take (i + 1) cs ≡ take i cs ++ d ∷ [] = let n : i + 1 ≡ suc i = omega arith in ap (λ k. take k cs) n ∙ take-suc cs i d l ∙ ap (λ x. take i cs ++ x ∷ []) (sym is) in
        let long : 0 + length (take i cs) ≡ i = omega (arith, length-take i cs, l) in
        let listed : enumerate_from 0 (take (i + 1) cs) ≡ enumerate_from 0 (take i cs) ++ pair ∷ [] = ap (enumerate_from 0) more ∙ enumerate-push 0 (take i cs) d ∙ ap (λ n. enumerate_from 0 (take i cs) ++ (n, d) ∷ []) long in
        let last : map (entry c) (filter test (pair ∷ [])) ≡ cond (has_owner cs c d) (entry c pair ∷ []) [] = elim (has_owner cs c d) as (λ b. map (entry c) (cond b (pair ∷ []) []) ≡ cond b (entry c pair ∷ []) []) [ true ↦ refl | false ↦ refl ] in
        ap (λ xs. map (entry c) (filter test xs)) listed ∙ ap (map (entry c)) (filter-append test (enumerate_from 0 (take i cs)) (pair ∷ [])) ∙ map-append (entry c) (filter test (enumerate_from 0 (take i cs))) (filter test (pair ∷ [])) ∙ ap (λ xs. dependents-to i c ++ xs) last

    not-more : (c : ℕ) → has_owner cs c d ≡ false → dependents-to (i + 1) c ≡ dependents-to i c
    not-more c none = one-further c ∙ ap (λ b. dependents-to i c ++ cond b (entry c (i, d) ∷ []) []) none ∙ append-nil (dependents-to i c)

    pub none-entered : owner cs d ≡ None → (table : List (Vec Dependent Global)) → ((c : ℕ) → dependents_in table c ≡ dependents-to i c) → (c : ℕ) → dependents_in table c ≡ dependents-to (i + 1) c
    none-entered none table before c = before c ∙ sym (not-more c (ap (λ o. option_map_or (nat_eq c) o false) none))

    pub one-entered : (o : ℕ) (x : Dependent) (table after : List (Vec Dependent Global)) → owner cs d ≡ Some o → moved_dependent x ≡ (i, staged_aim cs places d) → dependents_in after o ≡ dependents_in table o ++ moved_dependent x ∷ [] → ((c : ℕ) → c ≢ o → dependents_in after c ≡ dependents_in table c) → ((c : ℕ) → dependents_in table c ≡ dependents-to i c) → (c : ℕ) → dependents_in after c ≡ dependents-to (i + 1) c
    one-entered o x table after by moves here elsewhere before c =
        elim (cases_Bool (nat_eq c o)) [
          | inl same ↦ let is_o : c ≡ o = eqb-true c o same in subst (λ n. dependents_in after n ≡ dependents-to (i + 1) n) (sym is_o) at_owner
          | inr other ↦
              let differ : c ≢ o = λ same. false≢true (sym other ∙ eq-eqb c o same) in
              elsewhere c differ ∙ before c ∙ sym (not-more c (ap (λ p. option_map_or (nat_eq c) p false) by ∙ other))
        ]
      where
        owns : has_owner cs o d ≡ true
        owns = ap (λ p. option_map_or (nat_eq o) p false) by ∙ eq-eqb o o refl

        at_owner : dependents_in after o ≡ dependents-to (i + 1) o
        at_owner =
            here ∙ ap₂ (λ xs y. xs ++ y ∷ []) (before o) (moves ∙ ap (λ w. (i, option_map_or (λ e. moved_aim (unwrap_or (first_item (targets_of cs e)) []) (places e) (aim d)) w (aim d))) by) ∙ sym (one-further o ∙ ap (λ b. dependents-to i o ++ cond b (entry o (i, d) ∷ []) []) owns)

pub none-at : (cs : List Change) (places : ℕ → Path) (n : ℕ) (table : List (Vec Dependent Global)) → n < length cs → option_and_then (owner cs) (slice_get cs n) ≡ None → ((c : ℕ) → dependents_in table c ≡ dependents-to cs places n c) → (c : ℕ) → dependents_in table c ≡ dependents-to cs places (n + 1) c
none-at cs places n table l none before = go (slice_get cs n) refl
  where
    go : (o : Option Change) → slice_get cs n ≡ o → (c : ℕ) → dependents_in table c ≡ dependents-to cs places (n + 1) c
    go None is = absurd (none-some (get_or cs n unused) (sym (sym (slice_get-get_or cs n unused l) ∙ is)))
      where
        unused : Change
        unused = ReplaceWithMany (Token (record { number = 0; root = tree.Token 0 []; path = [] })) []
    go (Some d) is =
        none-entered cs places n d l (sym (get_or_from_slice_get cs n d d is)) (sym (ap (option_and_then (owner cs)) is) ∙ none) table before
