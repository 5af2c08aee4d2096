-- Changes that are carried out in one tree: those without an owner in the old tree, those of an owner in its payload.
--     IsGroup                       what is used of them: a test, the path that they lie below, and the path that this is moved to
--     free_group, owned_group       both kinds
--     group_aims                    their moved aims
--     moved-nowhere, independents-moved      those without an owner are moved nowhere
--     IsFromTarget, from_target     what a moved aim replaces, but the top, comes from strictly below that path
--     unmoved_parents               the node that a moved aim alters, in the old tree
--     one_anchor, unmoved_after    a moved aim after an element, in the old tree
use Rattle.std.specs.Prelude.{◌≡◌, ℕ, ◌<◌, Bool, true, false, not, List, [], ◌∷◌, ◌++◌, length, map, filter, slice_get, unwrap_or, Some, is_none, refl}
use Rattle.std.specs.List.{enumerate_from}
use Rattle.std.proofs.Common.{ap, ap₂, sym, subst, ◌∙◌, arith}
use Rattle.std.proofs.lemmas.Bool.{and_parts, not-true}
use Rattle.std.proofs.lemmas.List.{append-nil, append_assoc, append_cancel_left, length-append}
use Rattle.cst_core.specs.Path.{Path, has_path, first_item}
use Rattle.edit_change.specs.Aim.{Aim, FirstIn, AfterElement, Over, replaces, parents}
use Rattle.edit_change.specs.Rewriting.{NumberedAim}
use Rattle.edit_change.specs.ChangeAim.{aim}
use Rattle.edit_change.specs.Nesting.{region, surroundings, is_dropped, owner, is_independent, has_owner}
use Rattle.edit_change.specs.declared.change.Change.{Change}
use Rattle.edit_change.proofs.Owners.{owner_cases, owner_from}
use Rattle.edit_change.specs.NewTree.{targets_of, moved_path, moved_aim, change_aims, independents}
use Rattle.edit_steps.proofs.Altered.{one_item, no_item, parents-inv, parents-push}
use Rattle.edit_change.proofs.AimsApart.{IsUnder, IsBelow, moved-path, owned-at, owned_below}
use Rattle.edit_steps.proofs.Below.{targets_under, ComesFrom, moved_replaces}
use Rattle.edit_steps.proofs.Deepest.{unowned, owned-deepest}

pub record IsGroup (cs : List Change) (ours : Change → Bool) (n q : Path) : Type 0 where
  pub stays : (d : Change) → ours d ≡ true → is_dropped cs d ≡ false
  pub below : (d : Change) → ours d ≡ true → IsBelow n (aim d)
  pub under : (d : Change) (y : Path) → ours d ≡ true → replaces y (aim d) ≡ true → IsUnder n y
  -- only a whole tree has its top replaced
  pub top : (d : Change) → ours d ≡ true → replaces n (aim d) ≡ true → q ≡ []
  -- between that path and what is ours there is no region
  pub alone : (d : Change) (i : ℕ) (r : Path) → ours d ≡ true → has_path (surroundings d) (n ++ i ∷ r) ≡ true → (k : ℕ) (e : Change) → slice_get cs k ≡ Some e → has_path (region e) (n ++ i ∷ r) ≡ true → ⊥

-- ---- without an owner
below_top : (a : Aim) → IsBelow [] a
below_top (FirstIn p) = (p, refl)
below_top (AfterElement p) = (p, refl)
below_top (Over []) = tt
below_top (Over (p ∷ ps)) = (p, refl)

pub free_group : (cs : List Change) → IsGroup cs (is_independent cs) [] []
free_group cs = record {
  stays = λ d h. not-true (is_dropped cs d) (and_parts (not (is_dropped cs d)) (is_none (owner cs d)) h).0;
  below = λ d h. below_top (aim d);
  under = λ d y h r. (y, refl);
  top = λ d h r. refl;
  alone = λ d i r h around k e is inside. unowned cs d k e (i ∷ r) h is inside around;
}

-- ---- of one owner
not_longer : (n r : Path) (i : ℕ) → n ≡ n ++ i ∷ r → ⊥
not_longer n r i h = omega (arith, ap length h, length-append n (i ∷ r))

pub owned_group : (cs : List Change) (o : ℕ) (q : Path) → IsGroup cs (has_owner cs o) (unwrap_or (first_item (targets_of cs o)) []) q
owned_group cs o q =
    let n : Path = unwrap_or (first_item (targets_of cs o)) [] in
    record {
      stays = λ d h. (owner_cases cs d o (owner_from cs o d h)).0;
      below = λ d h. owned_below cs o d h;
      under = λ d y h r. let u = targets_under d n y (owned-at cs o d h).around r in (u.0 ∷ u.1, u.2);
      top = λ d h r. let u = targets_under d n n (owned-at cs o d h).around r in absurd (not_longer n u.1 u.0 u.2);
      alone = λ d i r h around k e is inside. owned-deepest cs o n d (owner_from cs o d h) (owned-at cs o d h) (n ++ i ∷ r) around (longer n i r) k e is inside;
    }
  where
    longer : (n : Path) (i : ℕ) (r : Path) → length n < length (n ++ i ∷ r)
    longer n i r = omega (arith, length-append n (i ∷ r))

-- ---- their aims
abbrev pub group_aims : List Change → (Change → Bool) → Path → Path → List NumberedAim
group_aims cs ours n q =
    map (λ d. (d.0, moved_aim n q (aim d.1))) (filter (λ d. ours d.1) (enumerate_from 0 cs))

pub moved-nowhere : (a : Aim) → moved_aim [] [] a ≡ a
moved-nowhere (FirstIn p) = refl
moved-nowhere (AfterElement p) = refl
moved-nowhere (Over ps) = ap Over (go ps)
  where
    go : (ps : List Path) → map (moved_path [] []) ps ≡ ps
    go [] = refl
    go (p ∷ ps) = ap (λ rs. p ∷ rs) (go ps)

pub independents-moved : (cs : List Change) → group_aims cs (is_independent cs) [] [] ≡ independents cs
independents-moved cs = go (filter (λ d. is_independent cs d.1) (enumerate_from 0 cs))
  where
    go : (ds : List (ℕ × Change)) → map {B = NumberedAim} (λ d. (d.0, moved_aim [] [] (aim d.1))) ds ≡ change_aims ds
    go [] = refl
    go (d ∷ ds) = ap₂ (λ (a : Aim) (rest : List NumberedAim). (d.0, a) ∷ rest) (moved-nowhere (aim d.1)) (go ds)

-- ---- back from where they are moved to
module _ (cs : List Change) (ours : Change → Bool) (n q : Path) (group : IsGroup cs ours n q) where
  abbrev pub IsFromTarget : Path → Change → Type 0
  IsFromTarget x d = (i : ℕ) × (r : Path) × (x ≡ q ++ i ∷ r) × (replaces (n ++ i ∷ r) (aim d) ≡ true)

  pub from_target : (d : Change) (p : Path) (j : ℕ) → ours d ≡ true → replaces (p ++ j ∷ []) (moved_aim n q (aim d)) ≡ true → IsFromTarget (p ++ j ∷ []) d
  from_target d p j h r =
      let m : ComesFrom n q (aim d) (p ++ j ∷ []) = moved_replaces n q (aim d) (p ++ j ∷ []) r in
      let u : IsUnder n m.0 = group.under d m.0 h m.1 in
      go u.0 (m.2 ∙ moved-path n q m.0 u) (subst (λ y. replaces y (aim d) ≡ true) u.1 m.1)
    where
      no_top : p ++ j ∷ [] ≡ [] → ⊥
      no_top e = omega (arith, ap length e, length-append p (j ∷ []))

      go : (t : Path) → p ++ j ∷ [] ≡ q ++ t → replaces (n ++ t) (aim d) ≡ true → IsFromTarget (p ++ j ∷ []) d
      go (i ∷ t) e k = (i, t, e, k)
      go [] e k =
          absurd (no_top (e ∙ append-nil q ∙ group.top d h (ap (λ y. replaces y (aim d)) (sym (append-nil n)) ∙ k)))

-- the parent of a path below n is moved with it
unmoved_parent : (n q z s : Path) → IsUnder n z → parents (AfterElement (moved_path n q z)) ≡ (q ++ s) ∷ [] → parents (AfterElement z) ≡ (n ++ s) ∷ []
unmoved_parent n q z s u h =
    let back = parents-inv (moved_path n q z) (q ++ s) h in
    let tails : u.0 ≡ s ++ back.0 ∷ [] = append_cancel_left q u.0 (s ++ back.0 ∷ []) (sym (moved-path n q z u) ∙ back.1 ∙ append_assoc q s (back.0 ∷ [])) in
    let whole : z ≡ (n ++ s) ++ back.0 ∷ [] = u.1 ∙ ap (λ t. n ++ t) tails ∙ sym (append_assoc n s (back.0 ∷ [])) in
    ap (λ y. parents (AfterElement y)) whole ∙ parents-push (n ++ s) back.0

pub unmoved_parents : (n q : Path) (a : Aim) (s : Path) → IsBelow n a → parents (moved_aim n q a) ≡ (q ++ s) ∷ [] → parents a ≡ (n ++ s) ∷ []
unmoved_parents n q (FirstIn z) s u h =
    let tails : u.0 ≡ s = append_cancel_left q u.0 s (sym (moved-path n q z u) ∙ one_item (moved_path n q z) (q ++ s) h) in
    ap (λ y. y ∷ []) (u.1 ∙ ap (λ t. n ++ t) tails)
unmoved_parents n q (AfterElement z) s u h = unmoved_parent n q z s u h
unmoved_parents n q (Over []) s u h = absurd (no_item (q ++ s) h)
unmoved_parents n q (Over (z ∷ zs)) s u h = unmoved_parent n q z s u h

pub one_anchor : (y r : Path) → AfterElement y ≡ AfterElement r → y ≡ r
one_anchor y r same = cc

pub unmoved_after : (n q : Path) (a : Aim) (x t : Path) → IsBelow n a → moved_aim n q a ≡ AfterElement x → x ≡ q ++ t → a ≡ AfterElement (n ++ t)
unmoved_after n q (FirstIn z) x t u h e = cc
unmoved_after n q (AfterElement z) x t u h e =
    let tails : u.0 ≡ t = append_cancel_left q u.0 t (sym (moved-path n q z u) ∙ one_anchor (moved_path n q z) x h ∙ e) in
    ap AfterElement (u.1 ∙ ap (λ r. n ++ r) tails)
unmoved_after n q (Over zs) x t u h e = cc
