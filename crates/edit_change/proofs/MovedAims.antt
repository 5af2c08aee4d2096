-- Changes moved into the payloads of their owners.
--     moved-own                     where a change aims that is moved, by its own path
--     owner-there, owned-is-inside  there is an owner; what is owned aims deeper
--     change-at, owner-at-number, owner-is, owner-within      the change and the owner at a number; the owner is a change
--     fit_at                        a change fits its tree
--     aims-free, aims-owned         the path from which a change aims
use Rattle.std.specs.Prelude.{◌≡◌, ℕ, zero, suc, ◌+◌, ◌-◌, ◌<◌, ◌≤◌, true, List, [], ◌∷◌, ◌++◌, map, length, drop, slice_get, unwrap_or, Option, Some, None, option_map, option_and_then, IfSome, get_or, refl, All}
use Rattle.std.specs.List.{AllByRecursion}
use Rattle.std.specs.Option.{option_map_or}
use Rattle.std.proofs.Common.{ap, ap₂, sym, subst, ◌∙◌, arith, get_or}
use Rattle.std.proofs.lemmas.Bool.{false≢true}
use Rattle.std.proofs.lemmas.List.{length-append, length-map, append_assoc}
use Rattle.std.proofs.lemmas.List.Elements.{recursion_from_All}
use Rattle.std.proofs.lemmas.Option.{same_Some, none-some, slice_get-get_or, slice_get_within, slice_get-map}
use mathlib.Core.List.{map-map}
use mathlib.Core.Path.{fun_ext}
use Rattle.cst_core.specs.Path.{Path, parent_path, last_slot, counted_from, siblings, first_item}
use Rattle.cst_core.specs.Element.{Element}
use Rattle.cst_core.specs.SyntaxElement.{element_of}
use Rattle.cst_core.proofs.LastSlot.{parent_path-push, last_slot-push, parent-and-slot}
use Rattle.edit_change.specs.Aim.{Over}
use Rattle.edit_change.specs.inner.Aimed.{siblings_from}
use Rattle.edit_change.specs.ChangeAim.{position_aim, aim, aim_path}
use Rattle.edit_change.specs.Position.{anchor}
use Rattle.edit_change.specs.Fits.{Fits}
use Rattle.edit_change.specs.Nesting.{is_keeping, owner}
use Rattle.edit_change.specs.inner.Fate.{fate, owner_in}
use Rattle.edit_change.specs.declared.fate.Fate.{Fate}
use Rattle.edit_change.specs.inner.AimFrom.{position_aim_from, aim_from, depth}
use Rattle.edit_change.specs.NewTree.{moved_path, moved_aim, targets_of}
use Rattle.edit_change.specs.declared.position.Position.{Position}
use Rattle.edit_change.specs.PositionForm.{FirstChild, After}
use Rattle.edit_change.specs.declared.change.Change.{Change}
use Rattle.edit_change.specs.declared.change.Change.TheVariants.{Insert, InsertAll, Replace, ReplaceWithMany, ReplaceAll}
use Rattle.edit_change.proofs.Aiming.{one-sibling, own-aim}
use Rattle.edit_change.proofs.Regions.{owner-told}
use Rattle.edit_change.proofs.OwnerDepth.{owner_is_above}
use Rattle.edit_change.proofs.OwnersKeep.{owner-keeps, target-is}
use Rattle.cst_core.specs.Tree.{at}
use Rattle.edit_change.specs.StagedChange.{staged_aim}
use Rattle.edit_change.specs.inner.OwnerPlaces.{owner_at, AimsFrom}

-- ---- where a moved change aims
drop-push : (n : ℕ) (p : Path) (j : ℕ) → n ≤ length p → drop n (p ++ j ∷ []) ≡ drop n p ++ j ∷ []
drop-push zero p j l = refl
drop-push (suc n) [] j l = absurd (omega (arith, l))
drop-push (suc n) (i ∷ p) j l = drop-push n p j (omega (arith, l))

pub siblings-after : (r : Path) (s n : ℕ) → siblings_from (r ++ s ∷ []) n ≡ map (λ j. r ++ j ∷ []) (counted_from s n)
siblings-after [] s n = refl
siblings-after (i ∷ r) s n =
    ap₂ (λ p k. map (λ j. p ++ j ∷ []) (counted_from k n)) (parent_path-push (i ∷ r) s) (last_slot-push (i ∷ r) s)

moved-sibling : (n q r : Path) (j : ℕ) → length n ≤ length r → moved_path n q (r ++ j ∷ []) ≡ moved_path n q r ++ j ∷ []
moved-sibling n q r j l = ap (λ p. q ++ p) (drop-push (length n) r j l) ∙ sym (append_assoc q (drop (length n) r) (j ∷ []))

moved-siblings : (n q f l : Path) (k : ℕ) → length n < length f → k ≡ suc (last_slot l) - last_slot f → siblings_from (moved_path n q f) k ≡ map (moved_path n q) (siblings f l)
moved-siblings n q [] l k less is = absurd (omega (arith, less))
moved-siblings n q (i ∷ f) l k less is =
    let r : Path = parent_path (i ∷ f) in
    let s : ℕ = last_slot (i ∷ f) in
    let long : length (i ∷ f) ≡ length r + 1 = ap length (parent-and-slot i f) ∙ length-append r (s ∷ []) in
    let inside : length n ≤ length r = omega (arith, long, less) in
    ap (λ p. siblings_from (moved_path n q p) k) (parent-and-slot i f) ∙ ap (λ p. siblings_from p k) (moved-sibling n q r s inside) ∙ siblings-after (moved_path n q r) s k ∙ ap₂ (λ h m. map h (counted_from s m)) (fun_ext (λ j. sym (moved-sibling n q r j inside))) is ∙ sym (map-map (moved_path n q) (λ j. r ++ j ∷ []) (counted_from s (suc (last_slot l) - s)))

moved-position : (n q : Path) (at : Position) → position_aim_from (moved_path n q (anchor at).path) at ≡ moved_aim n q (position_aim at)
moved-position n q (FirstChild m) = refl
moved-position n q (After e) = refl

pub moved-own : (root : Element) (n q : Path) (c : Change) → Fits root c → length n < depth c → aim_from (moved_path n q (aim_path c)) c ≡ moved_aim n q (aim c)
moved-own root n q (Insert at e) fits less = moved-position n q at
moved-own root n q (InsertAll at es) fits less = moved-position n q at
moved-own root n q (Replace t e) fits less = ap Over (one-sibling (moved_path n q (element_of t).path))
moved-own root n q (ReplaceWithMany t es) fits less = ap Over (one-sibling (moved_path n q (element_of t).path))
moved-own root n q (ReplaceAll first last es) fits less =
    ap Over (moved-siblings n q (element_of first).path (element_of last).path (suc (last_slot (element_of last).path) - last_slot (element_of first).path) less refl)

-- ---- the owner of a change
pub owner-there : (cs : List Change) (c : Change) (o : ℕ) → owner cs c ≡ Some o → o < length cs
owner-there cs c o by = let k : (r : Change) × (slice_get cs o ≡ Some r) × (is_keeping r ≡ true) = owner-keeps cs c o by in slice_get_within cs o k.0 k.1

-- what is owned aims deeper than its owner
pub owned-is-inside : (cs : List Change) (c r : Change) (o : ℕ) → owner cs c ≡ Some o → slice_get cs o ≡ Some r → length (aim_path r) < depth c
owned-is-inside cs c r o by at_o =
    let k : (s : Change) × (slice_get cs o ≡ Some s) × (is_keeping s ≡ true) = owner-keeps cs c o by in
    let up : (s : Change) × (slice_get cs o ≡ Some s) × (depth s < depth c) = owner_is_above cs c o by in
    let keeps : is_keeping r ≡ true = ap is_keeping (same_Some r k.0 (sym at_o ∙ k.1)) ∙ k.2 in
    let deep : depth r ≡ depth up.0 = ap depth (same_Some r up.0 (sym at_o ∙ up.1)) in
    omega (arith, deep, own r keeps, up.2)
  where
    own : (r : Change) → is_keeping r ≡ true → depth r ≡ length (aim_path r)
    own (Replace t e) h = refl
    own _ h = absurd (false≢true h)

-- ---- what stands at a number
pub change-at : (cs : List Change) (n : ℕ) (c : Change) → n < length cs → c ≡ get_or cs n c → slice_get cs n ≡ Some c
change-at cs n c l is = slice_get-get_or cs n c l ∙ ap (λ x. Some x) (sym is)

pub owner-at-number : (cs : List Change) (fates : List Fate) (n : ℕ) (f : Fate) → fates ≡ map (fate cs) cs → n < length cs → owner_in (get_or fates n f) ≡ option_and_then (owner cs) (slice_get cs n)
owner-at-number cs fates n f are l = go (slice_get cs n) refl
  where
    there : n < length fates
    there = subst (λ k. n < k) (sym (ap length are ∙ length-map cs (fate cs))) l

    read : Some (get_or fates n f) ≡ option_map (fate cs) (slice_get cs n)
    read = sym (slice_get-get_or fates n f there) ∙ ap (λ xs. slice_get xs n) are ∙ slice_get-map (fate cs) cs n

    go : (o : Option Change) → slice_get cs n ≡ o → owner_in (get_or fates n f) ≡ option_and_then (owner cs) (slice_get cs n)
    go None is = absurd (none-some (get_or fates n f) (sym (read ∙ ap (option_map (fate cs)) is)))
    go (Some c) is =
        ap owner_in (same_Some (get_or fates n f) (fate cs c) (read ∙ ap (option_map (fate cs)) is)) ∙ owner-told cs c ∙ sym (ap (option_and_then (owner cs)) is)

pub any-owner-there : (cs : List Change) (n : ℕ) (o : Option ℕ) → o ≡ option_and_then (owner cs) (slice_get cs n) → IfSome o (λ k. k < length cs)
any-owner-there cs n o is = subst (λ x. IfSome x (λ k. k < length cs)) (sym is) (go (slice_get cs n))
  where
    of : (c : Change) (x : Option ℕ) → owner cs c ≡ x → IfSome x (λ k. k < length cs)
    of c None by = tt
    of c (Some k) by = owner-there cs c k by

    go : (x : Option Change) → IfSome (option_and_then (owner cs) x) (λ k. k < length cs)
    go None = tt
    go (Some c) = of c (owner cs c) refl

pub owner-is : (cs : List Change) (n : ℕ) (c : Change) (o : Option ℕ) → slice_get cs n ≡ Some c → o ≡ option_and_then (owner cs) (slice_get cs n) → owner cs c ≡ o
owner-is cs n c o is by = sym (by ∙ ap (option_and_then (owner cs)) is)

pub owner-within : (cs : List Change) (n : ℕ) (c : Change) (o : ℕ) → slice_get cs n ≡ Some c → Some o ≡ owner_at cs n → o < length cs
owner-within cs n c o is by = let r = owner-keeps cs c o (owner-is cs n c (Some o) is by) in slice_get_within cs o r.0 r.1

-- ---- elements of a tree
pub fit_at : (root : Element) (cs : List Change) → All (Fits root) cs → (i : ℕ) (c : Change) → slice_get cs i ≡ Some c → Fits root c
fit_at root cs fit i c is = go cs (recursion_from_All (Fits root) cs fit) i is
  where
    go : (ds : List Change) → AllByRecursion (Fits root) ds → (j : ℕ) → slice_get ds j ≡ Some c → Fits root c
    go [] a j h = absurd (none-some c h)
    go (d ∷ ds) a zero h = subst (Fits root) (same_Some d c h) a.0
    go (d ∷ ds) a (suc j) h = go ds a.1 j h

-- ---- where a change is carried out
-- the path of a change by itself, or exchanged into its owner's payload
pub aims-free : (cs : List Change) (places : ℕ → Path) (root : Element) (n : ℕ) (d : Change) (p : Path) → All (Fits root) cs → slice_get cs n ≡ Some d → owner cs d ≡ None → p ≡ aim_path d → AimsFrom cs places n p
aims-free cs places root n d p fit at free is = λ c at_c.
    let same : d ≡ c = same_Some d c (sym at ∙ at_c) in
    let own : aim_from p d ≡ aim d = ap (λ q. aim_from q d) is ∙ own-aim root d (fit_at root cs fit n d at) in
    let staged : staged_aim cs places d ≡ aim d = ap (λ x. option_map_or (λ o. moved_aim (unwrap_or (first_item (targets_of cs o)) []) (places o) (aim d)) x (aim d)) free in
    subst (λ e. aim_from p e ≡ staged_aim cs places e) same (own ∙ sym staged)

pub aims-owned : (cs : List Change) (places : ℕ → Path) (root : Element) (n o : ℕ) (d r : Change) (p : Path) → All (Fits root) cs → slice_get cs n ≡ Some d → owner cs d ≡ Some o → slice_get cs o ≡ Some r → p ≡ moved_path (aim_path r) (places o) (aim_path d) → AimsFrom cs places n p
aims-owned cs places root n o d r p fit at its at_o is = λ c at_c.
    let same : d ≡ c = same_Some d c (sym at ∙ at_c) in
    let by = owner-keeps cs d o its in
    let keeps : is_keeping r ≡ true = ap is_keeping (same_Some r by.0 (sym at_o ∙ by.1)) ∙ by.2 in
    let own : aim_from p d ≡ moved_aim (aim_path r) (places o) (aim d) = ap (λ q. aim_from q d) is ∙ moved-own root (aim_path r) (places o) d (fit_at root cs fit n d at) (owned-is-inside cs d r o its at_o) in
    let staged : staged_aim cs places d ≡ moved_aim (aim_path r) (places o) (aim d) = ap (λ x. option_map_or (λ e. moved_aim (unwrap_or (first_item (targets_of cs e)) []) (places e) (aim d)) x (aim d)) its ∙ ap (λ t. moved_aim t (places o) (aim d)) (target-is cs o r at_o keeps) in
    subst (λ e. aim_from p e ≡ staged_aim cs places e) same (own ∙ sym staged)
