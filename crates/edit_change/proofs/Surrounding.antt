-- Whether an aim replaces the element at a path, and one on the way to it, by slots.
--     none-surrounds                no path
--     not-over                      an aim that replaces nothing
--     top-decides, none-above       of the top; the top by others
--     slots-decide                  of the element in a slot
--     way-replaced, too-short       the part of the path that is as long decides; there is none
use Rattle.std.specs.Prelude.{◌≡◌, ◌<◌, ◌≤◌, ◌+◌, ℕ, zero, suc, Bool, true, false, List, [], ◌∷◌, ◌++◌, take, drop, length, refl}
use Rattle.std.specs.List.{list_any}
use Rattle.std.proofs.Common.{ap, ap₂, sym, ◌∙◌, arith, append_assoc}
use Rattle.std.proofs.lemmas.Bool.{or_left, false_from_ne_true, false≢true}
use Rattle.std.proofs.lemmas.List.{take-append-drop, length-append}
use Rattle.cst_core.specs.Path.{Path, same_path, has_path, parent_path, last_slot, up_to}
use Rattle.cst_core.proofs.LastSlot.{parent-and-slot, parent_path-push, last_slot-push}
use Rattle.edit_change.specs.Aim.{Over, replaces}
use Rattle.edit_change.specs.inner.Aimed.{siblings_from, aim_in}
use Rattle.edit_change.specs.inner.Open.{surrounds}
use Rattle.edit_change.specs.declared.aimed.AimForm.{AimForm}
use Rattle.edit_change.specs.declared.aimed.AimForm.TheVariants as form
use Rattle.edit_change.proofs.Paths.{same_path-true, same_path_from}
use Rattle.edit_change.proofs.Positions.{same-test}
use Rattle.edit_change.proofs.Shared.{same-parent, slot-replaced}
use Rattle.edit_change.proofs.Sites.{run, any-sibling, sibling-any, way-to, up_to-leads, leads-up_to}

pub none-surrounds : (p : Path) (w : AimForm) → false ≡ surrounds [] (aim_in p w)
none-surrounds p form.FirstIn = refl
none-surrounds p form.AfterElement = refl
none-surrounds p (form.Over n) = sym (never (siblings_from p n))
  where
    never : (ps : List Path) → list_any (has_path []) ps ≡ false
    never [] = refl
    never (p ∷ ps) = never ps

pub not-over : (p : Path) (w : AimForm) (q : Path) → ((n : ℕ) → w ≡ form.Over n → ⊥) → false ≡ replaces q (aim_in p w)
not-over p form.FirstIn q never = refl
not-over p form.AfterElement q never = refl
not-over p (form.Over n) q never = absurd (never n refl)

-- ---- the element at a path
pub top-decides : (w q : Path) (n : ℕ) (b : Bool) → w ≡ [] → (b ≡ true → (q ≡ []) × (0 < n)) → (q ≡ [] → 0 < n → b ≡ true) → b ≡ replaces q (Over (siblings_from w n))
top-decides w q n b none to back = same-test b (has_path (siblings_from [] n) q) (λ h. there q n (to h)) (λ h. let both = only q n h in back both.0 both.1) ∙ ap (λ v. replaces q (Over (siblings_from v n))) (sym none)
  where
    there : (q : Path) (n : ℕ) → (q ≡ []) × (0 < n) → has_path (siblings_from [] n) q ≡ true
    there q zero both = absurd (omega (arith, both.1))
    there [] (suc n) both = refl
    there (i ∷ q) (suc n) both = let l = ap length both.0 in absurd (omega (arith, l))

    only : (q : Path) (n : ℕ) → has_path (siblings_from [] n) q ≡ true → (q ≡ []) × (0 < n)
    only q zero h = absurd (false≢true h)
    only [] (suc n) h = (refl, omega arith)
    only (i ∷ q) (suc n) h = absurd (false≢true h)

no-slots : (q : Path) → length q ≡ 0 → q ≡ []
no-slots [] e = refl
no-slots (i ∷ q) e = absurd (omega (arith, e))

as-run : (w p : Path) (f n : ℕ) → w ≡ p ++ f ∷ [] → siblings_from w n ≡ run p f n
as-run [] p f n is = let l = ap length is in absurd (omega (arith, l, length-append p (f ∷ [])))
as-run (i ∷ w) p f n is = ap₂ (λ r s. run r s n) (ap parent_path is ∙ parent_path-push p f) (ap last_slot is ∙ last_slot-push p f)

module _ (w q : Path) (n : ℕ) (p : Path) (f : ℕ) (is_w : w ≡ p ++ f ∷ []) where
  pub none-above : length q ≡ 0 → false ≡ replaces q (Over (siblings_from w n))
  none-above none =
      sym (false_from_ne_true (has_path (siblings_from w n) q) (λ h.
      let found = any-sibling (same_path []) p f n (sym (ap₂ has_path (as-run w p f n is_w) (no-slots q none)) ∙ h) in
      let l = ap length (same_path-true [] (p ++ found.0 ∷ []) found.3) in
      absurd (omega (arith, l, length-append p (found.0 ∷ [])))))

  pub slots-decide : (r : Path) (s : ℕ) (b : Bool) → q ≡ r ++ s ∷ [] → (b ≡ true → (r ≡ p) × (f ≤ s) × (s < f + n)) → (r ≡ p → f ≤ s → s < f + n → b ≡ true) → b ≡ replaces q (Over (siblings_from w n))
  slots-decide r s b is_q to back = same-test b (has_path (run p f n) (r ++ s ∷ [])) (λ h. let told = to h in ap (λ u. has_path (run p f n) (u ++ s ∷ [])) told.0 ∙ slot-replaced p f n s told.1 told.2) (λ h.
      let found = any-sibling (same_path (r ++ s ∷ [])) p f n h in
      let same = same-parent p r found.0 s (same_path-true (r ++ s ∷ []) (p ++ found.0 ∷ []) found.3) in
      let slot = same.1 in
      back same.0 (omega (arith, slot, found.1)) (omega (arith, slot, found.2))) ∙ sym (ap₂ has_path (as-run w p f n is_w) is_q)

-- ---- one on the way to it
front : (p : Path) (rest : Path) → take (length p) (p ++ rest) ≡ p
front [] [] = refl
front [] (i ∷ rest) = refl
front (i ∷ p) rest = ap (λ q. i ∷ q) (front p rest)

pub way-replaced : (p : Path) (w : AimForm) (q : Path) → length p ≤ length q → replaces (take (length p) q) (aim_in p w) ≡ surrounds (up_to q) (aim_in p w)
way-replaced p form.FirstIn q l = refl
way-replaced p form.AfterElement q l = refl
way-replaced [] (form.Over zero) q l = refl
way-replaced [] (form.Over (suc n)) q l = top q ∙ sym (or_left (has_path (up_to q) []) false (way-to [] q))
  where
    top : (q : Path) → has_path ([] ∷ []) (take 0 q) ≡ true
    top [] = refl
    top (i ∷ q) = refl
way-replaced (i ∷ p) (form.Over n) q l =
    let r = parent_path (i ∷ p) in
    let f = last_slot (i ∷ p) in
    let k = length (i ∷ p) in
    let long = ap length (parent-and-slot i p) in
    let as-long : (s : ℕ) → k ≡ length (r ++ s ∷ []) = λ s. omega (arith, long, length-append r (f ∷ []), length-append r (s ∷ [])) in
    same-test (has_path (run r f n) (take k q)) (list_any (has_path (up_to q)) (run r f n)) (λ h.
    let found = any-sibling (same_path (take k q)) r f n h in
    let is = same_path-true (take k q) (r ++ found.0 ∷ []) found.3 in
    leads-up_to r f n q (record { slot = found.0; rest = drop k q; is = sym (take-append-drop k q) ∙ ap (λ u. u ++ drop k q) is ∙ append_assoc r (found.0 ∷ []) (drop k q); from = found.1; below = found.2 })) (λ h.
    let into = up_to-leads r f n q h in
    let way : take k q ≡ r ++ into.slot ∷ [] = ap₂ take (as-long into.slot) (into.is ∙ sym (append_assoc r (into.slot ∷ []) into.rest)) ∙ front (r ++ into.slot ∷ []) into.rest in
    sibling-any (same_path (take k q)) r f n into.slot into.from into.below (same_path_from (take k q) (r ++ into.slot ∷ []) way))

pub too-short : (p : Path) (w : AimForm) (q : Path) → length q < length p → false ≡ surrounds (up_to q) (aim_in p w)
too-short p form.FirstIn q l = refl
too-short p form.AfterElement q l = refl
too-short [] (form.Over n) q l = absurd (omega (arith, l))
too-short (i ∷ p) (form.Over n) q l =
    let r = parent_path (i ∷ p) in
    let f = last_slot (i ∷ p) in
    let long = ap length (parent-and-slot i p) in
    sym (false_from_ne_true (list_any (has_path (up_to q)) (run r f n)) (λ h.
    let into = up_to-leads r f n q h in
    let m = ap length into.is in
    absurd (omega (arith, l, long, length-append r (f ∷ []), m, length-append r (into.slot ∷ into.rest)))))
