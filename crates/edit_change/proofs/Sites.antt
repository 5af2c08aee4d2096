-- Which sites lie in what a change replaces: from its first slot to the gap after its last one, and nothing between two of them lies elsewhere.
--     run                           the paths of some siblings, by their parent and slots
--     any-sibling, sibling-any      some sibling passes a test
--     LeadsInto                     a path leads through one of these siblings
--     up_to-leads, leads-up_to      the paths on the way to it say so
--     later, sooner                 which list of numbers is before another one
--     LiesIn, between               a site among those of these siblings and what is in them; so is what stands between two of them
--     way-split, split-back, ends-or-goes-on     the way to a path that leads through a slot
--     Stands, stands                where a change stands
--     replaced-aim                  what a change replaces, by its aim
--     way-push                      the way to one slot more
--     TargetIn                      a change replaces one of these siblings
--     lies-strictly, lies-back      what lies in a run stands after its first slot and no further than the gap after its last one, and the other way round
use Rattle.std.specs.Prelude.{◌≡◌, ◌<◌, ◌≤◌, ◌+◌, ◌-◌, ◌⊎◌, ℕ, zero, suc, Bool, true, false, ◌&&◌, not, nat_eq, nat_le, List, [], ◌∷◌, ◌++◌, map, length, refl}
use Rattle.std.specs.List.{list_any}
use Rattle.std.proofs.Common.{ap, ap₂, sym, subst, ◌∙◌, arith, append_assoc}
use Rattle.std.proofs.lemmas.Bool.{cases_lt, or_cases, or_left, or_right, and_parts, and_from, eqb-true, eq-eqb, leb-true, false≢true, true≢false}
use Rattle.std.proofs.lemmas.Bool.Decides.{nat_tests}
use Rattle.std.proofs.lemmas.List.{map-append, length-append}
use mathlib.Core.Logic.{inl, inr}
use Rattle.cst_core.specs.Path.{Path, same_path, has_path, parent_path, last_slot, above, up_to, counted_from, siblings}
use Rattle.cst_core.specs.Element.{Element}
use Rattle.cst_core.specs.SyntaxElement.{element_of}
use Rattle.cst_core.specs.declared.element.SyntaxElement.{SyntaxElement}
use Rattle.cst_core.proofs.LastSlot.{parent-and-slot}
use Rattle.edit_change.specs.Aim.{FirstIn, AfterElement, Over}
use Rattle.edit_change.specs.Change.{targets}
use Rattle.edit_change.specs.ChangeAim.{aim}
use Rattle.edit_change.specs.Fits.{Fits, is_native, is_range, are_siblings}
use Rattle.edit_change.specs.Nesting.{surroundings}
use Rattle.edit_change.specs.PositionForm.{FirstChild, After}
use Rattle.edit_change.specs.inner.DocumentOrder.{on_the_way, site, is_before}
use Rattle.edit_change.specs.inner.Open.{replaced}
use Rattle.edit_change.specs.declared.change.Change.{Change}
use Rattle.edit_change.specs.declared.change.Change.TheVariants.{Insert, InsertAll, Replace, ReplaceWithMany, ReplaceAll}
use Rattle.edit_change.proofs.Aiming.{range-has-parent}
use Rattle.edit_change.proofs.Around.{up_to-cons, up_to_parent}
use Rattle.edit_change.proofs.Paths.{same_path-true, same_path_from}

-- ---- siblings
abbrev pub run : Path → ℕ → ℕ → List Path
run p f n = map (λ j. p ++ j ∷ []) (counted_from f n)

pub any-sibling : (test : Path → Bool) (p : Path) (f n : ℕ) → list_any test (run p f n) ≡ true → (s : ℕ) × (f ≤ s) × (s < f + n) × (test (p ++ s ∷ []) ≡ true)
any-sibling test p f zero h = absurd (false≢true h)
any-sibling test p f (suc n) h =
    elim (or_cases (test (p ++ f ∷ [])) (list_any test (run p (suc f) n)) h) [
      | inl here ↦ (f, omega arith, omega arith, here)
      | inr there ↦ let rest = any-sibling test p (suc f) n there in (rest.0, omega (arith, rest.1), omega (arith, rest.2), rest.3)
    ]

pub sibling-any : (test : Path → Bool) (p : Path) (f n s : ℕ) → f ≤ s → s < f + n → test (p ++ s ∷ []) ≡ true → list_any test (run p f n) ≡ true
sibling-any test p f zero s l m h = absurd (omega (arith, l, m))
sibling-any test p f (suc n) s l m h =
    elim (cases_lt f s) [
      | inl less ↦ or_right (test (p ++ f ∷ [])) (list_any test (run p (suc f) n)) (sibling-any test p (suc f) n s (omega (arith, less)) (omega (arith, m)) h)
      | inr not_less ↦ let e : s ≡ f = omega (arith, l, not_less) in or_left (test (p ++ f ∷ [])) (list_any test (run p (suc f) n)) (ap (λ j. test (p ++ j ∷ [])) (sym e) ∙ h)
    ]

-- ---- the paths on the way to a path
below-child : (i j : ℕ) (t : Path) (ps : List Path) → has_path (map (λ q. j ∷ q) ps) (i ∷ t) ≡ true → (i ≡ j) × (has_path ps t ≡ true)
below-child i j t [] h = absurd (false≢true h)
below-child i j t (p ∷ ps) h =
    elim (or_cases (nat_eq i j && same_path t p) (has_path (map (λ q. j ∷ q) ps) (i ∷ t)) h) [
      | inl here ↦ let both = and_parts (nat_eq i j) (same_path t p) here in (eqb-true i j both.0, or_left (same_path t p) (has_path ps t) both.1)
      | inr there ↦ let rest = below-child i j t ps there in (rest.0, or_right (same_path t p) (has_path ps t) rest.1)
    ]

in-child : (i : ℕ) (t : Path) (ps : List Path) → has_path ps t ≡ true → has_path (map (λ q. i ∷ q) ps) (i ∷ t) ≡ true
in-child i t [] h = absurd (false≢true h)
in-child i t (p ∷ ps) h =
    elim (or_cases (same_path t p) (has_path ps t) h) [
      | inl here ↦ or_left (nat_eq i i && same_path t p) (has_path (map (λ q. i ∷ q) ps) (i ∷ t)) (and_from (nat_eq i i) (same_path t p) (eq-eqb i i refl) here)
      | inr there ↦ or_right (nat_eq i i && same_path t p) (has_path (map (λ q. i ∷ q) ps) (i ∷ t)) (in-child i t ps there)
    ]

pub on-the-way : (q t : Path) → has_path (up_to q) t ≡ true → (rest : Path) × (q ≡ t ++ rest)
on-the-way q [] h = (q, refl)
on-the-way [] (i ∷ t) h = absurd (false≢true h)
on-the-way (j ∷ q) (i ∷ t) h =
    let below = below-child i j t (up_to q) (ap (λ ps. has_path ps (i ∷ t)) (sym (up_to-cons j q)) ∙ h) in
    let rest = on-the-way q t below.1 in
    (rest.0, ap₂ (λ k p. k ∷ p) (sym below.0) rest.1)

pub way-to : (t rest : Path) → has_path (up_to (t ++ rest)) t ≡ true
way-to [] [] = refl
way-to [] (j ∷ rest) = refl
way-to (i ∷ t) rest =
    ap (λ ps. has_path ps (i ∷ t)) (up_to-cons i (t ++ rest)) ∙ in-child i t (up_to (t ++ rest)) (way-to t rest)

-- a path leads through one of the n slots from f on of the node at p
pub record LeadsInto (p : Path) (f n : ℕ) (q : Path) : Type 0 where
  pub slot : ℕ
  pub rest : Path
  pub is : q ≡ p ++ slot ∷ rest
  pub from : f ≤ slot
  pub below : slot < f + n

pub up_to-leads : (p : Path) (f n : ℕ) (q : Path) → list_any (has_path (up_to q)) (run p f n) ≡ true → LeadsInto p f n q
up_to-leads p f n q h =
    let found = any-sibling (has_path (up_to q)) p f n h in
    let way = on-the-way q (p ++ found.0 ∷ []) found.3 in
    record { slot = found.0; rest = way.0; is = way.1 ∙ append_assoc p (found.0 ∷ []) way.0; from = found.1; below = found.2 }

pub leads-up_to : (p : Path) (f n : ℕ) (q : Path) → LeadsInto p f n q → list_any (has_path (up_to q)) (run p f n) ≡ true
leads-up_to p f n q into =
    let way : has_path (up_to q) (p ++ into.slot ∷ []) ≡ true = ap (λ r. has_path (up_to r) (p ++ into.slot ∷ [])) (into.is ∙ sym (append_assoc p (into.slot ∷ []) into.rest)) ∙ way-to (p ++ into.slot ∷ []) into.rest in
    sibling-any (has_path (up_to q)) p f n into.slot into.from into.below way

-- ---- sites
pub later : (x y : ℕ) (xs ys : List ℕ) → x ≡ y → is_before (x ∷ xs) (y ∷ ys) ≡ is_before xs ys
later x y xs ys h = grind (arith, nat_tests)

pub sooner : (x y : ℕ) (xs ys : List ℕ) → x < y → is_before (x ∷ xs) (y ∷ ys) ≡ true
sooner x y xs ys h = grind (arith, nat_tests)

pub record LiesIn (p : Path) (low high : ℕ) (xs : List ℕ) : Type 0 where
  pub key : ℕ
  pub more : List ℕ
  pub is : xs ≡ on_the_way p ++ key ∷ more
  pub from : low ≤ key
  pub upto : key ≤ high

-- what stands neither before the first of them nor after one of them
pub between : (p : Path) (low high : ℕ) (xs ys : List ℕ) → is_before xs (on_the_way p ++ low ∷ []) ≡ false → is_before ys xs ≡ false → LiesIn p low high ys → LiesIn p low high xs
between [] low high [] ys first last lies = absurd (true≢false first)
between [] low high (x ∷ xs) ys first last lies =
    let from : low ≤ x = elim (cases_lt x low) [ inl less ↦ absurd (true≢false (sym (sooner x low xs [] less) ∙ first)) | inr more ↦ more ] in
    let upto : x ≤ lies.key = elim (cases_lt lies.key x) [
      | inl less ↦ absurd (true≢false (sym (sooner lies.key x lies.more xs less) ∙ ap (λ z. is_before z (x ∷ xs)) (sym lies.is) ∙ last))
      | inr more ↦ more
    ] in
    record { key = x; more = xs; is = refl; from = from; upto = omega (arith, upto, lies.upto) }
between (s ∷ p) low high [] ys first last lies = absurd (true≢false first)
between (s ∷ p) low high (x ∷ xs) ys first last lies =
    let w = suc (s + s) in
    let rest = on_the_way p ++ lies.key ∷ lies.more in
    let after : is_before (w ∷ rest) (x ∷ xs) ≡ false = ap (λ z. is_before z (x ∷ xs)) (sym lies.is) ∙ last in
    let same : x ≡ w = elim (cases_lt x w) [
      | inl less ↦ absurd (true≢false (sym (sooner x w xs (on_the_way p ++ low ∷ []) less) ∙ first))
      | inr more ↦ elim (cases_lt w x) [
        | inl less ↦ absurd (true≢false (sym (sooner w x rest xs less) ∙ after))
        | inr not_less ↦ omega (arith, more, not_less)
      ]
    ] in
    let inner = between p low high xs rest (sym (later x w xs (on_the_way p ++ low ∷ []) same) ∙ first) (sym (later w x rest xs (sym same)) ∙ after) (record { key = lies.key; more = lies.more; is = refl; from = lies.from; upto = lies.upto }) in
    record { key = inner.key; more = inner.more; is = ap₂ (λ k ks. k ∷ ks) same inner.is; from = inner.from; upto = inner.upto }

-- what stands after the first of them
after-first : (p : Path) (low key : ℕ) (more : List ℕ) → (low < key) ⊎ ((low ≤ key) × (0 < length more)) → is_before (on_the_way p ++ low ∷ []) (on_the_way p ++ key ∷ more) ≡ true
after-first [] low key more (inl less) = sooner low key [] more less
after-first [] low key [] (inr both) = let l = both.1 in absurd (omega (arith, l))
after-first [] low key (x ∷ more) (inr both) =
    elim (cases_lt low key) [
      | inl less ↦ sooner low key [] (x ∷ more) less
      | inr not_less ↦ later low key [] (x ∷ more) (omega (arith, not_less, both.0))
    ]
after-first (s ∷ p) low key more l =
    later (suc (s + s)) (suc (s + s)) (on_the_way p ++ low ∷ []) (on_the_way p ++ key ∷ more) refl ∙ after-first p low key more l

-- ---- the way to a path that leads through a slot, and what comes after it
pub way-split : (p : Path) (s : ℕ) (rest : Path) (tail : List ℕ) → on_the_way (p ++ s ∷ rest) ++ tail ≡ on_the_way p ++ suc (s + s) ∷ (on_the_way rest ++ tail)
way-split [] s rest tail = refl
way-split (i ∷ p) s rest tail = ap (λ xs. suc (i + i) ∷ xs) (way-split p s rest tail)

abbrev pub Through : Path → Path → ℕ → Type 0
Through p q key = (s : ℕ) × (rest : Path) × (q ≡ p ++ s ∷ rest) × (key ≡ suc (s + s))

pub split-back : (q p : Path) (t key : ℕ) (more : List ℕ) → on_the_way q ++ t ∷ [] ≡ on_the_way p ++ key ∷ more → Through p q key ⊎ ((q ≡ p) × (t ≡ key))
split-back [] [] t key more e = inr (refl, cc)
split-back [] (i ∷ p) t key more e =
    let l = ap length e in
    absurd (omega (arith, l, length-append (on_the_way p) (key ∷ more)))
split-back (j ∷ q) [] t key more e = inl (j, q, refl, cc)
split-back (j ∷ q) (i ∷ p) t key more e =
    let heads : suc (j + j) ≡ suc (i + i) = cc in
    let tails : on_the_way q ++ t ∷ [] ≡ on_the_way p ++ key ∷ more = cc in
    let same : j ≡ i = omega (arith, heads) in
    elim (split-back q p t key more tails) [
      | inl through ↦ inl (through.0, through.1, ap₂ (λ k r. k ∷ r) same through.2, through.3)
      | inr ends ↦ inr (ap₂ (λ k r. k ∷ r) same ends.0, ends.1)
    ]

-- the slot in which a path ends, or goes on
pub ends-or-goes-on : (q p : Path) (l s : ℕ) (rest : Path) → q ++ l ∷ [] ≡ p ++ s ∷ rest → ((q ≡ p) × (l ≡ s)) ⊎ ((more : Path) × (q ≡ p ++ s ∷ more))
ends-or-goes-on [] [] l s rest e = inl (refl, cc)
ends-or-goes-on [] (i ∷ p) l s rest e =
    let n = ap length e in
    absurd (omega (arith, n, length-append p (s ∷ rest)))
ends-or-goes-on (j ∷ q) [] l s rest e = let same : j ≡ s = cc in inr (q, ap (λ k. k ∷ q) same)
ends-or-goes-on (j ∷ q) (i ∷ p) l s rest e =
    let same : j ≡ i = cc in
    let tails : q ++ l ∷ [] ≡ p ++ s ∷ rest = cc in
    elim (ends-or-goes-on q p l s rest tails) [
      | inl ends ↦ inl (ap₂ (λ k r. k ∷ r) same ends.0, ends.1)
      | inr on ↦ inr (on.0, ap₂ (λ k r. k ∷ r) same on.1)
    ]

-- ---- where a change stands
pub replaced-aim : (c : Change) → replaced (aim c) ≡ targets c
replaced-aim (Insert (FirstChild n) e) = refl
replaced-aim (Insert (After n) e) = refl
replaced-aim (InsertAll (FirstChild n) es) = refl
replaced-aim (InsertAll (After n) es) = refl
replaced-aim (Replace t e) = refl
replaced-aim (ReplaceWithMany t es) = refl
replaced-aim (ReplaceAll first last es) = refl

-- first in a node, after an element, over the top, over a run of siblings
pub data Stands (c : Change) : Type 0 where
  First : (q : Path) → aim c ≡ FirstIn q → surroundings c ≡ up_to q → Stands c
  Behind : (q : Path) → aim c ≡ AfterElement q → surroundings c ≡ up_to q → Stands c
  Whole : aim c ≡ Over ([] ∷ []) → surroundings c ≡ [] → Stands c
  Run : (p : Path) (f k : ℕ) → aim c ≡ Over (run p f (suc k)) → surroundings c ≡ up_to p → Stands c

one-stands : (c : Change) (p : Path) → aim c ≡ Over (p ∷ []) → surroundings c ≡ above p → Stands c
one-stands c [] a s = Whole a s
one-stands c (i ∷ p) a s =
    Run (parent_path (i ∷ p)) (last_slot (i ∷ p)) 0 (a ∙ ap (λ q. Over (q ∷ [])) (parent-and-slot i p)) (s ∙ sym (up_to_parent (i ∷ p) (λ none. cc)))

range-stands : (c : Change) (p q : Path) (some : p ≡ [] → ⊥) → last_slot p ≤ last_slot q → aim c ≡ Over (siblings p q) → surroundings c ≡ above p → Stands c
range-stands c p q some l a s =
    let long : suc (last_slot q) - last_slot p ≡ suc (last_slot q - last_slot p) = omega (arith, l) in
    Run (parent_path p) (last_slot p) (last_slot q - last_slot p) (a ∙ ap (λ n. Over (run (parent_path p) (last_slot p) n)) long) (s ∙ sym (up_to_parent p some))

range-slots : (first last : SyntaxElement) → is_range first last ≡ true → last_slot (element_of first).path ≤ last_slot (element_of last).path
range-slots first last h =
    elim (or_cases (same_path (element_of first).path (element_of last).path) _ h) [
      | inl same ↦ let e = ap last_slot (same_path-true (element_of first).path (element_of last).path same) in omega (arith, e)
      | inr beside ↦ leb-true (last_slot (element_of first).path) (last_slot (element_of last).path) (and_parts (are_siblings first last) (nat_le (last_slot (element_of first).path) (last_slot (element_of last).path)) beside).1
    ]

pub stands : (root : Element) (c : Change) → Fits root c → Stands c
stands root (Insert (FirstChild n) e) fits = First n.path refl refl
stands root (Insert (After n) e) fits = Behind (element_of n).path refl refl
stands root (InsertAll (FirstChild n) es) fits = First n.path refl refl
stands root (InsertAll (After n) es) fits = Behind (element_of n).path refl refl
stands root (Replace t e) fits = one-stands (Replace t e) (element_of t).path refl refl
stands root (ReplaceWithMany t es) fits = one-stands (ReplaceWithMany t es) (element_of t).path refl refl
stands root (ReplaceAll first last es) fits =
    let whole = and_parts (is_native root first && is_native root last && is_range first last) (not (same_path (element_of first).path (element_of last).path)) fits in
    let range = and_parts (is_native root first && is_native root last) (is_range first last) whole.0 in
    range-stands (ReplaceAll first last es) (element_of first).path (element_of last).path (range-has-parent root first last es fits) (range-slots first last range.1) refl refl

-- ---- what lies in a run
abbrev LiesThere : Path → ℕ → ℕ → List ℕ → Type 0
LiesThere p f n xs = LiesIn p (suc (f + f)) (f + n + (f + n)) xs × (is_before (on_the_way p ++ suc (f + f) ∷ []) xs ≡ true)

leads-lies : (p : Path) (f n : ℕ) (q : Path) (t : ℕ) → LeadsInto p f n q → LiesThere p f n (on_the_way q ++ t ∷ [])
leads-lies p f n q t into =
    let s = into.slot in
    let more = on_the_way into.rest ++ t ∷ [] in
    let is : on_the_way q ++ t ∷ [] ≡ on_the_way p ++ suc (s + s) ∷ more = ap (λ r. on_the_way r ++ t ∷ []) into.is ∙ way-split p s into.rest (t ∷ []) in
    let low : suc (f + f) ≤ suc (s + s) = omega (arith, into.from) in
    let long : 0 < length more = omega (arith, length-append (on_the_way into.rest) (t ∷ [])) in
    (record { key = suc (s + s); more = more; is = is; from = low; upto = omega (arith, into.below) }, ap (is_before (on_the_way p ++ suc (f + f) ∷ [])) is ∙ after-first p (suc (f + f)) (suc (s + s)) more (inr (low, long)))

ends-lies : (p : Path) (f n l : ℕ) → f ≤ l → l < f + n → LiesThere p f n (on_the_way p ++ (suc l + suc l) ∷ [])
ends-lies p f n l from below =
    (record { key = suc l + suc l; more = []; is = refl; from = omega (arith, from); upto = omega (arith, below) }, after-first p (suc (f + f)) (suc l + suc l) [] (inl (omega (arith, from))))

after-lies : (p : Path) (f n : ℕ) (q : Path) → LeadsInto p f n q → LiesThere p f n (site (AfterElement q))
after-lies p f n [] into = let l = ap length into.is in absurd (omega (arith, l, length-append p (into.slot ∷ into.rest)))
after-lies p f n (i ∷ q) into =
    let l = last_slot (i ∷ q) in
    elim (ends-or-goes-on (parent_path (i ∷ q)) p l into.slot into.rest (sym (parent-and-slot i q) ∙ into.is)) [
      | inl ends ↦ subst (λ r. LiesThere p f n (on_the_way r ++ (suc l + suc l) ∷ [])) (sym ends.0) (ends-lies p f n l (omega (arith, into.from, ends.1)) (omega (arith, into.below, ends.1)))
      | inr on ↦ leads-lies p f n (parent_path (i ∷ q)) (suc l + suc l) (record { slot = into.slot; rest = on.0; is = on.1; from = into.from; below = into.below })
    ]

pub way-push : (p : Path) (g : ℕ) → on_the_way (p ++ g ∷ []) ≡ on_the_way p ++ suc (g + g) ∷ []
way-push p g = map-append (λ s. suc (s + s)) p (g ∷ [])

pub lies-strictly : (c : Change) → Stands c → (p : Path) (f n : ℕ) → list_any (has_path (surroundings c)) (run p f n) ≡ true → LiesThere p f n (site (aim c))
lies-strictly c (First q a s) p f n h =
    subst (λ x. LiesThere p f n (site x)) (sym a) (leads-lies p f n q 0 (up_to-leads p f n q (ap (λ ps. list_any (has_path ps) (run p f n)) (sym s) ∙ h)))
lies-strictly c (Behind q a s) p f n h =
    subst (λ x. LiesThere p f n (site x)) (sym a) (after-lies p f n q (up_to-leads p f n q (ap (λ ps. list_any (has_path ps) (run p f n)) (sym s) ∙ h)))
lies-strictly c (Whole a s) p f n h =
    absurd (false≢true (sym (none (run p f n)) ∙ ap (λ ps. list_any (has_path ps) (run p f n)) (sym s) ∙ h))
  where
    none : (qs : List Path) → list_any (has_path []) qs ≡ false
    none [] = refl
    none (q ∷ qs) = none qs
lies-strictly c (Run q g k a s) p f n h =
    let there = leads-lies p f n q (suc (g + g)) (up_to-leads p f n q (ap (λ ps. list_any (has_path ps) (run p f n)) (sym s) ∙ h)) in
    subst (LiesThere p f n) (sym (ap site a ∙ way-push q g)) there

-- ---- the other way round
abbrev pub TargetIn : Path → ℕ → ℕ → Change → Type 0
TargetIn p f n c = (g : ℕ) × (f ≤ g) × (g < f + n) × (has_path (targets c) (p ++ g ∷ []) ≡ true)

through-into : (p : Path) (f n : ℕ) (q : Path) (key : ℕ) → suc (f + f) ≤ key → key ≤ f + n + (f + n) → Through p q key → LeadsInto p f n q
through-into p f n q key low high through =
    let key_is = through.3 in
    record { slot = through.0; rest = through.1; is = through.2; from = omega (arith, low, key_is); below = omega (arith, high, key_is) }

leads-around : (c : Change) (q p : Path) (f n : ℕ) → surroundings c ≡ up_to q → LeadsInto p f n q → list_any (has_path (surroundings c)) (run p f n) ≡ true
leads-around c q p f n s into = ap (λ ps. list_any (has_path ps) (run p f n)) s ∙ leads-up_to p f n q into

pub lies-back : (c : Change) → Stands c → (p : Path) (f n : ℕ) → LiesIn p (suc (f + f)) (f + n + (f + n)) (site (aim c)) → (list_any (has_path (surroundings c)) (run p f n) ≡ true) ⊎ TargetIn p f n c
lies-back c (First q a s) p f n lies =
    elim (split-back q p 0 lies.key lies.more (sym (ap site a) ∙ lies.is)) [
      | inl through ↦ inl (leads-around c q p f n s (through-into p f n q lies.key lies.from lies.upto through))
      | inr ends ↦ let none = ends.1 in absurd (omega (arith, none, lies.from))
    ]
lies-back c (Behind [] a s) p f n lies =
    elim (split-back [] p 0 lies.key lies.more (sym (ap site a) ∙ lies.is)) [
      | inl through ↦ let l = ap length through.2 in absurd (omega (arith, l, length-append p (through.0 ∷ through.1)))
      | inr ends ↦ let none = ends.1 in absurd (omega (arith, none, lies.from))
    ]
lies-back c (Behind (i ∷ q) a s) p f n lies =
    let parent = parent_path (i ∷ q) in
    let l = last_slot (i ∷ q) in
    let into : LeadsInto p f n (i ∷ q) = elim (split-back parent p (suc l + suc l) lies.key lies.more (sym (ap site a) ∙ lies.is)) [
      | inl through ↦
          let inner = through-into p f n parent lies.key lies.from lies.upto through in
          record { slot = inner.slot; rest = inner.rest ++ l ∷ []; is = parent-and-slot i q ∙ ap (λ r. r ++ l ∷ []) inner.is ∙ append_assoc p (inner.slot ∷ inner.rest) (l ∷ []); from = inner.from; below = inner.below }
      | inr ends ↦
          let key_is = ends.1 in
          record { slot = l; rest = []; is = parent-and-slot i q ∙ ap (λ r. r ++ l ∷ []) ends.0; from = omega (arith, key_is, lies.from); below = omega (arith, key_is, lies.upto) }
    ] in
    inl (leads-around c (i ∷ q) p f n s into)
lies-back c (Whole a s) p f n lies =
    let l = ap length (sym (ap site a) ∙ lies.is) in
    absurd (omega (arith, l, length-append (on_the_way p) (lies.key ∷ lies.more)))
lies-back c (Run q g k a s) p f n lies =
    elim (split-back q p (suc (g + g)) lies.key lies.more (sym (ap site a ∙ way-push q g) ∙ lies.is)) [
      | inl through ↦ inl (leads-around c q p f n s (through-into p f n q lies.key lies.from lies.upto through))
      | inr ends ↦
          let key_is = ends.1 in
          let first : has_path (run q g (suc k)) (p ++ g ∷ []) ≡ true = or_left (same_path (p ++ g ∷ []) (q ++ g ∷ [])) (has_path (run q (suc g) k) (p ++ g ∷ [])) (same_path_from (p ++ g ∷ []) (q ++ g ∷ []) (ap (λ r. r ++ g ∷ []) (sym ends.0))) in
          inr (g, omega (arith, key_is, lies.from), omega (arith, key_is, lies.upto), ap (λ ps. has_path ps (p ++ g ∷ [])) (sym (replaced-aim c) ∙ ap replaced a) ∙ first)
    ]
