use Rattle.std.specs.Prelude.{◌↔◌, IsTrue}
use Rattle.std.proofs.Common.{◌≡◌, ℕ, [], refl, sym, ap, ◌∙◌, rules}
use Rattle.std.proofs.lemmas.Bool.{false≢true}
use Rattle.cst_core.specs.Path.{Path}
use Rattle.edit_change.specs.Aim.{FirstIn, AfterElement, Over}
use Rattle.edit_change.specs.ChangeAim.{aim, aim_path}
use Rattle.edit_change.specs.PositionForm.{FirstChild, After}
use Rattle.edit_change.specs.inner.Aimed.{aim_in, siblings_from}
use Rattle.edit_change.specs.inner.AimFrom.{aim_from}
use Rattle.edit_change.specs.declared.change.Change.{Change}
use Rattle.edit_change.specs.declared.change.Change.TheVariants.{Insert, InsertAll, Replace, ReplaceWithMany, ReplaceAll}
use Rattle.edit_change.proofs.change.Change.is_after.Goals as goal

-- what aims first in a node aims after no element
not-first : (c : Change) (p : Path) → ((q : Path) → FirstIn q ≡ aim_from q c) → aim c ≡ AfterElement p → ⊥
not-first (Insert (FirstChild n) e) p told is = cc
not-first (Insert (After e) x) p told is = let h = told [] in cc
not-first (InsertAll (FirstChild n) e) p told is = cc
not-first (InsertAll (After e) x) p told is = let h = told [] in cc
not-first (Replace t e) p told is = cc
not-first (ReplaceWithMany t es) p told is = cc
not-first (ReplaceAll f l es) p told is = cc

-- nor does what aims over some
not-over : (n : ℕ) (c : Change) (p : Path) → ((q : Path) → Over (siblings_from q n) ≡ aim_from q c) → aim c ≡ AfterElement p → ⊥
not-over n (Insert (FirstChild m) e) p told is = cc
not-over n (Insert (After e) x) p told is = let h = told [] in cc
not-over n (InsertAll (FirstChild m) e) p told is = cc
not-over n (InsertAll (After e) x) p told is = let h = told [] in cc
not-over n (Replace t e) p told is = cc
not-over n (ReplaceWithMany t es) p told is = cc
not-over n (ReplaceAll f l es) p told is = cc

-- what aims after an element does so after the one at its path
after-own : (c : Change) → ((q : Path) → AfterElement q ≡ aim_from q c) → aim c ≡ AfterElement (aim_path c)
after-own (Insert (FirstChild n) e) told = let h = told [] in cc
after-own (Insert (After e) x) told = refl
after-own (InsertAll (FirstChild n) e) told = let h = told [] in cc
after-own (InsertAll (After e) x) told = refl
after-own (Replace t e) told = let h = told [] in cc
after-own (ReplaceWithMany t es) told = let h = told [] in cc
after-own (ReplaceAll f l es) told = let h = told [] in cc

pub returns-in-FirstIn : goal.returns-in-FirstIn
returns-in-FirstIn c =
    let none = not-first c.args.self.now c.args.path.now (λ q. ap (aim_in q) (sym c.in-FirstIn.is) ∙ c.aim_form.ensures q) in
    (λ t. absurd (false≢true t), λ is. absurd (none is))

pub returns-in-Over : goal.returns-in-Over
returns-in-Over c =
    let none = not-over c.in-Over.field-0 c.args.self.now c.args.path.now (λ q. ap (aim_in q) (sym c.in-Over.is) ∙ c.aim_form.ensures q) in
    (λ t. absurd (false≢true t), λ is. absurd (none is))

after-same : (p q : Path) → AfterElement p ≡ AfterElement q → p ≡ q
after-same p q same = cc

pub returns-in-AfterElement : goal.returns-in-AfterElement
returns-in-AfterElement c =
    let own = after-own c.args.self.now (λ q. ap (aim_in q) (sym c.in-AfterElement.is) ∙ c.aim_form.ensures q) in
    let same : IsTrue c.eq.result ↔ (aim_path c.args.self.now ≡ c.args.path.now) = search rules in
    (λ t. own ∙ ap AfterElement (same.0 t), λ is. same.1 (after-same _ _ (sym own ∙ is)))
