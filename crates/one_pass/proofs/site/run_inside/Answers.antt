use Rattle.std.proofs.Common.{◌≡◌, ◌<◌, ℕ, [], get_or, arith, below_more, refl, subst, ◌∙◌}
use Rattle.edit_change.specs.inner.Aimed.{FormedAim}
use Rattle.edit_change.specs.declared.aimed.Aimed.{Aimed}
use Rattle.edit_change.specs.declared.aimed.AimForm.TheVariants.{FirstIn}
use Rattle.one_pass.specs.inner.Sweep.{lowered, inside_one, IsSite, IsBelow}
use Rattle.one_pass.specs.declared.site.Site.{Site}
use Rattle.one_pass.specs.declared.site.Site.TheVariants.{Gap, Slots, Below, Nowhere}
use Rattle.one_pass.proofs.OneAim.{gap-slots, run-inside, below-inside}
use Rattle.one_pass.proofs.Sweeping.{at-any}
use Rattle.one_pass.proofs.site.run_inside.Goals as goal

-- what stands elsewhere is not inside the child
not-inside : (i : ℕ) (a : FormedAim) → inside_one i a ≡ [] → IsBelow i a → ⊥
not-inside i a none below = let some = below-inside i a below in cc

elsewhere : (n i : ℕ) (a : FormedAim) (r : Site) → i < n → IsSite n a r → ((s : ℕ) → r ≡ Below s → s ≡ i → ⊥) → IsBelow i a → ⊥
elsewhere n i a (Gap g) l is other below = not-inside i a (gap-slots g a.change a.path a.form is.1 i).inside below
elsewhere n i a (Slots f k) l is other below = not-inside i a (run-inside f k a.change a.path a.form is.1 i) below
elsewhere n i a (Below s) l is other below =
    let one = is.1.1 in
    let two = below.1 in
    other s refl (cc)
elsewhere n i a Nowhere l is other below = not-inside i a (is.slots i l).inside below

same-child : (r : Site) (s t : ℕ) → r ≡ Below s → r ≡ Below t → s ≡ t
same-child r s t one two = cc

abbrev none : Aimed
none = record { change = 0; path = record { ref_ptr = (0, 0); now = [] }; form = FirstIn }

pub loop-end-preserved : goal.loop-end-preserved
loop-end-preserved c =
    let aims = c.args.aims.now in
    let end : ℕ = c.loop-end.end in
    let depth : ℕ = c.args.depth in
    let slot : ℕ = c.args.slot in
    let here = subst (λ s. IsBelow s (lowered depth (get_or aims end none))) c.if-below-slot.false c.in-Below.ensures.1 in
    λ k d l. below_more (λ j. (e : Aimed) → IsBelow slot (lowered depth (get_or aims j e))) end (λ j m e. c.loop-end.invariant j e m) (λ e. subst (λ a. IsBelow slot (lowered depth a)) (at-any aims end none e c.loop-end-test.true) here) k l d

pub returns-in_default : goal.returns-in_default
returns-in_default c =
    let aims = c.args.aims.now in
    let end : ℕ = c.loop-end.end in
    let depth : ℕ = c.args.depth in
    let slot : ℕ = c.args.slot in
    record {
      within = omega (arith, c.loop-end-test.true);
      inside = c.loop-end.invariant;
      end = λ d l below. elsewhere c.args.count slot (lowered depth (get_or aims end none)) c.site_of.result c.requires c.site_of.ensures (λ s is same. c.in_default.not-Below s is) (subst (λ a. IsBelow slot (lowered depth a)) (at-any aims end d none l) below);
    }

pub returns-then-below-slot : goal.returns-then-below-slot
returns-then-below-slot c =
    let aims = c.args.aims.now in
    let end : ℕ = c.loop-end.end in
    let depth : ℕ = c.args.depth in
    let slot : ℕ = c.args.slot in
    record {
      within = omega (arith, c.loop-end-test.true);
      inside = c.loop-end.invariant;
      end = λ d l below. elsewhere c.args.count slot (lowered depth (get_or aims end none)) c.site_of.result c.requires c.site_of.ensures (λ s is same. c.if-below-slot.true (same-child c.site_of.result c.in-Below.below s c.in-Below.is is ∙ same)) (subst (λ a. IsBelow slot (lowered depth a)) (at-any aims end d none l) below);
    }
