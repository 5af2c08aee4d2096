use Rattle.std.proofs.Common.{◌≡◌, None, Some, ap, arith, length, refl, sym, ◌∙◌}
use Rattle.std.specs.Prelude.{slice_index}
use Rattle.std.proofs.lemmas.Bool.{cases_eq, cases_lt, false≢true}
use Rattle.std.proofs.lemmas.Option.{none-some, same_Some}
use mathlib.Core.Logic.{inl, inr}
use Rattle.edit_steps.specs.inner.Followers.{link}
use Rattle.edit_steps.proofs.Tables.{get-past}
use Rattle.edit_steps.proofs.order.keeps.Goals as goal
use Rattle.edit_steps.proofs.order.keeps.Goals.{in-Some+else-indices-after, in_default}

pub loop-number-init : goal.loop-number-init
loop-number-init c = λ n m before is. absurd (omega (arith, before))

pub offset_bounds-links-number : goal.offset_bounds-links-number
offset_bounds-links-number c = omega (arith, c.loop-number-test.true)

pub bounds-links-number : goal.bounds-links-number
bounds-links-number c = c.loop-number-test.true

pub offset_bounds-indices-after : goal.offset_bounds-indices-after
offset_bounds-indices-after c = omega (arith, c.requires.within c.loop-number.number c.in-Some.after c.in-Some.is)

pub bounds-indices-after : goal.bounds-indices-after
bounds-indices-after c = c.requires.within c.loop-number.number c.in-Some.after c.in-Some.is

pub offset_bounds-indices-number : goal.offset_bounds-indices-number
offset_bounds-indices-number c = omega (arith, c.loop-number-test.true, c.requires.long)

pub bounds-indices-number : goal.bounds-indices-number
bounds-indices-number c = omega (arith, c.loop-number-test.true, c.requires.long)

pub returns-then-indices-after : goal.returns-then-indices-after
returns-then-indices-after c =
    (λ h. absurd (false≢true h), λ keeps. absurd (omega (arith, keeps c.loop-number.number c.in-Some.after c.in-Some.is, c.if-indices-after.true)))

pub loop-number-preserved : goal.loop-number-preserved
loop-number-preserved c = λ n m before is.
    let k = c.loop-number.number in
    let indices = c.args.indices.now in
    elim (cases_eq n k) [
      | inl same ↦
          let here : link c.args.links.now k ≡ Some m = ap (link c.args.links.now) (sym same) ∙ is in
          elim c.match-link.branch [
            | in-Some+else-indices-after w ↦
                let after = same_Some w.in-Some.after m (sym w.in-Some.is ∙ here) in
                omega (arith, w.if-indices-after.false, ap (slice_index indices) after, ap (slice_index indices) same)
            | in_default w ↦ absurd (none-some m (sym w.in_default.is ∙ here))
          ]
      | inr apart ↦ c.loop-number.invariant n m (omega (arith, before, apart)) is
    ]

pub returns : goal.returns
returns c =
    let links = c.args.links.now in (
      λ h n m is.
          (elim (cases_lt n (length links)) [
            | inl within ↦ c.loop-number.invariant n m (omega (arith, within, c.loop-number-test.false)) is
            | inr past ↦ absurd (none-some m (sym (get-past links n None past) ∙ is))
          ]),
      λ keeps. refl,
    )
