use Rattle.std.proofs.Common.{◌≡◌, ◌<◌, ◌^◌, ◌++◌, ◌∷◌, [], ℕ, None, IsSome, Ok, Err, inl, inr, sym, ◌∙◌, ap, subst, arith}
use Rattle.std.proofs.lemmas.Bool.{false≢true, cases_Bool}
use Rattle.tree_text.specs.KindNames.{is_name, name_in}
use Rattle.syned_script.specs.State.{IsFree}
use Rattle.syned_script.specs.inner.Stops.{StopsFor}
use Rattle.syned_script.proofs.kinds.name_kind.Goals as goal

pub returns-in_default-clause-stops : goal.returns-in_default-clause-stops
returns-in_default-clause-stops c =
    subst (StopsFor (IsFree c.args.names.now c.args.field.text.now → ⊥) (λ r. ⊥)) (sym c.bad.ensures) (λ free. let within = free.1 in absurd (omega (arith, within, c.in_default.ensures)))

pub returns-in-Ok-clause-named : goal.returns-in-Ok-clause-named
returns-in-Ok-clause-named c =
    c.in-Ok.ensures.ok ∙ ap (λ (k : ℕ). c.args.names.now ++ (k, c.args.field.text.now) ∷ []) c.in-Some.ensures.0

pub returns-in-Ok-clause-free : goal.returns-in-Ok-clause-free
returns-in-Ok-clause-free c =
    let given = c.args.names.now in
    let name = c.args.field.text.now in
    let next = c.in-Some.ensures.0 in (
      elim (cases_Bool (is_name name)) [
        | inl spelled ↦ spelled
        | inr not ↦ let both : Ok tt ≡ Err _ = sym c.in-Ok.is ∙ c.add.ensures.misspelled.1 not in absurd (cc)
      ],
      subst (λ k. k < 2 ^ 16) next c.in-Some.ensures.1,
      subst (λ k. name_in given k ≡ None) next c.in-Ok.ensures.unnamed,
      λ taken. c.in-Ok.ensures.free taken.0 taken.1,
    )

pub returns-in-Err-Misspelled-clause-stops : goal.returns-in-Err-Misspelled-clause-stops
returns-in-Err-Misspelled-clause-stops c =
    let is = c.in-Err-Misspelled.is ∙ ap Err c.in-Err-Misspelled.field-0-is in
    subst (StopsFor (IsFree c.args.names.now c.args.field.text.now → ⊥) (λ r. ⊥)) (sym c.bad-in-Err-Misspelled.ensures) (λ free. false≢true (sym (c.add.ensures.misspelled.0 is) ∙ free.0))

pub returns-in-Err-Named-clause-stops : goal.returns-in-Err-Named-clause-stops
returns-in-Err-Named-clause-stops c =
    let is = c.in-Err-Named.is ∙ ap Err c.in-Err-Named.field-0-is in
    let some = subst (λ k. IsSome (name_in c.args.names.now k)) c.in-Some.ensures.0 (c.add.ensures.named.0 is).1 in
    subst (StopsFor (IsFree c.args.names.now c.args.field.text.now → ⊥) (λ r. ⊥)) (sym c.bad-in-Err-Named.ensures) (λ free. false≢true (subst IsSome free.2 some))

pub returns-in-Err-Taken-clause-stops : goal.returns-in-Err-Taken-clause-stops
returns-in-Err-Taken-clause-stops c =
    let is = c.in-Err-Taken.is ∙ ap Err c.in-Err-Taken.field-0-is in
    subst (StopsFor (IsFree c.args.names.now c.args.field.text.now → ⊥) (λ r. ⊥)) (sym c.bad-in-Err-Taken.ensures) (λ free. free.3 (c.add.ensures.taken.0 is).2)
