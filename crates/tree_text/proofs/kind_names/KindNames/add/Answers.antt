use Rattle.std.proofs.Common.{◌≡◌, ℕ, true, false, nat_eq, None, Some, Option, Result, Ok, Err, IsSome, is_some, IsErrAnd, ap, refl, sym, ◌∙◌}
use Rattle.std.specs.Prelude.{option_map, ⊤}
use Rattle.std.proofs.lemmas.Bool.{false≢true, true≢false, eq-eqb}
use Rattle.std.proofs.lemmas.Result.{IfOk-from_err, MatchResult-from_err}
use Rattle.tree_text.specs.declared.name_error.NameError.{NameError}
use Rattle.tree_text.specs.declared.name_error.NameError.TheVariants.{Misspelled, Named, Taken, Memory}
use Rattle.tree_text.proofs.kind_names.KindNames.add.Goals as goal

-- what an option shows
shown-none : {A B : Type 0} (f : A → B) (o : Option A) (m : Option B) → option_map f o ≡ m → is_some o ≡ false → m ≡ None
shown-none f None m is none = sym is
shown-none f (Some a) m is none = absurd (true≢false none)

shown-some : {A B : Type 0} (f : A → B) (o : Option A) (m : Option B) → option_map f o ≡ m → is_some o ≡ true → IsSome m
shown-some f None m is some = absurd (false≢true some)
shown-some f (Some a) m is some = ap is_some (sym is)

no-none : {A : Type 0} (m : Option A) → m ≡ None → IsSome m → ⊥
no-none m none some = false≢true (ap is_some (sym none) ∙ some)

-- two answers that are not the same
abbrev code : Result ⊤ NameError → ℕ
code (Ok x) = 0
code (Err Misspelled) = 1
code (Err Named) = 2
code (Err Taken) = 3
code (Err Memory) = 4

apart : (r s : Result ⊤ NameError) → r ≡ s → nat_eq (code r) (code s) ≡ false → ⊥
apart r s same other = false≢true (sym other ∙ eq-eqb (code r) (code s) (ap code same))

is-memory : (r : Result ⊤ NameError) → IsErrAnd r (λ e. e ≡ Memory) → r ≡ Err Memory
is-memory (Ok x) is = absurd is
is-memory (Err e) is = ap Err is

pub returns-then-not-is_spelled-clause-misspelled : goal.returns-then-not-is_spelled-clause-misspelled
returns-then-not-is_spelled-clause-misspelled c = (λ is. sym c.if-not-is_spelled.ensures, λ bad. refl)

pub returns-then-not-is_spelled-clause-named : goal.returns-then-not-is_spelled-clause-named
returns-then-not-is_spelled-clause-named c = (λ is. absurd (apart _ _ is refl), λ named. absurd (false≢true (c.if-not-is_spelled.ensures ∙ named.0)))

pub returns-then-not-is_spelled-clause-taken : goal.returns-then-not-is_spelled-clause-taken
returns-then-not-is_spelled-clause-taken c = (λ is. absurd (apart _ _ is refl), λ taken. absurd (false≢true (c.if-not-is_spelled.ensures ∙ taken.0)))

pub returns-then-is_some-clause-misspelled : goal.returns-then-is_some-clause-misspelled
returns-then-is_some-clause-misspelled c =
    (λ is. absurd (apart _ _ is refl), λ bad. absurd (true≢false (c.if-not-is_spelled.ensures ∙ bad)))

pub returns-then-is_some-clause-named : goal.returns-then-is_some-clause-named
returns-then-is_some-clause-named c =
    (λ is. (sym c.if-not-is_spelled.ensures, shown-some _ c.name.result _ c.name.ensures (sym c.if-is_some.ensures)), λ named. refl)

pub returns-then-is_some-clause-taken : goal.returns-then-is_some-clause-taken
returns-then-is_some-clause-taken c =
    let named = shown-some _ c.name.result _ c.name.ensures (sym c.if-is_some.ensures) in
    (λ is. absurd (apart _ _ is refl), λ taken. absurd (no-none _ taken.1 named))

pub put-requires-clause-unnamed : goal.put-requires-clause-unnamed
put-requires-clause-unnamed c = shown-none _ c.name.result _ c.name.ensures (sym c.if-is_some.ensures)

pub put-requires-clause-spelled : goal.put-requires-clause-spelled
put-requires-clause-spelled c = sym c.if-not-is_spelled.ensures

pub put-requires-clause-free : goal.put-requires-clause-free
put-requires-clause-free c = c.kind.ensures.none (sym c.if-is_some-2.ensures)

pub returns-in_err-put-clause-ok : goal.returns-in_err-put-clause-ok
returns-in_err-put-clause-ok c = IfOk-from_err c.from_residual.result _ c.from_residual.ensures.0

pub returns-in_err-put-clause-err : goal.returns-in_err-put-clause-err
returns-in_err-put-clause-err c = MatchResult-from_err c.from_residual.result _ _ c.from_residual.ensures.0 (λ e. c.in_err-put.ensures.err)

pub returns-in_err-put-clause-unnamed : goal.returns-in_err-put-clause-unnamed
returns-in_err-put-clause-unnamed c = IfOk-from_err c.from_residual.result _ c.from_residual.ensures.0

pub returns-in_err-put-clause-free : goal.returns-in_err-put-clause-free
returns-in_err-put-clause-free c = IfOk-from_err c.from_residual.result _ c.from_residual.ensures.0

pub returns-in_err-put-clause-misspelled : goal.returns-in_err-put-clause-misspelled
returns-in_err-put-clause-misspelled c =
    let memory = is-memory c.from_residual.result c.from_residual.ensures.1 in
    (λ is. absurd (apart _ _ (sym memory ∙ is) refl), λ bad. absurd (true≢false (c.if-not-is_spelled.ensures ∙ bad)))

pub returns-in_err-put-clause-named : goal.returns-in_err-put-clause-named
returns-in_err-put-clause-named c =
    let memory = is-memory c.from_residual.result c.from_residual.ensures.1 in
    let unnamed = shown-none _ c.name.result _ c.name.ensures (sym c.if-is_some.ensures) in
    (λ is. absurd (apart _ _ (sym memory ∙ is) refl), λ named. absurd (no-none _ unnamed named.1))

pub returns-in_err-put-clause-taken : goal.returns-in_err-put-clause-taken
returns-in_err-put-clause-taken c =
    let memory = is-memory c.from_residual.result c.from_residual.ensures.1 in
    (λ is. absurd (apart _ _ (sym memory ∙ is) refl), λ taken. absurd (c.kind.ensures.none (sym c.if-is_some-2.ensures) taken.2.0 taken.2.1))

pub returns-clause-unnamed : goal.returns-clause-unnamed
returns-clause-unnamed c = shown-none _ c.name.result _ c.name.ensures (sym c.if-is_some.ensures)

pub returns-clause-free : goal.returns-clause-free
returns-clause-free c = c.kind.ensures.none (sym c.if-is_some-2.ensures)

pub returns-clause-misspelled : goal.returns-clause-misspelled
returns-clause-misspelled c = (λ is. absurd (apart _ _ is refl), λ bad. absurd (true≢false (c.if-not-is_spelled.ensures ∙ bad)))

pub returns-clause-named : goal.returns-clause-named
returns-clause-named c =
    let unnamed = shown-none _ c.name.result _ c.name.ensures (sym c.if-is_some.ensures) in
    (λ is. absurd (apart _ _ is refl), λ named. absurd (no-none _ unnamed named.1))

pub returns-clause-taken : goal.returns-clause-taken
returns-clause-taken c =
    (λ is. absurd (apart _ _ is refl), λ taken. absurd (c.kind.ensures.none (sym c.if-is_some-2.ensures) taken.2.0 taken.2.1))
