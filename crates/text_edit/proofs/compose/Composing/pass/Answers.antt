use Rattle.std.proofs.Common.{◌≡◌, ◌+◌, ◌-◌, ◌<◌, ◌≤◌, ℕ, length, subst, arith}
use Rattle.std.proofs.lemmas.Result.{err_from_is_err_and}
use Rattle.text_edit.specs.inner.Composing.{place_of, Passes, PassRefuses}
use Rattle.text_edit.proofs.Passing.{Passes-none, Passes-then, refuses-before}
use Rattle.text_edit.proofs.compose.Composing.pass.Goals as goal

pub bytes-init : goal.bytes-init
bytes-init c = record { place = c.requires.place; bound = omega arith; passes = Passes-none c.args.pass c.args.n (c.args.n - c.args.n) (place_of c.args.self.now) (omega arith) }

pub bytes-preserved : goal.bytes-preserved
bytes-preserved c =
    let v = c.bytes.invariant in
    let was = c.bytes.to_pass in
    let k = c.in_ok-to_pass.field-0 in
    let some : c.args.n - was ≤ c.args.n = omega arith in
    let left : was ≡ c.args.n - (c.args.n - was) = omega arith in
    let bound : k ≤ was = c.in_ok-to_pass.ensures.bound in
    let sum : (c.args.n - was) + k ≡ c.args.n - (was - k) = omega arith in
    let P : ℕ → Type 0 = λ m. Passes c.args.pass m k (place_of c.bytes.self) (place_of c.step.new.self) in
    let Q : ℕ → Type 0 = λ m. Passes c.args.pass c.args.n m (place_of c.args.self.now) (place_of c.step.new.self) in
    record {
      place = c.in_ok-to_pass.ensures.place;
      bound = omega arith;
      passes = subst Q sum (Passes-then c.args.pass c.args.n (c.args.n - was) (place_of c.args.self.now) (place_of c.bytes.self) some v.passes k (place_of c.step.new.self) (subst P left c.in_ok-to_pass.ensures.passes));
    }

pub bytes-smaller : goal.bytes-smaller
bytes-smaller c =
    let bound : c.in_ok-to_pass.field-0 ≤ c.bytes.to_pass = c.in_ok-to_pass.ensures.bound in
    let nearer : length c.step.new.self.rest.now < length c.bytes.self.rest.now + c.in_ok-to_pass.field-0 = c.in_ok-to_pass.ensures.nearer in
    omega arith

pub returns-in_err-to_pass-clause-refused : goal.returns-in_err-to_pass-clause-refused
returns-in_err-to_pass-clause-refused c =
    let p = err_from_is_err_and c.from_residual.result c.from_residual.ensures.1 in
    let v = c.bytes.invariant in
    let was = c.bytes.to_pass in
    let some : c.args.n - was ≤ c.args.n = omega arith in
    let left : was ≡ c.args.n - (c.args.n - was) = omega arith in
    let P : ℕ → Type 0 = λ m. PassRefuses c.args.index m (place_of c.bytes.self) c.in_err-to_pass.field-0.0 in
    rw (p.1, p.2) (refuses-before c.args.pass c.args.n (c.args.n - was) (place_of c.args.self.now) (place_of c.bytes.self) some v.passes c.args.index c.in_err-to_pass.field-0.0 (subst P left c.in_err-to_pass.ensures.refused))

pub returns-clause-passes : goal.returns-clause-passes
returns-clause-passes c =
    let done : c.args.n - c.bytes.to_pass ≡ c.args.n = omega arith in
    let P : ℕ → Type 0 = λ k. Passes c.args.pass c.args.n k (place_of c.args.self.now) (place_of c.bytes.self) in
    subst P done c.bytes.invariant.passes
