use Rattle.std.proofs.Common.{◌≡◌, ◌∙◌, ◌+◌, ◌<◌, ◌^◌, ℕ, [], ap, sym, refl, subst, arith}
use Rattle.text_edit.specs.TextPiece.{pieces}
use Rattle.text_edit.specs.inner.Composing.{IsPlace, PutsDeletion}
use Rattle.text_edit.proofs.Passing.{place, Passes-kept, Passes-at, IsPlace-kept, boundary-passed}
use Rattle.text_edit.proofs.compose.Composing.pass_kept.Goals as goal

pub returns-in_default-clause-refused : goal.returns-in_default-clause-refused
returns-in_default-clause-refused c =
    let p = c.args.self.now in (
      refl,
      λ s short fit boundary.
          let within = boundary-passed s c.args.n c.args.kept p.at p.left.now (pieces p.rest.now) (pieces p.out.items) c.requires.text c.requires.kept c.requires.place.rest_apart fit boundary in
          let small : p.at + c.args.kept < 2 ^ 64 = omega (arith, within.0) in
          c.in_default.ensures small,
    )

pub returns-clause-place : goal.returns-clause-place
returns-clause-place c =
    let p = c.args.self.now in
    let rest = pieces p.rest.now in
    let out = pieces p.out.items in
    let new = pieces c.put_deletion.new.out.items in
    let k = c.args.kept in
    let end_is : c.in-Some.end ≡ p.at + k = c.in-Some.ensures.1 in
    let P : ℕ → Type 0 = λ m. PutsDeletion c.args.pass out new p.at m in
    let Q : ℕ → Type 0 = λ m. IsPlace (place p.left.now m rest new) in
    subst Q (sym end_is) (IsPlace-kept c.args.pass c.args.n k p.at p.left.now rest out new c.requires.kept c.in-Some.ensures.0 c.requires.place.rest_apart c.requires.place.out_apart (subst P end_is c.in_ok-put_deletion.ensures))

pub returns-clause-passes : goal.returns-clause-passes
returns-clause-passes c =
    let p = c.args.self.now in
    let rest = pieces p.rest.now in
    let out = pieces p.out.items in
    let new = pieces c.put_deletion.new.out.items in
    let k = c.args.kept in
    let end_is : c.in-Some.end ≡ p.at + k = c.in-Some.ensures.1 in
    let P : ℕ → Type 0 = λ m. PutsDeletion c.args.pass out new p.at m in
    Passes-at c.args.pass c.args.n k _ (place [] p.at rest out) _ (place [] (p.at + k) rest new) (ap (λ l. place l p.at rest out) c.requires.text) (ap (λ l. place l c.in-Some.end rest new) c.requires.text ∙ ap (λ m. place [] m rest new) end_is) (Passes-kept c.args.pass c.args.n k p.at rest out new c.requires.kept c.requires.place.rest_apart c.requires.place.out_apart (subst P end_is c.in_ok-put_deletion.ensures))
