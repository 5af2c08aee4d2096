use Rattle.std.proofs.Common.{List, ℕ, subst}
use Rattle.std.proofs.lemmas.Result.{on_ok_weaker, MatchResult-weaker}
use Rattle.text_edit.specs.TextPiece.{as_piece, pieces}
use Rattle.text_edit.specs.inner.Composing.{place_of, Puts}
use Rattle.text_edit.proofs.Carrying.{carry-refuses-behind, CarriesOut-passed}
use Rattle.text_edit.proofs.compose.Composing.carry_out.Goals as goal

pub returns-clause-carried : goal.returns-clause-carried
returns-clause-carried c =
    let e = as_piece c.args.edit.now in
    let between = place_of c.pass.new.self in
    let new = pieces c.put.new.out.items in
    let P : List ℕ → Type 0 = λ t. Puts between.out new between.at between.at t in
    let puts = subst P c.deref.ensures c.in_ok-put.ensures in
    on_ok_weaker c.pass-2.result (CarriesOut-passed c.args.passed e (place_of c.args.self.now) between new c.requires.apart.0 c.requires.apart.1 c.in_ok-pass.ensures.passes puts (place_of c.pass-2.new.self)) c.pass-2.ensures.passes

pub returns-clause-refused : goal.returns-clause-refused
returns-clause-refused c =
    let e = as_piece c.args.edit.now in
    let between = place_of c.pass.new.self in
    let new = pieces c.put.new.out.items in
    let P : List ℕ → Type 0 = λ t. Puts between.out new between.at between.at t in
    let puts = subst P c.deref.ensures c.in_ok-put.ensures in
    MatchResult-weaker c.pass-2.result c.pass-2.ensures.refused (λ _ u. u) (carry-refuses-behind c.args.passed e (place_of c.args.self.now) between new c.requires.apart.0 c.requires.apart.1 c.in_ok-pass.ensures.passes puts c.args.index)
