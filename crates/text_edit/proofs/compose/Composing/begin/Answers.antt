use Rattle.std.proofs.Common.{◌≡◌, ◌∙◌, ◌≤◌, ◌^◌, ◌∷◌, List, [], ap, sym, subst}
use Rattle.text_edit.specs.TextPiece.{TextPiece, as_piece, pieces, AreApart}
use Rattle.text_edit.specs.OrderRefusal.{piece_at}
use Rattle.text_edit.proofs.Passing.{place, Passes-begin, Passes-at}
use Rattle.text_edit.proofs.compose.Composing.begin.Goals as goal

pub returns-clause-passes : goal.returns-clause-passes
returns-clause-passes c pass n =
    let p = c.args.self.now in
    let e = as_piece c.in-Some.edit.now in
    let es = pieces c.in-Some.rest.now in
    let out = pieces p.out.items in
    let new = pieces c.put.new.out.items in
    let split : pieces p.rest.now ≡ e ∷ es = ap pieces c.in-Some.ensures.cases.0 in
    let here : p.at ≡ e.first = sym (ap (λ t. (piece_at t 0).first) (sym split) ∙ c.requires.next.1) in
    let A : List TextPiece → Type 0 = λ t. AreApart p.at t (2 ^ 64) in
    let own : e.first ≤ e.stop = (subst A split c.requires.place.rest_apart).1 in
    Passes-at pass n 0 _ (place [] p.at (e ∷ es) out) _ (place e.text e.stop es new) (ap (λ l. place l p.at (pieces p.rest.now) out) c.requires.text ∙ ap (λ r. place [] p.at r out) split) (ap (λ l. place l e.stop es new) c.deref-self.ensures) (Passes-begin pass n p.at e es out new here own c.in_ok-put.ensures)
