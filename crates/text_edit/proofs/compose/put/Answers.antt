use Rattle.std.proofs.Common.{◌≡◌, ◌∙◌, ◌+◌, ◌-◌, ◌<◌, ◌∷◌, ◌++◌, ℕ, List, [], length, ap, sym, subst, arith, string_bytes}
use Rattle.std.proofs.lemmas.List.{map_push, length-map}
use Rattle.std.proofs.lemmas.Result.{on_ok_weaker}
use Rattle.text_edit.specs.declared.text_edit.TextEdit.{TextEdit}
use Rattle.text_edit.specs.TextPiece.{TextPiece, as_piece, pieces}
use Rattle.text_edit.specs.OrderRefusal.{piece_at}
use Rattle.text_edit.specs.inner.Joined.{EndsAt}
use Rattle.text_edit.specs.inner.Composing.{Puts}
use Rattle.text_edit.proofs.Putting.{Puts-push, Puts-extended}
use Rattle.text_edit.proofs.compose.put.Goals as goal

pub returns-then-last_ends_at : goal.returns-then-last_ends_at
returns-then-last_ends_at c =
    let es = c.args.out.now.items in
    let ends : EndsAt (pieces c.deref.result.now) c.args.start = c.last_ends_at.ensures.0 c.if-last_ends_at.true in
    let n = c.len-last.result - 1 in
    let E : List TextEdit → Type 0 = λ t. EndsAt (pieces t) c.args.start in
    let ends' : EndsAt (pieces es) c.args.start = subst E c.deref.ensures.value ends in
    let whole : length es ≡ c.len-last.result = ap length (sym c.deref.ensures.value) ∙ c.deref.ensures.len ∙ sym c.len-last.ensures in
    let count : length (pieces es) ≡ c.len-last.result = length-map es as_piece ∙ whole in
    let some : 0 < length (pieces es) = ends'.0 in
    let len : n + 1 ≡ length es = omega arith in
    let at : length (pieces es) - 1 ≡ n = ap (λ m. m - 1) count in
    let stop : (piece_at (pieces es) n).stop ≡ c.args.start = ap (λ i. (piece_at (pieces es) i).stop) (sym at) ∙ ends'.1 in
    on_ok_weaker c.extend.result (λ new. Puts-extended es (c.len-last.result - 1) c.args.start c.args.end c.index_mut.result.now c.extend.new.edit c.args.text.now len c.index_mut.ensures.value stop c.requires.apart c.requires.ends new) c.extend.ensures

pub returns : goal.returns
returns c =
    let es = c.args.out.now.items in
    let e : TextPiece = record { first = c.args.start; stop = c.args.end; text = c.args.text.now } in
    let P : List TextPiece → Type 0 = λ t. Puts (pieces es) t c.args.start c.args.end c.args.text.now in
    let text : string_bytes c.in_ok-text.text ≡ c.args.text.now = c.in_ok-text.ensures.ok in
    let new : pieces c.push.new.self.items ≡ pieces es ++ e ∷ [] = ap pieces c.in_ok-push.ensures.items ∙ map_push as_piece es _ ∙ ap (λ (t : List ℕ). pieces es ++ record { first = c.args.start; stop = c.args.end; text = t } ∷ []) text in
    subst P (sym new) (Puts-push (pieces es) e c.requires.apart c.requires.ends)
