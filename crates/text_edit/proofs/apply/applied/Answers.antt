use Rattle.std.proofs.Common.{◌≡◌, ◌∙◌, ◌+◌, ◌≤◌, ◌^◌, ◌∷◌, ◌++◌, List, length, drop, ap, sym, subst, refl, string_bytes}
use Rattle.std.proofs.lemmas.List.{length-map, drop_all}
use Rattle.std.proofs.lemmas.List.Elements.{All-head, All-tail}
use Rattle.std.proofs.lemmas.Str.{IsCharBoundary-start}
use Rattle.text_edit.specs.TextPiece.{TextPiece, as_piece, pieces, AreApart, FitsText, FitText, applied_from}
use Rattle.text_edit.proofs.Pieces.{drop-piece}
use Rattle.text_edit.proofs.Applied.{applied_from-next}
use Rattle.text_edit.proofs.apply.applied.Goals as goal

pub loop-edit-init : goal.loop-edit-init
loop-edit-init c = record {
  apart = c.requires.apart;
  fit = c.requires.fit;
  boundary = IsCharBoundary-start c.args.text.now c.utf8.text;
  text = rw c.new-out.ensures.bytes refl;
}

pub range-requires-clause-start_le_end : goal.range-requires-clause-start_le_end
range-requires-clause-start_le_end c =
    let P : List TextPiece → Type 0 = λ t. AreApart c.loop-edit.gone t (2 ^ 64) in
    (subst P (drop-piece c.args.edits.now c.loop-edit.edit-index c.edit-item.result c.loop-edit-test.true c.edit-item.is) c.loop-edit.invariant.apart).0

pub range-requires-clause-start_boundary : goal.range-requires-clause-start_boundary
range-requires-clause-start_boundary c _ = c.loop-edit.invariant.boundary

pub range-requires-clause-end_boundary : goal.range-requires-clause-end_boundary
range-requires-clause-end_boundary c =
    let P : List TextPiece → Type 0 = FitText c.args.text.now in
    let rest = drop (c.loop-edit.edit-index + 1) (pieces c.args.edits.now) in
    (All-head (FitsText c.args.text.now) (as_piece c.edit-item.result) rest (subst P (drop-piece c.args.edits.now c.loop-edit.edit-index c.edit-item.result c.loop-edit-test.true c.edit-item.is) c.loop-edit.invariant.fit)).0

pub loop-edit-preserved : goal.loop-edit-preserved
loop-edit-preserved c =
    let s = c.args.text.now in
    let es = c.args.edits.now in
    let x = c.edit-item.result in
    let i = c.loop-edit.edit-index in
    let v = c.loop-edit.invariant in
    let gone = c.loop-edit.gone in
    let out = string_bytes c.loop-edit.out in
    let rest = drop (i + 1) (pieces es) in
    let here : drop i (pieces es) ≡ as_piece x ∷ rest = drop-piece es i x c.loop-edit-test.true c.edit-item.is in
    let A : List TextPiece → Type 0 = λ t. AreApart gone t (2 ^ 64) in
    let apart : AreApart gone (as_piece x ∷ rest) (2 ^ 64) = subst A here v.apart in
    let F : List TextPiece → Type 0 = FitText s in
    let fit : FitText s (as_piece x ∷ rest) = subst F here v.fit in
    let put = c.in_ok-push_str-2.ensures.bytes ∙ ap (λ t. string_bytes c.push_str.new.self ++ t) c.deref.ensures ∙ ap (λ t. t ++ string_bytes x.text) (c.in_ok-push_str.ensures.bytes ∙ ap (λ t. out ++ t) c.range.ensures.value) in
    record {
      apart = apart.2;
      fit = All-tail (FitsText s) (as_piece x) rest fit;
      boundary = (All-head (FitsText s) (as_piece x) rest fit).1;
      text = ap (λ t. t ++ applied_from x.end rest (drop x.end s)) put ∙ applied_from-next s gone (as_piece x) rest out apart.0 apart.1 ∙ ap (λ t. out ++ applied_from gone t (drop gone s)) (sym here) ∙ v.text;
    }

pub range_from-requires : goal.range_from-requires
range_from-requires c _ = c.loop-edit.invariant.boundary

pub returns : goal.returns
returns c =
    let es = pieces c.args.edits.now in
    let n : length es ≤ c.loop-edit.edit-index = rw (length-map c.args.edits.now as_piece) c.loop-edit-test.false in
    let gone = c.loop-edit.gone in
    let s = c.args.text.now in
    let out = string_bytes c.loop-edit.out in
    c.in_ok-push_str-3.ensures.bytes ∙ ap (λ t. out ++ t) c.range_from.ensures.value ∙ ap (λ t. out ++ applied_from gone t (drop gone s)) (sym (drop_all c.loop-edit.edit-index es n)) ∙ c.loop-edit.invariant.text
