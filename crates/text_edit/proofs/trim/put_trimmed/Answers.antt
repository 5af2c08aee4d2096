use Rattle.std.proofs.Common.{◌≡◌, ◌≢◌, ◌∙◌, ◌+◌, ◌-◌, ◌∷◌, ◌++◌, ℕ, List, [], length, ap, sym, refl, subst, true, slice_range, string_bytes}
use Rattle.std.specs.Str.{IsUtf8}
use Rattle.std.specs.Prelude.{◌==◌}
use Rattle.std.proofs.lemmas.Bool.{eqb-true}
use Rattle.std.proofs.lemmas.List.{append-nil, map_push}
use Rattle.text_edit.specs.TextPiece.{TextPiece, as_piece, pieces}
use Rattle.text_edit.specs.Trimmed.{BeginApart}
use Rattle.text_edit.proofs.Narrowing.{Narrows-nothing, Narrows-left, nothing-left, start-left}
use Rattle.text_edit.proofs.trim.put_trimmed.Goals as goal
use Rattle.text_edit.proofs.trim.put_trimmed.Goals.{else-is_empty-via-then-is_empty+else-is_empty-2, else-is_empty-via-else-is_empty}

pub returns-then-is_empty-2 : goal.returns-then-is_empty-2
returns-then-is_empty-2 c =
    let s = c.args.old.now in
    let e = as_piece c.args.edit.now in
    let start = c.without_common_start.ensures.cut in
    let end = c.without_common_end.ensures.cut in
    let none : length c.without_common_end.result.0.now ≡ 0 = eqb-true (length c.without_common_end.result.0.now) 0 (sym c.if-is_empty.ensures) in
    let none' : length c.without_common_end.result.1.now ≡ 0 = eqb-true (length c.without_common_end.result.1.now) 0 (sym c.if-is_empty-2.ensures) in
    let same = nothing-left c.range-replaced.result.now c.deref.result.now start.0 c.without_common_start.result.0.now c.without_common_start.result.1.now end.0 c.without_common_end.result.0.now c.without_common_end.result.1.now start.1 start.2 end.1 end.2 none none' in
    ([], Narrows-nothing s e c.requires.fit (sym c.range-replaced.ensures.value ∙ same ∙ c.deref.ensures), sym (append-nil (pieces c.args.out.now.items)))

pub returns : goal.returns
returns c =
    let s = c.args.old.now in
    let e = as_piece c.args.edit.now in
    let start = c.without_common_start.ensures.cut in
    let end = c.without_common_end.ensures.cut in
    let o = c.without_common_end.result.0.now in
    let t = c.without_common_end.result.1.now in
    let o' = c.without_common_start.result.0.now in
    let t' = c.without_common_start.result.1.now in
    let p = start.0 in
    let q = end.0 in
    let d : TextPiece = record { first = e.stop - length o'; stop = (e.stop - length o') + length o; text = t } in
    let old : slice_range s e.first e.stop ≡ p ++ o' = sym c.range-replaced.ensures.value ∙ start.1 in
    let old_is : slice_range s e.first e.stop ≡ p ++ (o ++ q) = old ∙ ap (λ y. p ++ y) end.1 in
    let new_is : e.text ≡ p ++ (t ++ q) = sym c.deref.ensures ∙ start.2 ∙ ap (λ y. p ++ y) end.2 in
    let first_is : d.first ≡ e.first + length p = start-left s e p o' c.requires.own c.requires.fit old in
    let U : List ℕ → Type 0 = IsUtf8 in
    let A : List ℕ → Type 0 = λ y. BeginApart y t' in
    let B : List ℕ → Type 0 = λ y. BeginApart (o ++ q) y in
    let begins : BeginApart (o ++ q) (t ++ q) = subst B end.2 (subst A end.1 start.3) in
    let alters : o ≡ [] → t ≢ [] = λ none none'.
    let o_none : (length o == 0) ≡ true = ap (λ (y : List ℕ). length y == 0) none in
    let t_none : (length t == 0) ≡ true = ap (λ (y : List ℕ). length y == 0) none' in
    elim c.else-is_empty.branch [
      | else-is_empty-via-then-is_empty+else-is_empty-2 w ↦ cc (t_none, w.is_empty-then-is_empty.ensures)
      | else-is_empty-via-else-is_empty w ↦ cc (o_none, c.is_empty.ensures)
    ] in
    let text : string_bytes c.in_ok-text.text ≡ t = c.in_ok-text.ensures.ok in
    let new : pieces c.push.new.self.items ≡ pieces c.args.out.now.items ++ d ∷ [] = ap pieces c.in_ok-push.ensures.items ∙ map_push as_piece c.args.out.now.items _ ∙ ap (λ (y : List ℕ). pieces c.args.out.now.items ++ record { first = d.first; stop = d.stop; text = y } ∷ []) text in
    (d ∷ [], Narrows-left s e d p o q c.utf8.old c.requires.own c.requires.fit old_is new_is first_is refl (subst U end.1 c.without_common_start.ensures.text) c.without_common_end.ensures.text begins end.3 alters, new)
