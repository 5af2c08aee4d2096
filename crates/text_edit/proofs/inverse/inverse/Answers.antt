use Rattle.std.proofs.Common.{◌≡◌, ◌∙◌, ◌+◌, ◌-◌, ◌<◌, ◌≤◌, ◌^◌, ◌∷◌, ◌++◌, ℕ, List, [], length, drop, ap, sym, subst, arith, get_or, rules, string_bytes, slice_range}
use Rattle.std.proofs.lemmas.List.{append_assoc, append-nil, map_push, drop_all, length-map}
use Rattle.std.proofs.lemmas.List.Elements.{All-head, All-tail}
use Rattle.text_edit.specs.declared.text_edit.TextEdit.{TextEdit}
use Rattle.text_edit.specs.TextPiece.{TextPiece, as_piece, pieces, AreApart, FitsText, FitText, applied_from}
use Rattle.text_edit.specs.Inverse.{inverted_from, inverted, TakeBack}
use Rattle.text_edit.proofs.Pieces.{drop-piece}
use Rattle.text_edit.proofs.Ordered.{AreApart-push, AreApart-further}
use Rattle.text_edit.proofs.Inverting.{texts-of, applied-count, inverted-takes_back}
use Rattle.text_edit.proofs.inverse.inverse.Goals as goal

-- what is known of the edit at hand and those behind it
next-apart : (es : List TextEdit) (i gone : ℕ) (x : TextEdit) → i < length es → x ≡ get_or es i x → AreApart gone (drop i (pieces es)) (2 ^ 64) → AreApart gone (as_piece x ∷ drop (i + 1) (pieces es)) (2 ^ 64)
next-apart es i gone x inside is apart = let A : List TextPiece → Type 0 = λ t. AreApart gone t (2 ^ 64) in subst A (drop-piece es i x inside is) apart

next-fit : (s : List ℕ) (es : List TextEdit) (i : ℕ) (x : TextEdit) → i < length es → x ≡ get_or es i x → FitText s (drop i (pieces es)) → FitText s (as_piece x ∷ drop (i + 1) (pieces es))
next-fit s es i x inside is fit = let F : List TextPiece → Type 0 = FitText s in subst F (drop-piece es i x inside is) fit

next-count : (s : List ℕ) (es : List TextEdit) (i gone made : ℕ) (x : TextEdit) (whole : ℕ) → i < length es → x ≡ get_or es i x → AreApart gone (drop i (pieces es)) (2 ^ 64) → FitText s (drop i (pieces es)) → made + length (applied_from gone (drop i (pieces es)) (drop gone s)) ≡ whole → (made + (x.start - gone) + length (string_bytes x.text)) + length (applied_from x.end (drop (i + 1) (pieces es)) (drop x.end s)) ≡ whole
next-count s es i gone made x whole inside is apart fit count =
    let rest = drop (i + 1) (pieces es) in
    let own : length (applied_from gone (drop i (pieces es)) (drop gone s)) ≡ (x.start - gone) + length (string_bytes x.text) + length (applied_from x.end rest (drop x.end s)) = ap (λ t. length (applied_from gone t (drop gone s))) (drop-piece es i x inside is) ∙ applied-count s gone (2 ^ 64) (as_piece x) rest (next-apart es i gone x inside is apart) (next-fit s es i x inside is fit) in
    omega (arith, own, count)

pub overflow_sub-edit : goal.overflow_sub-edit
overflow_sub-edit c = (next-apart c.args.edits.now c.loop-edit.edit-index c.loop-edit.gone c.edit-item.result c.loop-edit-test.true c.edit-item.is c.loop-edit.invariant.apart).0

pub returns-in_default-clause-refused : goal.returns-in_default-clause-refused
returns-in_default-clause-refused c =
    let v = c.loop-edit.invariant in
    let x = c.edit-item.result in
    let count = next-count c.args.old.now c.args.edits.now c.loop-edit.edit-index c.loop-edit.gone c.loop-edit.made x _ c.loop-edit-test.true c.edit-item.is v.apart v.fit v.count in
    let large : c.loop-edit.made + (x.start - c.loop-edit.gone) < 2 ^ 64 → ⊥ = c.in_default.ensures in
    omega (arith, count, large)

pub returns-in_default-checked_add-clause-refused : goal.returns-in_default-checked_add-clause-refused
returns-in_default-checked_add-clause-refused c =
    let v = c.loop-edit.invariant in
    let x = c.edit-item.result in
    let count = next-count c.args.old.now c.args.edits.now c.loop-edit.edit-index c.loop-edit.gone c.loop-edit.made x _ c.loop-edit-test.true c.edit-item.is v.apart v.fit v.count in
    let start : c.in-Some.start ≡ c.loop-edit.made + (x.start - c.loop-edit.gone) = c.in-Some.ensures.1 in
    let len : c.len.result ≡ length (string_bytes x.text) = search rules in
    let large : c.in-Some.start + c.len.result < 2 ^ 64 → ⊥ = c.in_default-checked_add.ensures in
    omega (arith, count, large)

pub range-requires-clause-start_le_end : goal.range-requires-clause-start_le_end
range-requires-clause-start_le_end c = (next-apart c.args.edits.now c.loop-edit.edit-index c.loop-edit.gone c.edit-item.result c.loop-edit-test.true c.edit-item.is c.loop-edit.invariant.apart).1

pub range-requires-clause-start_boundary : goal.range-requires-clause-start_boundary
range-requires-clause-start_boundary c _ =
    let s = c.args.old.now in
    let es = c.args.edits.now in
    let i = c.loop-edit.edit-index in
    let x = c.edit-item.result in
    (All-head (FitsText s) (as_piece x) (drop (i + 1) (pieces es)) (next-fit s es i x c.loop-edit-test.true c.edit-item.is c.loop-edit.invariant.fit)).0

pub range-requires-clause-end_boundary : goal.range-requires-clause-end_boundary
range-requires-clause-end_boundary c =
    let s = c.args.old.now in
    let es = c.args.edits.now in
    let i = c.loop-edit.edit-index in
    let x = c.edit-item.result in
    (All-head (FitsText s) (as_piece x) (drop (i + 1) (pieces es)) (next-fit s es i x c.loop-edit-test.true c.edit-item.is c.loop-edit.invariant.fit)).1

pub loop-edit-preserved : goal.loop-edit-preserved
loop-edit-preserved c =
    let s = c.args.old.now in
    let es = c.args.edits.now in
    let i = c.loop-edit.edit-index in
    let x = c.edit-item.result in
    let v = c.loop-edit.invariant in
    let inside = c.loop-edit-test.true in
    let is = c.edit-item.is in
    let gone = c.loop-edit.gone in
    let made = c.loop-edit.made in
    let rest = drop (i + 1) (pieces es) in
    let out = pieces c.loop-edit.out.items in
    let apart = next-apart es i gone x inside is v.apart in
    let fit = next-fit s es i x inside is v.fit in
    let count = next-count s es i gone made x _ inside is v.apart v.fit v.count in
    let first = made + (x.start - gone) in
    let stop = first + length (string_bytes x.text) in
    let start_is : c.in-Some.start ≡ first = c.in-Some.ensures.1 in
    let len : c.len.result ≡ length (string_bytes x.text) = search rules in
    let end_is : c.in-Some-checked_add.end ≡ stop = c.in-Some-checked_add.ensures.1 ∙ (let e : c.in-Some.start + c.len.result ≡ stop = omega arith in e) in
    let back : TextPiece = record { first = first; stop = stop; text = slice_range s x.start x.end } in
    let text : string_bytes c.in_ok-text.text ≡ slice_range s x.start x.end = c.in_ok-text.ensures.ok ∙ c.range.ensures.value in
    let piece : as_piece (record { start = c.in-Some.start; end = c.in-Some-checked_add.end; text = c.in_ok-text.text }) ≡ back = ap (λ (n : ℕ). record { first = n; stop = c.in-Some-checked_add.end; text = string_bytes c.in_ok-text.text }) start_is ∙ ap (λ (n : ℕ). record { first = first; stop = n; text = string_bytes c.in_ok-text.text }) end_is ∙ ap (λ (t : List ℕ). record { first = first; stop = stop; text = t }) text in
    let new : pieces c.push.new.self.items ≡ out ++ back ∷ [] = ap pieces c.in_ok-push.ensures.items ∙ map_push as_piece c.loop-edit.out.items _ ∙ ap (λ e. out ++ e ∷ []) piece in
    let before : made ≤ first = omega arith in
    let own : first ≤ stop = omega arith in
    let A : List TextPiece → Type 0 = λ t. AreApart 0 t c.in-Some-checked_add.end in
    let B : ℕ → Type 0 = λ n. AreApart 0 (out ++ back ∷ []) n in
    record {
      apart = apart.2;
      fit = All-tail (FitsText s) (as_piece x) rest fit;
      small = rw c.in-Some-checked_add.ensures.1 c.in-Some-checked_add.ensures.0;
      out_apart = subst A (sym new) (subst B (sym end_is) (AreApart-push 0 out made back v.out_apart before own));
      text = ap (λ t. t ++ inverted_from c.in-Some-checked_add.end x.end rest s) new ∙ ap (λ n. (out ++ back ∷ []) ++ inverted_from n x.end rest s) end_is ∙ append_assoc out (back ∷ []) (inverted_from stop x.end rest s) ∙ ap (λ t. out ++ inverted_from made gone t s) (sym (drop-piece es i x inside is)) ∙ v.text;
      count = ap (λ n. n + length (applied_from x.end rest (drop x.end s))) end_is ∙ count;
    }

pub returns-clause-apart : goal.returns-clause-apart
returns-clause-apart c =
    let v = c.loop-edit.invariant in
    AreApart-further 0 (pieces c.loop-edit.out.items) c.loop-edit.made (2 ^ 64) v.out_apart (let small : c.loop-edit.made < 2 ^ 64 = v.small in omega arith)

pub returns-clause-back : goal.returns-clause-back
returns-clause-back c =
    let v = c.loop-edit.invariant in
    let s = c.args.old.now in
    let es = pieces c.args.edits.now in
    let i = c.loop-edit.edit-index in
    let n : length es ≤ i = rw (length-map c.args.edits.now as_piece) c.loop-edit-test.false in
    let out = pieces c.loop-edit.out.items in
    let is : out ≡ inverted es s = sym (append-nil out) ∙ ap (λ t. out ++ inverted_from c.loop-edit.made c.loop-edit.gone t s) (sym (drop_all i es n)) ∙ v.text in
    let P : List TextPiece → Type 0 = TakeBack es s in
    subst P (sym is) (inverted-takes_back s (2 ^ 64) es c.utf8.old c.requires.apart c.requires.fit (texts-of c.args.edits.now))
