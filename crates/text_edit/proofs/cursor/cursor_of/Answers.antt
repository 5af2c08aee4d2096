use Rattle.std.proofs.Common.{◌≡◌, ◌∙◌, ◌+◌, ◌-◌, ◌<◌, ◌≤◌, ◌^◌, ◌∷◌, ℕ, List, Some, length, take, drop, ap, sym, subst, arith, rules, string_bytes, get_or, below_more}
use Rattle.std.proofs.lemmas.List.{length-map}
use Rattle.text_edit.specs.declared.text_edit.TextEdit.{TextEdit}
use Rattle.text_edit.specs.TextPiece.{TextPiece, as_piece, pieces, AreApart}
use Rattle.text_edit.specs.OrderRefusal.{nothing, piece_at}
use Rattle.text_edit.specs.Cursor.{new_start}
use Rattle.text_edit.proofs.Pieces.{piece-is, pieces-inside, drop-piece, take-piece}
use Rattle.text_edit.proofs.Holding.{taken, put_in, taken_push, put_in_push, new_start-is, held, not-held-turned, not-held-behind, cursor-none, cursor-passed, cursor-here}
use Rattle.text_edit.proofs.cursor.cursor_of.Goals as goal

-- what is known of the edit at hand
next-apart : (es : List TextEdit) (i gone : ℕ) (x : TextEdit) → i < length es → x ≡ get_or es i x → AreApart gone (drop i (pieces es)) (2 ^ 64) → AreApart gone (as_piece x ∷ drop (i + 1) (pieces es)) (2 ^ 64)
next-apart es i gone x inside is apart = let A : List TextPiece → Type 0 = λ t. AreApart gone t (2 ^ 64) in subst A (drop-piece es i x inside is) apart

pub returns-then-end-start : goal.returns-then-end-start
returns-then-end-start c =
    let es = pieces c.args.edits.now in
    cursor-none es c.args.start c.args.end (λ k _. not-held-turned es c.args.start c.args.end k c.if-end-start.true)

pub overflow_sub-edit : goal.overflow_sub-edit
overflow_sub-edit c = (next-apart c.args.edits.now c.loop-index.index c.loop-index.gone c.index-edits-index.result c.loop-index-test.true c.index-edits-index.is c.loop-index.invariant.apart).0

starts : (es : List TextEdit) (i gone made : ℕ) (x : TextEdit) → i < length es → x ≡ get_or es i x → AreApart gone (drop i (pieces es)) (2 ^ 64) → taken (take i (pieces es)) ≤ gone → made + taken (take i (pieces es)) ≡ gone + put_in (take i (pieces es)) → new_start (pieces es) i ≡ made + (x.start - gone)
starts es i gone made x inside is apart small count =
    new_start-is (pieces es) i gone made (as_piece x) (piece-is es i x inside is nothing) small count (next-apart es i gone x inside is apart).0

pub returns-in_default : goal.returns-in_default
returns-in_default c =
    let es = c.args.edits.now in
    let i = c.loop-index.index in
    let x = c.index-edits-index.result in
    let v = c.loop-index.invariant in
    let inside = c.loop-index-test.true in
    let first = starts es i c.loop-index.gone c.loop-index.made x inside c.index-edits-index.is v.apart v.small v.count in
    let large : c.loop-index.made + (x.start - c.loop-index.gone) < 2 ^ 64 → ⊥ = c.in_default.ensures in
    let start_fits : c.args.start < 2 ^ 64 = omega arith in
    cursor-passed (pieces es) (2 ^ 64) c.args.start c.args.end i c.requires (pieces-inside es i x inside c.index-edits-index.is) v.before (omega (arith, large))

pub returns-then-start-first : goal.returns-then-start-first
returns-then-start-first c =
    let es = c.args.edits.now in
    let i = c.loop-index.index in
    let x = c.index-edits-index.result in
    let v = c.loop-index.invariant in
    let inside = c.loop-index-test.true in
    let first = starts es i c.loop-index.gone c.loop-index.made x inside c.index-edits-index.is v.apart v.small v.count in
    let first_is : c.in-Some.first ≡ c.loop-index.made + (x.start - c.loop-index.gone) = c.in-Some.ensures.1 in
    cursor-passed (pieces es) (2 ^ 64) c.args.start c.args.end i c.requires (pieces-inside es i x inside c.index-edits-index.is) v.before (omega (arith, c.if-start-first.true))

pub returns-then-end-first : goal.returns-then-end-first
returns-then-end-first c =
    let es = c.args.edits.now in
    let i = c.loop-index.index in
    let x = c.index-edits-index.result in
    let v = c.loop-index.invariant in
    let inside = c.loop-index-test.true in
    let is = c.index-edits-index.is in
    let first : c.in-Some.first ≡ new_start (pieces es) i = c.in-Some.ensures.1 ∙ sym (starts es i c.loop-index.gone c.loop-index.made x inside is v.apart v.small v.count) in
    let len : c.len-len.result ≡ length (string_bytes x.text) = search rules in
    let here : length (piece_at (pieces es) i).text ≡ length (string_bytes x.text) = ap (λ e. length e.text) (piece-is es i x inside is nothing) in
    let from : new_start (pieces es) i ≤ c.args.start = omega (arith, c.if-start-first.false) in
    let upto : c.args.end ≤ new_start (pieces es) i + length (piece_at (pieces es) i).text = omega (arith, c.if-end-first.true) in
    let told = ap (λ (n : ℕ). Some (record { edit = i; start = c.args.start - n; end = c.args.end - n })) first in
    told ∙ cursor-here (pieces es) c.args.start c.args.end i (pieces-inside es i x inside is) (held (pieces es) c.args.start c.args.end i c.if-end-start.false from upto) v.before

pub loop-index-preserved : goal.loop-index-preserved
loop-index-preserved c =
    let es = c.args.edits.now in
    let i = c.loop-index.index in
    let x = c.index-edits-index.result in
    let v = c.loop-index.invariant in
    let inside = c.loop-index-test.true in
    let is = c.index-edits-index.is in
    let apart = next-apart es i c.loop-index.gone x inside is v.apart in
    let first = starts es i c.loop-index.gone c.loop-index.made x inside is v.apart v.small v.count in
    let first_is : c.in-Some.first ≡ c.loop-index.made + (x.start - c.loop-index.gone) = c.in-Some.ensures.1 in
    let len : c.len-len.result ≡ length (string_bytes x.text) = search rules in
    let here : (piece_at (pieces es) i).text ≡ string_bytes x.text = ap (λ e. e.text) (piece-is es i x inside is nothing) in
    let long : length (piece_at (pieces es) i).text ≡ c.len-len.result = ap length here ∙ sym len in
    let gone_is : taken (take (i + 1) (pieces es)) ≡ taken (take i (pieces es)) + (x.end - x.start) = ap taken (take-piece es i x inside is) ∙ taken_push (take i (pieces es)) (as_piece x) in
    let put_is : put_in (take (i + 1) (pieces es)) ≡ put_in (take i (pieces es)) + length (string_bytes x.text) = ap put_in (take-piece es i x inside is) ∙ put_in_push (take i (pieces es)) (as_piece x) in
    let behind : c.loop-index.gone ≤ x.start = apart.0 in
    let wide : x.start ≤ x.end = apart.1 in
    record {
      apart = apart.2;
      small = omega arith;
      count = omega arith;
      before = below_more _ _ v.before (not-held-behind (pieces es) c.args.start c.args.end i (omega arith));
    }

pub returns : goal.returns
returns c =
    let es = c.args.edits.now in
    let n : length (pieces es) ≤ c.loop-index.index = rw (length-map es as_piece) c.loop-index-test.false in
    cursor-none (pieces es) c.args.start c.args.end (λ k inside. c.loop-index.invariant.before k (omega arith))
