use Rattle.std.proofs.Common.{◌≡◌, ◌+◌, ◌≤◌, ◌^◌, ◌∷◌, ◌++◌, List, [], length, take, drop, ap, sym, subst, arith}
use Rattle.std.proofs.lemmas.Result.{err_from_is_err_and}
use Rattle.std.proofs.lemmas.List.{take_all, drop_all, length-map}
use Rattle.text_edit.specs.TextPiece.{TextPiece, as_piece, pieces, AreApart, FitText, applied}
use Rattle.text_edit.specs.inner.Composing.{place_of, Reached}
use Rattle.text_edit.proofs.Pieces.{pieces-inside, drop-piece, take-piece}
use Rattle.text_edit.proofs.Passing.{place}
use Rattle.text_edit.proofs.Carrying.{Reached-start, Reached-next, Reached-end, FitText-others, FitText-last, compose-refuses}
use Rattle.text_edit.proofs.compose.composed.Goals as goal

pub loop-index-init : goal.loop-index-init
loop-index-init c =
    let first = pieces c.args.first.now in
    let next = pieces c.args.next.now in
    let out_is : pieces c.new.result.items ≡ [] = ap pieces c.new.ensures.items in
    let A : List TextPiece → Type 0 = λ t. AreApart 0 t 0 in
    record {
      place = record { rest_apart = c.requires.first; out_apart = subst A (sym out_is) (omega arith) };
      apart = c.requires.next;
      reached = λ s utf8 fit _. let P : List TextPiece → Type 0 = λ t. Reached first next 0 next (place [] 0 first t) s in subst P (sym out_is) (Reached-start first next s utf8 fit);
    }

pub carry_out-requires-clause-place : goal.carry_out-requires-clause-place
carry_out-requires-clause-place c = c.loop-index.invariant.place

pub carry_out-requires-clause-apart : goal.carry_out-requires-clause-apart
carry_out-requires-clause-apart c =
    let A : List TextPiece → Type 0 = λ t. AreApart c.loop-index.passed t (2 ^ 64) in
    let apart = subst A (drop-piece c.args.next.now c.loop-index.index c.index-next-index.result c.loop-index-test.true c.index-next-index.is) c.loop-index.invariant.apart in
    (apart.0, apart.1)

pub loop-index-preserved : goal.loop-index-preserved
loop-index-preserved c =
    let first = pieces c.args.first.now in
    let next = pieces c.args.next.now in
    let i = c.loop-index.index in
    let x = c.index-next-index.result in
    let e = as_piece x in
    let rest = drop (i + 1) next in
    let passed = c.loop-index.passed in
    let inside = c.loop-index-test.true in
    let is = c.index-next-index.is in
    let v = c.loop-index.invariant in
    let here : drop i next ≡ e ∷ rest = drop-piece c.args.next.now i x inside is in
    let more : take (i + 1) next ≡ take i next ++ e ∷ [] = take-piece c.args.next.now i x inside is in
    let A : List TextPiece → Type 0 = λ t. AreApart passed t (2 ^ 64) in
    let apart : AreApart passed (e ∷ rest) (2 ^ 64) = subst A here v.apart in
    record {
      place = c.in_ok-carry_out.ensures.place;
      apart = apart.2;
      reached = λ s utf8 fit fits.
          let t = applied first s in
          let F : List TextPiece → Type 0 = FitText t in
          let fits' : FitText t (take i next ++ e ∷ []) = subst F more fits in
          let R : List TextPiece → Type 0 = λ es. Reached first next passed es (place_of c.loop-index.composing) s in
          Reached-next first next rest passed e (place_of c.loop-index.composing) (place_of c.carry_out.new.self) s apart.0 apart.1 c.in_ok-carry_out.ensures.carried (FitText-last t (take i next) e fits') (subst R here (v.reached s utf8 fit (FitText-others t (take i next) e fits')));
    }

pub returns-in_err-carry_out-clause-refused : goal.returns-in_err-carry_out-clause-refused
returns-in_err-carry_out-clause-refused c =
    let p = err_from_is_err_and c.from_residual.result c.from_residual.ensures.1 in
    let first = pieces c.args.first.now in
    let es = c.args.next.now in
    let i = c.loop-index.index in
    let x = c.index-next-index.result in
    let inside = c.loop-index-test.true in
    let is = c.index-next-index.is in
    rw (p.1, p.2) (compose-refuses first (pieces es) (drop i (pieces es)) i c.loop-index.passed (as_piece x) (place_of c.loop-index.composing) (pieces-inside es i x inside is) (take-piece es i x inside is) c.loop-index.invariant.reached _ c.in_err-carry_out.ensures.refused)

pub finish-requires : goal.finish-requires
finish-requires c = c.loop-index.invariant.place

pub returns-clause-apart : goal.returns-clause-apart
returns-clause-apart c = c.in_ok-finish.ensures.apart

pub returns-clause-composed : goal.returns-clause-composed
returns-clause-composed c s utf8 fit fits =
    let first = pieces c.args.first.now in
    let next = pieces c.args.next.now in
    let i = c.loop-index.index in
    let n : length next ≤ i = rw (length-map c.args.next.now as_piece) c.loop-index-test.false in
    let F : List TextPiece → Type 0 = FitText (applied first s) in
    let R : List TextPiece → Type 0 = λ es. Reached first next c.loop-index.passed es (place_of c.loop-index.composing) s in
    Reached-end first next (pieces c.in_ok-finish.field-0.items) c.loop-index.passed (place_of c.loop-index.composing) s c.in_ok-finish.ensures (subst R (drop_all i next n) (c.loop-index.invariant.reached s utf8 fit (subst F (sym (take_all i next n)) fits)))
