use Rattle.std.proofs.Common.{◌≡◌, ◌∙◌, ◌+◌, ◌≤◌, ◌^◌, ◌∷◌, ◌++◌, List, [], length, drop, ap, sym, subst}
use Rattle.std.specs.List.{All}
use Rattle.std.proofs.lemmas.List.{append_assoc, append-nil, drop_all, length-map}
use Rattle.std.proofs.lemmas.List.Elements.{All-nil, All-append}
use Rattle.text_edit.specs.TextPiece.{TextPiece, as_piece, pieces, AreApart, FitText, applied}
use Rattle.text_edit.specs.Trimmed.{IsTrimmed}
use Rattle.text_edit.proofs.Pieces.{drop-piece}
use Rattle.text_edit.proofs.Narrowing.{narrowed-apart_all, narrowed-fit, narrowed-same_all, middle-ordered, middle-fit}
use Rattle.text_edit.proofs.trim.trimmed.Goals as goal

pub loop-edit-init : goal.loop-edit-init
loop-edit-init c =
    let s = c.args.old.now in
    let es = pieces c.args.edits.now in
    let none : pieces c.new-out.result.items ≡ [] = ap pieces c.new-out.ensures.items in
    let A : List TextPiece → Type 0 = λ t. AreApart 0 (t ++ es) (2 ^ 64) in
    let F : List TextPiece → Type 0 = λ t. FitText s (t ++ es) in
    let T : List TextPiece → Type 0 = All (IsTrimmed s) in
    record {
      apart = subst A (sym none) c.requires.apart;
      fit = subst F (sym none) c.requires.fit;
      same = ap (λ t. applied (t ++ es) s) none;
      trimmed = subst T (sym none) (All-nil (IsTrimmed s));
    }

pub put_trimmed-requires-clause-own : goal.put_trimmed-requires-clause-own
put_trimmed-requires-clause-own c =
    let es = c.args.edits.now in
    let i = c.loop-edit.edit-index in
    let x = c.edit-item.result in
    let out = pieces c.loop-edit.out.items in
    let A : List TextPiece → Type 0 = λ t. AreApart 0 (out ++ t) (2 ^ 64) in
    middle-ordered 0 out (as_piece x) (drop (i + 1) (pieces es)) (2 ^ 64) (subst A (drop-piece es i x c.loop-edit-test.true c.edit-item.is) c.loop-edit.invariant.apart)

pub put_trimmed-requires-clause-fit : goal.put_trimmed-requires-clause-fit
put_trimmed-requires-clause-fit c =
    let es = c.args.edits.now in
    let i = c.loop-edit.edit-index in
    let x = c.edit-item.result in
    let out = pieces c.loop-edit.out.items in
    let F : List TextPiece → Type 0 = λ t. FitText c.args.old.now (out ++ t) in
    middle-fit c.args.old.now out (as_piece x) (drop (i + 1) (pieces es)) (subst F (drop-piece es i x c.loop-edit-test.true c.edit-item.is) c.loop-edit.invariant.fit)

pub loop-edit-preserved : goal.loop-edit-preserved
loop-edit-preserved c =
    let s = c.args.old.now in
    let es = c.args.edits.now in
    let i = c.loop-edit.edit-index in
    let x = c.edit-item.result in
    let e = as_piece x in
    let v = c.loop-edit.invariant in
    let out = pieces c.loop-edit.out.items in
    let new = pieces c.put_trimmed.new.out.items in
    let rest = drop (i + 1) (pieces es) in
    let here : drop i (pieces es) ≡ e ∷ rest = drop-piece es i x c.loop-edit-test.true c.edit-item.is in
    let put = c.in_ok-put_trimmed.ensures in
    let ds = put.0 in
    let A : List TextPiece → Type 0 = λ t. AreApart 0 (out ++ t) (2 ^ 64) in
    let F : List TextPiece → Type 0 = λ t. FitText s (out ++ t) in
    let apart : AreApart 0 (out ++ e ∷ rest) (2 ^ 64) = subst A here v.apart in
    let whole : new ++ rest ≡ out ++ (ds ++ rest) = ap (λ t. t ++ rest) put.2 ∙ append_assoc out ds rest in
    let A' : List TextPiece → Type 0 = λ t. AreApart 0 t (2 ^ 64) in
    let F' : List TextPiece → Type 0 = FitText s in
    let T : List TextPiece → Type 0 = All (IsTrimmed s) in
    record {
      apart = subst A' (sym whole) (narrowed-apart_all s e ds put.1 rest (2 ^ 64) out apart);
      fit = subst F' (sym whole) (narrowed-fit s e ds put.1 rest (2 ^ 64) out (subst F here v.fit));
      same = ap (λ t. applied t s) whole ∙ narrowed-same_all s e ds put.1 rest (2 ^ 64) out apart ∙ ap (λ t. applied (out ++ t) s) (sym here) ∙ v.same;
      trimmed = subst T (sym put.2) (All-append (IsTrimmed s) out ds v.trimmed put.1.trimmed);
    }

-- behind the last edit
pub returns-clause-apart : goal.returns-clause-apart
returns-clause-apart c =
    let es = pieces c.args.edits.now in
    let i = c.loop-edit.edit-index in
    let out = pieces c.loop-edit.out.items in
    let n : length es ≤ i = rw (length-map c.args.edits.now as_piece) c.loop-edit-test.false in
    let whole : out ++ drop i es ≡ out = ap (λ t. out ++ t) (drop_all i es n) ∙ append-nil out in
    let A : List TextPiece → Type 0 = λ t. AreApart 0 t (2 ^ 64) in
    subst A whole c.loop-edit.invariant.apart

pub returns-clause-fit : goal.returns-clause-fit
returns-clause-fit c =
    let es = pieces c.args.edits.now in
    let i = c.loop-edit.edit-index in
    let out = pieces c.loop-edit.out.items in
    let n : length es ≤ i = rw (length-map c.args.edits.now as_piece) c.loop-edit-test.false in
    let whole : out ++ drop i es ≡ out = ap (λ t. out ++ t) (drop_all i es n) ∙ append-nil out in
    let F : List TextPiece → Type 0 = FitText c.args.old.now in
    subst F whole c.loop-edit.invariant.fit

pub returns-clause-same : goal.returns-clause-same
returns-clause-same c =
    let es = pieces c.args.edits.now in
    let i = c.loop-edit.edit-index in
    let out = pieces c.loop-edit.out.items in
    let n : length es ≤ i = rw (length-map c.args.edits.now as_piece) c.loop-edit-test.false in
    let whole : out ++ drop i es ≡ out = ap (λ t. out ++ t) (drop_all i es n) ∙ append-nil out in
    ap (λ t. applied t c.args.old.now) (sym whole) ∙ c.loop-edit.invariant.same
