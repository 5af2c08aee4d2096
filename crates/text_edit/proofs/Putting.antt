-- One piece more at the end of a list.
use Rattle.std.proofs.Common.{◌≡◌, ◌∙◌, ◌+◌, ◌-◌, ◌≤◌, ℕ, List, [], ◌∷◌, ◌++◌, length, take, drop, get_or, set, ap, sym, subst, arith, suc, ◌<◌}
use Rattle.std.proofs.Math.Seq.{take-add, take-append_seam, drop-append_seam}
use Rattle.std.proofs.Math.Numerals.{add-one}
use Rattle.std.proofs.lemmas.List.{append_assoc, append-nil, drop_all, take_all, length-take, length-take-le, length-map, map-set, take_more, set_split}
use Rattle.std.proofs.lemmas.List.Elements.{All-push, All-take, All-drop, All-head}
use Rattle.text_edit.specs.declared.text_edit.TextEdit.{TextEdit}
use Rattle.text_edit.specs.TextPiece.{TextPiece, as_piece, pieces, AreApart, FitsText, FitText, applied_from, applied}
use Rattle.text_edit.specs.OrderRefusal.{nothing, piece_at}
use Rattle.text_edit.specs.inner.Joined.{joined}
use Rattle.text_edit.specs.inner.Composing.{Puts}
use Rattle.text_edit.proofs.Ordered.{AreApart-push, AreApart-before_last}
use Rattle.text_edit.proofs.Pieces.{piece-is}
use Rattle.text_edit.proofs.AppliedParts.{applied_from-append}

-- a piece in the place of a whole text
pub applied_from-lone : (e : TextPiece) (ys : List ℕ) → length ys ≤ e.stop - e.first → applied_from e.first (e ∷ []) ys ≡ e.text
applied_from-lone e ys len =
    let none : e.first - e.first ≡ 0 = omega arith in
    ap (λ n. take n ys ++ e.text ++ drop (e.stop - e.first) ys) none ∙ ap (λ t. e.text ++ t) (drop_all (e.stop - e.first) ys len) ∙ append-nil e.text

module _ (es : List TextPiece) (e : TextPiece) (apart : AreApart 0 es e.first) (own : e.first ≤ e.stop) where
  applied-push : (s : List ℕ) → e.first ≤ length s → applied (es ++ e ∷ []) (take e.stop s) ≡ applied es (take e.first s) ++ e.text
  applied-push s inside =
      let xs = take e.first s in
      let ys = take (e.stop - e.first) (drop e.first s) in
      let whole : e.first + (e.stop - e.first) ≡ e.stop = omega arith in
      let parts : take e.stop s ≡ xs ++ ys = ap (λ n. take n s) (sym whole) ∙ take-add e.first (e.stop - e.first) s in
      let len : 0 + length xs ≡ e.first = omega (arith, length-take-le e.first s inside) in
      let short : length ys ≤ e.stop - e.first = omega (arith, length-take (e.stop - e.first) (drop e.first s)) in
      let behind : AreApart e.first (e ∷ []) e.stop = (omega arith, own, omega arith) in
      ap (applied (es ++ e ∷ [])) parts ∙ applied_from-append 0 e.first e.stop es (e ∷ []) xs ys len apart behind ∙ ap (λ t. applied es xs ++ t) (applied_from-lone e ys short)

  pub Puts-push : Puts es (es ++ e ∷ []) e.first e.stop e.text
  Puts-push = record {
    apart = AreApart-push 0 es e.first e apart (omega arith) own;
    puts = λ s fit from to. record { fit = All-push (FitsText s) es e fit (from, to); grown = applied-push s from.0 };
  }

pub Puts-nothing : (es : List TextPiece) (from : ℕ) → AreApart 0 es from → Puts es es from from []
Puts-nothing es from apart = record {
  apart = apart;
  puts = λ s fit _ _. record { fit = fit; grown = sym (append-nil (applied es (take from s))) };
}

pub Puts-joined : (es : List TextPiece) (e : TextPiece) (to : ℕ) (more : List ℕ) → AreApart 0 (es ++ e ∷ []) e.stop → e.stop ≤ to → Puts (es ++ e ∷ []) (es ++ joined e to more ∷ []) e.stop to more
Puts-joined es e to more apart behind =
    let before = AreApart-before_last 0 es e e.stop apart in
    let wide : e.first ≤ to = omega arith in
    let old = Puts-push es e before.0 before.1 in
    let new = Puts-push es (joined e to more) before.0 wide in
    record {
      apart = new.apart;
      puts = λ s fit from up_to.
          let es_fit : FitText s es = (let P : List TextPiece → Type 0 = FitText s in subst P (take-append_seam es (e ∷ [])) (All-take (FitsText s) (length es) (es ++ e ∷ []) fit)) in
          let e_fit : FitsText s e = All-head (FitsText s) e [] (let P : List TextPiece → Type 0 = FitText s in subst P (drop-append_seam es (e ∷ [])) (All-drop (FitsText s) (length es) (es ++ e ∷ []) fit)) in
          let was = old.puts s es_fit e_fit.0 e_fit.1 in
          let is = new.puts s es_fit e_fit.0 up_to in
          record { fit = is.fit; grown = is.grown ∙ sym (append_assoc (applied es (take e.first s)) e.text more) ∙ ap (λ t. t ++ more) (sym was.grown) };
    }

-- the last element of a list
module _ {X : Type 0} (xs : List X) (n : ℕ) (last : n + 1 ≡ length xs) where
  pub last-split : (d : X) → xs ≡ take n xs ++ get_or xs n d ∷ []
  last-split d =
      let whole : length xs ≤ n + 1 = omega arith in
      let inside : n < length xs = omega arith in
      sym (take_all (n + 1) xs whole) ∙ take_more xs n d inside

  pub last-set : (x : X) → set xs n x ≡ take n xs ++ x ∷ []
  last-set x =
      let inside : n < length xs = omega arith in
      let whole : length xs ≤ suc n = omega (arith, add-one n) in
      set_split xs n x inside ∙ ap (λ t. take n xs ++ x ∷ t) (drop_all (suc n) xs whole)

-- the last edit of a list made longer
pub Puts-extended : (es : List TextEdit) (n start to : ℕ) (was x : TextEdit) (more : List ℕ) → n + 1 ≡ length es → was ≡ get_or es n was → (piece_at (pieces es) n).stop ≡ start → AreApart 0 (pieces es) start → start ≤ to → as_piece x ≡ joined (as_piece was) to more → Puts (pieces es) (pieces (set es n x)) start to more
Puts-extended es n start to was x more len is ends apart behind new =
    let ps = pieces es in
    let ds = take n ps in
    let d = as_piece was in
    let inside : n < length es = omega arith in
    let len' : n + 1 ≡ length ps = len ∙ sym (length-map es as_piece) in
    let old_is : ps ≡ ds ++ d ∷ [] = last-split ps n len' d ∙ ap (λ e. ds ++ e ∷ []) (piece-is es n was inside is d) in
    let new_is : pieces (set es n x) ≡ ds ++ joined d to more ∷ [] = map-set as_piece es n x ∙ last-set ps n len' (as_piece x) ∙ ap (λ e. ds ++ e ∷ []) new in
    let stop_is : d.stop ≡ start = ap (λ e. e.stop) (sym (piece-is es n was inside is nothing)) ∙ ends in
    let A : ℕ → Type 0 = λ k. AreApart 0 (ds ++ d ∷ []) k in
    let B : List TextPiece → Type 0 = λ t. AreApart 0 t start in
    let apart' : AreApart 0 (ds ++ d ∷ []) d.stop = subst A (sym stop_is) (subst B old_is apart) in
    let behind' : d.stop ≤ to = rw stop_is behind in
    let P : List TextPiece → Type 0 = λ t. Puts t (pieces (set es n x)) start to more in
    let Q : List TextPiece → Type 0 = λ t. Puts (ds ++ d ∷ []) t start to more in
    let R : ℕ → Type 0 = λ k. Puts (ds ++ d ∷ []) (ds ++ joined d to more ∷ []) k to more in
    subst P (sym old_is) (subst Q (sym new_is) (subst R stop_is (Puts-joined ds d to more apart' behind')))
