-- What an error refuses.
--     bad-refuses       what is read is bad
--     err-refuses       the same of a result
--     refuses-part, err-also, refuses-also      what has a part that is refused
--     bad-read, err-read, bad-tree, err-tree      the same of a line that begins with a word
--     behind-taken, behind-place      what is left behind the first word
--     beside-ref        the element beside a position is the next word
--     no-other          the first word says this, and no other
use Rattle.std.proofs.Common.{◌≡◌, ℕ, List, ◌∷◌, Result, Ok, Err, IfErr, IsErrAnd, codes, sym, subst}
use Rattle.script_lines.specs.Refusals.{Refuses}
use Rattle.script_lines.specs.Dialect.{Language}
use Rattle.script_lines.specs.Line.{IsGap, IsLine, IsRef, fields}
use Rattle.script_lines.specs.ScriptLine.{Ref, Gap, First, Last, Before, After, ScriptLine}
use Rattle.script_lines.specs.inner.Commands.{BeginsPlace, IsPlace, IsReadIn, IsTreeRead}
use Rattle.script_lines.specs.inner.Taken.{Begins, IsTaken}
use Rattle.script_lines.specs.declared.line.Line.{Line}
use Rattle.script_lines.specs.inner.Word.{IsFirstWord, IsSpread}
use Rattle.script_lines.specs.declared.error.LineError.{LineError}
use Rattle.script_lines.specs.declared.error.LineError.TheVariants.{Bad, Memory}
use Rattle.script_lines.specs.declared.fault.Fault.{Fault}

pub bad-refuses : {A : Type 0} (P : A → Type 0) (e : LineError) (fault : Fault) → e ≡ Bad fault → ((a : A) → P a → ⊥) → Refuses P e
bad-refuses P e fault is none = subst (Refuses P) (sym is) none

pub err-refuses : {A T : Type 0} (P : A → Type 0) (r : Result T LineError) (fault : Fault) → IsErrAnd r (λ e. e ≡ Bad fault) → ((a : A) → P a → ⊥) → IfErr r (Refuses P)
err-refuses P (Ok t) fault is none = tt
err-refuses P (Err e) fault is none = bad-refuses P e fault is none

pub refuses-part : {A B : Type 0} (P : A → Type 0) (Q : B → Type 0) (e : LineError) → ((b : B) → Q b → (a : A) × P a) → Refuses P e → Refuses Q e
refuses-part P Q (Bad fault) has none = λ b q. let p = has b q in none p.0 p.1
refuses-part P Q Memory has none = tt

pub err-also : {A B T : Type 0} (P : A → Type 0) (Q : B → Type 0) (r : Result T LineError) (e : LineError) → IsErrAnd r (λ d. d ≡ e) → ((b : B) → Q b → (a : A) × P a) → Refuses P e → IfErr r (Refuses Q)
err-also P Q (Ok t) e is has none = tt
err-also P Q (Err d) e is has none = subst (Refuses Q) (sym is) (refuses-part P Q e has none)

pub refuses-also : {A B T : Type 0} (P : A → Type 0) (Q : B → Type 0) (r : Result T LineError) → ((b : B) → Q b → (a : A) × P a) → IfErr r (Refuses P) → IfErr r (Refuses Q)
refuses-also P Q (Ok t) has none = tt
refuses-also P Q (Err e) has none = refuses-part P Q e has none

pub no-other : {A : Type 0} (Says : List ℕ → A → Type 0) (all left rest : List (List ℕ)) (word : List ℕ) (a : A) → all ≡ word ∷ rest → IsTaken Says all left a → Says word a
no-other Says all left rest word a is taken =
    let first : all ≡ taken.word ∷ left = taken.first in
    let same : taken.word ≡ word = cc in
    subst (λ w. Says w a) same taken.says

-- ---- a line that begins with a word
pub bad-read : (lang : Language) (word : List ℕ) (all : List (List ℕ)) (r : Result Line LineError) (fault : Fault) → IsErrAnd r (λ e. e ≡ Bad fault) → ((line : List ℕ) → fields line ≡ word ∷ all → (l : ScriptLine) → IsLine lang line l → ⊥) → IsReadIn lang word all r
bad-read lang word all (Ok l) fault is none = absurd is
bad-read lang word all (Err e) fault is none = λ line begins. bad-refuses (IsLine lang line) e fault is (none line begins)

pub err-read : {A : Type 0} (lang : Language) (P : A → Type 0) (word : List ℕ) (all : List (List ℕ)) (r : Result Line LineError) (e : LineError) → IsErrAnd r (λ d. d ≡ e) → Refuses P e → ((line : List ℕ) → fields line ≡ word ∷ all → (l : ScriptLine) → IsLine lang line l → (a : A) × P a) → IsReadIn lang word all r
err-read lang P word all (Ok l) e is none has = absurd is
err-read lang P word all (Err d) e is none has = λ line begins. subst (Refuses (IsLine lang line)) (sym is) (refuses-part P (IsLine lang line) e (has line begins) none)

pub behind-taken : {A : Type 0} (Says : List ℕ → A → Type 0) (all left others : List (List ℕ)) (word : List ℕ) (a : A) → IsTaken Says all left a → all ≡ word ∷ others → left ≡ others
behind-taken Says all left others word a taken is = let first : all ≡ taken.word ∷ left = taken.first in cc

pub behind-place : (all left others : List (List ℕ)) (word beside : List ℕ) (gap : Gap) → IsPlace all left gap → all ≡ word ∷ beside ∷ others → left ≡ others
behind-place all left others word beside gap place is = let first : all ≡ place.word ∷ place.beside ∷ left = place.first in cc

gap-ref : (word beside : List ℕ) (gap : Gap) → IsGap word beside gap → (r : Ref) × IsRef beside r
gap-ref word beside (First r) is = (r, is.1)
gap-ref word beside (Last r) is = (r, is.1)
gap-ref word beside (Before r) is = (r, is.1)
gap-ref word beside (After r) is = (r, is.1)

pub beside-ref : (all others : List (List ℕ)) (word : List ℕ) → all ≡ word ∷ others → (gap : Gap) → BeginsPlace all gap → (r : Ref) × Begins IsRef others r
beside-ref all others word is gap begun =
    let place = begun.1 in
    let ref = gap-ref place.word place.beside gap place.says in
    let first : all ≡ place.word ∷ place.beside ∷ begun.0 = place.first in
    let left : others ≡ place.beside ∷ begun.0 = cc in
    (ref.0, (begun.0, record { word = place.beside; first = left; says = ref.1 }))

-- ---- a line for a new tree
pub bad-tree : (lang : Language) (left : List ℕ) (r : Result Line LineError) (fault : Fault) → IsErrAnd r (λ e. e ≡ Bad fault) → ((line text : List ℕ) → IsSpread line text → IsFirstWord text (codes "tree") left → (l : ScriptLine) → IsLine lang line l → ⊥) → IsTreeRead lang left r
bad-tree lang left (Ok l) fault is none = absurd is
bad-tree lang left (Err e) fault is none = λ line text spread word. bad-refuses (IsLine lang line) e fault is (none line text spread word)

pub err-tree : {A : Type 0} (lang : Language) (P : A → Type 0) (left : List ℕ) (r : Result Line LineError) (e : LineError) → IsErrAnd r (λ d. d ≡ e) → Refuses P e → ((line text : List ℕ) → IsSpread line text → IsFirstWord text (codes "tree") left → (l : ScriptLine) → IsLine lang line l → (a : A) × P a) → IsTreeRead lang left r
err-tree lang P left (Ok l) e is none has = absurd is
err-tree lang P left (Err d) e is none has = λ line text spread word. subst (Refuses (IsLine lang line)) (sym is) (refuses-part P (IsLine lang line) e (has line text spread word) none)
