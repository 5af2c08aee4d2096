-- Texts with spaces at their ends, which settle what stands between.
--     same-behind      what stands behind spaces and begins with no space
--     same-before      what stands before spaces and ends with no space
use Rattle.std.proofs.Common.{◌≡◌, ◌≢◌, ℕ, List, [], ◌∷◌, ◌++◌, refl, sym, ◌∙◌, ap}
use Rattle.script_lines.specs.Line.{IsSpaces}

abbrev pub BeginsNot : List ℕ → Type 0
BeginsNot text = (t : List ℕ) → text ≢ 32 ∷ t

abbrev pub EndsNot : List ℕ → Type 0
EndsNot text = (t : List ℕ) → text ≢ t ++ 32 ∷ []

pub same-behind : (a b x y : List ℕ) → IsSpaces a → IsSpaces b → BeginsNot x → BeginsNot y → a ++ x ≡ b ++ y → x ≡ y
same-behind [] [] x y first second begins other is = is
same-behind [] (c ∷ b) x y first second begins other is = absurd (begins (b ++ y) (is ∙ ap (λ d. d ∷ (b ++ y)) second.0))
same-behind (c ∷ a) [] x y first second begins other is = absurd (other (a ++ x) (sym is ∙ ap (λ d. d ∷ (a ++ x)) first.0))
same-behind (c ∷ a) (d ∷ b) x y first second begins other is =
    let rest : a ++ x ≡ b ++ y = cc in
    same-behind a b x y first.1 second.1 begins other rest

-- spaces that are not empty end with one
ends-so : (c : ℕ) (s : List ℕ) → IsSpaces (c ∷ s) → (t : List ℕ) × (c ∷ s ≡ t ++ 32 ∷ [])
ends-so c [] all = ([], ap (λ d. d ∷ []) all.0)
ends-so c (d ∷ s) all = let more = ends-so d s all.1 in (c ∷ more.0, ap (λ l. c ∷ l) more.1)

front-spaces : (s x y : List ℕ) → IsSpaces s → s ≡ x ++ y → IsSpaces x
front-spaces s [] y all is = tt
front-spaces [] (c ∷ x) y all is = absurd (let no : [] ≡ c ∷ (x ++ y) = is in cc)
front-spaces (d ∷ s) (c ∷ x) y all is =
    let here : d ≡ c = cc in
    let rest : s ≡ x ++ y = cc in
    (sym here ∙ all.0, front-spaces s x y all.1 rest)

not-behind : (c : ℕ) (x : List ℕ) → EndsNot (c ∷ x) → EndsNot x
not-behind c x ends t is = ends (c ∷ t) (ap (λ l. c ∷ l) is)

never-so : {A : Type 0} (c : ℕ) (x s y : List ℕ) → IsSpaces s → s ≡ (c ∷ x) ++ y → EndsNot (c ∷ x) → A
never-so c x s y all is ends = let so = ends-so c x (front-spaces s (c ∷ x) y all is) in absurd (ends so.0 so.1)

pub same-before : (x y a b : List ℕ) → IsSpaces a → IsSpaces b → EndsNot x → EndsNot y → x ++ a ≡ y ++ b → x ≡ y
same-before [] [] a b first second ends other is = refl
same-before [] (c ∷ y) a b first second ends other is = never-so c y a b first is other
same-before (c ∷ x) [] a b first second ends other is = never-so c x b a second (sym is) ends
same-before (c ∷ x) (d ∷ y) a b first second ends other is =
    let here : c ≡ d = cc in
    let rest : x ++ a ≡ y ++ b = cc in
    let same = same-before x y a b first second (not-behind c x ends) (not-behind d y other) rest in
    ap (λ l. c ∷ l) same ∙ ap (λ e. e ∷ y) here
