-- Lines for new trees, word by word.
--     TreeParts, tree-parts      such a line, as its first word, its second word and what is behind them
--     TreeRead                   what was read of a line: two words, and what is left
--     same-parts                 what was read is what the line says
--     tree-is                    what was read is such a line
use Rattle.std.proofs.Common.{◌≡◌, ◌≢◌, ℕ, suc, List, [], ◌∷◌, ◌++◌, codes, inl, inr, refl, sym, ◌∙◌, ap, subst, append_assoc, append-nil, arith}
use Rattle.std.proofs.lemmas.Bool.{false≢true}
use Rattle.std.specs.List.{AllPass}
use Rattle.cst_core.specs.Tree.{SyntaxTree}
use Rattle.script_lines.specs.Dialect.{Language}
use Rattle.script_lines.specs.Line.{IsSpaces, IsTreeLine, IsLineTree, line_text}
use Rattle.script_lines.specs.Name.{IsName, is_name_byte}
use Rattle.script_lines.specs.inner.Word.{IsBehindSpaces, IsBeforeSpaces, IsFirstWord, IsLeft, IsSpread, HasNoSpace}
use Rattle.script_lines.proofs.AroundWords.{spaces-append}
use Rattle.script_lines.proofs.Ends.{BeginsNot, EndsNot, same-behind, same-before}
use Rattle.script_lines.proofs.ExpressionEnds.{expression-begins, expression-ends, begins-so, ends-so}
use Rattle.script_lines.proofs.FirstWords.{front-word, same-word, with-spaces}

-- ---- names
pub name-no-space : (text : List ℕ) → AllPass is_name_byte text → HasNoSpace text
name-no-space [] all = tt
name-no-space (b ∷ text) all =
    (λ is. false≢true (sym (ap is_name_byte is) ∙ all 0 b (omega arith)), name-no-space text (λ k d within. all (suc k) d (omega arith)))

pub name-some : (text : List ℕ) → IsName text → text ≢ []
name-some [] named none = false≢true named.0
name-some (b ∷ text) named none = cc

-- ---- what a line for a new tree is made of
opens : (s : List ℕ) → s ≢ [] → IsSpaces s → (t : List ℕ) × (s ≡ 32 ∷ t) × IsSpaces t
opens [] some all = absurd (some refl)
opens (c ∷ s) some all = (s, ap (λ d. d ∷ s) all.0, all.1)

module _ (lang : Language) where
  pub record TreeParts (line name : List ℕ) (root : SyntaxTree) : Type 0 where
    pub behind : List ℕ
    pub left : List ℕ
    pub expression : List ℕ
    pub rest : List ℕ
    pub word : IsFirstWord (line_text line) (codes "tree") behind
    pub second : IsFirstWord behind name left
    pub last : IsBehindSpaces left (expression ++ rest)
    pub spaces : IsSpaces rest
    pub named : IsName name
    pub drawn : IsLineTree lang expression root

  regroup : (a b c d e f g : List ℕ) → a ++ b ++ c ++ d ++ e ++ f ++ g ≡ a ++ (b ++ (c ++ (d ++ (e ++ (f ++ g)))))
  regroup a b c d e f g = simp append_assoc

  tree-word : HasNoSpace (codes "tree")
  tree-word =
      (λ is. absurd (omega arith), (λ is. absurd (omega arith), (λ is. absurd (omega arith), (λ is. absurd (omega arith), tt))))

  pub tree-parts : (line name : List ℕ) (root : SyntaxTree) → IsTreeLine lang line name root → TreeParts line name root
  tree-parts line name root is =
      let between = opens is.between is.apart.0 is.spaces.1 in
      let after = opens is.after is.apart.1 is.spaces.2 in
      let left = after.0 ++ (is.expression ++ is.rest) in
      let behind = between.0 ++ (name ++ 32 ∷ left) in
      let text : line_text line ≡ is.before ++ (codes "tree" ++ 32 ∷ behind) =
      is.is ∙ regroup is.before (codes "tree") is.between name is.after is.expression is.rest ∙ ap (λ s. is.before ++ (codes "tree" ++ (s ++ (name ++ (is.after ++ (is.expression ++ is.rest)))))) between.1 ∙ ap (λ s. is.before ++ (codes "tree" ++ ((32 ∷ between.0) ++ (name ++ (s ++ (is.expression ++ is.rest)))))) after.1 in
      record {
        behind = behind;
        left = left;
        expression = is.expression;
        rest = is.rest;
        word = subst (λ t. IsFirstWord t (codes "tree") behind) (sym text) (front-word is.before (codes "tree") behind is.spaces.0 tree-word (λ none. cc));
        second = front-word between.0 name left between.2 (name-no-space name is.named.1) (name-some name is.named);
        last = record { spaces = after.0; is = refl; all_spaces = after.2 };
        spaces = is.spaces.3;
        named = is.named;
        drawn = is.drawn;
      }

  -- ---- what was read of a line
  pub record TreeRead (line text left name last expression : List ℕ) : Type 0 where
    pub spread : IsSpread line text
    pub word : IsFirstWord text (codes "tree") left
    pub second : IsFirstWord left name last
    pub trimmed : IsLeft last expression

  -- what is behind the word, up to spaces at its end
  pub same-rest : (line text left behind : List ℕ) → IsSpread line text → IsFirstWord text (codes "tree") left → IsFirstWord (line_text line) (codes "tree") behind → IsBeforeSpaces behind left
  same-rest line text left behind spread word own =
      let more = with-spaces text (codes "tree") left spread.0.spaces word spread.0.all_spaces in
      let here : IsFirstWord (line_text line) (codes "tree") more.0 = subst (λ t. IsFirstWord t (codes "tree") more.0) (sym spread.0.is) more.1 in
      let same = same-word (line_text line) (codes "tree") more.0 (codes "tree") behind here own in
      subst (λ b. IsBeforeSpaces b left) same.1 more.2

  same-second : (behind left name other last own : List ℕ) → IsBeforeSpaces behind left → IsFirstWord left name last → IsFirstWord behind other own → (name ≡ other) × IsBeforeSpaces own last
  same-second behind left name other last own before first second =
      let more = with-spaces left name last before.spaces first before.all_spaces in
      let here : IsFirstWord behind name more.0 = subst (λ t. IsFirstWord t name more.0) (sym before.is) more.1 in
      let same = same-word behind name more.0 other own here second in
      (same.0, subst (λ b. IsBeforeSpaces b last) same.1 more.2)

  -- the end of a text
  first-end : (text word behind : List ℕ) → IsFirstWord text word behind → (front : List ℕ) × (text ≡ front ++ behind)
  first-end text word behind first = elim first.cut.is [
    | inl is ↦ (first.trimmed.spaces ++ (word ++ 32 ∷ []), first.trimmed.is ∙ ap (λ l. first.trimmed.spaces ++ l) is ∙ regroup-end first.trimmed.spaces word behind)
    | inr is ↦ (text, sym (append-nil text) ∙ ap (λ l. text ++ l) (sym is.1))
  ] where
    regroup-end : (s w b : List ℕ) → s ++ (w ++ 32 ∷ b) ≡ (s ++ (w ++ 32 ∷ [])) ++ b
    regroup-end s w b = ap (λ l. s ++ l) (sym (append_assoc w (32 ∷ []) b)) ∙ sym (append_assoc s (w ++ 32 ∷ []) b)

  ends-behind : (text front rest : List ℕ) → text ≡ front ++ rest → EndsNot text → EndsNot rest
  ends-behind text front rest is ends t so = ends (front ++ t) (is ∙ ap (λ l. front ++ l) so ∙ sym (append_assoc front t (32 ∷ [])))

  some-begins : (t s : List ℕ) → t ≢ [] → BeginsNot t → BeginsNot (t ++ s)
  some-begins [] s some begins u is = some refl
  some-begins (c ∷ t) s some begins u is = let here : c ≡ 32 = cc in begins t (ap (λ d. d ∷ t) here)

  -- spaces hold no expression
  spaces-behind : (a y : List ℕ) → IsSpaces (a ++ y) → IsSpaces y
  spaces-behind [] y all = all
  spaces-behind (b ∷ a) y all = spaces-behind a y all.1

  in-spaces : (a x s : List ℕ) → IsSpaces s → a ++ (40 ∷ x) ≡ s → ⊥
  in-spaces a x s all is =
      let same : ◌≡◌ {A = ℕ} 40 32 = (spaces-behind a (40 ∷ x) (subst IsSpaces (sym is) all)).0 in
      absurd (omega arith)

  same-text : (own last expression rest t : List ℕ) (root : SyntaxTree) → IsBehindSpaces own (expression ++ rest) → IsBeforeSpaces own last → IsLeft last t → IsSpaces rest → IsLineTree lang expression root → EndsNot t → expression ≡ t
  same-text own last expression rest [] root behind before left spaces drawn ends =
      let begun = expression-begins _ _ root expression drawn.0 in
      let all : IsSpaces (left.0.spaces ++ before.spaces) = spaces-append left.0.spaces before.spaces left.0.all_spaces before.all_spaces in
      let is : behind.spaces ++ (40 ∷ (begun.0 ++ rest)) ≡ left.0.spaces ++ before.spaces =
      ap (λ e. behind.spaces ++ (e ++ rest)) (sym begun.1) ∙ sym behind.is ∙ before.is ∙ ap (λ l. l ++ before.spaces) (left.0.is ∙ append-nil left.0.spaces) in
      absurd (in-spaces behind.spaces (begun.0 ++ rest) (left.0.spaces ++ before.spaces) all is)
  same-text own last expression rest (c ∷ t) root behind before left spaces drawn ends =
      let begun = expression-begins _ _ root expression drawn.0 in
      let ended = expression-ends _ _ root expression drawn.0 in
      let is : behind.spaces ++ (expression ++ rest) ≡ left.0.spaces ++ ((c ∷ t) ++ before.spaces) =
      sym behind.is ∙ before.is ∙ ap (λ l. l ++ before.spaces) left.0.is ∙ append_assoc left.0.spaces (c ∷ t) before.spaces in
      let same = same-behind behind.spaces left.0.spaces (expression ++ rest) ((c ∷ t) ++ before.spaces) behind.all_spaces left.0.all_spaces (begins-so expression begun.0 rest begun.1) (some-begins (c ∷ t) before.spaces (λ none. cc) left.1) is in
      same-before expression (c ∷ t) rest before.spaces spaces before.all_spaces (ends-so expression ended.0 ended.1) ends same

  pub same-parts : (line text left name last t other : List ℕ) (root : SyntaxTree) → TreeRead line text left name last t → TreeParts line other root → IsLineTree lang t root
  same-parts line text left name last t other root read parts =
      let before = same-rest line text left parts.behind read.spread read.word parts.word in
      let second = same-second parts.behind left name other last parts.left before read.second parts.second in
      let one = first-end text (codes "tree") left read.word in
      let two = first-end left name last read.second in
      let ends = ends-behind last read.trimmed.0.spaces t read.trimmed.0.is (ends-behind left two.0 last two.1 (ends-behind text one.0 left one.1 read.spread.1)) in
      let same = same-text parts.left last parts.expression parts.rest t root parts.last second.1 read.trimmed parts.spaces parts.drawn ends in
      subst (λ e. IsLineTree lang e root) same parts.drawn

  -- ---- a line that was read
  never-first : (word behind : List ℕ) → IsFirstWord [] word behind → ⊥
  never-first word behind first = elim first.cut.is [
    | inl is ↦ nothing-behind first.trimmed.spaces word behind (first.trimmed.is ∙ ap (λ l. first.trimmed.spaces ++ l) is)
    | inr is ↦ first.not_empty (sym is.0 ∙ nothing-left first.trimmed.spaces first.left (sym first.trimmed.is))
  ] where
    nothing-left : (s l : List ℕ) → s ++ l ≡ [] → l ≡ []
    nothing-left [] l is = is
    nothing-left (c ∷ s) l is = absurd (let none : c ∷ (s ++ l) ≡ [] = is in cc)

    nothing-behind : (s w b : List ℕ) → [] ≡ s ++ (w ++ 32 ∷ b) → ⊥
    nothing-behind [] [] b is = cc
    nothing-behind [] (d ∷ w) b is = cc
    nothing-behind (c ∷ s) w b is = cc

  -- a first word that something is behind
  parted : (text word behind : List ℕ) → IsFirstWord text word behind → behind ≢ [] → (s : List ℕ) × (text ≡ s ++ (word ++ 32 ∷ behind)) × IsSpaces s
  parted text word behind first some = elim first.cut.is [
    | inl is ↦ (first.trimmed.spaces, first.trimmed.is ∙ ap (λ l. first.trimmed.spaces ++ l) is, first.trimmed.all_spaces)
    | inr is ↦ absurd (some is.1)
  ]

  assemble : (line text left last a n b c e s : List ℕ) → line ≡ text ++ s → text ≡ a ++ (codes "tree" ++ 32 ∷ left) → left ≡ b ++ (n ++ 32 ∷ last) → last ≡ c ++ e → line ≡ a ++ codes "tree" ++ (32 ∷ b) ++ n ++ (32 ∷ c) ++ e ++ s
  assemble line text left last a n b c e s spread one two three =
      spread ∙ ap (λ t. t ++ s) (one ∙ ap (λ l. a ++ (codes "tree" ++ 32 ∷ l)) (two ∙ ap (λ l. b ++ (n ++ 32 ∷ l)) three)) ∙ in-order a (codes "tree") b n c e s where
        in-order : (a w b n c e s : List ℕ) → (a ++ (w ++ 32 ∷ (b ++ (n ++ 32 ∷ (c ++ e))))) ++ s ≡ a ++ w ++ (32 ∷ b) ++ n ++ (32 ∷ c) ++ e ++ s
        in-order a w b n c e s =
            let flat : (a ++ (w ++ 32 ∷ (b ++ (n ++ 32 ∷ (c ++ e))))) ++ s ≡ a ++ (w ++ 32 ∷ (b ++ (n ++ 32 ∷ (c ++ (e ++ s))))) = simp append_assoc in
            flat ∙ sym (regroup a w (32 ∷ b) n (32 ∷ c) e s)

  pub tree-is : (line text left name last t : List ℕ) (root : SyntaxTree) → TreeRead line text left name last t → IsName name → IsLineTree lang t root → IsTreeLine lang line name root
  tree-is line text left name last t root read named drawn =
      let begun = expression-begins _ _ root t drawn.0 in
      let some_last : last ≢ [] = λ none. in-spaces read.trimmed.0.spaces begun.0 [] tt (ap (λ l. read.trimmed.0.spaces ++ l) (sym begun.1) ∙ sym read.trimmed.0.is ∙ none) in
      let some_left : left ≢ [] = λ none. never-first name last (subst (λ l. IsFirstWord l name last) none read.second) in
      let one = parted text (codes "tree") left read.word some_left in
      let two = parted left name last read.second some_last in
      record {
        before = one.0;
        between = 32 ∷ two.0;
        after = 32 ∷ read.trimmed.0.spaces;
        expression = t;
        rest = read.spread.0.spaces;
        is = assemble (line_text line) text left last one.0 name two.0 read.trimmed.0.spaces t read.spread.0.spaces read.spread.0.is one.1 two.1 read.trimmed.0.is;
        spaces = (one.2, (refl, two.2), (refl, read.trimmed.0.all_spaces), read.spread.0.all_spaces);
        apart = (λ none. cc, λ none. cc);
        named = named;
        drawn = drawn;
      }
