-- The text of a tree where the elements at some paths are left out.
--     kept, kept_from              the text without the elements whose paths pass a test; that of trees side by side
--     kept-all                     the whole text, where no path passes
--     filled-kept                  the text that a replacement by nothing fills is this one
use Rattle.std.specs.Prelude.{◌≡◌, ℕ, suc, ◌+◌, ◌||◌, Bool, true, false, cond, List, [], ◌∷◌, ◌++◌, flat_map, refl}
use Rattle.std.proofs.Common.{ap, ap₂, ◌∙◌, arith, append_assoc}
use Rattle.std.proofs.lemmas.Bool.{cond-true, cond-false}
use Rattle.cst_core.specs.Path.{Path, has_path}
use Rattle.cst_core.specs.Tree.{Forest, Token, Node, end, more, SyntaxTree, text, forest_text}
use Rattle.syntax_editor.specs.Aim.{Over}
use Rattle.syntax_editor.specs.Rewriting.{NumberedAim, replacements_at, is_replaced}
use Rattle.syntax_editor.specs.RewritingLaws.{filled_text, filled_text_from, text_filled}

abbrev mutual
  pub kept : (Path → Bool) → SyntaxTree → List ℕ
  kept c (Token k s) = s
  kept c (Node k f) = kept_from (λ i p. c (i ∷ p)) f

  -- with a test of the slot, counted from the first of them, and of the path below it
  pub kept_from : (ℕ → Path → Bool) → Forest ℕ → List ℕ
  kept_from c end = []
  kept_from c (more t f) = cond (c 0 []) [] (kept (c 0) t) ++ kept_from (λ i. c (suc i)) f

pub slot_stays : (b : Bool) (s u : List ℕ) → b ≡ false → s ≡ u → cond b [] s ≡ u
slot_stays b s u stays same = cond-false b [] s stays ∙ same

mutual
  pub kept-all : (c : Path → Bool) (t : SyntaxTree) → ((p : Path) → c p ≡ false) → kept c t ≡ text t
  kept-all c (Token k s) none = refl
  kept-all c (Node k f) none = kept_from-all (λ i p. c (i ∷ p)) f (λ i p. none (i ∷ p))

  pub kept_from-all : (c : ℕ → Path → Bool) (f : Forest ℕ) → ((i : ℕ) (p : Path) → c i p ≡ false) → kept_from c f ≡ forest_text f
  kept_from-all c end none = refl
  kept_from-all c (more t f) none =
      ap₂ (λ x y. x ++ y) (slot_stays (c 0 []) (kept (c 0) t) (text t) (none 0 []) (kept-all (c 0) t (none 0))) (kept_from-all (λ i. c (suc i)) f (λ i. none (suc i)))

or_false : (b : Bool) → (b || false) ≡ b
or_false true = refl
or_false false = refl

-- ---- what a replacement of these paths by nothing fills
module _ (brought : ℕ → List ℕ) (nothing : (n : ℕ) → brought n ≡ []) (ps : List Path) where
  abbrev pub cs : List NumberedAim
  cs = (0, Over ps) ∷ []

  none_brought : (ns : List ℕ) → flat_map brought ns ≡ []
  none_brought [] = refl
  none_brought (n ∷ ns) = ap₂ (λ x y. x ++ y) (nothing n) (none_brought ns)

  slot-kept : (p : Path) (b : Bool) (s u : List ℕ) → has_path ps p ≡ b → s ≡ u → cond (is_replaced cs p) (flat_map brought (replacements_at cs p)) s ≡ cond b [] u
  slot-kept p true s u is same = cond-true (is_replaced cs p) _ s (or_false (has_path ps p) ∙ is) ∙ none_brought (replacements_at cs p)
  slot-kept p false s u is same = cond-false (is_replaced cs p) _ s (or_false (has_path ps p) ∙ is) ∙ same

  mutual
    pub filled-kept : (p : Path) (c : Path → Bool) (t : SyntaxTree) → ((q : Path) → has_path ps (p ++ q) ≡ c q) → filled_text brought cs p t ≡ kept c t
    filled-kept p c (Token k s) tells = refl
    filled-kept p c (Node k f) tells =
        filled_from-kept p 0 (λ i q. c (i ∷ q)) f (λ d q. let same : 0 + d ≡ d = omega arith in ap (λ i. has_path ps (p ++ i ∷ q)) same ∙ tells (d ∷ q))

    filled_from-kept : (p : Path) (i : ℕ) (c : ℕ → Path → Bool) (f : Forest ℕ) → ((d : ℕ) (q : Path) → has_path ps (p ++ (i + d) ∷ q) ≡ c d q) → filled_text_from brought cs p i f ≡ kept_from c f
    filled_from-kept p i c end tells = refl
    filled_from-kept p i c (more t f) tells =
        let here : i ≡ i + 0 = omega arith in
        let own : (q : Path) → has_path ps ((p ++ i ∷ []) ++ q) ≡ c 0 q = λ q. ap (has_path ps) (append_assoc p (i ∷ []) q) ∙ ap (λ j. has_path ps (p ++ j ∷ q)) here ∙ tells 0 q in
        let rest : (d : ℕ) (q : Path) → has_path ps (p ++ (suc i + d) ∷ q) ≡ c (suc d) q = λ d q. let next : suc i + d ≡ i + suc d = omega arith in ap (λ j. has_path ps (p ++ j ∷ q)) next ∙ tells (suc d) q in
        ap₂ (λ x y. x ++ y) (slot-kept (p ++ i ∷ []) (c 0 []) _ _ (ap (λ j. has_path ps (p ++ j ∷ [])) here ∙ tells 0 []) (filled-kept (p ++ i ∷ []) (c 0) t own)) (filled_from-kept p (suc i) (λ d. c (suc d)) f rest)

  pub filled_whole : (c : Path → Bool) (t : SyntaxTree) → ((q : Path) → has_path ps q ≡ c q) → c [] ≡ false → text_filled brought cs t ≡ kept c t
  filled_whole c t tells top = slot-kept [] false _ _ (tells [] ∙ top) (filled-kept [] c t tells)
