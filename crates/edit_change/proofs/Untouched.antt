-- Aims that alter no node's children change nothing.
use Rattle.std.specs.Prelude.{◌≡◌, ℕ, zero, suc, Bool, true, false, cond, ◌||◌, List, [], ◌∷◌, ◌++◌, map, filter, flat_map, refl}
use Rattle.std.specs.List.{list_any}
use Rattle.std.proofs.Common.{ap, ap₂, sym, ◌∙◌}
use Rattle.green_tree.specs.Path.{Path, parent_path, last_slot, counted_from}
use Rattle.green_tree.specs.Tree.{Tree, Forest, Token, Node, end, more, SyntaxTree, forest, relabelled, forest_relabelled}
use Rattle.edit_change.specs.Aim.{Aim, aims_at_gap, starts_at, replaces}
use Rattle.edit_change.specs.Rewriting.{NumberedAim, numbers, inserts_at, replacements_at, is_replaced, gap_order, gap, rewritten, rewritten_from}
use Rattle.edit_change.specs.declared.aimed.AimForm.{AimForm}
use Rattle.edit_change.specs.declared.aimed.AimForm.TheVariants.{FirstIn, AfterElement, Over}
use Rattle.edit_change.specs.declared.aimed.Aimed.{Aimed}
use Rattle.edit_change.specs.inner.Aimed.{FormedAim, formed, of_formed, aim_in, aims_of, has_parent}
use Rattle.edit_change.specs.inner.KindOnly.{kind_only}
use Rattle.edit_change.proofs.AimsHere.{over_some, first_false, second_false}
use Rattle.edit_change.proofs.SeenBelow.{no_end, aims-formed}

-- ---- one aim
pub quiet_gap : (c : ℕ) (q : Path) (w : AimForm) (p : Path) (j : ℕ) → has_parent (c, aim_in q w) ≡ false → aims_at_gap p j (aim_in q w) ≡ false
quiet_gap c q FirstIn p j h = absurd (cc)
quiet_gap c [] AfterElement p j h = refl
quiet_gap c (i ∷ q) AfterElement p j h = absurd (cc)
quiet_gap c q (Over n) p j h = refl

pub quiet_slot : (c : ℕ) (q : Path) (w : AimForm) (p : Path) (j : ℕ) → has_parent (c, aim_in q w) ≡ false → replaces (p ++ j ∷ []) (aim_in q w) ≡ false
quiet_slot c q FirstIn p j h = refl
quiet_slot c q AfterElement p j h = refl
quiet_slot c [] (Over zero) p j h = refl
quiet_slot c [] (Over (suc n)) p j h = ap (λ b. b || false) (no_end p j)
quiet_slot c (i ∷ q) (Over zero) p j h = refl
quiet_slot c (i ∷ q) (Over (suc n)) p j h =
    let some = over_some c (parent_path (i ∷ q)) (last_slot (i ∷ q)) (map (λ s. parent_path (i ∷ q) ++ s ∷ []) (counted_from (suc (last_slot (i ∷ q))) n)) in
    let wrong : true ≡ false = sym some ∙ h in
    absurd (cc)

pub quiet_start : (c : ℕ) (q : Path) (w : AimForm) (p : Path) (j : ℕ) → has_parent (c, aim_in q w) ≡ false → starts_at (p ++ j ∷ []) (aim_in q w) ≡ false
quiet_start c q FirstIn p j h = refl
quiet_start c q AfterElement p j h = refl
quiet_start c [] (Over zero) p j h = refl
quiet_start c [] (Over (suc n)) p j h = no_end p j
quiet_start c (i ∷ q) (Over zero) p j h = refl
quiet_start c (i ∷ q) (Over (suc n)) p j h =
    let some = over_some c (parent_path (i ∷ q)) (last_slot (i ∷ q)) (map (λ s. parent_path (i ∷ q) ++ s ∷ []) (counted_from (suc (last_slot (i ∷ q))) n)) in
    let wrong : true ≡ false = sym some ∙ h in
    absurd (cc)

-- ---- all of them
abbrev pub AlterNothing : List FormedAim → Type 0
AlterNothing xs = list_any has_parent (map of_formed xs) ≡ false

module _ (test : Aim → Bool) (quiet : (c : ℕ) (q : Path) (w : AimForm) → has_parent (c, aim_in q w) ≡ false → test (aim_in q w) ≡ false) where
  none_pass : (xs : List FormedAim) → AlterNothing xs → numbers (filter (λ c. test c.1) (map of_formed xs)) ≡ []
  none_pass [] h = refl
  none_pass (a ∷ xs) h =
      let rest = filter (λ (c : NumberedAim). test c.1) (map of_formed xs) in
      let one = first_false (has_parent (of_formed a)) (list_any has_parent (map of_formed xs)) h in
      let others = second_false (has_parent (of_formed a)) (list_any has_parent (map of_formed xs)) h in
      ap (λ b. numbers (cond b (of_formed a ∷ rest) rest)) (quiet a.change a.path a.form one) ∙ none_pass xs others

  not_any : (xs : List FormedAim) → AlterNothing xs → list_any (λ c. test c.1) (map of_formed xs) ≡ false
  not_any [] h = refl
  not_any (a ∷ xs) h =
      let one = first_false (has_parent (of_formed a)) (list_any has_parent (map of_formed xs)) h in
      let others = second_false (has_parent (of_formed a)) (list_any has_parent (map of_formed xs)) h in
      ap (λ b. b || list_any (λ (c : NumberedAim). test c.1) (map of_formed xs)) (quiet a.change a.path a.form one) ∙ not_any xs others

module _ (xs : List FormedAim) (p : Path) (j : ℕ) (h : AlterNothing xs) where
  pub no_inserts : inserts_at (map of_formed xs) p j ≡ []
  no_inserts = none_pass (aims_at_gap p j) (λ c q w. quiet_gap c q w p j) xs h

  pub no_replacements : replacements_at (map of_formed xs) (p ++ j ∷ []) ≡ []
  no_replacements = none_pass (starts_at (p ++ j ∷ [])) (λ c q w. quiet_start c q w p j) xs h

  pub no_slot : is_replaced (map of_formed xs) (p ++ j ∷ []) ≡ false
  no_slot = not_any (replaces (p ++ j ∷ [])) (λ c q w. quiet_slot c q w p j) xs h

-- ---- the same for aims in code
module _ (xs : List Aimed) (p : Path) (j : ℕ) (h : list_any has_parent (aims_of xs) ≡ false) where
  nothing : AlterNothing (map formed xs)
  nothing = ap (list_any has_parent) (aims-formed xs) ∙ h

  inserts_none : inserts_at (aims_of xs) p j ≡ []
  inserts_none = ap (λ cs. inserts_at cs p j) (sym (aims-formed xs)) ∙ no_inserts (map formed xs) p j nothing

  slot_stays : is_replaced (aims_of xs) (p ++ j ∷ []) ≡ false
  slot_stays = ap (λ cs. is_replaced cs (p ++ j ∷ [])) (sym (aims-formed xs)) ∙ no_slot (map formed xs) p j nothing

module _ {L : Type 0} (h : ℕ → L) (given : ℕ → List (Tree L)) (xs : List Aimed) (none : list_any has_parent (aims_of xs) ≡ false) where
  abbrev cs : List NumberedAim
  cs = aims_of xs

  abbrev kept : Path → ℕ → L
  kept q k = h k

  quiet-gap : (p : Path) (j : ℕ) → gap kept given cs p j ≡ []
  quiet-gap p j = ap (λ ns. flat_map given (gap_order ns)) (inserts_none xs p j none)

  mutual
    pub untouched : (p : Path) (t : SyntaxTree) → rewritten kept given cs p t ≡ relabelled h t
    untouched p (Token k s) = refl
    untouched p (Node k f) = ap (Node (h k)) (untouched_from p 0 f)

    untouched_from : (p : Path) (i : ℕ) (f : Forest ℕ) → forest (rewritten_from kept given cs p i f) ≡ forest_relabelled h f
    untouched_from p i end = ap forest (quiet-gap p i)
    untouched_from p i (more t f) =
        let u = rewritten kept given cs (p ++ i ∷ []) t in
        let rest = rewritten_from kept given cs p (suc i) f in
        ap₂ (λ before b. forest (before ++ cond b (flat_map given (replacements_at cs (p ++ i ∷ []))) (u ∷ []) ++ rest)) (quiet-gap p i) (slot_stays xs p i none) ∙ ap₂ more (untouched (p ++ i ∷ []) t) (untouched_from p (suc i) f)

mutual
  same_labels : (t : SyntaxTree) → relabelled (λ k. k) t ≡ t
  same_labels (Token k s) = refl
  same_labels (Node k f) = ap (Node k) (same_forest f)

  same_forest : (f : Forest ℕ) → forest_relabelled (λ k. k) f ≡ f
  same_forest end = refl
  same_forest (more t f) = ap₂ more (same_labels t) (same_forest f)

pub nothing_rewritten : (given : ℕ → List SyntaxTree) (xs : List Aimed) (t : SyntaxTree) → list_any has_parent (aims_of xs) ≡ false → rewritten kind_only given (aims_of xs) [] t ≡ t
nothing_rewritten given xs t none = untouched (λ k. k) given xs none [] t ∙ same_labels t

-- ---- labels by path, too
module _ {L : Type 0} (label_at : Path → ℕ → L) (given : ℕ → List (Tree L)) (xs : List Aimed) (none : list_any has_parent (aims_of xs) ≡ false) where
  mutual
    pub unaimed : (p : Path) (t : SyntaxTree) → rewritten label_at given (aims_of xs) p t ≡ rewritten label_at (λ c. []) [] p t
    unaimed p (Token k s) = refl
    unaimed p (Node k f) = ap (λ ts. Node (label_at p k) (forest ts)) (unaimed_from p 0 f)

    unaimed_from : (p : Path) (i : ℕ) (f : Forest ℕ) → rewritten_from label_at given (aims_of xs) p i f ≡ rewritten_from label_at (λ c. []) [] p i f
    unaimed_from p i end = ap (λ ns. flat_map given (gap_order ns)) (inserts_none xs p i none)
    unaimed_from p i (more t f) =
        let u = rewritten label_at given (aims_of xs) (p ++ i ∷ []) t in
        let rest = rewritten_from label_at given (aims_of xs) p (suc i) f in
        ap₂ (λ ns b. flat_map given (gap_order ns) ++ cond b (flat_map given (replacements_at (aims_of xs) (p ++ i ∷ []))) (u ∷ []) ++ rest) (inserts_none xs p i none) (slot_stays xs p i none) ∙ ap₂ (λ v vs. v ∷ vs) (unaimed (p ++ i ∷ []) t) (unaimed_from p (suc i) f)
