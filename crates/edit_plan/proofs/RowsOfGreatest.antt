-- Worked examples beside the last child of a tree with a text of the greatest length: the new text, and the changed paths.
use Rattle.std.specs.Prelude.{◌≡◌, ℕ, zero, suc, ◌+◌, ◌<◌, true, false, cond, not, ◌&&◌, ◌||◌, nat_eq, List, [], ◌∷◌, ◌++◌, codes, map, filter, flat_map, length, Some, None, refl}
use Rattle.std.proofs.Common.{ap, ap₂, sym, ◌∙◌, arith}
use Rattle.std.proofs.lemmas.Bool.{eqb-true, false_from_ne_true}
use Rattle.std.proofs.lemmas.List.{length-append, append-nil, append_assoc}
use Rattle.cst_core.specs.Path.{Path, same_path}
use Rattle.std.specs.Option.{option_map_or}
use mathlib.Core.Path.{fun_ext}
use Rattle.cst_core.specs.Tree.{Forest, Token, Node, end, more, SyntaxTree, forest, text, forest_text, relabelled, forest_relabelled, at, paths}
use Rattle.cst_core.specs.declared.element.SyntaxElement.TheVariants.{Token as token_value}
use Rattle.edit_map.proofs.RowTrees.{tree_X}
use Rattle.edit_map.proofs.Rows.{element_of_tree}
use Rattle.edit_change.specs.Aim.{AfterElement, Over}
use Rattle.edit_change.specs.Rewriting.{NumberedAim, numbers, inserts_at, replacements_at, is_replaced, gap_order, rewritten, rewritten_from}
use Rattle.edit_change.specs.Topmost.{holds_at, parent_holds, topmost}
use Rattle.one_pass.proofs.Tops.{tops, top-children, tops-alone}
use Rattle.edit_change.specs.NewTree.{OriginTree, new_tree, is_free}
use Rattle.edit_change.specs.Results.{changed}
use Rattle.edit_change.specs.Places.{TextIsTooLong}
use Rattle.edit_change.specs.RewritingLaws.{IsUntouched, brought_text, filled_text, filled_text_from}
use Rattle.edit_change.specs.PositionForm.{After as place_after}
use Rattle.edit_change.specs.declared.change.Change.{Change}
use Rattle.edit_change.specs.declared.change.Change.TheVariants.{Insert, Replace}
use Rattle.edit_plan.proofs.RowChanges.{no_places}
use Rattle.edit_plan.proofs.RowsOfLengths.{doubled, falling, long, longest, P, changes_emptied}
use Rattle.edit_change.proofs.Relabelled.{topmost-relabelled}
use Rattle.edit_change.proofs.BroughtTops.{marked, alone}
use Rattle.one_pass.proofs.WholeTree.{changed-whole, not_given}
use Rattle.edit_change.proofs.RewrittenAlike.{no_edits, untouched_is}
use Rattle.edit_change.proofs.Edits.{rewritten_by, rewritten_by_from}
use Rattle.edit_plan.proofs.Unowned.{text-unowned}

-- ---- a child that no aim is at or below
module _ (brought : ℕ → List ℕ) (cs : List NumberedAim) where
  deeper : (p : Path) (i : ℕ) → IsUntouched cs p → IsUntouched cs (p ++ i ∷ [])
  deeper p i u = record {
    no_inserts = λ q j. ap (λ r. inserts_at cs r j) (append_assoc p (i ∷ []) q) ∙ u.no_inserts (i ∷ q) j;
    not_replaced = λ q j. ap (λ r. is_replaced cs (r ++ j ∷ [])) (append_assoc p (i ∷ []) q) ∙ u.not_replaced (i ∷ q) j;
  }

  quiet-gap : (p : Path) (i : ℕ) → IsUntouched cs p → inserts_at cs p i ≡ []
  quiet-gap p i u = ap (λ q. inserts_at cs q i) (sym (append-nil p)) ∙ u.no_inserts [] i

  kept-here : (p : Path) (i : ℕ) → IsUntouched cs p → is_replaced cs (p ++ i ∷ []) ≡ false
  kept-here p i u = ap (λ q. is_replaced cs (q ++ i ∷ [])) (sym (append-nil p)) ∙ u.not_replaced [] i

  mutual
    filled-quiet : (p : Path) → IsUntouched cs p → (t : SyntaxTree) → filled_text brought cs p t ≡ text t
    filled-quiet p u (Token k s) = refl
    filled-quiet p u (Node k f) = filled-quiet_from p u 0 f

    filled-quiet_from : (p : Path) → IsUntouched cs p → (i : ℕ) (f : Forest ℕ) → filled_text_from brought cs p i f ≡ forest_text f
    filled-quiet_from p u i end = ap (λ ns. flat_map brought (gap_order ns)) (quiet-gap p i u)
    filled-quiet_from p u i (more t f) =
        ap₂ (λ a b. a ++ b) (ap₂ (λ ns b. flat_map brought (gap_order ns) ++ cond b (flat_map brought (replacements_at cs (p ++ i ∷ []))) (filled_text brought cs (p ++ i ∷ []) t)) (quiet-gap p i u) (kept-here p i u) ∙ filled-quiet (p ++ i ∷ []) (deeper p i u) t) (filled-quiet_from p u (suc i) f)

mutual
  none-given : (t : SyntaxTree) → rewritten_by (no_edits not_given) t ≡ relabelled (λ k. false) t
  none-given (Token k s) = refl
  none-given (Node k f) = ap (Node false) (none-given_from 0 f)

  none-given_from : (i : ℕ) (f : Forest ℕ) → forest (rewritten_by_from (no_edits not_given) i f) ≡ forest_relabelled (λ k. false) f
  none-given_from i end = refl
  none-given_from i (more t f) = ap₂ more (none-given t) (none-given_from (suc i) f)

filter-none : {X : Type 0} (xs : List X) → filter (λ x. false) xs ≡ []
filter-none [] = refl
filter-none (x ∷ xs) = filter-none xs

none-topmost : (t : SyntaxTree) → topmost (λ b. b) (relabelled (λ k. false) t) ≡ []
none-topmost t =
    topmost-relabelled (λ k. false) (λ b. b) t ∙ ap (λ test. filter test (paths t)) (fun_ext (λ p. ap (λ b. b && not (parent_holds (λ k. false) t p)) (nowhere p))) ∙ filter-none (paths t)
  where
    nowhere : (p : Path) → holds_at (λ k. false) t p ≡ false
    nowhere p = elim (at t p) as (λ o. option_map_or (λ e. false) o false ≡ false) [ None ↦ refl | Some e ↦ refl ]

-- ---- aims after and over the last child, 31
pub record IsAside (cs : List NumberedAim) (i : ℕ) : Type 0 where
  pub no_inserts : inserts_at cs [] i ≡ []
  pub not_replaced : is_replaced cs (i ∷ []) ≡ false
  pub untouched : IsUntouched cs (i ∷ [])

not-that : (i n : ℕ) → i < n → nat_eq i n ≡ false
not-that i n l = false_from_ne_true (nat_eq i n) (λ h. absurd (omega (arith, eqb-true i n h, l)))

abbrev after_last : NumberedAim
after_last = (0, AfterElement (31 ∷ []))

abbrev over_last : NumberedAim
over_last = (1, Over ((31 ∷ []) ∷ []))

aside-one : (i : ℕ) → i < 31 → IsAside (after_last ∷ []) i
aside-one i l = record {
  no_inserts = ap (λ b. numbers (cond b (after_last ∷ []) [])) (not-that i 32 (omega (arith, l)));
  not_replaced = refl;
  untouched = record { no_inserts = λ q j. refl; not_replaced = λ q j. refl };
}

aside-both : (i : ℕ) → i < 31 → IsAside (after_last ∷ over_last ∷ []) i
aside-both i l = record {
  no_inserts = ap (λ b. numbers (cond b (after_last ∷ []) [])) (not-that i 32 (omega (arith, l)));
  not_replaced = ap (λ b. ((b && true) || false) || false) (not-that i 31 l);
  untouched = record { no_inserts = λ q j. refl; not_replaced = λ q j. ap (λ b. ((b && same_path (q ++ j ∷ []) []) || false) || false) (not-that i 31 l) };
}

-- ---- texts
above : ℕ → List ℕ
above zero = []
above (suc k) = text (doubled (suc k)) ++ above k

module _ (brought : ℕ → List ℕ) (cs : List NumberedAim) (aside : (i : ℕ) → i < 31 → IsAside cs i) where
  filled-falling : (k i : ℕ) → i + k ≡ 31 → filled_text_from brought cs [] i (forest (falling k)) ≡ above k ++ filled_text_from brought cs [] 31 (forest (falling 0))
  unfolding falling above
  filled-falling zero i e = let last : i ≡ 31 = omega (arith, e) in ap (λ j. filled_text_from brought cs [] j (forest (falling 0))) last
  filled-falling (suc k) i e =
      let a = aside i (omega (arith, e)) in
      ap₂ (λ x y. x ++ y) (ap₂ (λ ns b. flat_map brought (gap_order ns) ++ cond b (flat_map brought (replacements_at cs (i ∷ []))) (filled_text brought cs (i ∷ []) (doubled (suc k)))) a.no_inserts a.not_replaced ∙ filled-quiet brought cs (i ∷ []) a.untouched (doubled (suc k))) (filled-falling k (suc i) (omega (arith, e))) ∙ sym (append_assoc (text (doubled (suc k))) (above k) (filled_text_from brought cs [] 31 (forest (falling 0))))

length-above : (k : ℕ) → length (above k) + 1 ≡ length (forest_text (forest (falling k)))
unfolding falling above doubled
length-above zero = refl
length-above (suc k) =
    let one = length-append (text (doubled (suc k))) (above k) in
    let other = length-append (text (doubled (suc k))) (forest_text (forest (falling k))) in
    let rest = length-above k in
    omega (arith, one, other, rest)

length-above_all : length (above 31) + 1 ≡ 4294967295
unfolding long
length-above_all = length-above 31 ∙ longest

-- ---- an insert after the last child, alone and with that child deleted
abbrev insert_last : Change
insert_last = Insert (place_after (token_value (P (31 ∷ [])))) (token_value (element_of_tree 2 tree_X (0 ∷ [])))

abbrev changes_more : List Change
changes_more = insert_last ∷ []

abbrev changes_exchanged : List Change
changes_exchanged = insert_last ∷ Replace (token_value (P (31 ∷ []))) None ∷ []

text-more : flat_map text (new_tree changes_more no_places (P [])) ≡ above 31 ++ codes "ax"
unfolding long falling doubled
text-more = text-unowned changes_more no_places (P []) (refl, tt) ∙ filled-falling (brought_text changes_more) (after_last ∷ []) aside-one 31 0 refl

text-exchanged : flat_map text (new_tree changes_exchanged no_places (P [])) ≡ above 31 ++ codes "x"
unfolding long falling doubled
text-exchanged = text-unowned changes_exchanged no_places (P []) (refl, (refl, tt)) ∙ filled-falling (brought_text changes_exchanged) (after_last ∷ over_last ∷ []) aside-both 31 0 refl

more_is_too_long : (made : OriginTree) → new_tree changes_more no_places (P []) ≡ made ∷ [] → TextIsTooLong made
more_is_too_long made is =
    let all : length (text made) ≡ length (above 31 ++ codes "ax") = ap length (sym (append-nil (text made)) ∙ ap (flat_map text) (sym is) ∙ text-more) in
    let sum = length-append (above 31) (codes "ax") in
    let two : length (codes "ax") ≡ 2 = refl in
    omega (arith, all, sum, two, length-above_all)

exchanged_is_of_the_greatest_length : length (flat_map text (new_tree changes_exchanged no_places (P []))) ≡ 4294967295
exchanged_is_of_the_greatest_length =
    let sum = length-append (above 31) (codes "x") in
    let one : length (codes "x") ≡ 1 = refl in
    ap length text-exchanged ∙ omega (arith, sum, one, length-above_all)

-- ---- changed paths
tops-falling : (k i : ℕ) → i + k ≡ 31 → tops (λ b. b) i (rewritten_from not_given (marked changes_exchanged no_places) (after_last ∷ over_last ∷ []) [] i (forest (falling k))) ≡ (31 ∷ []) ∷ []
unfolding falling
tops-falling zero i e =
    let last : i ≡ 31 = omega (arith, e) in
    ap (λ j. tops (λ b. b) j (rewritten_from not_given (marked changes_exchanged no_places) (after_last ∷ over_last ∷ []) [] j (forest (falling 0)))) last
tops-falling (suc k) i e =
    let cs : List NumberedAim = after_last ∷ over_last ∷ [] in
    let g = marked changes_exchanged no_places in
    let a = aside-both i (omega (arith, e)) in
    let r = rewritten not_given g cs (i ∷ []) (doubled (suc k)) in
    let rest = rewritten_from not_given g cs [] (suc i) (forest (falling k)) in
    let none : topmost (λ b. b) r ≡ [] = ap (topmost (λ b. b)) (untouched_is not_given g cs (i ∷ []) a.untouched (doubled (suc k)) ∙ none-given (doubled (suc k))) ∙ none-topmost (doubled (suc k)) in
    ap₂ (λ ns b. tops (λ b. b) i ((flat_map g (gap_order ns) ++ cond b (flat_map g (replacements_at cs (i ∷ []))) (r ∷ [])) ++ rest)) a.no_inserts a.not_replaced ∙ ap₂ (λ ps qs. map (λ p. i ∷ p) ps ++ qs) none (tops-falling k (suc i) (omega (arith, e)))

exchanged_child_is_changed : flat_map (changed (is_free changes_exchanged)) (new_tree changes_exchanged no_places (P [])) ≡ (31 ∷ []) ∷ []
unfolding long
exchanged_child_is_changed =
    changed-whole changes_exchanged no_places (P []) ∙ append-nil _ ∙ top-children (λ b. b) false (rewritten_from not_given (marked changes_exchanged no_places) (after_last ∷ over_last ∷ []) [] 0 (forest (falling 31))) refl ∙ tops-falling 31 0 refl

-- the whole tree put first, and all the rest deleted
whole_tree_put_first_is_changed : flat_map (changed (is_free changes_emptied)) (new_tree changes_emptied no_places (P [])) ≡ (0 ∷ []) ∷ []
unfolding long falling
whole_tree_put_first_is_changed =
    changed-whole changes_emptied no_places (P []) ∙ append-nil _ ∙ top-children (λ b. b) false (marked changes_emptied no_places 0) refl ∙ tops-alone (λ b. b) 0 (marked changes_emptied no_places 0) (alone changes_emptied no_places 0)
