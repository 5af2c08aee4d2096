-- What elements become in some steps.
--     each-more                     the copies of one element more
--     found-more                    one step more
--     found-append                  two lists of steps
--     each-next, FoundSoFar, none-so-far, one-more-step  the same, as loops keep it
use Rattle.std.specs.Prelude.{◌≡◌, ℕ, suc, ◌+◌, ◌<◌, All, List, [], ◌∷◌, ◌++◌, take, length, slice_get, get_or, Some, refl}
use Rattle.std.specs.List.{AllByRecursion}
use Rattle.std.proofs.Common.{ap, sym, subst, ◌∙◌, arith}
use Rattle.std.proofs.lemmas.List.{append-nil, append_assoc}
use Rattle.std.proofs.lemmas.List.Elements.{All-get_or, All-from_recursion}
use Rattle.cst_core.specs.Element.{Element, NumbersTell}
use Rattle.cst_core.specs.SyntaxElement.{element_of}
use Rattle.cst_core.specs.declared.element.SyntaxElement.{SyntaxElement}
use Rattle.edit_map.specs.Mapping.{mapped_elements}
use Rattle.edit_change.proofs.Lists.{all_weaker}
use Rattle.edit_plan.specs.FurtherPlans.{AreCopies}
use Rattle.edit_chain.specs.Found.{EachCopied, AreFound, roots_and_mapped}
use Rattle.edit_chain.specs.declared.step.Step.{Step}
use Rattle.edit_chain.proofs.Steps.{take-next, item-at}
use Rattle.edit_chain.proofs.TreesOfFound.{IsKnown, AllOf, known-first, known-in, told-found, found-in}

pub each-more : (s : Step) (es : List SyntaxElement) (e : SyntaxElement) (found own : List SyntaxElement) → EachCopied s es found → AreCopies s.plan s.edit e own → EachCopied s (es ++ e ∷ []) (found ++ own)
each-more s [] e found own are copies = (own, [], copies, refl, ap (λ xs. xs ++ own) are ∙ sym (append-nil own))
each-more s (x ∷ es) e found own are copies =
    (are.0, are.1 ++ own, are.2, each-more s es e are.1 own are.3 copies, ap (λ xs. xs ++ own) are.4 ∙ append_assoc are.0 are.1 own)

pub found-append : (ss ts : List Step) (es between found : List SyntaxElement) → AreFound ss es between → AreFound ts between found → AreFound (ss ++ ts) es found
found-append [] ts es between found own others = subst (λ xs. AreFound ts xs found) own others
found-append (s ∷ ss) ts es between found own others = (own.0, own.1, found-append ss ts own.0 between found own.2 others)

pub found-more : (ss : List Step) (s : Step) (es between found : List SyntaxElement) → AreFound ss es between → EachCopied s between found → AreFound (ss ++ s ∷ []) es found
found-more ss s es between found own copied = found-append ss (s ∷ []) es between found own (found, copied, refl)

-- ---- in code
abbrev Told : Step → SyntaxElement → Type 0
Told s e = NumbersTell (element_of e ∷ mapped_elements s.plan.mapping)

pub each-next : (s : Step) (es : List SyntaxElement) (i : ℕ) (e : SyntaxElement) (found own new : List SyntaxElement) → i < length es → e ≡ get_or es i e → new ≡ found ++ own → (Told s e → AreCopies s.plan s.edit e own) → (All (Told s) es → EachCopied s (take i es) found) → All (Told s) es → EachCopied s (take (i + 1) es) new
each-next s es i e found own new within is more copies before all =
    let told : Told s e = subst (Told s) (sym is) (All-get_or (Told s) es i e within all) in
    let next : suc i ≡ i + 1 = omega arith in
    let list : take i es ++ e ∷ [] ≡ take (i + 1) es = sym (take-next es i e (item-at es i e within is)) ∙ ap (λ n. take n es) next in
    subst (λ xs. EachCopied s xs new) list (subst (EachCopied s (take i es ++ e ∷ [])) (sym more) (each-more s (take i es) e found own (before all) (copies told)))

module _ (first : SyntaxElement) (steps : List Step) where
  abbrev Held : List Element
  Held = element_of first ∷ roots_and_mapped steps

  pub record FoundSoFar (i : ℕ) (found : List SyntaxElement) : Type 0 where
    pub are : AreFound (take i steps) (first ∷ []) found
    pub known : AllByRecursion (λ e. IsKnown Held (element_of e)) found

  pub none-so-far : (found : List SyntaxElement) → found ≡ first ∷ [] → FoundSoFar 0 found
  none-so-far found is = record { are = is; known = subst (AllByRecursion (λ e. IsKnown Held (element_of e))) (sym is) (known-first (element_of first) (roots_and_mapped steps), tt) }

  all-known : (s : Step) (i : ℕ) → slice_get steps i ≡ Some s → (es : List SyntaxElement) → AllOf s.edit.new_root es → AllByRecursion (λ e. IsKnown Held (element_of e)) es
  all-known s i at [] all = tt
  all-known s i at (e ∷ es) all = (known-in (element_of first) steps i s (element_of e) at all.0, all-known s i at es all.1)

  pub one-more-step : (i : ℕ) (s : Step) (found new : List SyntaxElement) → slice_get steps i ≡ Some s → NumbersTell Held → (All (Told s) found → EachCopied s found new) → FoundSoFar i found → FoundSoFar (i + 1) new
  one-more-step i s found new at tell copied before =
      let told : AllByRecursion (Told s) found = all_weaker (λ e. IsKnown Held (element_of e)) (Told s) found (λ e known. told-found (element_of first) steps i s (element_of e) at known tell) before.known in
      let each = copied (All-from_recursion (Told s) found told) in
      let next : suc i ≡ i + 1 = omega arith in
      record {
        are = subst (λ ss. AreFound ss (first ∷ []) new) (sym (take-next steps i s at) ∙ ap (λ n. take n steps) next) (found-more (take i steps) s (first ∷ []) found new before.are each);
        known = all-known s i at new (found-in s found new each);
      }
