-- What a change gives is its payload, rewritten by what the changes that it owns give; and nothing else is.
--     all_owned                     the numbers of what a change owns
--     given_is                      what a change gives is its payload, rewritten by what its dependents give
--     given_unique                  whatever is so is what it gives
use Rattle.std.specs.Prelude.{◌≡◌, ℕ, zero, suc, ◌<◌, ◌≤◌, Bool, true, false, cond, List, [], ◌∷◌, ◌++◌, map, filter, length, slice_get, unwrap_or, Some, None, refl}
use Rattle.std.specs.List.{AllByRecursion, enumerate_from}
use Rattle.std.proofs.Common.{ap, ap₂, sym, ◌∙◌, arith}
use mathlib.Core.List.{map-map}
use mathlib.Core.Path.{fun_ext}
use Rattle.cst_core.specs.Path.{Path, first_item}
use Rattle.cst_core.specs.Tree.{Tree, SyntaxTree}
use Rattle.cst_core.specs.Element.{address, subtree}
use Rattle.edit_change.specs.Aim.{aims_at_gap, starts_at}
use Rattle.edit_change.specs.ChangeAim.{aim}
use Rattle.edit_change.specs.Nesting.{owner, has_owner}
use Rattle.edit_change.specs.Rewriting.{NumberedAim, numbers, inserts_at, replacements_at, is_replaced, gap_order, gap, rewritten, rewritten_whole}
use Rattle.edit_change.specs.NewTree.{OriginTree, origin, moved_aim, targets_of, payload_of, payload_rewritten, dependents, given_within, given, Gives, plain}
use Rattle.edit_change.specs.declared.change.Change.{Change}
use Rattle.edit_change.proofs.Lists.{all_filter, all_weaker, all_enumerated, flat_map-agree}
use Rattle.edit_change.proofs.GapRule.{all-gap_order}
use Rattle.edit_change.proofs.RewrittenAlike.{rewritten-same, plain-untouched, untouched_by_none}
use Rattle.edit_change.proofs.Edits.{taken, filled, slot-filled}
use Rattle.edit_change.proofs.Owners.{owner_from}
use Rattle.edit_change.proofs.OwnerDepth.{rank, rank-le, rank_less}

-- ---- two ways to say what changes give, where they agree on the changes of a list
abbrev Agree : (ℕ → List OriginTree) → (ℕ → List OriginTree) → List ℕ → Type 0
Agree g h ns = AllByRecursion (λ n. g n ≡ h n) ns

all_numbers-filter : (P : ℕ → Type 0) (test : NumberedAim → Bool) (cs : List NumberedAim) → AllByRecursion P (numbers cs) → AllByRecursion P (numbers (filter test cs))
all_numbers-filter P test [] a = tt
all_numbers-filter P test (c ∷ cs) a =
    elim (test c) as (λ b. AllByRecursion P (numbers (cond b (c ∷ filter test cs) (filter test cs)))) [
      | true ↦ (a.0, all_numbers-filter P test cs a.1)
      | false ↦ all_numbers-filter P test cs a.1
    ]

module _ {L : Type 0} (l : Path → ℕ → L) (g h : ℕ → List (Tree L)) (cs : List NumberedAim) (a : AllByRecursion (λ n. g n ≡ h n) (numbers cs)) where
  replaced-agree : (p : Path) → taken g cs p ≡ taken h cs p
  replaced-agree p = ap (λ ts. cond (is_replaced cs p) (Some ts) None) (flat_map-agree g h (replacements_at cs p) (all_numbers-filter (λ n. g n ≡ h n) (λ c. starts_at p c.1) cs a))

  pub rewritten-agree : (t : SyntaxTree) → rewritten l g cs [] t ≡ rewritten l h cs [] t
  rewritten-agree t =
      let gaps : (p : Path) (i : ℕ) → gap l g cs p i ≡ gap l h cs p i = λ p i. flat_map-agree g h (gap_order (inserts_at cs p i)) (all-gap_order (λ n. g n ≡ h n) (inserts_at cs p i) (all_numbers-filter (λ n. g n ≡ h n) (λ c. aims_at_gap p i c.1) cs a)) in
      rewritten-same l l g h cs cs [] (λ j. record { label_at = l; gap = λ p i. gaps p i j; slot = λ p i. replaced-agree (p ++ i ∷ []) j }) t

  pub whole-agree : (t : SyntaxTree) → rewritten_whole l g cs t ≡ rewritten_whole l h cs t
  whole-agree t =
      slot-filled l g cs [] (rewritten l g cs [] t) ∙ ap₂ filled (replaced-agree []) (rewritten-agree t) ∙ sym (slot-filled l h cs [] (rewritten l h cs [] t))

payload-agree : (changes : List Change) (g h : ℕ → List OriginTree) (cs : List NumberedAim) (c : ℕ) → Agree g h (numbers cs) → payload_rewritten changes g cs c ≡ payload_rewritten changes h cs c
payload-agree changes g h cs c a =
    ap (λ f. map f (payload_of changes c)) (fun_ext (λ e. rewritten-agree (origin (address e) (Some c)) g h cs a (subtree e)))

-- ---- what a change owns
all_numbers-map : {X : Type 0} (P : ℕ → Type 0) (f : X → NumberedAim) (xs : List X) → AllByRecursion (λ x. P (f x).0) xs → AllByRecursion P (numbers (map f xs))
all_numbers-map P f [] a = tt
all_numbers-map P f (x ∷ xs) a = (a.0, all_numbers-map P f xs a.1)

module _ (changes : List Change) (places : ℕ → Path) where
  pub all_owned : (P : ℕ → Type 0) (c : ℕ) → ((i : ℕ) (d : Change) → slice_get changes i ≡ Some d → owner changes d ≡ Some c → P i) → AllByRecursion P (numbers (dependents changes places c))
  all_owned P c holds =
      let target = unwrap_or (first_item (targets_of changes c)) [] in
      let owned = all_filter (λ d. slice_get changes d.0 ≡ Some d.1) (λ d. has_owner changes c d.1) (enumerate_from 0 changes) (all_enumerated changes) in
      all_numbers-map P (λ d. (d.0, moved_aim target (places c) (aim d.1))) (filter (λ d. has_owner changes c d.1) (enumerate_from 0 changes)) (all_weaker _ (λ d. P d.0) (filter (λ d. has_owner changes c d.1) (enumerate_from 0 changes)) (λ d both. holds d.0 d.1 both.0 (owner_from changes c d.1 both.1)) owned)

  none_below : (cs : List NumberedAim) (n c : ℕ) → n ≤ 0 → AllByRecursion (λ d. rank changes d < n) (numbers cs) → payload_rewritten changes (λ _. []) [] c ≡ payload_rewritten changes (given_within changes places 0) cs c
  none_below [] n c l a = payload-agree changes (λ _. []) (given_within changes places 0) [] c tt
  none_below (d ∷ cs) n c l a = absurd (omega (arith, a.0))

  all_less : (c : ℕ) → AllByRecursion (λ d. rank changes d < rank changes c) (numbers (dependents changes places c))
  all_less c = all_owned (λ d. rank changes d < rank changes c) c (λ i d is by. rank_less changes c i d is by)

  -- deep enough is enough
  settled : (n c : ℕ) → rank changes c ≤ n → given_within changes places n c ≡ given_within changes places (suc n) c
  settled zero c l = none_below (dependents changes places c) (rank changes c) c l (all_less c)
  settled (suc n) c l =
      payload-agree changes (given_within changes places n) (given_within changes places (suc n)) (dependents changes places c) c (all_weaker (λ d. rank changes d < rank changes c) (λ d. given_within changes places n d ≡ given_within changes places (suc n) d) (numbers (dependents changes places c)) (λ d k. settled n d (omega (arith, k))) (all_less c))

  pub given_is : Gives changes places (given changes places)
  given_is c = settled (length changes) c (rank-le changes c)

  unique_within : (g : ℕ → List OriginTree) → Gives changes places g → (n c : ℕ) → rank changes c < n → g c ≡ given changes places c
  unique_within g gives zero c l = absurd (omega arith)
  unique_within g gives (suc n) c l =
      gives c ∙ payload-agree changes g (given changes places) (dependents changes places c) c (all_weaker (λ d. rank changes d < rank changes c) (λ d. g d ≡ given changes places d) (numbers (dependents changes places c)) (λ d k. unique_within g gives n d (omega (arith, k))) (all_less c)) ∙ sym (given_is c)

  pub given_unique : (g : ℕ → List OriginTree) → Gives changes places g → (c : ℕ) → g c ≡ given changes places c
  given_unique g gives c = unique_within g gives (suc (rank changes c)) c (omega arith)

-- ---- changes that own nothing
no_numbers : (cs : List NumberedAim) → AllByRecursion (λ d. ⊥) (numbers cs) → cs ≡ []
no_numbers [] a = refl
no_numbers (c ∷ cs) a = absurd a.0

pub owns_nothing : (changes : List Change) (places : ℕ → Path) (c : ℕ) → ((i : ℕ) (d : Change) → slice_get changes i ≡ Some d → owner changes d ≡ Some c → ⊥) → dependents changes places c ≡ []
owns_nothing changes places c none = no_numbers (dependents changes places c) (all_owned changes places (λ d. ⊥) c none)

plain-payload : (changes : List Change) (g : ℕ → List OriginTree) (c : ℕ) → map plain (payload_rewritten changes g [] c) ≡ map subtree (payload_of changes c)
plain-payload changes g c =
    map-map plain (λ e. rewritten (origin (address e) (Some c)) g [] [] (subtree e)) (payload_of changes c) ∙ ap (λ f. map f (payload_of changes c)) (fun_ext (λ e. plain-untouched (address e) (Some c) g [] [] (untouched_by_none []) (subtree e)))

-- what such a change gives is its payload as it was
pub plain-given : (changes : List Change) (places : ℕ → Path) (c : ℕ) → dependents changes places c ≡ [] → map plain (given changes places c) ≡ map subtree (payload_of changes c)
plain-given changes places c none =
    ap (map plain) (given_is changes places c ∙ ap (λ cs. payload_rewritten changes (given changes places) cs c) none) ∙ plain-payload changes (given changes places) c
