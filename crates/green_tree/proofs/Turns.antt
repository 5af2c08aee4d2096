-- Walks down to the first token or the last one, and the turns off a path to the tokens beside an element.
use Rattle.std.proofs.Common.{◌≡◌, ℕ, suc, ◌+◌, ◌<◌, ◌≤◌, true, false, List, [], ◌∷◌, ◌++◌, map, length, get_or, take, drop, Option, Some, None, refl, ap, sym, ◌∙◌, subst, arith, add-one, append_assoc, length-append, drop-cons, nat_lt}
use Rattle.std.specs.Prelude.{option_map, option_and_then, unwrap_or, IsSome, IfSome, slice_get}
use Rattle.std.specs.Option.{option_or}
use Rattle.std.proofs.lemmas.List.{append-nil, length-map}
use Rattle.std.proofs.lemmas.Option.{slice_get_within}
use Rattle.std.proofs.lemmas.Bool.Decides.{nat_tests}
use Rattle.std.proofs.Math.Seq.{take-suc}
use Rattle.green_tree.specs.Path.{Path, first_item, last_item}
use Rattle.green_tree.specs.Tree.{SyntaxTree, Forest, Token, Node, end, more, at, tokens, forest_tokens}
use Rattle.green_tree.specs.Order.{token_paths, tokens_before, tokens_after}
use Rattle.green_tree.specs.Green.{Leaf, leaf_tree, Branch, branch_tree}
use Rattle.green_tree.specs.GreenElement.{element_trees}
use Rattle.green_tree.specs.GreenElementRef.{ref_tree}
use Rattle.green_tree.specs.inner.FoundToken.{FindsToken, tokens_from, first_from}
use Rattle.green_tree.specs.inner.HasToken.{has_token}
use Rattle.green_tree.specs.inner.Neighbors.{first_token, last_token, last_token_before, first_token_after}
use Rattle.green_tree.specs.inner.Turn.{LeadsInto, IsTurn, way_through}
use Rattle.green_tree.specs.declared.green.GreenElement.{GreenElement}
use Rattle.green_tree.specs.declared.green.GreenElementRef.{GreenElementRef}
use Rattle.green_tree.specs.declared.tokens.Turn.{Turn}
use Rattle.green_tree.proofs.FoundTokens.{IsChildAt, first_item-append, first_item-map, last_item-of_two, last_item-of_map, last_of-is}
use Rattle.green_tree.proofs.Lookup.{trees-forest}
use Rattle.green_tree.proofs.Options.{or_mapped, or_none, map_or, or_or, map_map, map_same, mapped_is_not_none}
use Rattle.green_tree.proofs.TokenPaths.{token_paths_from, token_paths-node, tokens_before-top}

-- ---- a tree has as many tokens as paths to tokens
mutual
  count_paths : (t : SyntaxTree) → length (tokens t) ≡ length (token_paths t)
  count_paths (Token l s) = refl
  count_paths (Node l f) = count_paths_from 0 f ∙ sym (ap length (token_paths-node l f))

  count_paths_from : (i : ℕ) (f : Forest ℕ) → length (forest_tokens f) ≡ length (token_paths_from i f)
  count_paths_from i end = refl
  count_paths_from i (more t f) =
      omega (arith, length-append (tokens t) (forest_tokens f), length-append (map (λ p. i ∷ p) (token_paths t)) (token_paths_from (suc i) f), length-map (token_paths t) (λ p. i ∷ p), count_paths t, count_paths_from (suc i) f)

no_items : {X : Type 0} (xs : List X) → nat_lt 0 (length xs) ≡ false → xs ≡ []
no_items [] h = refl
no_items (x ∷ xs) h = absurd (grind (arith, nat_tests))

some_first : {X : Type 0} (xs : List X) → nat_lt 0 (length xs) ≡ true → IsSome (first_item xs)
some_first [] h = absurd (grind (arith, nat_tests))
some_first (x ∷ xs) h = refl

some_last : {X : Type 0} (xs : List X) → nat_lt 0 (length xs) ≡ true → IsSome (last_item xs)
some_last [] h = absurd (grind (arith, nat_tests))
some_last (x ∷ xs) h = subst IsSome (sym (last_of-is x xs)) refl

no_paths : (t : SyntaxTree) → has_token t ≡ false → token_paths t ≡ []
no_paths t h = no_items (token_paths t) (ap (nat_lt 0) (sym (count_paths t)) ∙ h)

has_first : (t : SyntaxTree) → has_token t ≡ true → IsSome (first_token t)
has_first t h = some_first (token_paths t) (ap (nat_lt 0) (sym (count_paths t)) ∙ h)

has_last : (t : SyntaxTree) → has_token t ≡ true → IsSome (last_token t)
has_last t h = some_last (token_paths t) (ap (nat_lt 0) (sym (count_paths t)) ∙ h)

-- ---- the first child from a slot on that has a token, and the last one before a slot
pub no_first_yet : (b : Branch) (n i : ℕ) (c : SyntaxTree) → IsChildAt b i c → tokens_from (branch_tree b) (n ∷ []) ≡ tokens_from (branch_tree b) (i ∷ []) → has_token c ≡ false →
    tokens_from (branch_tree b) (n ∷ []) ≡ tokens_from (branch_tree b) ((i + 1) ∷ [])
no_first_yet b n i c child none h =
    none ∙ child.here_on ∙ ap (λ ps. map (λ q. i ∷ q) ps ++ tokens_from (branch_tree b) ((i + 1) ∷ [])) (no_paths c h)

pub first_leads : (b : Branch) (n i : ℕ) (c : SyntaxTree) → IsChildAt b i c → tokens_from (branch_tree b) (n ∷ []) ≡ tokens_from (branch_tree b) (i ∷ []) → has_token c ≡ true →
    LeadsInto first_token (branch_tree b) (first_from (branch_tree b) (n ∷ [])) i
first_leads b n i c child none h = record {
  child = c;
  there = child.there;
  some = has_first c h;
  way =
      ap first_item (none ∙ child.here_on)
      ∙ first_item-append (map (λ q. i ∷ q) (token_paths c)) (tokens_from (branch_tree b) ((i + 1) ∷ []))
      ∙ ap (λ o. option_or o (first_from (branch_tree b) ((i + 1) ∷ []))) (first_item-map (λ q. i ∷ q) (token_paths c))
      ∙ or_mapped (λ q. i ∷ q) (first_token c) (first_from (branch_tree b) ((i + 1) ∷ [])) (has_first c h);
}

pub no_last_yet : (b : Branch) (n j i : ℕ) (c : SyntaxTree) → IsChildAt b i c → j ≡ i + 1 → tokens_before (branch_tree b) (n ∷ []) ≡ tokens_before (branch_tree b) (j ∷ []) → has_token c ≡ false →
    tokens_before (branch_tree b) (n ∷ []) ≡ tokens_before (branch_tree b) (i ∷ [])
no_last_yet b n j i c child down none h =
    none ∙ ap (λ k. tokens_before (branch_tree b) (k ∷ [])) down ∙ child.next ∙ ap (λ ps. tokens_before (branch_tree b) (i ∷ []) ++ map (λ q. i ∷ q) ps) (no_paths c h) ∙ append-nil (tokens_before (branch_tree b) (i ∷ []))

pub last_leads : (b : Branch) (n j i : ℕ) (c : SyntaxTree) → IsChildAt b i c → j ≡ i + 1 → tokens_before (branch_tree b) (n ∷ []) ≡ tokens_before (branch_tree b) (j ∷ []) → has_token c ≡ true →
    LeadsInto last_token (branch_tree b) (last_token_before (branch_tree b) (n ∷ [])) i
last_leads b n j i c child down none h = record {
  child = c;
  there = child.there;
  some = has_last c h;
  way =
      ap last_item (none ∙ ap (λ k. tokens_before (branch_tree b) (k ∷ [])) down ∙ child.next)
      ∙ last_item-of_two (tokens_before (branch_tree b) (i ∷ [])) (map (λ q. i ∷ q) (token_paths c))
      ∙ ap (λ o. option_or o (last_token_before (branch_tree b) (i ∷ []))) (last_item-of_map (λ q. i ∷ q) (token_paths c))
      ∙ or_mapped (λ q. i ∷ q) (last_token c) (last_token_before (branch_tree b) (i ∷ [])) (has_last c h);
}

-- ---- the child that a way leads into, as code has it
pub leads_within : (f : SyntaxTree → Option Path) (b : Branch) (es : List GreenElement) (way : Option Path) (i : ℕ) → element_trees es ≡ b.children → LeadsInto f (branch_tree b) way i → i < length es
leads_within f b es way i same leads =
    let inside : i < length (element_trees es) = slice_get_within (element_trees es) i leads.child (ap (λ ts. slice_get ts i) (same ∙ sym (trees-forest b.children)) ∙ leads.there) in
    rw length-map at inside

pub leads_to : {f : SyntaxTree → Option Path} {b : Branch} {way : Option Path} {i : ℕ} {c : SyntaxTree} (leads : LeadsInto f (branch_tree b) way i) → IsChildAt b i c → leads.child ≡ c
leads_to {f} {b} {way} {i} {c} leads child =
    let both : Some leads.child ≡ Some c = sym leads.there ∙ child.there in
    cc

-- ---- a walk down from a tree
-- so many slots lead from a tree to the one where the walk stands, and its path goes on from there
pub record IsWalked (f : SyntaxTree → Option Path) (t now : SyntaxTree) (old new : Path) : Type 0 where
  pub pushed : Path
  pub slots : new ≡ old ++ pushed
  pub way : f t ≡ option_map (λ p. pushed ++ p) (f now)
  pub below : (p : Path) → at t (pushed ++ p) ≡ at now p
  pub kept : f t ≡ None → pushed ≡ []

walk_some : {f : SyntaxTree → Option Path} {t now : SyntaxTree} {old slots : Path} → IsWalked f t now old slots → IsSome (f now) → f t ≡ None → ⊥
walk_some {f} {t} {now} walked some none = mapped_is_not_none (λ p. walked.pushed ++ p) (f now) some (sym walked.way ∙ none)

some_way : {f : SyntaxTree → Option Path} {t : SyntaxTree} {way : Option Path} {i : ℕ} → LeadsInto f t way i → IsSome way
some_way {f} {t} {way} {i} leads = subst IsSome (sym leads.way) (some_mapped (f leads.child) leads.some)
  where
    some_mapped : (o : Option Path) → IsSome o → IsSome (option_map (λ p. i ∷ p) o)
    some_mapped (Some p) h = refl
    some_mapped None h = absurd (cc)

-- a way that goes on is no walk to nothing
pub walk_leads : {f : SyntaxTree → Option Path} {t now : SyntaxTree} {old slots : Path} {way : Option Path} {i : ℕ} → IsWalked f t now old slots → f now ≡ way → LeadsInto f now way i → f t ≡ None → ⊥
walk_leads walked same leads none = walk_some walked (subst IsSome (sym same) (some_way leads)) none

pub walk_on : {f : SyntaxTree → Option Path} {t : SyntaxTree} {b : Branch} {old slots new : Path} {way : Option Path} {i : ℕ} {c : SyntaxTree} → IsWalked f t (branch_tree b) old slots → f (branch_tree b) ≡ way → LeadsInto f (branch_tree b) way i → IsChildAt b i c → new ≡ slots ++ i ∷ [] → IsWalked f t c old new
walk_on {f} {t} {b} {old} {slots} {new} {way} {i} {c} walked same leads child push =
    let pushed = walked.pushed ++ i ∷ [] in
    let on : (p : Path) → walked.pushed ++ (i ∷ p) ≡ pushed ++ p = λ p. sym (append_assoc walked.pushed (i ∷ []) p) in
    record {
      pushed = pushed;
      slots = push ∙ ap (λ q. q ++ i ∷ []) walked.slots ∙ append_assoc old walked.pushed (i ∷ []);
      way =
          walked.way ∙ ap (option_map (λ p. walked.pushed ++ p)) (same ∙ leads.way)
          ∙ map_map (λ p. walked.pushed ++ p) (λ p. i ∷ p) (λ p. pushed ++ p) (f leads.child) on
          ∙ ap (λ t. option_map (λ p. pushed ++ p) (f t)) (leads_to leads child);
      below = λ p. ap (at t) (sym (on p)) ∙ walked.below (i ∷ p) ∙ child.below p;
      kept = λ none. absurd (walk_leads walked same leads none);
    }

-- it ends where the path goes nowhere
pub walk_finds_none : {f : SyntaxTree → Option Path} {t now : SyntaxTree} {old slots : Path} → IsWalked f t now old slots → f now ≡ None → FindsToken t (f t) old slots None
walk_finds_none {f} {t} {now} {old} {slots} walked none =
    let nothing : f t ≡ None = walked.way ∙ ap (option_map (λ p. walked.pushed ++ p)) none in
    record {
      slots = walked.slots ∙ ap (λ q. old ++ q) (walked.kept nothing) ∙ ap (λ o. old ++ unwrap_or o []) (sym nothing);
      token = ap (option_map (at t)) (sym nothing);
    }

-- ---- turns off a path
-- the path to the token beside the element, by the turns so far: it goes on from the tree where the walk stands, or else
-- off the last turn
pub record IsTurned (f : SyntaxTree → Option Path) (beside : SyntaxTree → Path → Option Path) (t : SyntaxTree) (path : Path) (k : ℕ) (now : SyntaxTree) (last : Option Turn) : Type 0 where
  pub below : (p : Path) → at t (take k path ++ p) ≡ at now p
  pub there : IsSome (at now (drop k path))
  pub way : beside t path ≡ option_or (option_map (λ p. take k path ++ p) (beside now (drop k path))) (option_and_then (way_through f path) last)
  pub turn : IfSome last (IsTurn f t path)

pub turns_start : (f : SyntaxTree → Option Path) (beside : SyntaxTree → Path → Option Path) (t : SyntaxTree) (path : Path) → IsSome (at t path) → IsTurned f beside t path 0 t None
turns_start f beside t path there = record {
  below = λ p. refl;
  there = there;
  way = sym (or_none (option_map (λ p. p) (beside t path)) ∙ map_same (λ p. p) (beside t path) (λ p. refl));
  turn = tt;
}

-- the turn that is known after a look at the children beside the way
pub record IsTurnedInto (f : SyntaxTree → Option Path) (t : SyntaxTree) (path : Path) (k : ℕ) (here : Option Path) (old new : Option Turn) : Type 0 where
  pub way : option_and_then (way_through f path) new ≡ option_or (option_map (λ p. take k path ++ p) here) (option_and_then (way_through f path) old)
  pub turn : IfSome new (IsTurn f t path)

pub no_turn : {f : SyntaxTree → Option Path} {beside : SyntaxTree → Path → Option Path} {t now : SyntaxTree} {path : Path} {k : ℕ} {old : Option Turn} (here : Option Path) → IsTurned f beside t path k now old → here ≡ None → IsTurnedInto f t path k here old old
no_turn {f} {beside} {t} {now} {path} {k} {old} here turned none = record {
  way = ap (λ o. option_or (option_map (λ p. take k path ++ p) o) (option_and_then (way_through f path) old)) (sym none);
  turn = turned.turn;
}

pub new_turn : {f : SyntaxTree → Option Path} {beside : SyntaxTree → Path → Option Path} {t : SyntaxTree} {b : Branch} {path : Path} {k : ℕ} {old : Option Turn} {here : Option Path} {i : ℕ} {c : SyntaxTree} {e : GreenElementRef} → IsTurned f beside t path k (branch_tree b) old → k ≤ length path → LeadsInto f (branch_tree b) here i → IsChildAt b i c → ref_tree e ≡ c → IsTurnedInto f t path k here old (Some (record { depth = k; slot = i; child = e }))
new_turn {f} {beside} {t} {b} {path} {k} {old} {here} {i} {c} {e} turned within leads child is =
    let same : leads.child ≡ ref_tree e = leads_to leads child ∙ sym is in
    record {
      way = sym (
          ap (λ o. option_or (option_map (λ p. take k path ++ p) o) (option_and_then (way_through f path) old)) leads.way
          ∙ ap (λ o. option_or o (option_and_then (way_through f path) old)) (map_map (λ p. take k path ++ p) (λ p. i ∷ p) (λ p. take k path ++ i ∷ p) (f leads.child) (λ p. refl))
          ∙ or_mapped (λ p. take k path ++ i ∷ p) (f leads.child) (option_and_then (way_through f path) old) leads.some
          ∙ ap (λ t. option_map (λ p. take k path ++ i ∷ p) (f t)) same);
      turn = record {
        within = within;
        below = λ p. turned.below (i ∷ p) ∙ child.below p ∙ ap (λ t. at t p) (sym is);
        some = subst (λ t. IsSome (f t)) same leads.some;
      };
    }

-- one step along the path, past the children beside the way
pub turned_on : {f : SyntaxTree → Option Path} {beside : SyntaxTree → Path → Option Path} {t : SyntaxTree} {b : Branch} {path : Path} {k : ℕ} {old new : Option Turn} {here : Option Path} {c : SyntaxTree} → k < length path → IsTurned f beside t path k (branch_tree b) old → IsTurnedInto f t path k here old new
    → IsChildAt b (get_or path k 0) c → beside (branch_tree b) (get_or path k 0 ∷ drop (k + 1) path) ≡ option_or (option_map (λ p. get_or path k 0 ∷ p) (beside c (drop (k + 1) path))) here → IsSome (at c (drop (k + 1) path)) → IsTurned f beside t path (k + 1) c new
turned_on {f} {beside} {t} {b} {path} {k} {old} {new} {here} {c} h turned into child splits there =
    let i = get_or path k 0 in
    let front : take (k + 1) path ≡ take k path ++ i ∷ [] = rw add-one (take-suc path k 0 h) in
    let on : (p : Path) → take k path ++ (i ∷ p) ≡ take (k + 1) path ++ p = λ p. sym (ap (λ q. q ++ p) front ∙ append_assoc (take k path) (i ∷ []) p) in
    let left : drop k path ≡ i ∷ drop (k + 1) path = rw add-one (drop-cons path k 0 h) in
    let last = option_and_then (way_through f path) old in
    let below = beside c (drop (k + 1) path) in
    record {
      below = λ p. ap (at t) (sym (on p)) ∙ turned.below (i ∷ p) ∙ child.below p;
      there = there;
      way =
          turned.way
          ∙ ap (λ q. option_or (option_map (λ p. take k path ++ p) (beside (branch_tree b) q)) last) left
          ∙ ap (λ o. option_or (option_map (λ p. take k path ++ p) o) last) splits
          ∙ ap (λ o. option_or o last) (map_or (λ p. take k path ++ p) (option_map (λ p. i ∷ p) below) here)
          ∙ or_or (option_map (λ p. take k path ++ p) (option_map (λ p. i ∷ p) below)) (option_map (λ p. take k path ++ p) here) last
          ∙ ap (λ o. option_or (option_map (λ p. take k path ++ p) (option_map (λ p. i ∷ p) below)) o) (sym into.way)
          ∙ ap (λ o. option_or o (option_and_then (way_through f path) new)) (map_map (λ p. take k path ++ p) (λ p. i ∷ p) (λ p. take (k + 1) path ++ p) below on);
      turn = into.turn;
    }

-- where nothing is beside what is left of the way, the path goes off the last turn
pub turned_last : {f : SyntaxTree → Option Path} {beside : SyntaxTree → Path → Option Path} {t now : SyntaxTree} {path : Path} {k : ℕ} {turn : Option Turn} → IsTurned f beside t path k now turn → beside now (drop k path) ≡ None → beside t path ≡ option_and_then (way_through f path) turn
turned_last {f} {beside} {t} {now} {path} {k} {turn} turned none =
    turned.way ∙ ap (λ o. option_or (option_map (λ p. take k path ++ p) o) (option_and_then (way_through f path) turn)) none

-- at the end of the path it may go into the element
pub turned_end : {f : SyntaxTree → Option Path} {beside : SyntaxTree → Path → Option Path} {t now : SyntaxTree} {path : Path} {k : ℕ} {old new : Option Turn} {here : Option Path} → IsTurned f beside t path k now old → IsTurnedInto f t path k here old new → beside now (drop k path) ≡ here → beside t path ≡ option_and_then (way_through f path) new
turned_end {f} {beside} {t} {now} {path} {k} {old} {new} {here} turned into same =
    turned.way ∙ ap (λ o. option_or (option_map (λ p. take k path ++ p) o) (option_and_then (way_through f path) old)) same ∙ sym into.way

-- ---- what is beside an element, by the child that the path to it goes through
pub before_splits : (b : Branch) (i : ℕ) (c : SyntaxTree) (p : Path) → IsChildAt b i c → last_token_before (branch_tree b) (i ∷ p) ≡ option_or (option_map (λ q. i ∷ q) (last_token_before c p)) (last_token_before (branch_tree b) (i ∷ []))
before_splits b i c p child =
    ap last_item (child.within p)
    ∙ last_item-of_two (tokens_before (branch_tree b) (i ∷ [])) (map (λ q. i ∷ q) (tokens_before c p))
    ∙ ap (λ o. option_or o (last_token_before (branch_tree b) (i ∷ []))) (last_item-of_map (λ q. i ∷ q) (tokens_before c p))

pub after_splits : (b : Branch) (i : ℕ) (c : SyntaxTree) (p : Path) → IsChildAt b i c → first_token_after (branch_tree b) (i ∷ p) ≡ option_or (option_map (λ q. i ∷ q) (first_token_after c p)) (first_from (branch_tree b) ((i + 1) ∷ []))
after_splits b i c p child =
    ap first_item (child.after p)
    ∙ first_item-append (map (λ q. i ∷ q) (tokens_after c p)) (tokens_from (branch_tree b) ((i + 1) ∷ []))
    ∙ ap (λ o. option_or o (first_from (branch_tree b) ((i + 1) ∷ []))) (first_item-map (λ q. i ∷ q) (tokens_after c p))

-- nothing is below a token
pub none_before_token : (l : Leaf) (p : Path) → IsSome (at (leaf_tree l) p) → last_token_before (leaf_tree l) p ≡ None
none_before_token l [] there = ap last_item (tokens_before-top (leaf_tree l))
none_before_token l (i ∷ p) there = absurd (cc)

pub none_after_token : (l : Leaf) (p : Path) → IsSome (at (leaf_tree l) p) → first_token_after (leaf_tree l) p ≡ None
none_after_token l [] there = refl
none_after_token l (i ∷ p) there = absurd (cc)
