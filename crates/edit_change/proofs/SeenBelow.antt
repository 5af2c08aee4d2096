-- The aims below a child slot, with that slot dropped, rewrite the child as all the aims do.
use Rattle.std.specs.Prelude.{◌≡◌, ℕ, zero, suc, Bool, true, false, cond, ◌&&◌, ◌||◌, nat_eq, List, [], ◌∷◌, ◌++◌, map, filter, flat_map, refl, Some, None}
use Rattle.std.specs.List.{list_any}
use Rattle.std.proofs.Math.Bool.{and_assoc}
use Rattle.std.proofs.Common.{ap, ap₂, sym, ◌∙◌}
use Rattle.green_tree.specs.Path.{Path, same_path, has_path, counted_from, parent_path, last_slot}
use Rattle.green_tree.specs.Tree.{Tree, Forest, Token, Node, end, more, SyntaxTree, forest}
use Rattle.edit_change.specs.Aim.{aims_at_gap, starts_at, replaces}
use Rattle.edit_change.specs.Rewriting.{NumberedAim, numbers, inserts_at, replacements_at, is_replaced, gap_order, gap, rewritten, rewritten_from}
use Rattle.edit_change.specs.declared.aimed.AimForm.{AimForm}
use Rattle.edit_change.specs.declared.aimed.AimForm.TheVariants.{FirstIn, AfterElement, Over}
use Rattle.edit_change.specs.declared.aimed.Aimed.{Aimed}
use Rattle.edit_change.specs.inner.Aimed.{aim_in, FormedAim, formed, of_formed, aims_of, seen_from, and_those, formed_below}

-- ---- two lists of aims, of which one says below a slot what the other says
pub record Shifted (cs ds : List NumberedAim) (i : ℕ) : Type 0 where
  pub inserts : (p : Path) (j : ℕ) → inserts_at cs (i ∷ p) j ≡ inserts_at ds p j
  pub replaced : (p : Path) (j : ℕ) → is_replaced cs (i ∷ (p ++ j ∷ [])) ≡ is_replaced ds (p ++ j ∷ [])
  pub replacements : (p : Path) (j : ℕ) → replacements_at cs (i ∷ (p ++ j ∷ [])) ≡ replacements_at ds (p ++ j ∷ [])

-- and the labels of what is kept
module _ {L : Type 0} (above inner : Path → ℕ → L) (given : ℕ → List (Tree L)) (cs ds : List NumberedAim) (i : ℕ) (labels : (p : Path) (k : ℕ) → above (i ∷ p) k ≡ inner p k) (same : Shifted cs ds i) where
  gap-shifted : (p : Path) (j : ℕ) → gap above given cs (i ∷ p) j ≡ gap inner given ds p j
  gap-shifted p j = ap (λ ns. flat_map given (gap_order ns)) (same.inserts p j)

  mutual
    pub rewritten-shifted : (p : Path) (t : SyntaxTree) → rewritten above given cs (i ∷ p) t ≡ rewritten inner given ds p t
    rewritten-shifted p (Token k s) = ap (λ l. Token l s) (labels p k)
    rewritten-shifted p (Node k f) = ap₂ (λ l ts. Node l (forest ts)) (labels p k) (rewritten_from-shifted p 0 f)

    rewritten_from-shifted : (p : Path) (j : ℕ) (f : Forest ℕ) → rewritten_from above given cs (i ∷ p) j f ≡ rewritten_from inner given ds p j f
    rewritten_from-shifted p j end = gap-shifted p j
    rewritten_from-shifted p j (more t f) =
        ap₂ (λ x y. x ++ y)
        (ap₂ (λ x y. x ++ y)
        (gap-shifted p j)
        (ap₂ (λ b ns. cond b (flat_map given ns) (rewritten above given cs (i ∷ (p ++ j ∷ [])) t ∷ [])) (same.replaced p j) (same.replacements p j) ∙ ap (λ u. cond (is_replaced ds (p ++ j ∷ [])) (flat_map given (replacements_at ds (p ++ j ∷ []))) (u ∷ [])) (rewritten-shifted (p ++ j ∷ []) t)))
        (rewritten_from-shifted p (suc j) f)

-- ---- one aim
and-false : (b : Bool) → false ≡ (b && false)
and-false true = refl
and-false false = refl

and-or : (b x y : Bool) → ((b && x) || (b && y)) ≡ (b && (x || y))
and-or true x y = refl
and-or false x y = refl

pub no_end : (p : Path) (j : ℕ) → same_path (p ++ j ∷ []) [] ≡ false
no_end [] j = refl
no_end (i ∷ p) j = refl

gap_above : (i : ℕ) (p : Path) (j : ℕ) (w : AimForm) → aims_at_gap (i ∷ p) j (aim_in [] w) ≡ false
gap_above i p j FirstIn = refl
gap_above i p j AfterElement = refl
gap_above i p j (Over n) = refl

gap_inside : (i : ℕ) (p : Path) (j k : ℕ) (q : Path) (w : AimForm) → aims_at_gap (i ∷ p) j (aim_in (k ∷ q) w) ≡ (nat_eq i k && aims_at_gap p j (aim_in q w))
gap_inside i p j k q FirstIn = and_assoc (nat_eq i k) (same_path p q) (nat_eq j 0)
gap_inside i p j k [] AfterElement = and-false (nat_eq i k)
gap_inside i p j k (l ∷ q) AfterElement = and_assoc (nat_eq i k) (same_path p (parent_path (l ∷ q))) (nat_eq j (suc (last_slot (l ∷ q))))
gap_inside i p j k q (Over n) = and-false (nat_eq i k)

start_above : (i : ℕ) (p : Path) (w : AimForm) → starts_at (i ∷ p) (aim_in [] w) ≡ false
start_above i p FirstIn = refl
start_above i p AfterElement = refl
start_above i p (Over zero) = refl
start_above i p (Over (suc n)) = refl

start_inside : (i : ℕ) (p : Path) (k : ℕ) (q : Path) (w : AimForm) → starts_at (i ∷ p) (aim_in (k ∷ q) w) ≡ (nat_eq i k && starts_at p (aim_in q w))
start_inside i p k q FirstIn = and-false (nat_eq i k)
start_inside i p k q AfterElement = and-false (nat_eq i k)
start_inside i p k [] (Over zero) = and-false (nat_eq i k)
start_inside i p k (l ∷ q) (Over zero) = and-false (nat_eq i k)
start_inside i p k [] (Over (suc n)) = refl
start_inside i p k (l ∷ q) (Over (suc n)) = refl

over_above : (i : ℕ) (p : Path) (w : AimForm) → replaces (i ∷ p) (aim_in [] w) ≡ false
over_above i p FirstIn = refl
over_above i p AfterElement = refl
over_above i p (Over zero) = refl
over_above i p (Over (suc n)) = refl

range_above : (i : ℕ) (p : Path) (j f n : ℕ) → has_path (map (λ s. s ∷ []) (counted_from f n)) (i ∷ (p ++ j ∷ [])) ≡ false
range_above i p j f zero = refl
range_above i p j f (suc n) = ap₂ (λ x y. (nat_eq i f && x) || y) (no_end p j) (range_above i p j (suc f) n) ∙ ap (λ b. b || false) (sym (and-false (nat_eq i f)))

range_inside : (i : ℕ) (p : Path) (k : ℕ) (q : Path) (f n : ℕ) → has_path (map (λ s. k ∷ (q ++ s ∷ [])) (counted_from f n)) (i ∷ p) ≡ (nat_eq i k && has_path (map (λ s. q ++ s ∷ []) (counted_from f n)) p)
range_inside i p k q f zero = and-false (nat_eq i k)
range_inside i p k q f (suc n) =
    ap (λ b. (nat_eq i k && same_path p (q ++ f ∷ [])) || b) (range_inside i p k q (suc f) n) ∙ and-or (nat_eq i k) (same_path p (q ++ f ∷ [])) (has_path (map (λ s. q ++ s ∷ []) (counted_from (suc f) n)) p)

over_inside : (i : ℕ) (p : Path) (j k : ℕ) (q : Path) (w : AimForm) → replaces (i ∷ (p ++ j ∷ [])) (aim_in (k ∷ q) w) ≡ (nat_eq i k && replaces (p ++ j ∷ []) (aim_in q w))
over_inside i p j k q FirstIn = and-false (nat_eq i k)
over_inside i p j k q AfterElement = and-false (nat_eq i k)
over_inside i p j k [] (Over zero) = and-false (nat_eq i k)
over_inside i p j k [] (Over (suc n)) =
    range_above i p j k (suc n) ∙ and-false (nat_eq i k) ∙ ap (λ b. nat_eq i k && (b || false)) (sym (no_end p j))
over_inside i p j k (l ∷ q) (Over n) = range_inside i (p ++ j ∷ []) k (parent_path (l ∷ q)) (last_slot (l ∷ q)) n

-- ---- all of them
module _ (i : ℕ) (above inside : NumberedAim → Bool) where
  -- what a test says of an aim here, and of the aim as it is seen from the child
  abbrev pub Agrees : Type 0
  Agrees = (c : ℕ) (w : AimForm) → (above (c, aim_in [] w) ≡ false) × ((k : ℕ) (q : Path) → above (c, aim_in (k ∷ q) w) ≡ (nat_eq i k && inside (c, aim_in q w)))

  one-filter : Agrees → (c : ℕ) (w : AimForm) (q : Path) (xs bs : List FormedAim) → numbers (filter above (map of_formed xs)) ≡ numbers (filter inside (map of_formed bs)) → numbers (filter above ((c, aim_in q w) ∷ map of_formed xs)) ≡ numbers (filter inside (map of_formed (and_those (seen_from i (record { change = c; path = q; form = w })) bs)))
  one-filter a c w [] xs bs h = ap (λ b. numbers (cond b ((c, aim_in [] w) ∷ filter above (map of_formed xs)) (filter above (map of_formed xs)))) (a c w).0 ∙ h
  one-filter a c w (k ∷ q) xs bs h =
      ap (λ b. numbers (cond b ((c, aim_in (k ∷ q) w) ∷ filter above (map of_formed xs)) (filter above (map of_formed xs)))) ((a c w).1 k q) ∙ elim (nat_eq i k) as (λ b. numbers (cond (b && inside (c, aim_in q w)) ((c, aim_in (k ∷ q) w) ∷ filter above (map of_formed xs)) (filter above (map of_formed xs))) ≡ numbers (filter inside (map of_formed (and_those (cond b (Some (record { change = c; path = q; form = w })) None) bs)))) [
        | true ↦ elim (inside (c, aim_in q w)) as (λ b. numbers (cond b ((c, aim_in (k ∷ q) w) ∷ filter above (map of_formed xs)) (filter above (map of_formed xs))) ≡ numbers (cond b ((c, aim_in q w) ∷ filter inside (map of_formed bs)) (filter inside (map of_formed bs)))) [
          | true ↦ ap (λ ns. c ∷ ns) h
          | false ↦ h
        ]
        | false ↦ h
      ]

  pub filter-below : Agrees → (xs : List FormedAim) → numbers (filter above (map of_formed xs)) ≡ numbers (filter inside (map of_formed (formed_below i xs)))
  filter-below a [] = refl
  filter-below a (x ∷ xs) = one-filter a x.change x.form x.path xs (formed_below i xs) (filter-below a xs)

  one-any : Agrees → (c : ℕ) (w : AimForm) (q : Path) (xs bs : List FormedAim) → list_any above (map of_formed xs) ≡ list_any inside (map of_formed bs) → (above (c, aim_in q w) || list_any above (map of_formed xs)) ≡ list_any inside (map of_formed (and_those (seen_from i (record { change = c; path = q; form = w })) bs))
  one-any a c w [] xs bs h = ap (λ b. b || list_any above (map of_formed xs)) (a c w).0 ∙ h
  one-any a c w (k ∷ q) xs bs h =
      ap₂ (λ x y. x || y) ((a c w).1 k q) h ∙ elim (nat_eq i k) as (λ b. ((b && inside (c, aim_in q w)) || list_any inside (map of_formed bs)) ≡ list_any inside (map of_formed (and_those (cond b (Some (record { change = c; path = q; form = w })) None) bs))) [
        | true ↦ refl
        | false ↦ refl
      ]

  pub any-below : Agrees → (xs : List FormedAim) → list_any above (map of_formed xs) ≡ list_any inside (map of_formed (formed_below i xs))
  any-below a [] = refl
  any-below a (x ∷ xs) = one-any a x.change x.form x.path xs (formed_below i xs) (any-below a xs)

pub below_shifted : (xs : List FormedAim) (i : ℕ) → Shifted (map of_formed xs) (map of_formed (formed_below i xs)) i
below_shifted xs i = record {
  inserts = λ p j. filter-below i (λ c. aims_at_gap (i ∷ p) j c.1) (λ c. aims_at_gap p j c.1) (λ c w. (gap_above i p j w, λ k q. gap_inside i p j k q w)) xs;
  replaced = λ p j. any-below i (λ c. replaces (i ∷ (p ++ j ∷ [])) c.1) (λ c. replaces (p ++ j ∷ []) c.1) (λ c w. (over_above i (p ++ j ∷ []) w, λ k q. over_inside i p j k q w)) xs;
  replacements = λ p j. filter-below i (λ c. starts_at (i ∷ (p ++ j ∷ [])) c.1) (λ c. starts_at (p ++ j ∷ []) c.1) (λ c w. (start_above i (p ++ j ∷ []) w, λ k q. start_inside i (p ++ j ∷ []) k q w)) xs;
}

-- ---- the same for aims in code
pub aims-formed : (xs : List Aimed) → map of_formed (map formed xs) ≡ aims_of xs
aims-formed [] = refl
aims-formed (x ∷ xs) = ap (λ cs. of_formed (formed x) ∷ cs) (aims-formed xs)

pub seen-below : {L : Type 0} (above inner : Path → ℕ → L) (given : ℕ → List (Tree L)) (xs ys : List Aimed) (i : ℕ) (t : SyntaxTree) → ((p : Path) (k : ℕ) → above (i ∷ p) k ≡ inner p k) → map formed ys ≡ formed_below i (map formed xs) → rewritten inner given (aims_of ys) [] t ≡ rewritten above given (aims_of xs) (i ∷ []) t
seen-below above inner given xs ys i t labels e =
    ap (λ cs. rewritten inner given cs [] t) (sym (aims-formed ys) ∙ ap (map of_formed) e) ∙ sym (rewritten-shifted above inner given (map of_formed (map formed xs)) (map of_formed (formed_below i (map formed xs))) i labels (below_shifted (map formed xs) i) [] t) ∙ ap (λ cs. rewritten above given cs (i ∷ []) t) (aims-formed xs)
