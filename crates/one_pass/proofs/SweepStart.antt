-- A sweep begins with all aims of a node, and goes on below a child with those inside it.
--     rising-from                   no aim is less far on than the first
--     all-left                      at gap 0 all that is left is what all aims make of the children
--     built-left                    how many nodes are built for it
--     inside-lowered                aims inside a child, as they are seen from it, are those of a longer way down
--     rising-inside                 they are in order
--     behind-run                    what comes after them is behind the child
use Rattle.std.specs.Prelude.{◌≡◌, ℕ, zero, suc, ◌+◌, ◌<◌, ◌≤◌, Bool, true, false, cond, ◌||◌, nat_lt, ⊤, List, [], ◌∷◌, ◌++◌, map, filter, flat_map, take, drop, length, get_or, sum, Option, Some, None, refl}
use Rattle.std.specs.List.{list_any, AllByRecursion}
use Rattle.std.proofs.Common.{ap, ap₂, sym, subst, ◌∙◌, arith}
use Rattle.std.proofs.lemmas.Bool.{le-ltb}
use Rattle.std.proofs.lemmas.List.{append_assoc, map-append, take-append-drop}
use Rattle.std.proofs.lemmas.List.Sums.{sum_by-cons}
use Rattle.green_tree.specs.Path.{Path}
use Rattle.green_tree.specs.Tree.{Tree, forest}
use Rattle.green_tree.specs.GreenElement.{element_tree, element_trees}
use Rattle.green_tree.specs.declared.green.GreenElement.{GreenElement}
use Rattle.edit_change.specs.Aim.{Aim, parents, aims_at_gap, starts_at, replaces}
use Rattle.edit_change.specs.Effort.{inside, parents_of}
use Rattle.edit_change.specs.Rewriting.{NumberedAim, numbers, inserts_at, replacements_at, is_replaced, slot, rewritten, rewritten_from}
use Rattle.edit_change.specs.declared.aimed.AimForm.{AimForm}
use Rattle.edit_change.specs.declared.aimed.Aimed.{Aimed}
use Rattle.edit_change.specs.inner.Aimed.{FormedAim, aim_in, of_formed, some_path, has_parent, seen_from, and_those, formed_below}
use Rattle.edit_change.specs.inner.DocumentOrder.{site, is_before}
use Rattle.edit_change.proofs.AlteredNodes.{above, above-below}
use Rattle.edit_change.proofs.SeenBelow.{Shifted, below_shifted, rewritten-shifted}
use Rattle.edit_change.proofs.Untouched.{quiet_gap, quiet_slot, quiet_start}
use Rattle.one_pass.specs.inner.OpenNodes.{child_built, nothing}
use Rattle.one_pass.specs.inner.Built.{built, built_from}
use Rattle.one_pass.specs.inner.Sweep.{key, From, IsBelow, BelowUpTo, EndsBelow, lowered, seen_at, parted, inside_child, gap_test, start_test, over_test, covered, in_gap, from_slot, in_slot, left, Rising}
use Rattle.one_pass.proofs.Counted.{built-shifted}
use Rattle.one_pass.proofs.OneAim.{as_formed, order-key, order-inside, behind-below, below-site, below-inside}
use Rattle.one_pass.proofs.Ascending.{ascending-part}
use Rattle.one_pass.proofs.Sweeping.{from-less}

-- ---- the order
no-less : (a : FormedAim) (xs : List FormedAim) → AllByRecursion (λ b. is_before (site (aim_in b.path b.form)) (site (aim_in a.path a.form)) ≡ false) xs → From (key a) xs
no-less a [] h = tt
no-less a (b ∷ xs) h = (order-key (site (aim_in b.path b.form)) (site (aim_in a.path a.form)) h.0, no-less a xs h.1)

pub rising-from : (a : FormedAim) (xs : List FormedAim) → Rising (a ∷ xs) → From (key a) (a ∷ xs)
rising-from a xs h = (omega arith, no-less a xs h.0)

-- ---- aims that alter nothing leave no trace
module _ (test : Aim → Bool) (quiet : (c : ℕ) (q : Path) (w : AimForm) → has_parent (c, aim_in q w) ≡ false → test (aim_in q w) ≡ false) where
  passing : List FormedAim → List ℕ
  passing xs = numbers (filter (λ c. test c.1) (map of_formed xs))

  one-more : (b : Bool) (a : NumberedAim) (xs ys : List NumberedAim) → numbers xs ≡ numbers ys → numbers (cond b (a ∷ xs) xs) ≡ numbers (cond b (a ∷ ys) ys)
  one-more true a xs ys h = ap (λ ns. a.0 ∷ ns) h
  one-more false a xs ys h = h

  pass-step : (o : Option FormedAim) (xs ys : List FormedAim) → numbers (filter (λ c. test c.1) (map of_formed xs)) ≡ numbers (filter (λ c. test c.1) (map of_formed ys)) → numbers (filter (λ c. test c.1) (map of_formed (and_those o xs))) ≡ numbers (filter (λ c. test c.1) (map of_formed (parted o ++ ys)))
  pass-step None xs ys h = h
  pass-step (Some a) xs ys h = go (has_parent (of_formed a)) refl
    where
      f : List FormedAim → List NumberedAim
      f zs = filter (λ (c : NumberedAim). test c.1) (map of_formed zs)

      go : (b : Bool) → has_parent (of_formed a) ≡ b → numbers (filter (λ c. test c.1) (map of_formed (a ∷ xs))) ≡ numbers (filter (λ c. test c.1) (map of_formed (cond b (a ∷ []) [] ++ ys)))
      go true is = one-more (test (aim_in a.path a.form)) (of_formed a) _ _ h
      go false is = ap (λ b. numbers (cond b (of_formed a ∷ filter (λ (c : NumberedAim). test c.1) (map of_formed xs)) (filter (λ (c : NumberedAim). test c.1) (map of_formed xs)))) (quiet a.change a.path a.form is) ∙ h

  pub pass-inside : (i : ℕ) (xs : List FormedAim) → numbers (filter (λ c. test c.1) (map of_formed (formed_below i xs))) ≡ numbers (filter (λ c. test c.1) (map of_formed (inside_child i xs)))
  pass-inside i [] = refl
  pass-inside i (x ∷ xs) = pass-step (seen_from i x) (formed_below i xs) (inside_child i xs) (pass-inside i xs)

  any-step : (o : Option FormedAim) (xs ys : List FormedAim) → list_any (λ c. test c.1) (map of_formed xs) ≡ list_any (λ c. test c.1) (map of_formed ys) → list_any (λ c. test c.1) (map of_formed (and_those o xs)) ≡ list_any (λ c. test c.1) (map of_formed (parted o ++ ys))
  any-step None xs ys h = h
  any-step (Some a) xs ys h = go (has_parent (of_formed a)) refl
    where
      go : (b : Bool) → has_parent (of_formed a) ≡ b → list_any (λ c. test c.1) (map of_formed (a ∷ xs)) ≡ list_any (λ c. test c.1) (map of_formed (cond b (a ∷ []) [] ++ ys))
      go true is = ap (λ b. test (aim_in a.path a.form) || b) h
      go false is = ap (λ b. b || list_any (λ (c : NumberedAim). test c.1) (map of_formed xs)) (quiet a.change a.path a.form is) ∙ h

  pub any-inside : (i : ℕ) (xs : List FormedAim) → list_any (λ c. test c.1) (map of_formed (formed_below i xs)) ≡ list_any (λ c. test c.1) (map of_formed (inside_child i xs))
  any-inside i [] = refl
  any-inside i (x ∷ xs) = any-step (seen_from i x) (formed_below i xs) (inside_child i xs) (any-inside i xs)

pub inside-shifted : (xs : List FormedAim) (i : ℕ) → Shifted (map of_formed xs) (map of_formed (inside_child i xs)) i
inside-shifted xs i =
    let same = below_shifted xs i in
    record {
      inserts = λ p j. same.inserts p j ∙ pass-inside (aims_at_gap p j) (λ c q w. quiet_gap c q w p j) i xs;
      replaced = λ p j. same.replaced p j ∙ any-inside (replaces (p ++ j ∷ [])) (λ c q w. quiet_slot c q w p j) i xs;
      replacements = λ p j. same.replacements p j ∙ pass-inside (starts_at (p ++ j ∷ [])) (λ c q w. quiet_start c q w p j) i xs;
    }

-- ---- from all the aims
covered-whole : (i : ℕ) (xs : List FormedAim) → (covered i xs || nat_lt i 0) ≡ is_replaced (map of_formed xs) (i ∷ [])
covered-whole i xs = ap (λ b. covered i xs || b) (le-ltb i 0 (omega arith)) ∙ plain (covered i xs) ∙ all xs
  where
    plain : (b : Bool) → (b || false) ≡ b
    plain true = refl
    plain false = refl

    all : (ys : List FormedAim) → covered i ys ≡ is_replaced (map of_formed ys) (i ∷ [])
    all [] = refl
    all (y ∷ ys) = ap (λ b. over_test i y || b) (all ys)

module _ {X : Type 0} (given : ℕ → List X) where
  put-one : (b : Bool) (a : NumberedAim) (cs : List NumberedAim) (us : List X) → us ≡ flat_map given (numbers cs) → cond b (given a.0) [] ++ us ≡ flat_map given (numbers (cond b (a ∷ cs) cs))
  put-one true a cs us h = ap (λ vs. given a.0 ++ vs) h
  put-one false a cs us h = h

  gap-whole : (g : ℕ) (xs : List FormedAim) → in_gap given g xs ≡ flat_map given (inserts_at (map of_formed xs) [] g)
  gap-whole g [] = refl
  gap-whole g (x ∷ xs) = put-one (gap_test g x) (of_formed x) (filter (λ c. aims_at_gap [] g c.1) (map of_formed xs)) (in_gap given g xs) (gap-whole g xs)

  start-whole : (i : ℕ) (xs : List FormedAim) → from_slot given i xs ≡ flat_map given (replacements_at (map of_formed xs) (i ∷ []))
  start-whole i [] = refl
  start-whole i (x ∷ xs) = put-one (start_test i x) (of_formed x) (filter (λ c. starts_at (i ∷ []) c.1) (map of_formed xs)) (from_slot given i xs) (start-whole i xs)

module _ {L : Type 0} (label : Path → ℕ → L) (inner : ℕ → Path → ℕ → L) (count : ℕ) (labels : (i : ℕ) → i < count → (p : Path) (k : ℕ) → label (i ∷ p) k ≡ inner i p k) (given : ℕ → List (Tree L)) (xs : List FormedAim) where
  abbrev child_made : ℕ → List FormedAim → GreenElement → Tree L
  child_made i ys e = rewritten (inner i) given (map of_formed ys) [] (element_tree e)

  child-whole : (i : ℕ) (e : GreenElement) → i < count → child_made i (inside_child i xs) e ≡ rewritten label given (map of_formed xs) (i ∷ []) (element_tree e)
  child-whole i e l = sym (rewritten-shifted label (inner i) given (map of_formed xs) (map of_formed (inside_child i xs)) i (labels i l) (inside-shifted xs i) [] (element_tree e))

  slot-whole : (i : ℕ) (e : GreenElement) → i < count → in_slot given child_made 0 xs i e ≡ slot label given (map of_formed xs) (i ∷ []) (rewritten label given (map of_formed xs) (i ∷ []) (element_tree e))
  slot-whole i e l =
      ap₂ (λ b us. cond b us (child_made i (inside_child i xs) e ∷ [])) (covered-whole i xs) (start-whole given i xs) ∙ ap (λ t. cond (is_replaced (map of_formed xs) (i ∷ [])) (flat_map given (replacements_at (map of_formed xs) (i ∷ []))) (t ∷ [])) (child-whole i e l)

  pub all-left : (i : ℕ) (es : List GreenElement) → i + length es ≤ count → left given child_made 0 xs i es ≡ rewritten_from label given (map of_formed xs) [] i (forest (element_trees es))
  all-left i [] l = gap-whole given i xs
  all-left i (e ∷ es) l =
      ap₂ (λ us vs. us ++ vs) (gap-whole given i xs) (ap₂ (λ us vs. us ++ vs) (slot-whole i e (omega (arith, l))) (all-left (suc i) es (omega (arith, l)))) ∙ sym (append_assoc (flat_map given (inserts_at (map of_formed xs) [] i)) (slot label given (map of_formed xs) (i ∷ []) (rewritten label given (map of_formed xs) (i ∷ []) (element_tree e))) (rewritten_from label given (map of_formed xs) [] (suc i) (forest (element_trees es))))

-- ---- how many nodes are built
none-put : (test : FormedAim → Bool) (xs : List FormedAim) → flat_map (λ a. cond (test a) (nothing a.change) []) xs ≡ []
none-put test [] = refl
none-put test (x ∷ xs) = elim (test x) as (λ b. cond b [] [] ++ flat_map (λ a. cond (test a) (nothing a.change) []) xs ≡ []) [ true ↦ none-put test xs | false ↦ none-put test xs ]

parents-step : (o : Option FormedAim) (xs ys : List FormedAim) → above xs ≡ above ys → above (and_those o xs) ≡ above (parted o ++ ys)
parents-step None xs ys h = h
parents-step (Some a) xs ys h = go (parents (aim_in a.path a.form)) refl
  where
    go : (ps : List Path) → parents (aim_in a.path a.form) ≡ ps → parents (aim_in a.path a.form) ++ above xs ≡ above (cond (some_path (parents (aim_in a.path a.form))) (a ∷ []) [] ++ ys)
    go [] is = ap (λ ps. ps ++ above xs) is ∙ h ∙ ap (λ ps. above (cond (some_path ps) (a ∷ []) [] ++ ys)) (sym is)
    go (p ∷ ps) is = ap (λ qs. parents (aim_in a.path a.form) ++ qs) h ∙ ap (λ qs. above (cond (some_path qs) (a ∷ []) [] ++ ys)) (sym is)

parents-inside : (i : ℕ) (xs : List FormedAim) → above (formed_below i xs) ≡ above (inside_child i xs)
parents-inside i [] = refl
parents-inside i (x ∷ xs) = parents-step (seen_from i x) (formed_below i xs) (inside_child i xs) (parents-inside i xs)

module _ (xs : List FormedAim) where
  abbrev cs : List NumberedAim
  cs = map of_formed xs

  built-child : (i : ℕ) (e : GreenElement) → child_built i (inside_child i xs) e ≡ built cs (i ∷ []) (element_tree e) (inside i (parents_of cs))
  built-child i e =
      sym (built-shifted cs (map of_formed (inside_child i xs)) i (inside-shifted xs i) [] (element_tree e) (parents_of (map of_formed (inside_child i xs)))) ∙ ap (built cs (i ∷ []) (element_tree e)) (sym (above-below i xs ∙ parents-inside i xs))

  slot-built : (i : ℕ) (e : GreenElement) (us : List ℕ) → sum (in_slot nothing child_built 0 xs i e ++ us) ≡ cond (is_replaced cs (i ∷ [])) 0 (built cs (i ∷ []) (element_tree e) (inside i (parents_of cs))) + sum us
  slot-built i e us =
      ap₂ (λ b vs. sum (cond b vs (child_built i (inside_child i xs) e ∷ []) ++ us)) (covered-whole i xs) (none-put (start_test i) xs) ∙ go (is_replaced cs (i ∷ []))
    where
      go : (b : Bool) → sum (cond b [] (child_built i (inside_child i xs) e ∷ []) ++ us) ≡ cond b 0 (built cs (i ∷ []) (element_tree e) (inside i (parents_of cs))) + sum us
      go true = omega arith
      go false = omega (arith, sum_by-cons (λ (x : ℕ). x) (child_built i (inside_child i xs) e) us, built-child i e)

  pub built-left : (i : ℕ) (es : List GreenElement) → sum (left nothing child_built 0 xs i es) ≡ built_from cs [] i (forest (element_trees es)) (parents_of cs)
  built-left i [] = ap sum (none-put (gap_test i) xs)
  built-left i (e ∷ es) =
      ap (λ us. sum (us ++ (in_slot nothing child_built 0 xs i e ++ left nothing child_built 0 xs (suc i) es))) (none-put (gap_test i) xs) ∙ slot-built i e (left nothing child_built 0 xs (suc i) es) ∙ ap (λ n. cond (is_replaced cs (i ∷ [])) 0 (built cs (i ∷ []) (element_tree e) (inside i (parents_of cs))) + n) (built-left (suc i) es)

-- ---- as aims are seen from a child
one-further : (d : ℕ) (p q : Path) (i : ℕ) → drop d p ≡ i ∷ q → drop (suc d) p ≡ q
one-further zero [] q i h = absurd (cc)
one-further zero (j ∷ p) q i h = cc
one-further (suc d) [] q i h = absurd (cc)
one-further (suc d) (j ∷ p) q i h = one-further d p q i h

pub inside-lowered : (i d : ℕ) (xs : List Aimed) → AllByRecursion (IsBelow i) (seen_at d xs) → seen_at (suc d) xs ≡ inside_child i (seen_at d xs)
inside-lowered i d [] all = refl
inside-lowered i d (a ∷ xs) all =
    let below = all.0 in
    ap₂ (λ p ys. as_formed a.change p a.form ∷ ys) (one-further d a.path.now below.0 i below.1) (inside-lowered i d xs all.1) ∙ ap (λ ys. ys ++ inside_child i (seen_at d xs)) (sym (below-inside i (lowered d a) below))

after-inside : (i : ℕ) (s : List ℕ) (xs : List FormedAim) → AllByRecursion (IsBelow i) xs → AllByRecursion (λ b. is_before (site (aim_in b.path b.form)) (suc (i + i) ∷ s) ≡ false) xs → AllByRecursion (λ b. is_before (site (aim_in b.path b.form)) s ≡ false) (inside_child i xs)
after-inside i s [] all h = tt
after-inside i s (b ∷ xs) all h =
    let inner = as_formed b.change all.0.0 b.form in
    let here : is_before (site (aim_in inner.path inner.form)) s ≡ false = sym (order-inside (suc (i + i)) (site (aim_in inner.path inner.form)) s) ∙ ap (λ t. is_before t (suc (i + i) ∷ s)) (sym (below-site i b all.0)) ∙ h.0 in
    subst (λ ys. AllByRecursion (λ (c : FormedAim). is_before (site (aim_in c.path c.form)) s ≡ false) (ys ++ inside_child i xs)) (sym (below-inside i b all.0)) (here, after-inside i s xs all.1 h.1)

pub rising-inside : (i : ℕ) (xs : List FormedAim) → AllByRecursion (IsBelow i) xs → Rising xs → Rising (inside_child i xs)
rising-inside i [] all h = tt
rising-inside i (a ∷ xs) all h =
    let inner = as_formed a.change all.0.0 a.form in
    let later = after-inside i (site (aim_in inner.path inner.form)) xs all.1 (subst (λ s. AllByRecursion (λ (b : FormedAim). is_before (site (aim_in b.path b.form)) s ≡ false) xs) (below-site i a all.0) h.0) in
    subst (λ ys. Rising (ys ++ inside_child i xs)) (sym (below-inside i a all.0)) (later, rising-inside i xs all.1 h.1)

-- ---- behind them
abbrev pub OthersBegin : ℕ → List FormedAim → Type 0
OthersBegin i [] = ⊤
OthersBegin i (b ∷ xs) = IsBelow i b → ⊥

pub rising-part : (run xs : List FormedAim) → Rising (run ++ xs) → Rising run × Rising xs
rising-part run xs h = ascending-part (λ a. site (aim_in a.path a.form)) run xs h

all-after : (P : FormedAim → Type 0) (run xs : List FormedAim) → AllByRecursion P (run ++ xs) → AllByRecursion P xs
all-after P [] xs h = h
all-after P (a ∷ run) xs h = all-after P run xs h.1

pub behind-run : (i : ℕ) (a : FormedAim) (run xs : List FormedAim) → IsBelow i a → OthersBegin i xs → Rising (a ∷ (run ++ xs)) → From (suc (suc (i + i))) xs
behind-run i a run [] below ends h = tt
behind-run i a run (b ∷ xs) below ends h =
    let next = (all-after (λ c. is_before (site (aim_in c.path c.form)) (site (aim_in a.path a.form)) ≡ false) run (b ∷ xs) h.0).0 in
    from-less (suc (suc (i + i))) (key b) (b ∷ xs) (omega (arith, behind-below i a b below ends next)) (rising-from b xs (rising-part run (b ∷ xs) h.1).1)

pub behind-all : (i : ℕ) (run xs : List FormedAim) → AllByRecursion (IsBelow i) run → 0 < length run → OthersBegin i xs → Rising (run ++ xs) → From (suc (suc (i + i))) xs
behind-all i [] xs all some ends h = absurd (omega (arith, some))
behind-all i (a ∷ run) xs all some ends h = behind-run i a run xs all.0 ends h

-- ---- the same of aims in code
pub below-run : (d i n : ℕ) (xs : List Aimed) → n ≤ length xs → BelowUpTo d i xs n → AllByRecursion (IsBelow i) (seen_at d (take n xs))
below-run d i zero xs l h = tt
below-run d i (suc n) [] l h = absurd (omega (arith, l))
below-run d i (suc n) (x ∷ xs) l h = (h 0 x (omega arith), below-run d i n xs (omega (arith, l)) (λ k e m. h (suc k) e (omega (arith, m))))

pub ends-run : (d i n : ℕ) (xs : List Aimed) → EndsBelow d i xs n → OthersBegin i (seen_at d (drop n xs))
ends-run d i zero [] h = tt
ends-run d i zero (x ∷ xs) h = h x (omega arith)
ends-run d i (suc n) [] h = tt
ends-run d i (suc n) (x ∷ xs) h = ends-run d i n xs (λ e l. h e (omega (arith, l)))

-- a list of aims whose first is inside a child, cut behind those that are
pub cut-behind : (d i n : ℕ) (xs : List Aimed) → n ≤ length xs → 0 < length xs → ((e : Aimed) → IsBelow i (lowered d (get_or xs 0 e))) → BelowUpTo d i xs n → EndsBelow d i xs n → Rising (seen_at d xs) → From (suc i + suc i) (seen_at d (drop n xs))
cut-behind d i zero [] l some first below ends rising = tt
cut-behind d i zero (x ∷ xs) l some first below ends rising = absurd (ends x (omega arith) (first x))
cut-behind d i (suc n) [] l some first below ends rising = tt
cut-behind d i (suc n) (x ∷ xs) l some first below ends rising =
    let parts : seen_at d (x ∷ xs) ≡ seen_at d (take (suc n) (x ∷ xs)) ++ seen_at d (drop (suc n) (x ∷ xs)) = ap (seen_at d) (sym (take-append-drop (suc n) (x ∷ xs))) ∙ map-append (lowered d) (take (suc n) (x ∷ xs)) (drop (suc n) (x ∷ xs)) in
    let behind = behind-all i (seen_at d (take (suc n) (x ∷ xs))) (seen_at d (drop (suc n) (x ∷ xs))) (below-run d i (suc n) (x ∷ xs) l below) (omega arith) (ends-run d i (suc n) (x ∷ xs) ends) (subst Rising parts rising) in
    from-less (suc i + suc i) (suc (suc (i + i))) (seen_at d (drop (suc n) (x ∷ xs))) (omega arith) behind

pub deep-path : (d : ℕ) (p q : Path) (i : ℕ) → drop d p ≡ i ∷ q → d < length p
deep-path zero [] q i h = absurd (cc)
deep-path zero (j ∷ p) q i h = omega arith
deep-path (suc d) [] q i h = absurd (cc)
deep-path (suc d) (j ∷ p) q i h = omega (arith, deep-path d p q i h)

-- they alter something in it
pub some-inside : (d i : ℕ) (x : Aimed) (xs : List Aimed) → IsBelow i (lowered d x) → list_any has_parent (map of_formed (seen_at (suc d) (x ∷ xs))) ≡ true
some-inside d i x xs below =
    ap (λ b. b || list_any has_parent (map of_formed (seen_at (suc d) xs))) (ap (λ p. has_parent (x.change, aim_in p x.form)) (one-further d x.path.now below.0 i below.1) ∙ below.2)
