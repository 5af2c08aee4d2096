-- The names that kinds are given, one by one.
--     entries            the names as a caller sees them
--     own_name           the kind at an index has the name that stands beside it
--     name_of_its_own    the name of one of the 65 is its name
--     in_neither         a name that is in neither list
--     name_more, name_new, one_more_name      names where one kind more has one: the others keep theirs, it has its own, and all are names
--     one_more_named     one more kind with a name, that had none
--     own_names          the names that kinds have of their own
use Rattle.std.proofs.Common.{◌≡◌, ◌≢◌, ◌⊎◌, inl, inr, refl, not, ◌&&◌, ◌||◌, ℕ, zero, suc, ◌<◌, Bool, true, false, List, [], ◌∷◌, ◌++◌, length, get_or, map, cond, Option, None, Some, sym, ap, ◌∙◌, subst, nat_eq, string_bytes, arith}
use Rattle.std.specs.List.{All}
use Rattle.std.proofs.lemmas.Cmp.{nat_eq_equiv}
use Rattle.std.proofs.lemmas.List.Elements.{All-append, All-cons, All-nil}
use Rattle.std.specs.Map.{lookup}
use Rattle.std.specs.Option.{option_or}
use Rattle.std.specs.Cmp.Lexicographic.{pointwise}
use Rattle.std.specs.Prelude.{slice_get}
use Rattle.std.specs.List.{list_all, list_any}
use Rattle.std.proofs.lemmas.Bool.{and_parts, eqb-true}
use Rattle.std.proofs.lemmas.Slice.Eq.{bytes_eq-Decides}
use Rattle.cst_core.specs.Kind.{kind_names, name_of}
use Rattle.tree_text.specs.KindNames.{KindName, is_name, name_in, AreNames}
use Rattle.tree_text.specs.inner.NamedKinds.{AreNamed}
use Rattle.tree_text.specs.declared.kind_names.GivenName.{GivenName}

abbrev pub entry : GivenName → KindName
entry g = (g.kind.0, string_bytes g.name)

abbrev pub entries : List GivenName → List KindName
entries gs = map entry gs

at_entry : (P : KindName → Type 0) (gs : List GivenName) (i : ℕ) (g : GivenName) → All P (entries gs) → i < length gs → g ≡ get_or gs i g → P (entry g)
at_entry P [] i g all within is = absurd (omega arith)
at_entry P (h ∷ gs) zero g all within is = subst (λ x. P (entry x)) (sym is) (all 0 (entry h) (omega arith))
at_entry P (h ∷ gs) (suc i) g all within is = at_entry P gs i g (λ k d within. all (suc k) d (omega arith)) (omega arith) is

pub own_name : (gs : List GivenName) (i : ℕ) (g : GivenName) → AreNamed (entries gs) → i < length gs → g ≡ get_or gs i g → name_in (entries gs) g.kind.0 ≡ Some (string_bytes g.name)
own_name gs i g named within is = at_entry (λ e. name_in (entries gs) e.0 ≡ Some e.1) gs i g named.beside within is

pub name_of_its_own : {A : Type 0} (o l : Option A) (a : A) → o ≡ Some a → option_or o l ≡ Some a
name_of_its_own o l a is = ap (λ x. option_or x l) is

in_either : {A : Type 0} (o l : Option A) (a : A) → (o ≡ Some a → ⊥) → (l ≡ Some a → ⊥) → option_or o l ≡ Some a → ⊥
in_either None l a first second is = second is
in_either (Some x) l a first second is = first is

pub in_neither : (given : List KindName) (n : List ℕ) (k : ℕ) → (name_of k ≡ Some n → ⊥) → (lookup (nat_eq k) given ≡ Some n → ⊥) → name_in given k ≡ Some n → ⊥
in_neither given n k first second is = in_either (name_of k) (lookup (nat_eq k) given) n first second is

-- a kind that has a name keeps it as another one is given one
lookup_more : (k : ℕ) (given : List KindName) (e : KindName) (n : List ℕ) → lookup (nat_eq k) given ≡ Some n → lookup (nat_eq k) (given ++ e ∷ []) ≡ Some n
lookup_more k [] e n is = absurd (cc)
lookup_more k (d ∷ given) e n is = elim (nat_eq k d.0) as (λ b. cond b (Some d.1) (lookup (nat_eq k) given) ≡ Some n → cond b (Some d.1) (lookup (nat_eq k) (given ++ e ∷ [])) ≡ Some n) [
  | true ↦ λ h. h
  | false ↦ λ h. lookup_more k given e n h
] is

kept_by : (o l m : Option (List ℕ)) (n : List ℕ) → (l ≡ Some n → m ≡ Some n) → option_or o l ≡ Some n → option_or o m ≡ Some n
kept_by None l m n on is = on is
kept_by (Some x) l m n on is = is

pub name_more : (k : ℕ) (given : List KindName) (e : KindName) (n : List ℕ) → name_in given k ≡ Some n → name_in (given ++ e ∷ []) k ≡ Some n
name_more k given e n is = kept_by (name_of k) (lookup (nat_eq k) given) (lookup (nat_eq k) (given ++ e ∷ [])) n (lookup_more k given e n) is

pub apart : true ≡ false → ⊥
apart is = absurd (cc)

lookup_new : (k : ℕ) (n : List ℕ) (given : List KindName) → lookup (nat_eq k) given ≡ None → lookup (nat_eq k) (given ++ (k, n) ∷ []) ≡ Some n
lookup_new k n [] none = ap (λ b. cond b (Some n) None) (nat_eq_equiv.refl k)
lookup_new k n (d ∷ given) none = elim (nat_eq k d.0) as (λ b. cond b (Some d.1) (lookup (nat_eq k) given) ≡ None → cond b (Some d.1) (lookup (nat_eq k) (given ++ (k, n) ∷ [])) ≡ Some n) [
  | true ↦ λ h. absurd (cc)
  | false ↦ λ h. lookup_new k n given h
] none

fresh : (o l m : Option (List ℕ)) (n : List ℕ) → (l ≡ None → m ≡ Some n) → option_or o l ≡ None → option_or o m ≡ Some n
fresh None l m n new none = new none
fresh (Some x) l m n new none = absurd (cc)

pub name_new : (k : ℕ) (n : List ℕ) (given : List KindName) → name_in given k ≡ None → name_in (given ++ (k, n) ∷ []) k ≡ Some n
name_new k n given none = fresh (name_of k) (lookup (nat_eq k) given) (lookup (nat_eq k) (given ++ (k, n) ∷ [])) n (lookup_new k n given) none

-- where one more kind has a name, each name is an old one or the new one
pub lookup_after : (k : ℕ) (given : List KindName) (e : KindName) (n : List ℕ) → lookup (nat_eq k) (given ++ e ∷ []) ≡ Some n → (lookup (nat_eq k) given ≡ Some n) ⊎ ((k ≡ e.0) × (n ≡ e.1))
lookup_after k [] e n is = at_test (nat_eq k e.0) (eqb-true k e.0) is
  where
    at_test : (b : Bool) → (b ≡ true → k ≡ e.0) → cond b (Some e.1) None ≡ Some n → (None ≡ Some n) ⊎ ((k ≡ e.0) × (n ≡ e.1))
    at_test true same is = inr (same refl, cc)
    at_test false same is = inl is
lookup_after k (d ∷ given) e n is = elim (nat_eq k d.0) as (λ b. cond b (Some d.1) (lookup (nat_eq k) (given ++ e ∷ [])) ≡ Some n → (cond b (Some d.1) (lookup (nat_eq k) given) ≡ Some n) ⊎ ((k ≡ e.0) × (n ≡ e.1))) [
  | true ↦ λ h. inl h
  | false ↦ λ h. lookup_after k given e n h
] is

after_by : (o l m : Option (List ℕ)) (n : List ℕ) (P : Type 0) → (m ≡ Some n → (l ≡ Some n) ⊎ P) → option_or o m ≡ Some n → (option_or o l ≡ Some n) ⊎ P
after_by None l m n P after is = after is
after_by (Some x) l m n P after is = inl is

name_after : (k : ℕ) (given : List KindName) (e : KindName) (n : List ℕ) → name_in (given ++ e ∷ []) k ≡ Some n → (name_in given k ≡ Some n) ⊎ ((k ≡ e.0) × (n ≡ e.1))
name_after k given e n is = after_by (name_of k) (lookup (nat_eq k) given) (lookup (nat_eq k) (given ++ e ∷ [])) n _ (lookup_after k given e n) is

pub one_more_name : (given : List KindName) (e : KindName) → AreNames (name_in given) → is_name e.1 ≡ true → ((k : ℕ) → name_in given k ≢ Some e.1) → AreNames (name_in (given ++ e ∷ []))
one_more_name given e names spelled free = record {
  spelled = λ k n is. elim (name_after k given e n is) [
    | inl old ↦ names.spelled k n old
    | inr new ↦ subst (λ m. is_name m ≡ true) (sym new.1) spelled
  ];
  unique = λ j k n is is'. elim (name_after j given e n is) [
    | inl old ↦ elim (name_after k given e n is') [
      | inl old' ↦ names.unique j k n old old'
      | inr new' ↦ absurd (free j (old ∙ ap Some new'.1))
    ]
    | inr new ↦ elim (name_after k given e n is') [
      | inl old' ↦ absurd (free k (old' ∙ ap Some new.1))
      | inr new' ↦ new.0 ∙ sym new'.0
    ]
  ];
}

pub one_more_named : (given : List KindName) (e : KindName) → AreNamed given → name_in given e.0 ≡ None → is_name e.1 ≡ true → ((k : ℕ) → name_in given k ≢ Some e.1) → AreNamed (given ++ e ∷ [])
one_more_named given e named none spelled free =
    let P : KindName → Type 0 = λ d. name_in (given ++ e ∷ []) d.0 ≡ Some d.1 in
    record {
      beside = All-append P given (e ∷ []) (λ k d within. name_more (get_or given k d).0 given e (get_or given k d).1 (named.beside k d within)) (All-cons P e [] (name_new e.0 e.1 given none) (All-nil P));
      names = one_more_name given e named.names spelled free;
    }

-- ---- the names that kinds have of their own
abbrev differ : List (List ℕ) → Bool
differ [] = true
differ (m ∷ ns) = not (list_any (pointwise nat_eq m) ns) && differ ns

spelled_at : (ns : List (List ℕ)) (k : ℕ) (n : List ℕ) → list_all is_name ns ≡ true → slice_get ns k ≡ Some n → is_name n ≡ true
spelled_at [] k n all is = absurd (cc)
spelled_at (m ∷ ns) zero n all is = let same : m ≡ n = cc in subst (λ x. is_name x ≡ true) same (and_parts _ _ all).0
spelled_at (m ∷ ns) (suc k) n all is = spelled_at ns k n (and_parts _ _ all).1 is

never : (m : List ℕ) (ns : List (List ℕ)) (k : ℕ) → list_any (pointwise nat_eq m) ns ≡ false → slice_get ns k ≡ Some m → ⊥
never m [] k none is = cc
never m (n ∷ ns) k none is = at_test (pointwise nat_eq m n) (λ same. (bytes_eq-Decides m n).1 same) (never m ns) k none is
  where
    at_test : (b : Bool) → (m ≡ n → b ≡ true) → ((k : ℕ) → list_any (pointwise nat_eq m) ns ≡ false → slice_get ns k ≡ Some m → ⊥) → (k : ℕ) → (b || list_any (pointwise nat_eq m) ns) ≡ false → slice_get (n ∷ ns) k ≡ Some m → ⊥
    at_test true same later k none is = apart none
    at_test false same later zero none is = let it : m ≡ n = cc in apart (sym (same it))
    at_test false same later (suc k) none is = later k none is

not_false : (b : Bool) → not b ≡ true → b ≡ false
not_false true is = sym is
not_false false is = refl

one_place : (ns : List (List ℕ)) (i j : ℕ) (n : List ℕ) → differ ns ≡ true → slice_get ns i ≡ Some n → slice_get ns j ≡ Some n → i ≡ j
one_place [] i j n apart' is is' = absurd (cc)
one_place (m ∷ ns) zero zero n apart' is is' = refl
one_place (m ∷ ns) zero (suc j) n apart' is is' =
    let same : m ≡ n = cc in
    absurd (never n ns j (subst (λ x. list_any (pointwise nat_eq x) ns ≡ false) same (not_false _ (and_parts _ _ apart').0)) is')
one_place (m ∷ ns) (suc i) zero n apart' is is' =
    let same : m ≡ n = cc in
    absurd (never n ns i (subst (λ x. list_any (pointwise nat_eq x) ns ≡ false) same (not_false _ (and_parts _ _ apart').0)) is)
one_place (m ∷ ns) (suc i) (suc j) n apart' is is' = ap suc (one_place ns i j n (and_parts _ _ apart').1 is is')

own_alone : (o : Option (List ℕ)) (n : List ℕ) → option_or o None ≡ Some n → o ≡ Some n
own_alone None n is = is
own_alone (Some x) n is = is

pub own_names : AreNamed []
own_names = record {
  beside = All-nil (λ e. name_in [] e.0 ≡ Some e.1);
  names = record {
    spelled = λ k n is. spelled_at kind_names k n refl (own_alone (name_of k) n is);
    unique = λ j k n is is'. one_place kind_names j k n refl (own_alone (name_of j) n is) (own_alone (name_of k) n is');
  };
}
