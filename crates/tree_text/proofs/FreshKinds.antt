-- One kind more that has a name.
--     fresh-kind        there is always a kind that has none
--     named-or-not      some kind has a name, or none has it
--     one-more          a kind is given a name that no kind has, and all others keep theirs
use Rattle.std.proofs.Common.{◌≡◌, ◌≢◌, ◌⊎◌, inl, inr, ℕ, zero, suc, ◌+◌, ◌≤◌, ◌<◌, Bool, true, false, cond, List, [], ◌∷◌, ◌++◌, length, nat_eq, Option, None, Some, refl, sym, ap, ◌∙◌, subst, arith}
use Rattle.std.specs.Prelude.{slice_get}
use Rattle.std.specs.Cmp.Lexicographic.{pointwise}
use Rattle.std.specs.Map.{lookup}
use Rattle.std.specs.Option.{option_or}
use Rattle.std.proofs.lemmas.Bool.{false≢true, cases_lt}
use Rattle.std.proofs.lemmas.Slice.Eq.{bytes_eq-Decides}
use Rattle.cst_core.specs.Kind.{kind_names, name_of}
use Rattle.tree_text.specs.KindNames.{KindName, AreNames, is_name, name_in}
use Rattle.tree_text.specs.Refusals.{KeepsNames}
use Rattle.tree_text.proofs.EncodedBytes.{other}
use Rattle.tree_text.proofs.Names.{name_more, one_more_name}

past : {A : Type 0} (xs : List A) (k : ℕ) → length xs ≤ k → slice_get xs k ≡ None
past [] k l = refl
past (x ∷ xs) zero l = absurd (omega arith)
past (x ∷ xs) (suc k) l = past xs k (omega arith)

abbrev bound : List KindName → ℕ
bound [] = 0
bound (e ∷ given) = suc (e.0 + bound given)

nobody : (given : List KindName) (k : ℕ) → bound given ≤ k → lookup (nat_eq k) given ≡ None
nobody [] k l = refl
nobody (e ∷ given) k l =
    let differ : k ≢ e.0 = λ is. absurd (omega (arith, is, l)) in
    ap (λ b. cond b (Some e.1) (lookup (nat_eq k) given)) (other k e.0 differ) ∙ nobody given k (omega (arith, l))

pub fresh-kind : (given : List KindName) → (k : ℕ) × (name_in given k ≡ None)
fresh-kind given =
    let k = length kind_names + bound given in
    let own : name_of k ≡ None = past kind_names k (omega arith) in
    (k, ap (λ o. option_or o (lookup (nat_eq k) given)) own ∙ nobody given k (omega arith))

-- ---- whether a kind has a name, by going through the kinds that can have one
same-name? : (o : Option (List ℕ)) (n : List ℕ) → (o ≡ Some n) ⊎ (o ≢ Some n)
same-name? None n = inr (λ is. cc)
same-name? (Some m) n = at-test (pointwise nat_eq m n) (bytes_eq-Decides m n).0 (bytes_eq-Decides m n).1
  where
    at-test : (b : Bool) → (b ≡ true → m ≡ n) → (m ≡ n → b ≡ true) → (Some m ≡ Some n) ⊎ (Some m ≢ Some n)
    at-test true same back = inl (ap Some (same refl))
    at-test false same back = inr (λ is. let it : m ≡ n = cc in false≢true (back it))

among : (names : ℕ → Option (List ℕ)) (n : List ℕ) (end : ℕ) → ((k : ℕ) × (names k ≡ Some n)) ⊎ ((k : ℕ) → k < end → names k ≢ Some n)
among names n zero = inr (λ k within. absurd (omega arith))
among names n (suc end) = elim (same-name? (names end) n) [
  | inl is ↦ inl (end, is)
  | inr differ ↦ elim (among names n end) [
    | inl found ↦ inl found
    | inr before ↦ inr (λ k within. elim (cases_lt k end) [
      | inl less ↦ before k less
      | inr at ↦ let same : k ≡ end = omega arith in subst (λ j. names j ≢ Some n) (sym same) differ
    ])
  ]
]

abbrev kinds-end : List KindName → ℕ
kinds-end given = length kind_names + bound given

nameless-from : (given : List KindName) (k : ℕ) → kinds-end given ≤ k → name_in given k ≡ None
nameless-from given k l =
    let own : name_of k ≡ None = past kind_names k (omega (arith, l)) in
    ap (λ o. option_or o (lookup (nat_eq k) given)) own ∙ nobody given k (omega (arith, l))

pub named-or-not : (given : List KindName) (n : List ℕ) → ((k : ℕ) × (name_in given k ≡ Some n)) ⊎ ((k : ℕ) → name_in given k ≢ Some n)
named-or-not given n = elim (among (name_in given) n (kinds-end given)) [
  | inl found ↦ inl found
  | inr before ↦ inr (λ k. elim (cases_lt k (kinds-end given)) [
    | inl less ↦ before k less
    | inr past' ↦ λ is. let both : None ≡ Some n = sym (nameless-from given k past') ∙ is in cc
  ])
]

pub one-more : (given : List KindName) (k : ℕ) (n : List ℕ) → AreNames (name_in given) → is_name n ≡ true → ((j : ℕ) → name_in given j ≢ Some n) → KeepsNames given (given ++ (k, n) ∷ [])
one-more given k n names spelled unknown = record {
  names = one_more_name given (k, n) names spelled unknown;
  keeps = λ j m is. name_more j given (k, n) m is;
}
