-- The table of the kinds that are given names.
--     kept_none         where there are none
--     kept_after        one more kind with a name, that had none
--     kept_unchanged    after a change of the table that was refused
--     kind_found        a kind that is found has the name
--     kind_missing      where none is found, none has it
use Rattle.std.proofs.Common.{◌≡◌, ◌≢◌, ℕ, Bool, true, false, cond, List, [], ◌∷◌, ◌++◌, Option, None, Some, IsNone, IfSome, String, inl, inr, nat_eq, refl, sym, ap, ◌∙◌, subst, string_bytes}
use Rattle.std.specs.Global.{Global}
use Rattle.std.specs.HashMap.{HashMap, get_by_text}
use Rattle.std.specs.Map.{lookup, update}
use Rattle.std.specs.Str.{bytes_eq}
use Rattle.std.proofs.lemmas.Bool.{false≢true}
use Rattle.std.proofs.lemmas.List.{map-append}
use Rattle.std.proofs.lemmas.Slice.Eq.{bytes_eq-Decides}
use Rattle.cst_core.specs.SyntaxKind.{SyntaxKind}
use Rattle.cst_core.specs.Kind.{name_of}
use Rattle.tree_text.specs.KindNames.{KindName, is_name, name_in}
use Rattle.tree_text.specs.inner.NamedKinds.{AreKept}
use Rattle.tree_text.specs.declared.kind_names.GivenName.{GivenName}
use Rattle.tree_text.proofs.Names.{entry, entries, in_neither, lookup_after, name_more, name_new, one_more_named, own_names}

pub kept_none : {S : Type 0} (table : HashMap (String Global) SyntaxKind S) (gs : List GivenName) → gs ≡ [] → ((q : List ℕ) → get_by_text table q ≡ None) → AreKept table (entries gs)
kept_none table gs is none = subst (λ l. AreKept table (entries l)) (sym is) (record {
  named = own_names;
  sound = λ name kind found. let no : None ≡ Some kind = sym (none name) ∙ found in absurd (cc);
  full = λ name gone k found. absurd (cc);
})

module _ {S : Type 0} (old new : HashMap (String Global) SyntaxKind S) (given : List KindName) (kind : SyntaxKind) (own : List ℕ) where
  abbrev more : List KindName
  more = given ++ (kind.0, own) ∷ []

  abbrev IsPut : Type 0
  IsPut = (q : List ℕ) → get_by_text new q ≡ update bytes_eq (get_by_text old) own (Some kind) q

  sound-at : AreKept old given → name_in given kind.0 ≡ None → (q : List ℕ) (k : SyntaxKind) (b : Bool) → (b ≡ true → own ≡ q) → cond b (Some kind) (get_by_text old q) ≡ Some k → name_in more k.0 ≡ Some q
  sound-at kept none q k true same is =
      let it : kind ≡ k = cc in
      subst (λ x. name_in more x.0 ≡ Some q) it (subst (λ n. name_in more kind.0 ≡ Some n) (same refl) (name_new kind.0 own given none))
  sound-at kept none q k false same is = name_more k.0 given (kind.0, own) q (kept.sound q k is)

  full-at : AreKept old given → (q : List ℕ) (b : Bool) → (own ≡ q → b ≡ true) → cond b (Some kind) (get_by_text old q) ≡ None → (k : ℕ) → lookup (nat_eq k) more ≡ Some q → ⊥
  full-at kept q true same is k found = absurd (let no : Some kind ≡ None = is in cc)
  full-at kept q false same is k found = elim (lookup_after k given (kind.0, own) q found) [
    | inl before ↦ kept.full q is k before
    | inr last ↦ false≢true (same (sym last.1))
  ]

  kept-more : AreKept old given → name_in given kind.0 ≡ None → is_name own ≡ true → ((k : ℕ) → name_in given k ≢ Some own) → IsPut → AreKept new more
  kept-more kept none spelled free put = record {
    named = one_more_named given (kind.0, own) kept.named none spelled free;
    sound = λ q k is. sound-at kept none q k (bytes_eq own q) (bytes_eq-Decides own q).0 (sym (put q) ∙ is);
    full = λ q is. full-at kept q (bytes_eq own q) (bytes_eq-Decides own q).1 (sym (put q) ∙ is);
  }

pub kept_after : {S : Type 0} (old new : HashMap (String Global) SyntaxKind S) (gs hs : List GivenName) (g : GivenName) → AreKept old (entries gs) → name_in (entries gs) g.kind.0 ≡ None → is_name (string_bytes g.name) ≡ true → ((k : ℕ) → name_in (entries gs) k ≢ Some (string_bytes g.name)) → hs ≡ gs ++ g ∷ [] → ((q : List ℕ) → get_by_text new q ≡ update bytes_eq (get_by_text old) (string_bytes g.name) (Some g.kind) q) → AreKept new (entries hs)
kept_after old new gs hs g kept none spelled free is put =
    subst (λ l. AreKept new l) (sym (ap entries is ∙ map-append entry gs (g ∷ []))) (kept-more old new (entries gs) g.kind (string_bytes g.name) kept none spelled free put)

pub kept_unchanged : {S : Type 0} (old new : HashMap (String Global) SyntaxKind S) (given : List KindName) → AreKept old given → new.entries ≡ old.entries → AreKept new given
kept_unchanged old new given kept same =
    let found : (q : List ℕ) → get_by_text new q ≡ get_by_text old q = λ q. ap (lookup (λ k. bytes_eq q (string_bytes k))) same in
    record {
      named = kept.named;
      sound = λ q k is. kept.sound q k (sym (found q) ∙ is);
      full = λ q is. kept.full q (sym (found q) ∙ is);
    }

pub kind_found : {S : Type 0} (table : HashMap (String Global) SyntaxKind S) (given : List KindName) (name : List ℕ) (found : Option SyntaxKind) → AreKept table given → found ≡ get_by_text table name → IfSome found (λ kind. name_in given kind.0 ≡ Some name)
kind_found table given name None kept is = tt
kind_found table given name (Some kind) kept is = kept.sound name kind (sym is)

pub kind_missing : {S : Type 0} (table : HashMap (String Global) SyntaxKind S) (given : List KindName) (name : List ℕ) (found : Option SyntaxKind) → AreKept table given → found ≡ get_by_text table name → ((k : ℕ) → name_of k ≡ Some name → ⊥) → IsNone found → (k : ℕ) → name_in given k ≢ Some name
kind_missing table given name None kept is unnamed none k named = in_neither given name k (unnamed k) (kept.full name (sym is) k) named
kind_missing table given name (Some kind) kept is unnamed none k named = absurd (cc)
