-- What is read whatever further names kinds have.
--     PlainReads          a reader is past these bytes, with the names that kinds have
--     more-reading        a reading with further names goes together too
--     own-names           the names that kinds have are such
--     with-any            what is read with any further names
use Rattle.std.proofs.Common.{◌≡◌, ℕ, List, ◌++◌, sym, subst}
use Rattle.cst_core.specs.Tree.{SyntaxTree}
use Rattle.tree_text.specs.KindNames.{KindName}
use Rattle.tree_text.specs.Refusals.{KeepsNames}
use Rattle.tree_text.specs.inner.Reading.{Reading, IsReading, IsLeft, Opens, Reads, unread, with_names}

pub record PlainReads (old : Reading) (past : List ℕ) (new : Reading) : Type 0 where
  pub sound : IsReading new
  pub on : (t : SyntaxTree) (w : List ℕ) → IsLeft old t (past ++ w) → IsLeft new t w
  pub back : (t : SyntaxTree) (w : List ℕ) → IsLeft new t w → IsLeft old t (past ++ w)

pub more-reading : (r : Reading) → IsReading r → (more : List KindName) → KeepsNames r.given more → IsReading (with_names more r)
more-reading r h more m = record {
  names = m.names;
  word = h.word;
  inside = h.inside;
  whole = λ n is. let w = h.whole n is in record { limited = w.limited; between = w.between; closed = w.closed };
}

pub own-names : (r : Reading) → IsReading r → KeepsNames r.given r.given
own-names r h = record { names = h.names; keeps = λ k n is. is }

pub with-any : (old : Reading) (bytes past : List ℕ) (new : Reading) → IsReading old → new.given ≡ old.given → new.limit ≡ old.limit → unread old ++ bytes ≡ past ++ unread new → Opens old past new
    → ((more : List KindName) → KeepsNames old.given more → PlainReads (with_names more old) past (with_names more new)) → Reads old bytes new
with-any old bytes past new h names limit is opens each = record {
  sound = subst (λ given. IsReading (with_names given new)) (sym names) (each old.given (own-names old h)).sound;
  names = names;
  limit = limit;
  past = past;
  is = is;
  opens = opens;
  each = λ more m. let p = each more m in record { on = p.on; back = p.back };
}
