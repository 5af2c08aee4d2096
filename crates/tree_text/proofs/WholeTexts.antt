-- A text that is read from its start.
--     HasRead               a front of the text was read, and the rest is left, behind what is unread of a name: whatever further
--                           names kinds have, a tree goes on behind the front exactly if that may be left
--     nothing-read          nothing is
--     one-more-read         some more bytes are
--     more-read             some are, up to what is left
--     stuck-there           where a character can't be read
--     refused-run           where memory is refused
--     refused-end           where the text is at its end
--     on-own, back-own, end-on, end-back      with the names that kinds have, and at its end
use Rattle.std.proofs.Common.{◌≡◌, ◌≢◌, ℕ, ◌+◌, ◌-◌, ◌<◌, ◌≤◌, false, List, [], ◌∷◌, ◌++◌, length, length-append, None, Some, append_assoc, append-nil, inl, inr, refl, sym, ap, ◌∙◌, subst, arith}
use Rattle.std.specs.Prelude.{codes, encode_utf8}
use Rattle.cst_core.specs.Green.{IsTooLong}
use Rattle.cst_core.specs.Tree.{SyntaxTree, text}
use Rattle.tree_text.specs.Depth.{depth}
use Rattle.tree_text.specs.Grammar.{IsExpression, begins_with_name_byte}
use Rattle.tree_text.specs.KindNames.{KindName, name_in}
use Rattle.tree_text.specs.Refusals.{IsRefused, KeepsNames, Begins, MayBegin, MayGoOn, IsMalformed, LacksName, BeginsAs, IsTooDeepFor, ReadRefusesFor}
use Rattle.tree_text.specs.inner.Completing.{IsFrom}
use Rattle.tree_text.specs.inner.Gap.{is_gap}
use Rattle.tree_text.specs.inner.Nowhere.{Nowhere}
use Rattle.tree_text.specs.inner.Reading.{Reading, IsReading, IsLeft, CannotGoOn, CannotEnd, Lacks, IsDeep, GoesOnAs, IsStuck, Opened, Reads, ReadsUpTo, first_reading, unread, with_names}
use Rattle.tree_text.specs.declared.error.ExpressionError.{ExpressionError}
use Rattle.tree_text.specs.declared.gaps.Gaps.{Gaps}
use Rattle.tree_text.specs.declared.reader.State.TheVariants.{Between, NodeKind}
use Rattle.tree_text.proofs.AnyNames.{own-names}
use Rattle.tree_text.proofs.Completed.{completes, may-complete}
use Rattle.tree_text.proofs.EncodedBytes.{first-byte}
use Rattle.tree_text.proofs.FreshKinds.{one-more}
use Rattle.tree_text.proofs.NameSteps.{part-named}
use Rattle.tree_text.proofs.Refusing.{refused-weaker}
use Rattle.tree_text.proofs.WholeTrees.{as-expression, from-expression}

module _ (given : List KindName) (gaps : Gaps) (limit : ℕ) (whole : List ℕ) where
  abbrev Is : List KindName → SyntaxTree → List ℕ → Type 0
  Is more t w = IsExpression (name_in more) (is_gap gaps) t w

  -- a node is opened at the end of the front: where it isn't, what may be left is the same
  pub record HasOpened (front : List ℕ) (r : Reading) : Type 0 where
    pub before : List ℕ
    pub is : front ≡ before ++ codes "("
    pub back : (t : SyntaxTree) (w : List ℕ) → begins_with_name_byte w ≡ false → IsFrom (name_in given) (is_gap r.gaps) r.nodes t w → Is given t (before ++ w)

  pub record HasRead (rest : List ℕ) (r : Reading) : Type 0 where
    pub front : List ℕ
    pub is : whole ≡ front ++ (unread r ++ rest)
    pub sound : IsReading r
    pub names : r.given ≡ given
    pub limited : r.limit ≡ limit
    pub on : (more : List KindName) → KeepsNames given more → (t : SyntaxTree) (w : List ℕ) → Is more t (front ++ w) → IsLeft (with_names more r) t w
    pub back : (more : List KindName) → KeepsNames given more → (t : SyntaxTree) (w : List ℕ) → IsLeft (with_names more r) t w → Is more t (front ++ w)
    pub opened : r.state ≡ NodeKind → HasOpened front r

  no-node : Between ≢ NodeKind
  no-node is = cc

  pub nothing-read : (rest : List ℕ) (r : Reading) → rest ≡ whole → r ≡ first_reading given gaps limit → IsReading r → HasRead rest r
  nothing-read rest r is first sound = record {
    front = [];
    is = sym is ∙ ap (λ x. unread x ++ rest) (sym first);
    sound = sound;
    names = ap (λ x. x.given) first;
    limited = ap (λ x. x.limit) first;
    on = λ more m t w expression. subst (λ x. IsLeft (with_names more x) t w) (sym first) (from-expression (name_in more) (is_gap gaps) t w expression);
    back = λ more m t w left. as-expression (name_in more) (is_gap gaps) t w (subst (λ x. IsLeft (with_names more x) t w) first left);
    opened = λ node. absurd (no-node (sym (ap (λ x. x.state) first) ∙ node));
  }

  -- a node that was opened before, or is opened now
  opened-still : (front past : List ℕ) (old new : Reading) → past ≡ [] → new.nodes ≡ old.nodes → new.gaps ≡ old.gaps → HasOpened front old → HasOpened (front ++ past) new
  opened-still front past old new none nodes gaps' o = record {
    before = o.before;
    is = ap (λ x. front ++ x) none ∙ append-nil front ∙ o.is;
    back = λ t w apart from. o.back t w apart (subst (λ g. IsFrom (name_in given) (is_gap g) old.nodes t w) gaps' (subst (λ ns. IsFrom (name_in given) (is_gap new.gaps) ns t w) nodes from));
  }

  opened-now : (rest past : List ℕ) (old new : Reading) (so_far : HasRead rest old) → Opened old past new → HasOpened (so_far.front ++ past) new
  opened-now rest past old new so_far o = record {
    before = so_far.front ++ o.before;
    is = ap (λ x. so_far.front ++ x) o.is ∙ sym (append_assoc so_far.front o.before (codes "("));
    back = λ t w apart from.
        let own = subst (λ g. KeepsNames g g) so_far.names (own-names old so_far.sound) in
        let left : IsLeft old t (o.before ++ w) = o.back t w apart (subst (λ g. IsFrom (name_in g) (is_gap new.gaps) new.nodes t w) (sym so_far.names) from) in
        subst (Is given t) (sym (append_assoc so_far.front o.before w)) (so_far.back given own t (o.before ++ w) (subst (λ g. IsLeft (with_names g old) t (o.before ++ w)) so_far.names left));
  }

  pub one-more-read : (bytes rest after : List ℕ) (old new : Reading) → rest ≡ bytes ++ after → HasRead rest old → Reads old bytes new → HasRead after new
  one-more-read bytes rest after old new is so_far reads =
      let behind : unread old ++ rest ≡ reads.past ++ (unread new ++ after) =
      ap (λ x. unread old ++ x) is ∙ sym (append_assoc (unread old) bytes after) ∙ ap (λ x. x ++ after) reads.is ∙ append_assoc reads.past (unread new) after in
      let keeps : (more : List KindName) → KeepsNames given more → KeepsNames old.given more = λ more m. subst (λ g. KeepsNames g more) (sym so_far.names) m in
      record {
        front = so_far.front ++ reads.past;
        is = so_far.is ∙ ap (λ x. so_far.front ++ x) behind ∙ sym (append_assoc so_far.front reads.past (unread new ++ after));
        sound = reads.sound;
        names = reads.names ∙ so_far.names;
        limited = reads.limit ∙ so_far.limited;
        on = λ more m t w expression. (reads.each more (keeps more m)).on t w (so_far.on more m t (reads.past ++ w) (subst (Is more t) (append_assoc so_far.front reads.past w) expression));
        back = λ more m t w left. subst (Is more t) (sym (append_assoc so_far.front reads.past w)) (so_far.back more m t (reads.past ++ w) ((reads.each more (keeps more m)).back t w left));
        opened = λ node. elim (reads.opens node) [
          | inl o ↦ opened-now rest reads.past old new so_far o
          | inr same ↦ opened-still so_far.front reads.past old new same.1 same.2 same.3 (so_far.opened same.0)
        ];
      }

  module _ (rest : List ℕ) (r : Reading) (so_far : HasRead rest r) where
    -- where the next byte is
    abbrev here : ℕ
    here = length (so_far.front ++ unread r)

    own : KeepsNames given given
    own = subst (λ g. KeepsNames g g) so_far.names (own-names r so_far.sound)

    keeps-own : (more : List KindName) → KeepsNames given more → KeepsNames r.given more
    keeps-own more m = subst (λ g. KeepsNames g more) (sym so_far.names) m

    keeps-given : (more : List KindName) → KeepsNames r.given more → KeepsNames given more
    keeps-given more m = subst (λ g. KeepsNames g more) so_far.names m

    pub on-own : (t : SyntaxTree) (w : List ℕ) → Is given t (so_far.front ++ w) → IsLeft r t w
    on-own t w expression = subst (λ g. IsLeft (with_names g r) t w) (sym so_far.names) (so_far.on given own t w expression)

    pub back-own : (t : SyntaxTree) (w : List ℕ) → IsLeft r t w → Is given t (so_far.front ++ w)
    back-own t w left = so_far.back given own t w (subst (λ g. IsLeft (with_names g r) t w) so_far.names left)

    split : whole ≡ (so_far.front ++ unread r) ++ rest
    split = so_far.is ∙ sym (append_assoc so_far.front (unread r) rest)

    pub here-is : here + length rest ≡ length whole
    here-is = sym (ap length split ∙ length-append (so_far.front ++ unread r) rest)

    begun : Begins given (is_gap gaps) so_far.front
    begun = let ends = completes r so_far.sound in (ends.0, ends.1, back-own ends.0 ends.1 ends.2)

    may : MayBegin given (is_gap gaps) (so_far.front ++ unread r)
    may =
        let ends = may-complete r so_far.sound in
        let m = keeps-given ends.0 ends.1 in
        (ends.0, m, (ends.2, ends.3, subst (Is ends.0 ends.2) (sym (append_assoc so_far.front (unread r) ends.3)) (so_far.back ends.0 m ends.2 (unread r ++ ends.3) ends.4)))

    malformed : (MayGoOn given (is_gap gaps) (so_far.front ++ unread r) rest → ⊥) → IsMalformed given (is_gap gaps) whole here
    malformed stops = record {
      front = so_far.front;
      name = unread r;
      rest = rest;
      is = split;
      here = refl;
      spelled = part-named r.state r.word so_far.sound.word;
      begins = begun;
      may_begin = may;
      stops = stops;
    }

    -- the first byte of a character can't be read
    unreadable : (bytes : List ℕ) (b : ℕ) (after : List ℕ) → bytes ≡ b ∷ after → CannotGoOn r bytes → MayBegin given (is_gap gaps) ((so_far.front ++ unread r) ++ b ∷ []) → ⊥
    unreadable bytes b after is none goes =
        let t = goes.2.0 in
        let x = goes.2.1 in
        let join : ((so_far.front ++ unread r) ++ b ∷ []) ++ x ≡ so_far.front ++ (unread r ++ b ∷ x) =
        append_assoc (so_far.front ++ unread r) (b ∷ []) x ∙ append_assoc so_far.front (unread r) (b ∷ x) in
        none b after is goes.0 (keeps-own goes.0 goes.1) t x (so_far.on goes.0 goes.1 t (unread r ++ b ∷ x) (subst (Is goes.0 t) join goes.2.2))

    begins : (bytes after : List ℕ) (Are : SyntaxTree → Type 0) → rest ≡ bytes ++ after → GoesOnAs r bytes Are → BeginsAs given (is_gap gaps) Are whole
    begins bytes after Are is goes_on =
        let join : (w : List ℕ) → ((so_far.front ++ unread r) ++ bytes) ++ w ≡ so_far.front ++ (unread r ++ (bytes ++ w)) = λ w.
        append_assoc (so_far.front ++ unread r) bytes w ∙ append_assoc so_far.front (unread r) (bytes ++ w) in
        record {
          front = (so_far.front ++ unread r) ++ bytes;
          rest = after;
          is = split ∙ ap (λ x. (so_far.front ++ unread r) ++ x) is ∙ sym (append_assoc (so_far.front ++ unread r) bytes after);
          goes = (goes_on.goes.0, goes_on.goes.1, subst (Is given goes_on.goes.0) (sym (join goes_on.goes.1)) (back-own goes_on.goes.0 (unread r ++ (bytes ++ goes_on.goes.1)) goes_on.goes.2));
          only = λ t w expression. goes_on.only t w (on-own t (unread r ++ (bytes ++ w)) (subst (Is given t) (join w) expression));
        }

    too-deep : IsDeep r → IsTooDeepFor limit given (is_gap gaps) whole (length so_far.front)
    too-deep deep =
        let o = so_far.opened deep.opens in
        let f = deep.fits in
        record {
          front = o.before;
          rest = unread r ++ rest;
          is = so_far.is ∙ ap (λ x. x ++ (unread r ++ rest)) o.is;
          here = ap length o.is;
          fits = (f.0, f.1, o.back f.0 f.1 f.2 (subst (λ g. IsFrom (name_in g) (is_gap r.gaps) r.nodes f.0 f.1) so_far.names f.3), subst (λ l. depth f.0 ≤ l) so_far.limited f.4);
          begins = subst (Begins given (is_gap gaps)) o.is begun;
          only = λ t w expression. subst (λ l. l < depth t) so_far.limited (deep.only t w (on-own t w (subst (λ x. Is given t (x ++ w)) (sym o.is) expression)));
        }

    lacking : (bytes after : List ℕ) → rest ≡ bytes ++ after → Lacks r bytes → LacksName given (is_gap gaps) whole (length so_far.front)
    lacking bytes after is lacks =
        let unknown = subst (λ g. (k : ℕ) → name_in g k ≢ Some (unread r)) so_far.names lacks.unknown in
        let more : List KindName = given ++ (lacks.kind, unread r) ∷ [] in
        let goes = subst (λ g. IsLeft (with_names (g ++ (lacks.kind, unread r) ∷ []) r) lacks.goes.0 (unread r ++ lacks.next ∷ lacks.goes.1)) so_far.names lacks.goes.2 in
        let expression = so_far.back more (one-more given lacks.kind (unread r) own.names lacks.spelled unknown) lacks.goes.0 (unread r ++ lacks.next ∷ lacks.goes.1) goes in
        let join : ((so_far.front ++ unread r) ++ lacks.next ∷ []) ++ lacks.goes.1 ≡ so_far.front ++ (unread r ++ lacks.next ∷ lacks.goes.1) =
        append_assoc (so_far.front ++ unread r) (lacks.next ∷ []) lacks.goes.1 ∙ append_assoc so_far.front (unread r) (lacks.next ∷ lacks.goes.1) in
        record {
          front = so_far.front;
          name = unread r;
          next = lacks.next;
          rest = after;
          is = split ∙ ap (λ x. (so_far.front ++ unread r) ++ x) (is ∙ ap (λ x. x ++ after) lacks.is);
          here = refl;
          begins = begun;
          spelled = lacks.spelled;
          ends = lacks.ends;
          unknown = unknown;
          stops = λ t x apart whole'. lacks.stops t x apart (on-own t (unread r ++ x) (subst (Is given t) (append_assoc so_far.front (unread r) x) whole'));
          goes = (lacks.kind, subst (λ g. name_in g lacks.kind ≡ None) so_far.names lacks.nameless, (lacks.goes.0, lacks.goes.1, subst (Is more lacks.goes.0) (sym join) expression));
        }

    -- where the unread part of a name begins
    before-unread : (x : ℕ) → x ≡ here - length (unread r) → x ≡ length so_far.front
    before-unread x is = omega (arith, is, length-append so_far.front (unread r))

    pub stuck-there : (at c : ℕ) (after : List ℕ) (e : ExpressionError) → at ≡ length whole - length rest → rest ≡ encode_utf8 c ++ after → IsStuck r at (encode_utf8 c) e → ReadRefusesFor limit given (is_gap gaps) whole e
    stuck-there at c after e there is stuck =
        let at-here : at ≡ here = omega (arith, there, here-is) in
        let f = first-byte c in
        let first : rest ≡ f.first ∷ (f.rest ++ after) = is ∙ ap (λ x. x ++ after) f.is in
        refused-weaker e _ _ _ _ _ _ _ _
        (λ x none. subst (IsMalformed given (is_gap gaps) whole) (sym (none.0 ∙ at-here)) (malformed (subst (λ l. MayGoOn given (is_gap gaps) (so_far.front ++ unread r) l → ⊥) (sym first) (unreadable (encode_utf8 c) f.first f.rest f.is none.1))))
        (λ x lacks. subst (LacksName given (is_gap gaps) whole) (sym (before-unread x (lacks.0 ∙ ap (λ y. y - length (unread r)) at-here))) (lacking (encode_utf8 c) after is lacks.1))
        (λ x deep. subst (IsTooDeepFor limit given (is_gap gaps) whole) (sym (before-unread x (deep.0 ∙ ap (λ y. y - length (unread r)) at-here))) (too-deep deep.1))
        (begins (encode_utf8 c) after (λ t. IsTooLong (text t)) is)
        stuck

    pub refused-end : (at : ℕ) (e : ExpressionError) → at ≡ length whole → rest ≡ [] → IsRefused (λ x. (x ≡ at) × CannotEnd r) Nowhere Nowhere ⊥ e → ReadRefusesFor limit given (is_gap gaps) whole e
    refused-end at e there none h =
        let at-here : at ≡ here = omega (arith, there, here-is, ap length none) in
        let ends : CannotEnd r → MayGoOn given (is_gap gaps) (so_far.front ++ unread r) [] → ⊥ = λ cannot goes.
        cannot goes.0 (keeps-own goes.0 goes.1) goes.2 (so_far.on goes.0 goes.1 goes.2 (unread r) goes.3) in
        refused-weaker e _ Nowhere Nowhere ⊥ _ _ _ _
        (λ x cannot. subst (IsMalformed given (is_gap gaps) whole) (sym (cannot.0 ∙ at-here)) (malformed (subst (λ l. MayGoOn given (is_gap gaps) (so_far.front ++ unread r) l → ⊥) (sym none) (ends cannot.1))))
        (λ x lacks. absurd lacks) (λ x deep. absurd deep) (λ long. absurd long) h

    unread-alone : rest ≡ [] → unread r ++ rest ≡ unread r
    unread-alone none = ap (λ x. unread r ++ x) none ∙ append-nil (unread r)

    pub end-on : (t : SyntaxTree) → rest ≡ [] → Is given t whole → IsLeft r t (unread r)
    end-on t none expression = subst (IsLeft r t) (unread-alone none) (on-own t (unread r ++ rest) (subst (Is given t) so_far.is expression))

    pub end-back : (t : SyntaxTree) → rest ≡ [] → IsLeft r t (unread r) → Is given t whole
    end-back t none left = subst (Is given t) (sym so_far.is) (back-own t (unread r ++ rest) (subst (IsLeft r t) (sym (unread-alone none)) left))

  pub more-read : (rest left : List ℕ) (old new : Reading) → HasRead rest old → ReadsUpTo old rest left new → HasRead left new
  more-read rest left old new so_far reads = one-more-read reads.0 rest left old new reads.1 so_far reads.2

  pub refused-run : (e : ExpressionError) → IsRefused Nowhere Nowhere Nowhere ⊥ e → ReadRefusesFor limit given (is_gap gaps) whole e
  refused-run e h = refused-weaker e Nowhere Nowhere Nowhere ⊥ _ _ _ _ (λ x none. absurd none) (λ x lacks. absurd lacks) (λ x deep. absurd deep) (λ long. absurd long) h
