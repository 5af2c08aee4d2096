use Rattle.std.specs.Prelude.{Option, Some, None, option_map, cond, Bool, true, false}
use Rattle.std.specs.Option.{is_some}
use Rattle.std.proofs.Common.{◌≡◌, ◌<◌, ◌+◌, ◌==◌, ℕ, suc, List, [], ◌∷◌, ◌++◌, map, drop, length, get_or, arith, ap, sym, refl, ◌∙◌}
use Rattle.std.proofs.lemmas.Bool.{ne_eqb}
use Rattle.std.proofs.lemmas.List.{append-nil, append_assoc, at_drop_all, at_drop_more}
use Rattle.green_tree.specs.Path.{Path}
use Rattle.green_tree.specs.Tree.{SyntaxTree}
use Rattle.green_tree.specs.Green.{Leaf}
use Rattle.green_tree.specs.declared.green.GreenElement.{GreenElement}
use Rattle.green_tree.specs.declared.green.GreenElement.TheVariants.{Token}
use Rattle.green_tree.specs.GreenElement.{element_tree}
use Rattle.green_tree.specs.GreenElementRef.{ref_tree}
use Rattle.one_pass.specs.declared.mark.Sought.{Sought}
use Rattle.one_pass.specs.inner.Marked.{Marking, leads, mark_seen, marks_seen, mark_below, marks_of, kept_in}
use Rattle.one_pass.proofs.mark.push_kept.Goals as goal
use Rattle.one_pass.proofs.mark.push_kept.Goals.{in-Node, in-Token, then-leads+in_ok-push_mark, else-leads}

same-some : {X Y : Type 0} (f : X → Y) (o : Option X) → is_some o ≡ is_some (option_map f o)
same-some f None = refl
same-some f (Some x) = refl

token-leads : (e : GreenElement) (l : Leaf) (p : Path) → e ≡ Token l → (length p == 0) ≡ leads (element_tree e) p
token-leads e l p is = go p ∙ ap (λ u. leads (element_tree u) p) (sym is)
  where
    go : (q : Path) → (length q == 0) ≡ leads (element_tree (Token l)) q
    go [] = refl
    go (i ∷ q) = ne_eqb (suc (length q)) 0 (λ e. absurd (omega (arith, e)))

abbrev no_mark : Sought
no_mark = record { number = 0; path = record { ref_ptr = (0, 0); now = [] } }

-- one mark more is kept, or is not
kept-more : (t : SyntaxTree) (depth : ℕ) (path : Path) (all : List Sought) (k : ℕ) (b : Bool) (found more whole : List Marking) → k < length all → b ≡ leads t (drop depth (get_or all k no_mark).path.now) → more ≡ found ++ cond b (mark_below path (mark_seen depth (get_or all k no_mark)) ∷ []) [] → found ++ map (mark_below path) (kept_in t (marks_seen depth (drop k all))) ≡ whole → more ++ map (mark_below path) (kept_in t (marks_seen depth (drop (k + 1) all))) ≡ whole
kept-more t depth path all k b found more whole l is push so_far =
    let m : Marking = mark_seen depth (get_or all k no_mark) in
    let rest : List Marking = kept_in t (marks_seen depth (drop (k + 1) all)) in
    ap (λ ms. ms ++ map (mark_below path) rest) push ∙ append_assoc found (cond b (mark_below path m ∷ []) []) (map (mark_below path) rest) ∙ ap (λ ms. found ++ ms) (step m rest b ∙ ap (λ c. map (mark_below path) (cond c (m ∷ rest) rest)) is) ∙ sym (at_drop_more (λ xs. found ++ map (mark_below path) (kept_in t (marks_seen depth xs))) all k no_mark l) ∙ so_far
  where
    step : (m : Marking) (rest : List Marking) (c : Bool) → cond c (mark_below path m ∷ []) [] ++ map (mark_below path) rest ≡ map (mark_below path) (cond c (m ∷ rest) rest)
    step m rest true = refl
    step m rest false = refl

pub loop-mark-preserved : goal.loop-mark-preserved
loop-mark-preserved c =
    let element = c.args.element.now in
    let t = element_tree element in
    let k = c.loop-mark.mark-index in
    let below = c.path_from-below.result.now in
    let before = marks_of c.loop-mark.found.items in
    let told : c.match-element.leads ≡ leads t below = elim c.match-element.branch [
      | in-Node w ↦ w.leads-is ∙ w.is_some-leads.ensures ∙ same-some ref_tree w.get.result ∙ ap is_some w.get.ensures ∙ ap (λ e. leads (element_tree e) below) (sym w.in-Node.is)
      | in-Token w ↦ w.leads-is ∙ w.is_empty-leads.ensures ∙ token-leads element _ below w.in-Token.is
    ] in
    let seen = told ∙ ap (leads t) c.path_from-below.ensures in
    let kept = kept-more t c.args.depth c.args.path.now c.args.sought.now k in
    elim c.if-leads.branch [
      | then-leads+in_ok-push_mark w ↦ kept true before _ _ c.loop-mark-test.true (sym w.if-leads.true ∙ seen) (ap (λ v. marks_of v.items) w.found-is ∙ w.in_ok-push_mark.ensures ∙ ap (λ q. before ++ ((get_or c.args.sought.now k no_mark).number, c.args.path.now ++ q) ∷ []) c.path_from-below.ensures) c.loop-mark.invariant
      | else-leads w ↦ kept false before _ _ c.loop-mark-test.true (sym w.if-leads.false ∙ seen) (ap (λ v. marks_of v.items) w.found-is ∙ sym (append-nil before)) c.loop-mark.invariant
    ]

pub loop-mark-init : goal.loop-mark-init
loop-mark-init c = refl

pub returns : goal.returns
returns c =
    let found = marks_of c.loop-mark.found.items in
    let t = element_tree c.args.element.now in
    sym (append-nil found)
    ∙ sym (at_drop_all (λ xs. found ++ map (mark_below c.args.path.now) (kept_in t (marks_seen c.args.depth xs))) c.args.sought.now c.loop-mark.mark-index c.loop-mark-test.false)
    ∙ c.loop-mark.invariant
