use Rattle.std.proofs.Common.{◌≡◌, ◌-◌, length, false, nat_lt, sym, ◌∙◌, arith, rules}
use Rattle.std.proofs.lemmas.Bool.{ltb-true, lt-ltb, false≢true}
use Rattle.edit_change.proofs.Paths.{same-from-ne, differ-from-ne}
use Rattle.edit_change.proofs.Surrounding.{none-above, slots-decide}
use Rattle.edit_change.proofs.aimed.Aimed.replaces.Goals as goal

pub returns-in_default-split_last-2 : goal.returns-in_default-split_last-2
returns-in_default-split_last-2 c =
    let none : length c.args.path.now ≡ 0 = search (arith, rules) in
    rw c.in-Over.is (none-above c.args.self.now.path.now c.args.path.now c.in-Over.count c.in-Some.siblings.now c.in-Some.first.now c.in-Some.ensures.cases.0 none)

pub returns-then-ne : goal.returns-then-ne
returns-then-ne c =
    let f = c.in-Some.first.now in
    let s = c.in-Some-split_last.slot.now in
    rw c.in-Over.is (slots-decide c.args.self.now.path.now c.args.path.now c.in-Over.count c.in-Some.siblings.now f c.in-Some.ensures.cases.0 c.in-Some-split_last.parent.now s false c.in-Some-split_last.ensures.cases.0 (λ h. absurd (false≢true h)) (λ same l m. absurd (differ-from-ne c.in-Some-split_last.parent.now c.in-Some.siblings.now (sym c.ne.ensures ∙ c.if-ne.true) same)))

pub returns-then-slot-first : goal.returns-then-slot-first
returns-then-slot-first c =
    let f = c.in-Some.first.now in
    let s = c.in-Some-split_last.slot.now in
    rw c.in-Over.is (slots-decide c.args.self.now.path.now c.args.path.now c.in-Over.count c.in-Some.siblings.now f c.in-Some.ensures.cases.0 c.in-Some-split_last.parent.now s false c.in-Some-split_last.ensures.cases.0 (λ h. absurd (false≢true h)) (λ same l m. absurd (omega (arith, l, c.if-slot-first.true))))

pub returns : goal.returns
returns c =
    let f = c.in-Some.first.now in
    let s = c.in-Some-split_last.slot.now in
    let n = c.in-Over.count in
    rw c.in-Over.is (slots-decide c.args.self.now.path.now c.args.path.now n c.in-Some.siblings.now f c.in-Some.ensures.cases.0 c.in-Some-split_last.parent.now s (nat_lt (s - f) n) c.in-Some-split_last.ensures.cases.0 (λ h.
    let less = ltb-true (s - f) n h in
    let same = same-from-ne c.in-Some-split_last.parent.now c.in-Some.siblings.now (sym c.ne.ensures ∙ c.if-ne.false) in
    (same, omega (arith, c.if-slot-first.false), omega (arith, less, c.if-slot-first.false))) (λ same l m. lt-ltb (s - f) n (omega (arith, l, m))))
