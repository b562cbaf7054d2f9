use Rattle.std.proofs.Common.{◌≡◌, refl, rules, subst, true, false}
use Rattle.std.proofs.KnownBytes.{Keeps-refl}
use Rattle.olap.proofs.TalksLemmas.{always_on_err, IsAnswered, answered_none, breaks_talking, cuts_talking, ends_talking, goes_on_talking, stops_talking}
use Rattle.olap.specs.Hearing.{HearsNext}
use Rattle.olap.proofs.talk.talk.Goals as goal

pub loop-init : goal.loop-init
loop-init g c = record { same = refl; is_open = search rules; sound = c.requires.sound; answered = subst (IsAnswered _ _ _ _ _ _ _) (search rules) (answered_none _ _ _ _ _) }

pub returns-in_default-clause-beginning : goal.returns-in_default-clause-beginning
returns-in_default-clause-beginning g c = breaks_talking _ _ _ _ _ _ _ _ _ _ c.loop.invariant c.flush.ensures.kept

pub returns-in_err-is_line-clause-beginning : goal.returns-in_err-is_line-clause-beginning
returns-in_err-is_line-clause-beginning g c = always_on_err _ (breaks_talking _ _ _ _ _ _ _ _ _ _ c.loop.invariant c.flush.ensures.kept)

pub returns-then-not-is_line-clause-finished : goal.returns-then-not-is_line-clause-finished
returns-then-not-is_line-clause-finished g c =
    let none : c.in_ok-is_line.is_line ≡ false = search rules in
    let hears = subst (λ b. HearsNext (g.B.Read.remaining c.loop.hearing.reader) b c.next_line.new.self.line.items (g.B.Read.remaining c.next_line.new.self.reader)) none c.in_ok-is_line.ensures in
    ends_talking _ _ _ _ _ _ _ _ _ _ (g.B.Read.remaining c.next_line.new.self.reader) c.next_line.new.self.line.items c.loop.invariant c.flush.ensures.kept hears

pub returns-in_err-heard-clause-beginning : goal.returns-in_err-heard-clause-beginning
returns-in_err-heard-clause-beginning g c =
    let some : c.in_ok-is_line.is_line ≡ true = search rules in
    let hears = subst (λ b. HearsNext (g.B.Read.remaining c.loop.hearing.reader) b c.next_line.new.self.line.items (g.B.Read.remaining c.next_line.new.self.reader)) some c.in_ok-is_line.ensures in
    let ends = c.in_err-heard.ensures.replies c.loop.invariant.is_open in
    always_on_err _ (cuts_talking _ _ _ _ _ _ _ _ _ _ (g.B.Read.remaining c.next_line.new.self.reader) _ _ c.next_line.new.self.line.items c.loop.invariant c.flush.ensures.kept hears c.line.ensures ends.delivered.beginning)

pub returns-then-stops_after-clause-finished : goal.returns-then-stops_after-clause-finished
returns-then-stops_after-clause-finished g c =
    let some : c.in_ok-is_line.is_line ≡ true = search rules in
    let hears = subst (λ b. HearsNext (g.B.Read.remaining c.loop.hearing.reader) b c.next_line.new.self.line.items (g.B.Read.remaining c.next_line.new.self.reader)) some c.in_ok-is_line.ensures in
    let ends = c.in_ok-heard.ensures.replies c.loop.invariant.is_open in
    stops_talking _ _ _ _ _ _ _ _ _ _ (g.B.Read.remaining c.next_line.new.self.reader) _ _ c.next_line.new.self.line.items c.loop.invariant c.flush.ensures.kept hears c.line.ensures _ ends.delivered.output c.in_ok-heard.ensures.tells
    c.stops_after.result c.stops_after.ensures c.if-stops_after.true

pub loop-preserved : goal.loop-preserved
loop-preserved g c =
    let some : c.in_ok-is_line.is_line ≡ true = search rules in
    let hears = subst (λ b. HearsNext (g.B.Read.remaining c.loop.hearing.reader) b c.next_line.new.self.line.items (g.B.Read.remaining c.next_line.new.self.reader)) some c.in_ok-is_line.ensures in
    let ends = c.in_ok-heard.ensures.replies c.loop.invariant.is_open in
    goes_on_talking _ _ _ _ _ _ _ _ _ _ (g.B.Read.remaining c.next_line.new.self.reader) _ _ c.next_line.new.self.line.items c.loop.invariant c.flush.ensures.kept hears c.line.ensures _ ends.delivered.output c.in_ok-heard.ensures.tells
    _ _ _ c.stops_after.result c.stops_after.ensures c.if-stops_after.false c.in_ok-heard.ensures.goes_on.1 c.flush.ensures.faults ends.delivered.sound

pub returns-clause-beginning : goal.returns-clause-beginning
returns-clause-beginning g c = breaks_talking _ _ _ _ _ _ _ _ _ _ c.loop.invariant (Keeps-refl _)
