use Rattle.std.proofs.Common.{◌≡◌, ◌∙◌, ◌∷◌, Err, ap, arith, refl, sym}
use Rattle.std.specs.Str.Lines.{lines}
use Rattle.std.proofs.lemmas.Result.{err_from_is_err_and}
use Rattle.script.specs.Givens.{givens_of}
use Rattle.script.specs.Limits.{script_limit}
use Rattle.script.specs.Stops.{stops}
use Rattle.script.specs.Viewers.{asked_of, turns_of}
use Rattle.script.proofs.EndingsLemmas.{ends_for, ends_unstarted, ends_unwritten, match_err}
use Rattle.script.proofs.ProgressLemmas.{asked_for_workers, asks_at, gone_through, last_first, last_first-more, length-lines, narrow_left, narrow_lines, publishable, reached_beginning, reached_more, reached_shown, reached_so_far, reached_start, shown_beginning, stopped, told}
use Rattle.script.proofs.TailsLemmas.{attended_turns, desk_grows, first_attended, may_attend}
use Rattle.script.proofs.RunsLemmas.{has_want, may_want}
use Rattle.script.proofs.running.go_over.Goals as goal

pub loop-bytes-init : goal.loop-bytes-init
loop-bytes-init g c =
    let all : c.into_iter-bytes-iterator.result ≡ lines c.args.script.now = c.into_iter-bytes-iterator.ensures.into_iter_gives ∙ c.lines_of-bytes-items.ensures in
    record {
      reached = rw (all, c.requires.fresh.0, c.requires.fresh.1)
          (reached_start _ _ _ _ (asked_of c.args.setup.now.viewing) _ c.args.gallery.now.stage c.args.gallery.now.onlookers c.requires.nobody.0 (omega (arith, length-lines c.args.script.now, c.requires.short)) (narrow_lines c.args.script.now script_limit c.requires.short));
      attended = first_attended (asked_of c.args.setup.now.viewing) c.args.desk.now c.args.gallery.now.stage c.args.gallery.now.audience.watches c.args.gallery.now.onlookers c.requires.fresh.0 c.requires.nobody.0 c.requires.nobody.1 c.requires.nobody.2;
      sound = refl;
    }

pub execute-requires-clause-publishable : goal.execute-requires-clause-publishable
execute-requires-clause-publishable g c =
    λ κs outlives. publishable (givens_of c.args.setup.now) (last_first c.loop-bytes.yielded) c.loop-bytes.desk c.loop-bytes.invariant.reached.stands (omega (arith, c.loop-bytes.invariant.reached.short))

pub execute-requires-clause-short : goal.execute-requires-clause-short
execute-requires-clause-short g c = λ κs outlives. (narrow_left c.loop-bytes.invariant.reached c.in-Some.bytes.now c.next.new.self c.in-Some.ensures.steps).0

pub returns-in_err-block : goal.returns-in_err-block
returns-in_err-block g c =
    let p = err_from_is_err_and c.from_residual.result c.from_residual.ensures.1 in
    match_err _ _ c.from_residual.result p.0 p.1 (ends_for g.O.Out.taken g.O.Out.faults _ _ _ p.0 (Err p.0) refl
    (reached_so_far c.loop-bytes.invariant.reached c.each_text_has_an_answer.ensures (record { one_query = c.a_text_has_one_answer.ensures.one_query; one_fault = c.a_text_has_one_answer.ensures.one_fault; no_both = c.a_text_has_one_answer.ensures.no_both }))
    _ _ _ p.2
    (λ late. may_want (givens_of c.args.setup.now) (asked_of c.args.setup.now.viewing) (lines c.args.script.now) (asks_at c.loop-bytes.invariant.reached c.in-Some.bytes.now c.next.new.self c.in-Some.ensures.steps (c.in_err-block.ensures.worker (ap Err late)))))

pub attend-requires-clause-attend : goal.attend-requires-clause-attend
attend-requires-clause-attend g c = λ κs outlives.
    may_attend (asked_of c.args.setup.now.viewing) c.loop-bytes.desk c.execute.new.desk c.loop-bytes.gallery.stage c.loop-bytes.gallery.audience.watches c.loop-bytes.gallery.onlookers c.in_ok-block.ensures.step.stays
    (desk_grows (givens_of c.args.setup.now) (last_first c.loop-bytes.yielded) c.in-Some.bytes.now c.loop-bytes.desk c.execute.new.desk c.loop-bytes.invariant.reached.stands (c.in_ok-block.ensures.step.stands (last_first c.loop-bytes.yielded) c.loop-bytes.invariant.reached.stands))
    c.loop-bytes.invariant.attended

pub returns-in_err-given : goal.returns-in_err-given
returns-in_err-given g c =
    let p = err_from_is_err_and c.from_residual-in_err-given.result c.from_residual-in_err-given.ensures.1 in
    match_err _ _ c.from_residual-in_err-given.result p.0 p.1 (ends_unstarted g.O.Out.taken g.O.Out.faults _ _ _ p.0 (Err p.0) refl
    (reached_so_far c.loop-bytes.invariant.reached c.each_text_has_an_answer.ensures (record { one_query = c.a_text_has_one_answer.ensures.one_query; one_fault = c.a_text_has_one_answer.ensures.one_fault; no_both = c.a_text_has_one_answer.ensures.no_both }))
    _ _ _ p.2 (has_want (givens_of c.args.setup.now) (asked_of c.args.setup.now.viewing) (lines c.args.script.now) (rw c.in_err-given.ensures at c.attend.ensures.asked)) (rw c.in_err-given.ensures at c.attend.ensures.asked))

pub returns-in_err-add : goal.returns-in_err-add
returns-in_err-add g c =
    let step = rw (sym c.in_ok-given.ensures.1) at c.in_ok-block.ensures.step in
    let p = err_from_is_err_and c.from_residual-in_err-add.result c.from_residual-in_err-add.ensures.1 in
    let next = told c.loop-bytes.invariant.reached c.in-Some.bytes.now c.next.new.self c.execute.new.desk c.in_ok-given.given c.in-Some.ensures.steps step in
    match_err _ _ c.from_residual-in_err-add.result p.0 p.1 (ends_unwritten g.O.Out.taken g.O.Out.faults _ _ _ p.0 (Err p.0) refl
    (reached_beginning c.loop-bytes.invariant.reached c.in-Some.bytes.now c.next.new.self c.execute.new.desk c.in_ok-given.given c.in-Some.ensures.steps step c.each_text_has_an_answer.ensures (record { one_query = c.a_text_has_one_answer.ensures.one_query; one_fault = c.a_text_has_one_answer.ensures.one_fault; no_both = c.a_text_has_one_answer.ensures.no_both }) _ (c.in_err-add.ensures.goes_on.written _ (record { waiting = c.loop-bytes.invariant.reached.waiting; more = next.text; awaits = c.loop-bytes.invariant.reached.awaits; is_more = next.will; joined = refl })).beginning)
    _ _ _ p.2 (λ writer. let failed = c.in_err-add.ensures.goes_on.fault (ap Err writer) in omega (arith, failed, c.loop-bytes.invariant.sound))
    (λ late. may_want (givens_of c.args.setup.now) (asked_of c.args.setup.now.viewing) (lines c.args.script.now)
    (asked_for_workers c.loop-bytes.invariant.reached c.in-Some.bytes.now c.next.new.self c.execute.new.desk c.in_ok-given.given c.in-Some.ensures.steps step (c.in_err-add.ensures.worker (ap Err late)))))

pub returns-then-stops : goal.returns-then-stops
returns-then-stops g c =
    let step = rw (sym c.in_ok-given.ensures.1) at c.in_ok-block.ensures.step in
    let next = told c.loop-bytes.invariant.reached c.in-Some.bytes.now c.next.new.self c.execute.new.desk c.in_ok-given.given c.in-Some.ensures.steps step in
    let turned : turns_of (asked_of c.args.setup.now.viewing) c.attend.new.self.stage c.attend.new.self.onlookers ≡ turns_of (asked_of c.args.setup.now.viewing) c.loop-bytes.gallery.stage c.loop-bytes.gallery.onlookers = rw c.in_ok-given.ensures.0 at c.attend.ensures.turns in
    record {
      over = rw (c.attend.ensures.same, turned)
          (stopped c.loop-bytes.invariant.reached c.in-Some.bytes.now c.next.new.self c.execute.new.desk c.in_ok-given.given c.in-Some.ensures.steps step _ c.add.new.backlog _ (c.in_ok-add.ensures.goes_on.written _ (record { waiting = c.loop-bytes.invariant.reached.waiting; more = next.text; awaits = c.loop-bytes.invariant.reached.awaits; is_more = next.will; joined = refl })) c.in_ok-add.ensures.asked
          (ap (stops c.args.setup.now.on_refusal) (sym c.is_refused.ensures) ∙ sym c.stops-stops.ensures ∙ c.if-stops.true));
      attended = (rw c.in_ok-given.ensures.0 at c.attend.ensures.attended);
      sound = c.in_ok-add.ensures.goes_on.sound ∙ c.loop-bytes.invariant.sound;
    }

pub come-requires-clause-attended : goal.come-requires-clause-attended
come-requires-clause-attended g c = λ κs outlives. (rw c.in_ok-given.ensures.0 at c.attend.ensures.attended)

pub returns-in_err-came : goal.returns-in_err-came
returns-in_err-came g c =
    let step = rw (sym c.in_ok-given.ensures.1) at c.in_ok-block.ensures.step in
    let next = told c.loop-bytes.invariant.reached c.in-Some.bytes.now c.next.new.self c.execute.new.desk c.in_ok-given.given c.in-Some.ensures.steps step in
    let turned : turns_of (asked_of c.args.setup.now.viewing) c.attend.new.self.stage c.attend.new.self.onlookers ≡ turns_of (asked_of c.args.setup.now.viewing) c.loop-bytes.gallery.stage c.loop-bytes.gallery.onlookers = rw c.in_ok-given.ensures.0 at c.attend.ensures.turns in
    let goes = ap (stops c.args.setup.now.on_refusal) (sym c.is_refused.ensures) ∙ sym c.stops-stops.ensures ∙ c.if-stops.false in
    let line = reached_more c.loop-bytes.invariant.reached c.in-Some.bytes.now c.next.new.self c.execute.new.desk c.in_ok-given.given c.in-Some.ensures.steps step _ c.add.new.backlog _ (c.in_ok-add.ensures.goes_on.written _ (record { waiting = c.loop-bytes.invariant.reached.waiting; more = next.text; awaits = c.loop-bytes.invariant.reached.awaits; is_more = next.will; joined = refl })) c.in_ok-add.ensures.asked goes in
    let here = rw (← turned, ← c.attend.ensures.same) at line in
    let p = err_from_is_err_and c.from_residual-in_err-came.result c.from_residual-in_err-came.ensures.1 in
    match_err _ _ c.from_residual-in_err-came.result p.0 p.1 (ends_for g.O.Out.taken g.O.Out.faults _ _ _ p.0 (Err p.0) refl
    (reached_so_far here c.each_text_has_an_answer.ensures (record { one_query = c.a_text_has_one_answer.ensures.one_query; one_fault = c.a_text_has_one_answer.ensures.one_fault; no_both = c.a_text_has_one_answer.ensures.no_both }))
    _ _ _ p.2 (λ late. has_want (givens_of c.args.setup.now) (asked_of c.args.setup.now.viewing) (lines c.args.script.now) c.in_err-came.ensures.asked))

pub loop-bytes-preserved : goal.loop-bytes-preserved
loop-bytes-preserved g c =
    let step = rw (sym c.in_ok-given.ensures.1) at c.in_ok-block.ensures.step in
    let next = told c.loop-bytes.invariant.reached c.in-Some.bytes.now c.next.new.self c.execute.new.desk c.in_ok-given.given c.in-Some.ensures.steps step in
    let turned : turns_of (asked_of c.args.setup.now.viewing) c.attend.new.self.stage c.attend.new.self.onlookers ≡ turns_of (asked_of c.args.setup.now.viewing) c.loop-bytes.gallery.stage c.loop-bytes.gallery.onlookers = rw c.in_ok-given.ensures.0 at c.attend.ensures.turns in
    let goes = ap (stops c.args.setup.now.on_refusal) (sym c.is_refused.ensures) ∙ sym c.stops-stops.ensures ∙ c.if-stops.false in
    let line = reached_more c.loop-bytes.invariant.reached c.in-Some.bytes.now c.next.new.self c.execute.new.desk c.in_ok-given.given c.in-Some.ensures.steps step _ c.add.new.backlog _ (c.in_ok-add.ensures.goes_on.written _ (record { waiting = c.loop-bytes.invariant.reached.waiting; more = next.text; awaits = c.loop-bytes.invariant.reached.awaits; is_more = next.will; joined = refl })) c.in_ok-add.ensures.asked goes in
    let here = rw (← turned, ← c.attend.ensures.same) at line in
    record {
      reached = rw last_first-more here;
      attended = (rw c.in_ok-given.ensures.0 at c.attend.ensures.attended);
      sound = c.in_ok-add.ensures.goes_on.sound ∙ c.loop-bytes.invariant.sound;
    }

pub loop-bytes-preserved-then-has_come : goal.loop-bytes-preserved-then-has_come
loop-bytes-preserved-then-has_come g c =
    let step = rw (sym c.in_ok-given.ensures.1) at c.in_ok-block.ensures.step in
    let next = told c.loop-bytes.invariant.reached c.in-Some.bytes.now c.next.new.self c.execute.new.desk c.in_ok-given.given c.in-Some.ensures.steps step in
    let turned : turns_of (asked_of c.args.setup.now.viewing) c.attend.new.self.stage c.attend.new.self.onlookers ≡ turns_of (asked_of c.args.setup.now.viewing) c.loop-bytes.gallery.stage c.loop-bytes.gallery.onlookers = rw c.in_ok-given.ensures.0 at c.attend.ensures.turns in
    let goes = ap (stops c.args.setup.now.on_refusal) (sym c.is_refused.ensures) ∙ sym c.stops-stops.ensures ∙ c.if-stops.false in
    let line = reached_more c.loop-bytes.invariant.reached c.in-Some.bytes.now c.next.new.self c.execute.new.desk c.in_ok-given.given c.in-Some.ensures.steps step _ c.add.new.backlog _ (c.in_ok-add.ensures.goes_on.written _ (record { waiting = c.loop-bytes.invariant.reached.waiting; more = next.text; awaits = c.loop-bytes.invariant.reached.awaits; is_more = next.will; joined = refl })) c.in_ok-add.ensures.asked goes in
    let here = rw (← turned, ← c.attend.ensures.same) at line in
    let shown = c.in_ok-came.ensures.came (c.in-Some.bytes.now ∷ last_first c.loop-bytes.yielded) here.stands in
    let late = attended_turns (givens_of c.args.setup.now) (c.in-Some.bytes.now ∷ last_first c.loop-bytes.yielded) (asked_of c.args.setup.now.viewing) c.come.new.desk c.come.new.self.stage c.come.new.self.audience.watches c.come.new.self.onlookers c.in_ok-came.ensures.attended (rw c.in_ok-came.ensures.same here.stands) in
    record {
      reached = rw (last_first-more, c.in_ok-came.ensures.same)
          (reached_shown here _ _ shown late _ c.say.new.self _ (c.in_ok-say.ensures.goes_on.written _ (record { waiting = here.waiting; more = c.in_ok-came.came.items; awaits = here.awaits; is_more = c.as_slice.ensures.value; joined = refl })) c.in_ok-say.ensures.reports);
      attended = c.in_ok-came.ensures.attended;
      sound = c.in_ok-say.ensures.goes_on.sound ∙ c.in_ok-add.ensures.goes_on.sound ∙ c.loop-bytes.invariant.sound;
    }

pub returns-in_err-say : goal.returns-in_err-say
returns-in_err-say g c =
    let step = rw (sym c.in_ok-given.ensures.1) at c.in_ok-block.ensures.step in
    let next = told c.loop-bytes.invariant.reached c.in-Some.bytes.now c.next.new.self c.execute.new.desk c.in_ok-given.given c.in-Some.ensures.steps step in
    let turned : turns_of (asked_of c.args.setup.now.viewing) c.attend.new.self.stage c.attend.new.self.onlookers ≡ turns_of (asked_of c.args.setup.now.viewing) c.loop-bytes.gallery.stage c.loop-bytes.gallery.onlookers = rw c.in_ok-given.ensures.0 at c.attend.ensures.turns in
    let goes = ap (stops c.args.setup.now.on_refusal) (sym c.is_refused.ensures) ∙ sym c.stops-stops.ensures ∙ c.if-stops.false in
    let line = reached_more c.loop-bytes.invariant.reached c.in-Some.bytes.now c.next.new.self c.execute.new.desk c.in_ok-given.given c.in-Some.ensures.steps step _ c.add.new.backlog _ (c.in_ok-add.ensures.goes_on.written _ (record { waiting = c.loop-bytes.invariant.reached.waiting; more = next.text; awaits = c.loop-bytes.invariant.reached.awaits; is_more = next.will; joined = refl })) c.in_ok-add.ensures.asked goes in
    let here = rw (← turned, ← c.attend.ensures.same) at line in
    let shown = c.in_ok-came.ensures.came (c.in-Some.bytes.now ∷ last_first c.loop-bytes.yielded) here.stands in
    let late = attended_turns (givens_of c.args.setup.now) (c.in-Some.bytes.now ∷ last_first c.loop-bytes.yielded) (asked_of c.args.setup.now.viewing) c.come.new.desk c.come.new.self.stage c.come.new.self.audience.watches c.come.new.self.onlookers c.in_ok-came.ensures.attended (rw c.in_ok-came.ensures.same here.stands) in
    let p = err_from_is_err_and c.from_residual-in_err-say.result c.from_residual-in_err-say.ensures.1 in
    match_err _ _ c.from_residual-in_err-say.result p.0 p.1 (ends_unwritten g.O.Out.taken g.O.Out.faults _ _ _ p.0 (Err p.0) refl
    (shown_beginning here _ _ shown late c.each_text_has_an_answer.ensures (record { one_query = c.a_text_has_one_answer.ensures.one_query; one_fault = c.a_text_has_one_answer.ensures.one_fault; no_both = c.a_text_has_one_answer.ensures.no_both }) _ (c.in_err-say.ensures.goes_on.written _ (record { waiting = here.waiting; more = c.in_ok-came.came.items; awaits = here.awaits; is_more = c.as_slice.ensures.value; joined = refl })).beginning)
    _ _ _ p.2 (λ writer. let failed = c.in_err-say.ensures.goes_on.fault (ap Err writer) in omega (arith, failed, c.in_ok-add.ensures.goes_on.sound, c.loop-bytes.invariant.sound))
    (λ worker. absurd (c.in_err-say.ensures.worker (ap Err worker))))

pub returns : goal.returns
returns g c = record {
  over = gone_through c.loop-bytes.invariant.reached c.in-None.ensures.steps.0;
  attended = c.loop-bytes.invariant.attended;
  sound = c.loop-bytes.invariant.sound;
}
