use Rattle.std.proofs.Common.{[], rules}
use Rattle.std.specs.Io.KnownBytes.{Appends}
use Rattle.report.proofs.WaitingLemmas.{always_on_err, begins_heading, begins_heads, writes_heads}
use Rattle.report.specs.Laws.{takes_nothing}
use Rattle.report.specs.Taken.{TakesBeginning}
use Rattle.report.proofs.answering.Answering.write.Goals as goal

pub returns-in_err-answer-clause-whole : goal.returns-in_err-answer-clause-whole
returns-in_err-answer-clause-whole g c = record {
  written = search rules;
  beginning = λ text heads. always_on_err _ (takes_nothing _ _);
  sound = search rules;
  fault = search rules;
}

pub returns-in_default-clause-whole : goal.returns-in_default-clause-whole
returns-in_default-clause-whole g c =
    let early : TakesBeginning (g.O.Out.taken c.args.out.now) (g.O.Out.taken c.write_whole.new.out) c.args.heading.now = search rules in
    record {
      written = search rules;
      beginning = λ text heads. begins_heading _ _ (g.O.Out.taken c.write_whole.new.out) c.args.heading.now [] _ _ text heads early;
      sound = search rules;
      fault = search rules;
    }

pub returns-in_default-write_whole-clause-whole : goal.returns-in_default-write_whole-clause-whole
returns-in_default-write_whole-clause-whole g c =
    let first : Appends (g.O.Out.taken c.args.out.now) (g.O.Out.taken c.write_whole.new.out) c.args.heading.now = search rules in
    let early : TakesBeginning (g.O.Out.taken c.write_whole.new.out) (g.O.Out.taken c.write_whole-2.new.out) c.in_ok-answer.answer.items = search rules in
    record {
      written = search rules;
      beginning = λ text heads. begins_heads _ _ _ _ _ _ _ text heads c.in_ok-answer.ensures first early;
      sound = search rules;
      fault = search rules;
    }

pub returns-clause-whole : goal.returns-clause-whole
returns-clause-whole g c =
    let first : Appends (g.O.Out.taken c.args.out.now) (g.O.Out.taken c.write_whole.new.out) c.args.heading.now = search rules in
    let second : Appends (g.O.Out.taken c.write_whole.new.out) (g.O.Out.taken c.write_whole-2.new.out) c.in_ok-answer.answer.items = search rules in
    record {
      written = λ text heads. writes_heads _ _ _ _ _ _ _ text heads c.in_ok-answer.ensures first second;
      beginning = search rules;
      sound = search rules;
      fault = search rules;
    }
