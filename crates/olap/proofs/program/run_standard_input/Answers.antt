use Rattle.std.proofs.Common.{inl, inr, rules}
use Rattle.olap.proofs.program.run_standard_input.Goals as goal

-- a run that goes on is never stopped
pub returns : goal.returns
returns g c = record {
  known = elim c.run_input.ensures.status [
    | inl whole ↦ inl whole
    | inr (inl stopped) ↦ let wrote = c.run_input.ensures.stopped stopped in absurd wrote.is_whole
    | inr (inr early) ↦ inr (inr early)
  ];
  written = λ ok. let taken = c.run_input.ensures.written ok in search rules;
  flushed = search rules;
  nothing = search rules;
  beginning = search rules;
}
