use Rattle.std.proofs.Common.{◌≡◌, ◌++◌, drop}
use Rattle.std.specs.Prelude.{codes, string_bytes}
use Rattle.query.specs.Headings.{call, listed}
use Rattle.query.proofs.HeadingsLemmas.{names_behind}
use Rattle.query.proofs.headings.grouping_call.Given as goal
use denote.Shadow.{shadow}
use denote.Text.{Utf8}

abbrev pub invariant-loop-name : goal.invariant-loop-name
invariant-loop-name l = record {
  text : shadow (Utf8 l.between);
  written : string_bytes l.text ++ names_behind l.between (drop l.name-index l.names) ++ codes ")" ≡ call (codes "GROUPING") (listed l.names);
}
