use Rattle.std.proofs.Common.{◌≡◌, drop, inl, inr, map, refl, rules, string_bytes}
use Rattle.olap.specs.Commands.{command_of, joins, tells}
use Rattle.olap.proofs.CommandsLemmas.{by_nothing}
use Rattle.olap.proofs.asked.answer.Goals as goal

pub returns-in_default-clause-does : goal.returns-in_default-clause-does
returns-in_default-clause-does g c = rw (by_nothing c.args.words.now c.in_default.ensures.cases) c.run_standard_input.ensures

pub returns-in-Shard-clause-does : goal.returns-in-Shard-clause-does
returns-in-Shard-clause-does g c =
    let command : command_of (map string_bytes c.args.words.now) ≡ tells = search rules in
    let own : drop 1 (map string_bytes c.args.words.now) ≡ map string_bytes c.in-Shard.words.now = search rules in
    rw (command, own) record {
      known = c.run_shard.ensures.status;
      told = c.run_shard.ensures.told;
      nothing = c.run_shard.ensures.nothing;
      spared = c.run_shard.ensures.spared;
      silent = elim c.run_shard.ensures.untouched [
        | inl help ↦ inl help
        | inr same ↦ inr (rw same refl)
      ];
      flushed = λ zero empty. elim (c.run_shard.ensures.flushed zero) [
        | inl same ↦ rw same empty
        | inr flushed ↦ flushed
      ];
    }

pub returns-in-Join-clause-does : goal.returns-in-Join-clause-does
returns-in-Join-clause-does g c =
    let command : command_of (map string_bytes c.args.words.now) ≡ joins = search rules in
    let own : drop 1 (map string_bytes c.args.words.now) ≡ map string_bytes c.in-Join.words.now = search rules in
    rw (command, own) record {
      known = c.join_files.ensures.status;
      left = c.join_files.ensures.left;
      flushed = c.join_files.ensures.flushed;
      unwritten = c.join_files.ensures.unwritten;
      spared = c.join_files.ensures.spared;
      nothing = c.join_files.ensures.nothing;
    }
