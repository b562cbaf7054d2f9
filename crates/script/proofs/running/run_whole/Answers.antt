use Rattle.std.proofs.Common.{inl, inr, rules}
use Rattle.script.specs.Viewers.{asked_of}
use Rattle.script.proofs.RunsLemmas.{ends_too_much, ends_within}
use Rattle.script.proofs.running.run_whole.Goals as goal
use Rattle.script.proofs.running.run_whole.Goals.{then-script-gt-MAX_SCRIPT_BYTES-via-then-script-gt-MAX_SCRIPT_BYTES, then-script-gt-MAX_SCRIPT_BYTES-via-else-script-gt-MAX_SCRIPT_BYTES+then-setup-gt-MAX_PARTS}

pub returns-then-script-gt-MAX_SCRIPT_BYTES : goal.returns-then-script-gt-MAX_SCRIPT_BYTES
returns-then-script-gt-MAX_SCRIPT_BYTES g c =
    ends_too_much g.H.KeyHash-1.hash_of c.args.manner.now c.args.setup.now.how.now.rows c.args.setup.now.parts.now c.args.script.now (asked_of c.args.setup.now.viewing) g.O.Out.taken g.O.Out.faults c.args.out.now c.refuse_whole.new.out c.refuse_whole.result c.args.setup.now.on_refusal
    (elim c.then-script-gt-MAX_SCRIPT_BYTES.branch [
      | then-script-gt-MAX_SCRIPT_BYTES-via-then-script-gt-MAX_SCRIPT_BYTES long ↦ inl (search rules)
      | then-script-gt-MAX_SCRIPT_BYTES-via-else-script-gt-MAX_SCRIPT_BYTES+then-setup-gt-MAX_PARTS many ↦ inr (search rules)
    ])
    c.refuse_whole.ensures.ends c.refuse_whole.ensures.finish

pub returns : goal.returns
returns g c =
    ends_within g.H.KeyHash-1.hash_of c.args.manner.now c.args.setup.now.how.now.rows c.args.setup.now.parts.now c.args.script.now (asked_of c.args.setup.now.viewing) g.O.Out.taken g.O.Out.faults c.args.out.now c.run_lines.new.out c.run_lines.result c.args.setup.now.on_refusal
    (search rules) (search rules) c.run_lines.ensures
