use Rattle.std.proofs.Common.{inl, inr, rules}
use Rattle.std.proofs.lemmas.Result.{IfOk-weaker}
use Rattle.script.proofs.HereLemmas.{too_much_here, within_here}
use Rattle.script.proofs.here.output_of.Goals as goal
use Rattle.script.proofs.here.output_of.Goals.{then-script-gt-MAX_SCRIPT_BYTES-via-then-script-gt-MAX_SCRIPT_BYTES, then-script-gt-MAX_SCRIPT_BYTES-via-else-script-gt-MAX_SCRIPT_BYTES+then-parts-gt-MAX_PARTS}

pub returns-then-script-gt-MAX_SCRIPT_BYTES : goal.returns-then-script-gt-MAX_SCRIPT_BYTES
returns-then-script-gt-MAX_SCRIPT_BYTES g c =
    IfOk-weaker c.refuse.result _ _
    (λ text is. too_much_here g.H.KeyHash-1.hash_of c.args.manner.now c.args.how.now.rows c.args.parts.now c.args.script.now text.items
    (elim c.then-script-gt-MAX_SCRIPT_BYTES.branch [
      | then-script-gt-MAX_SCRIPT_BYTES-via-then-script-gt-MAX_SCRIPT_BYTES long ↦ inl (search rules)
      | then-script-gt-MAX_SCRIPT_BYTES-via-else-script-gt-MAX_SCRIPT_BYTES+then-parts-gt-MAX_PARTS many ↦ inr (search rules)
    ]) is)
    c.refuse.ensures.block

pub returns : goal.returns
returns g c =
    IfOk-weaker c.blocks_here.result _ _
    (λ text are. within_here g.H.KeyHash-1.hash_of c.args.manner.now c.args.how.now.rows c.args.parts.now c.args.script.now text.items (search rules) (search rules) are)
    c.blocks_here.ensures
