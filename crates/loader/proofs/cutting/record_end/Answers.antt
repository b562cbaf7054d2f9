use Rattle.std.proofs.Common.{◌<◌, ◌≤◌, ◌∙◌, arith, length, rules, sym}
use Rattle.loader.specs.Cuts.{IsCut}
use Rattle.loader.specs.States.{machine_state}
use Rattle.loader.proofs.EndsLemmas.{no_cut, none_yet, state_more}
use Rattle.loader.proofs.cutting.record_end.Goals as goal
use Rattle.loader.proofs.cutting.record_end.Goals.{then-at-size+else-may_cut, else-at-size}

pub loop-at-init : goal.loop-at-init
loop-at-init c = record {
  front = omega arith;
  state = c.state_behind_mark-state.ensures;
  none = λ place above below cut. absurd (omega (arith, c.requires.size, above, below));
}

pub loop-at-preserved : goal.loop-at-preserved
loop-at-preserved c =
    let held = c.loop-at.invariant in
    let bytes = c.args.bytes.now in
    let at = c.loop-at.at in
    let within : at < length bytes = search rules in
    let here : c.args.size ≤ at → IsCut bytes at → ⊥ =
    elim c.if-at-size.branch [
      | then-at-size+else-may_cut w ↦ λ above cut. no_cut bytes at (machine_state c.loop-at.state) within held.state (sym w.may_cut.ensures ∙ w.if-may_cut.false) cut
      | else-at-size w ↦ λ above cut. absurd (omega (arith, above, w.if-at-size.false))
    ] in
    record {
      front = omega (arith, held.front);
      state = c.after-state.ensures ∙ state_more bytes at (machine_state c.loop-at.state) held.front within held.state;
      none = none_yet (IsCut bytes) c.args.size at held.none here;
    }
