use Rattle.std.proofs.Common.{◌≡◌, ◌≤◌, ℕ, List, Option, length}
use Rattle.report.proofs.WritingLemmas.{Written}
use Rattle.report.proofs.out.write_whole.Given as goal

-- the bytes are taken up to the rest, and nothing has failed; no bytes have made no call
pub record Reached (old new : Option (List ℕ)) (bytes rest : List ℕ) (faults_old faults_new : ℕ) (idle : Type 0) : Type 0 where
  pub written : Written old new bytes rest
  pub sound : faults_new ≡ faults_old
  pub shorter : length rest ≤ length bytes
  pub nothing : length bytes ≡ 0 → idle

abbrev pub invariant-loop-rest : goal.invariant-loop-rest
invariant-loop-rest g l =
    Reached (g.O.Out.taken l.fn.out) (g.O.Out.taken l.out) l.bytes l.rest (g.O.Out.faults l.fn.out) (g.O.Out.faults l.out)
    (l.out ≡ l.fn.out)

abbrev pub decreases-loop-rest : goal.decreases-loop-rest
decreases-loop-rest g l = length l.rest
