-- A writer over memory: what a call takes of a piece, and when it fails.
use Rattle.std.specs.Prelude.{ℕ, ◌+◌, ◌-◌, ◌^◌, ◌==◌, ◌&&◌, ◌||◌, Bool, not, min, is_some, unwrap_or, List, [], ◌++◌, length, take, if◌then◌else◌, Option, Some, None, Result, Ok, Err}
use Rattle.report.specs.declared.failing.Failing.{Failing}
use Rattle.report.specs.declared.out.OutFault.{OutFault}

-- what a tape has taken, its settings, and how many calls there were and how many of them failed
pub record Taping : Type 0 where
  pub taken : List ℕ
  pub room : ℕ
  pub most : ℕ
  pub failing : Option Failing
  pub calls : ℕ
  pub faults : ℕ

-- a tape before its first call
abbrev pub blank : ℕ → ℕ → Option Failing → Taping
blank room most failing = record { taken = []; room = room; most = most; failing = failing; calls = 0; faults = 0 }

-- how many bytes the call of this number is to take before it fails, where it is to fail
abbrev pub taking_at : Option Failing → ℕ → Option ℕ
taking_at None call = None
taking_at (Some failing) call = if failing.call == call then Some failing.taking else None

-- the number of the next call, counted from 1: it stays at the greatest u64
abbrev pub next_call : Taping → ℕ
next_call t = min (t.calls + 1) (2 ^ 64 - 1)

-- how many bytes the next call is to take before it fails, where it is to fail
abbrev pub next_taking : Taping → Option ℕ
next_taking t = taking_at t.failing (next_call t)

-- how many bytes of the piece there is room for
abbrev pub share : Taping → List ℕ → ℕ
share t piece = min (min (length piece) t.most) (t.room - length t.taken)

-- the next call fails
abbrev pub fails : Taping → List ℕ → Bool
fails t piece = is_some (next_taking t) || (share t piece == 0) && not (length piece == 0)

-- how many bytes of the piece the next call takes
abbrev pub takes : Taping → List ℕ → ℕ
takes t piece = min (share t piece) (unwrap_or (next_taking t) (share t piece))

-- what the next call answers
abbrev pub answer : Taping → List ℕ → Result ℕ OutFault
answer t piece = if fails t piece then Err (record {}) else Ok (takes t piece)

-- the tape after it
abbrev pub after_write : Taping → List ℕ → Taping
after_write t piece = record t {
  calls = next_call t;
  taken = t.taken ++ take (takes t piece) piece;
  faults = if fails t piece then t.faults + 1 else t.faults;
}
