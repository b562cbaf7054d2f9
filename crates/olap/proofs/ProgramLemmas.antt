-- What the program wrote, from what its parts say.
use Rattle.std.proofs.Common.{ℕ, List, [], Option, arith, refl, sym}
use Rattle.std.specs.Prelude.{◌≡◌, IfOk, IsErr, Result, Ok, Err, OnErr, OnOk}
use Rattle.std.proofs.lemmas.List.{append-nil}
use Rattle.std.specs.Io.KnownBytes.{Appends, Keeps}
use Rattle.std.proofs.KnownBytes.{Appends-kept}
use Rattle.clap.specs.Words.{Text}
use Rattle.script.specs.Endings.{BeginsToWrite, Writes}
use Rattle.script.specs.Givens.{givens_in}
use Rattle.script.specs.Hows.{hash_of_choice}
use Rattle.script.specs.Manners.{in_form}
use Rattle.script.specs.Viewers.{IsRunBy}
use Rattle.script.specs.declared.finish.Finish.{Finish}
use Rattle.command.specs.Jobs.{Ask}
use Rattle.olap.specs.Programs.{AskToWrite, IsInputOf, IsOutputOfJob}
use Rattle.olap.specs.declared.input.Input.{Input}
use Rattle.report.specs.Taken.{TakesBeginning}
use Rattle.command.specs.declared.job.Job.{Job}

-- all of it is a beginning
takes_all : (a b : Option (List ℕ)) (whole : List ℕ) → Appends a b whole → TakesBeginning a b whole
takes_all a b whole p = record { rest = []; up_to = record { front = whole; whole_is = sym (append-nil whole); taken = p } }

-- a beginning stays where the writer keeps what it has
takes_kept : (a b c : Option (List ℕ)) (whole : List ℕ) → TakesBeginning a b whole → Keeps b c → TakesBeginning a c whole
takes_kept a b c whole t k = record {
  rest = t.rest;
  up_to = record { front = t.up_to.front; whole_is = t.up_to.whole_is; taken = Appends-kept a b c t.up_to.front t.up_to.taken k };
}

-- a run and then its close leave a beginning
pub begins_closed : {T E : Type 0} (IsWhole : List ℕ → Type 0) (a b c : Option (List ℕ)) (ended : Result T E) → OnOk ended (Writes IsWhole a b) →
    OnErr ended (BeginsToWrite IsWhole a b) → Keeps b c → BeginsToWrite IsWhole a c
begins_closed IsWhole a b c (Ok x) all part k = record { whole = all.whole; is_whole = all.is_whole; beginning = takes_kept a b c all.whole (takes_all a b all.whole all.taken) k }
begins_closed IsWhole a b c (Err e) all part k = record { whole = part.whole; is_whole = part.is_whole; beginning = takes_kept a b c part.whole part.beginning k }

-- what a run wrote where it was finished so
pub wrote_finished : {E : Type 0} (Is : Finish → List ℕ → Type 0) (a b c : Option (List ℕ)) (ended : Result Finish E) (finish : Finish) → IfOk ended (λ f. Writes (Is f) a b) → ended ≡ Ok finish → Keeps b c → Writes (Is finish) a c
wrote_finished Is a b c (Ok f) finish wrote is k =
    let same : f ≡ finish = cc in
    let w = rw same at wrote in
    record { whole = w.whole; is_whole = w.is_whole; taken = Appends-kept a b c w.whole w.taken k }
wrote_finished Is a b c (Err e) finish wrote is k = absurd cc

-- what was written whole, and then closed
pub wrote_closed : {T E : Type 0} (IsWhole : List ℕ → Type 0) (a b c : Option (List ℕ)) (ended : Result T E) (status : ℕ) (whole : List ℕ) → IsWhole whole →
    OnOk ended (Appends a b whole) → (IsErr ended → status ≡ 3) → status ≡ 0 → Keeps b c → Writes IsWhole a c
wrote_closed IsWhole a b c (Ok x) status whole is taken early done k = record { whole = whole; is_whole = is; taken = Appends-kept a b c whole taken k }
wrote_closed IsWhole a b c (Err e) status whole is taken early done k = absurd (omega (arith, early refl, done))

-- the output of a job, from what was read
pub output_of_job : (file : List ℕ → Option (List ℕ)) (job : Job) (input : Input) → IsInputOf file job input → (finish : Finish) (whole : List ℕ) →
    IsRunBy job.on_refusal (hash_of_choice job.hash) (givens_in (in_form job.form) job.how.rows input.parts.items) job.live input.script.items finish whole → IsOutputOfJob file job finish whole
output_of_job file job input is_input finish whole is = record { input = input; is_input = is_input; is_output = is }

-- the output that the words ask for, from that of their job
pub asked : (file : List ℕ → Option (List ℕ)) (words : List Text) (job : Job) → Ask words job → (finish : Finish) (whole : List ℕ) → IsOutputOfJob file job finish whole → AskToWrite file words finish whole
asked file words job a finish whole of = record { job = job; asked = a; output = of }
