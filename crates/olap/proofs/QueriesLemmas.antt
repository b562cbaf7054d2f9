-- What `query` leaves with the writer, from what its parts say.
use Rattle.std.proofs.Common.{◌≡◌, ℕ, List, [], None, Some, arith, inl, inr, refl}
use Rattle.std.specs.Prelude.{◌⊎◌, Option}
use Rattle.std.specs.Io.KnownBytes.{Keeps}
use Rattle.clap.specs.Words.{Text}
use Rattle.script.specs.Endings.{BeginsToWrite, Writes}
use Rattle.script.specs.Stops.{HoweverFinished}
use Rattle.script.specs.declared.finish.Finish.{Finish}
use Rattle.script.specs.declared.finish.Finish.TheVariants.{Stopped}
use Rattle.olap.specs.Folders.{AreTold}
use Rattle.questions.specs.Asking.{IsQuestion, IsWanted}
use Rattle.questions.specs.Options.{items}
use Rattle.olap.specs.Queries.{AskToAnswer, IsAnswer, IsAnswerOfNamed, IsAsked, IsStrictOutput, Leaves}
use Rattle.olap.specs.declared.input.Input.{Input}
use Rattle.questions.specs.declared.question.Question.{Question}
use Rattle.questions.specs.declared.question.Wanted.{Wanted}
use Rattle.olap.proofs.EndingsLemmas.{begins_as, however_as, writes_as}

-- ---- the writer

module _ (old new : Option (List ℕ)) (waiting : List ℕ) where
  -- what was left is so, since what it was said to be is
  pub leaves_as : (Is IsSo : Finish → List ℕ → Type 0) (status : ℕ) → ((finish : Finish) (whole : List ℕ) → Is finish whole → IsSo finish whole)
      → Leaves Is status old new waiting → Leaves IsSo status old new waiting
  leaves_as Is IsSo status so left = record {
    written = λ ok. (writes_as (Is _) (IsSo _) old new (so _) (left.written ok).0, (left.written ok).1);
    stopped = λ ok. stopped (left.stopped ok);
    nothing = left.nothing;
    beginning = λ ok. begun (left.beginning ok);
  } where
    stopped : Keeps old new ⊎ (Writes (Is Stopped) old new × (waiting ≡ [])) → Keeps old new ⊎ (Writes (IsSo Stopped) old new × (waiting ≡ []))
    stopped (inl kept) = inl kept
    stopped (inr wrote) = inr (writes_as (Is _) (IsSo _) old new (so _) wrote.0, wrote.1)

    begun : Keeps old new ⊎ BeginsToWrite (HoweverFinished Is) old new → Keeps old new ⊎ BeginsToWrite (HoweverFinished IsSo) old new
    begun (inl kept) = inl kept
    begun (inr part) = inr (begins_as (HoweverFinished Is) (HoweverFinished IsSo) old new (however_as Is IsSo so) part)

kept : (out : Option (List ℕ)) → Keeps out out
kept None = tt
kept (Some bytes) = refl

-- nothing was written
pub leaves_nothing : (out : Option (List ℕ)) (waiting : List ℕ) (Is : Finish → List ℕ → Type 0) (status : ℕ) → (status ≡ 0 → ⊥) → Leaves Is status out out waiting
leaves_nothing out waiting Is status some = record { written = λ ok. absurd (some ok); stopped = λ _. inl (kept out); nothing = λ _. kept out; beginning = λ _. inl (kept out) }

-- statuses that are not 0
pub not_2 : (n : ℕ) → n ≡ 2 → n ≡ 0 → ⊥
not_2 n two zero = omega arith

pub not_1_3 : (n : ℕ) → (n ≡ 1) ⊎ (n ≡ 3) → n ≡ 0 → ⊥
not_1_3 n (inl one) zero = omega arith
not_1_3 n (inr three) zero = omega arith

-- a status of a run is not 2
pub ran_not_2 : (n : ℕ) → (n ≡ 0) ⊎ ((n ≡ 1) ⊎ (n ≡ 3)) → n ≡ 2 → ⊥
ran_not_2 n (inl zero) two = omega arith
ran_not_2 n (inr (inl one)) two = omega arith
ran_not_2 n (inr (inr three)) two = omega arith

-- ---- answers

pub answer_of : (files : List (List ℕ)) (question : Question) (w : Wanted) (input : Input) → IsAsked files w question.query.now question.names.items input
    → (finish : Finish) (whole : List ℕ) → IsStrictOutput question input finish whole → IsAnswer files question w finish whole
answer_of files question w input asked finish whole output = record { input = input; asked = asked; output = output }

pub answer_of_named : (file : Text → Option (List ℕ)) (files : List (List ℕ)) (question : Question) (w : Wanted) → AreTold file question.names.items files
    → (finish : Finish) (whole : List ℕ) → IsAnswer files question w finish whole → IsAnswerOfNamed file question w finish whole
answer_of_named file files question w told finish whole answer = record { files = files; told = told; answer = answer }

pub asked : (file : Text → Option (List ℕ)) (words : List Text) (question : Question) (w : Wanted) → IsQuestion (items words) question → IsWanted (items words) w
    → (finish : Finish) (whole : List ℕ) → IsAnswerOfNamed file question w finish whole → AskToAnswer file words finish whole
asked file words question w it chosen finish whole answer = record { question = question; asked = it; wanted = w; chosen = chosen; answer = answer }
