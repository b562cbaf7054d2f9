-- What viewers have reported, while what they know grows.
use Rattle.std.proofs.Common.{◌≡◌, ℕ, zero, suc, ◌+◌, ◌<◌, ◌≤◌, true, false, Some, Result, Ok, Err, List, [], ◌∷◌, ◌++◌, inl, inr, length, map, get_or, refl, sym, ap, subst, ◌∙◌, arith, append_assoc, length-append}
use mathlib.Core.List.{IsPrefix}
use Rattle.std.proofs.Math.Seq.{get_or-append_seam}
use Rattle.std.proofs.lemmas.Bool.{cases_Bool}
use Rattle.std.proofs.lemmas.Bool.Decides.{nat_tests}
use Rattle.std.proofs.lemmas.List.{append-nil, get_or_append_left}
use Rattle.std.proofs.lemmas.Option.{slice_get-get_or, slice_get_within}
use Rattle.std.specs.List.{slice_get}
use Rattle.std.specs.Prelude.{IfOk, IsOk, MatchResult, OnOk, nat_lt}
use Rattle.board.specs.Editions.{Edition, Editions, History, IsLastOf, Known, KnowsAllOf, Learns, Looks, Note, last_rows}
use Rattle.board.specs.Editions as keeper
use Rattle.cells.specs.Tables.{Rows}
use Rattle.report.specs.declared.question.Question.{Question}
use Rattle.report.specs.Onlooking.{IsUpToNow}
use Rattle.report.specs.Waiting.{IsReportText}
use Rattle.report.specs.Watching.{AreShots, GoUpTo, HasWatched, IsLastEdition, IsLastShot, IsShot, Sight, Watching, at_last, before_last, no_shot, shot_first, up_to}
use Rattle.report.specs.declared.want.Want.{Want}

module _ {A : Type 0} where
  prefix_length : (xs ys : List A) → IsPrefix xs ys → length xs ≤ length ys
  prefix_length xs ys a = let e : length (xs ++ a.0) ≡ length ys = ap length a.1 in omega (arith, e, length-append xs a.0)

  -- what stands at a place of a beginning stands there
  at_prefix : (xs ys : List A) (k : ℕ) (d : A) → IsPrefix xs ys → k < length xs → slice_get ys k ≡ slice_get xs k
  at_prefix xs ys k d a within =
      slice_get-get_or ys k d (omega (arith, within, prefix_length xs ys a)) ∙ ap Some (ap (λ (w : List A). get_or w k d) (sym a.1) ∙ get_or_append_left xs a.0 d k within)
      ∙ sym (slice_get-get_or xs k d within)

  -- a beginning as long as the whole is the whole
  prefix_whole : (xs ys : List A) → IsPrefix xs ys → length ys ≤ length xs → xs ≡ ys
  prefix_whole xs ys (zs, e) short = whole zs e where
    whole : (zs : List A) → xs ++ zs ≡ ys → xs ≡ ys
    whole [] e = sym (append-nil xs) ∙ e
    whole (z ∷ zs) e = absurd (let n : length (xs ++ z ∷ zs) ≡ length ys = ap length e in omega (arith, n, length-append xs (z ∷ zs), short))

last_or : (h : History) (k : ℕ) (d : Rows) → length h ≡ k + 1 → get_or h k d ≡ last_rows h
last_or [] k d e = absurd (omega arith)
last_or (x ∷ []) zero d e = refl
last_or (x ∷ []) (suc k) d e = absurd (omega arith)
last_or (x ∷ y ∷ ys) zero d e = absurd (omega arith)
last_or (x ∷ y ∷ ys) (suc k) d e = last_or (y ∷ ys) k d (omega arith)

-- a report on the last edition of the history
pub shot_on_last : (h : History) (question : Question) (shot : Sight) (number : ℕ) (rows : Rows) → IsLastOf h number rows → shot.edition ≡ number → IsReportText rows question shot.text → IsShot h question shot
shot_on_last h question shot number rows last same is = record {
  rows = rows;
  at = slice_get-get_or h shot.edition rows (omega (arith, last.long, same)) ∙ ap Some (last_or h shot.edition rows (omega (arith, last.long, same)) ∙ sym last.is);
  is = is;
}

shot_longer : (h more : History) (question : Question) (shot : Sight) → IsPrefix h more → IsShot h question shot → IsShot more question shot
shot_longer h more question shot begins is = record { rows = is.rows; at = at_prefix h more shot.edition is.rows begins (slice_get_within h shot.edition is.rows is.at) ∙ is.at; is = is.is }

shot_shorter : (h more : History) (question : Question) (shot : Sight) → IsPrefix h more → shot.edition < length h → IsShot more question shot → IsShot h question shot
shot_shorter h more question shot begins within is = record { rows = is.rows; at = sym (at_prefix h more shot.edition is.rows begins within) ∙ is.at; is = is.is }

-- a report more, on the last edition of a longer history
pub shots_more : {h : History} {question : Question} {least : ℕ} {shots : List Sight} (more : History) (shot : Sight) → IsPrefix h more → length more ≡ shot.edition + 1 → least ≤ shot.edition →
    IsShot more question shot → AreShots h question least shots → AreShots more question least (shots ++ shot ∷ [])
shots_more more shot begins long low new no_shot = shot_first low new no_shot
shots_more {h = h} {question = question} more shot begins long low new (shot_first {shot = first} higher is rest) =
    let within = slice_get_within h first.edition is.rows is.at in
    shot_first higher (shot_longer h more question first begins is)
    (shots_more more shot begins long (omega (arith, within, prefix_length h more begins, long)) new rest)

shots_lower : {h : History} {question : Question} {least : ℕ} {shots : List Sight} (lower : ℕ) → lower ≤ least → AreShots h question least shots → AreShots h question lower shots
shots_lower lower le no_shot = no_shot
shots_lower lower le (shot_first higher is rest) = shot_first (omega (arith, le, higher)) is rest

behind_is : (m n : ℕ) → nat_lt m n ≡ false → n ≤ m
behind_is m n e = grind (arith, nat_tests)

-- the reports up to the last edition of a beginning of the history, and then one on that edition
pub goes_up_to : {more : History} {question : Question} {least : ℕ} (shots : List Sight) (h : History) (last : Sight) → IsPrefix h more → length h ≡ last.edition + 1 → least ≤ last.edition →
    IsShot h question last → AreShots more question least shots → GoUpTo h question last.edition least (length shots) (map (up_to last) shots ++ last ∷ [])
goes_up_to [] h last begins long low is_last no_shot = at_last low refl is_last
goes_up_to {more = more} {question = question} {least = least} (shot ∷ rest) h last begins long low is_last (shot_first higher is are) =
    elim (cases_Bool (nat_lt last.edition shot.edition)) [
      | inl behind ↦ rw behind (before_last low is_last (goes_up_to rest h last begins long (omega arith) is_last (shots_lower last.edition (lower behind) are)))
      | inr within ↦ rw within (before_last higher (shot_shorter h more question shot begins (let here = behind_is last.edition shot.edition within in omega (arith, here, long)) is)
          (goes_up_to rest h last begins long (behind_is last.edition shot.edition within) is_last are))
    ] where
      lower : nat_lt last.edition shot.edition ≡ true → last.edition ≤ shot.edition
      lower behind = grind (arith, nat_tests)

-- what a viewer sees once it has learnt all that the keeper knows, and is not above that, is the keeper's last edition
pub sees_last : (k : Editions) (more : History) (seen : Edition) → IsPrefix (keeper.history k) more → IsLastOf (keeper.history k) (keeper.edition k) (keeper.published k) →
    IsLastOf more seen.number seen.rows → seen.number ≤ keeper.edition k → seen.schema ≡ keeper.schema k → IsLastEdition k seen
sees_last k more seen begins mine last within schema =
    let long = prefix_length (keeper.history k) more begins in
    let same : keeper.history k ≡ more = prefix_whole (keeper.history k) more begins (omega (arith, mine.long, last.long, within)) in
    record {
      number = omega (arith, long, mine.long, last.long, within);
      rows = last.is ∙ ap last_rows (sym same) ∙ sym mine.is;
      schema = schema;
    }

-- a viewer that was told all that the keeper knows and looks then sees a history that begins with it
pub learnt_of : (k : Editions) (note : Note) (before after seen : Known) → KnowsAllOf k note → Learns before note after → Looks after seen → IsPrefix (keeper.history k) seen.history
learnt_of k note before after seen knows learns looks =
    let at : get_or after.told (length before.told) [] ≡ keeper.history k =
    ap (λ (w : List History). get_or w (length before.told) []) learns.told ∙ get_or-append_seam before.told note.history [] [] ∙ knows.history in
    let within : length before.told < length after.told = omega (arith, ap length learns.told, length-append before.told (note.history ∷ [])) in
    subst (λ (h : History). IsPrefix h seen.history) at (looks.learnt (length before.told) [] within)

-- a viewer that makes no reports more, and one more behind so many
pub watched_none : (before : Watching) → HasWatched before 0 before
watched_none before = record { seen = ([], append-nil _); board = refl; schema = refl; question = refl; many = omega arith }

pub watched_more : (before middle after : Watching) (count : ℕ) → HasWatched before count middle → HasWatched middle 1 after → HasWatched before (count + 1) after
watched_more before middle after count watched once = record {
  seen = (
    watched.seen.0 ++ once.seen.0,
    sym (append_assoc before.viewer.history watched.seen.0 once.seen.0) ∙ ap (λ h. h ++ once.seen.0) watched.seen.1 ∙ once.seen.1,
  );
  board = once.board ∙ watched.board;
  schema = once.schema ∙ watched.schema;
  question = once.question ∙ watched.question;
  many = omega (arith, watched.many, once.many);
}

-- what it made stays so, whatever it sees
pub shots_longer : {h : History} {question : Question} {least : ℕ} {shots : List Sight} (more : History) → IsPrefix h more → AreShots h question least shots → AreShots more question least shots
shots_longer more begins no_shot = no_shot
shots_longer {h = h} {question = question} more begins (shot_first {shot = first} higher is rest) = shot_first higher (shot_longer h more question first begins is) (shots_longer more begins rest)

-- a report on the snapshot that was taken
pub looked : (r : Result Sight Want) (h : History) (question : Question) (seen : Edition) → IsLastOf h seen.number seen.rows → IfOk r (λ shot. shot.edition ≡ seen.number) →
    IfOk r (λ shot. IsReportText seen.rows question shot.text) → IfOk r (λ shot. IsShot h question shot × (length h ≡ shot.edition + 1))
looked (Ok shot) h question seen last same is = (shot_on_last h question shot seen.number seen.rows last same is, last.long ∙ ap (λ n. n + 1) (sym same))
looked (Err e) h question seen last same is = tt

-- the report on the keeper's last edition
pub looked_last : (r : Result Sight Want) (k : Editions) (question : Question) (seen : Edition) → IsLastOf (keeper.history k) (keeper.edition k) (keeper.published k) → IsLastEdition k seen →
    IfOk r (λ shot. shot.edition ≡ seen.number) → IfOk r (λ shot. IsReportText seen.rows question shot.text) → IfOk r (IsLastShot k question)
looked_last (Ok shot) k question seen mine is_last same text =
    let at : shot.edition ≡ keeper.edition k = same ∙ is_last.number in
    record {
      number = at;
      long = mine.long;
      is = shot_on_last (keeper.history k) question shot (keeper.edition k) (keeper.published k) mine at (subst (λ (rs : Rows). IsReportText rs question shot.text) is_last.rows text);
    }
looked_last (Err e) k question seen mine is_last same text = tt

-- it stands for a report on an edition above the last one
pub shown_last : (r : Result Sight Want) (k : Editions) (question : Question) (shot : Sight) (seen : Edition) → IsLastOf (keeper.history k) (keeper.edition k) (keeper.published k) → IsLastEdition k seen →
    IfOk r (λ shown. shown.edition ≡ seen.number) → IfOk r (λ shown. IsReportText seen.rows question shown.text) → IfOk r (IsUpToNow k question shot)
shown_last (Ok shown) k question shot seen mine is_last same text =
    let made : Result Sight Want = Ok shown in
    let last = looked_last made k question seen mine is_last same text in
    record { is = last.is; within = omega (arith, last.number); late = λ least low within. omega (arith, within, last.number) }
shown_last (Err e) k question shot seen mine is_last same text = tt

-- any other stands for itself
pub shown_itself : (k : Editions) (question : Question) (shot : Sight) (seen : Edition) (before after : History) → IsLastOf (keeper.history k) (keeper.edition k) (keeper.published k) → IsLastEdition k seen → shot.edition ≤ seen.number →
    IsPrefix before after → IsPrefix (keeper.history k) after → IsShot before question shot → IsUpToNow k question shot shot
shown_itself k question shot seen before after mine is_last low grows learnt is = record {
  is = shot_shorter (keeper.history k) after question shot learnt (omega (arith, low, is_last.number, mine.long)) (shot_longer before after question shot grows is);
  within = omega (arith, low, is_last.number);
  late = λ least here within. here;
}

-- the reports of a viewer, and that one
pub finished : (k : Editions) (before : Watching) (more : History) (last : Sight) (all : List Sight) → IsPrefix before.viewer.history more → IsPrefix (keeper.history k) more → IsLastShot k before.question last →
    AreShots before.viewer.history before.question 0 before.shots → all ≡ map (up_to last) before.shots ++ last ∷ [] →
    GoUpTo (keeper.history k) before.question (keeper.edition k) 0 (length before.shots) all
finished k before more last all old learnt shot shots is =
    rw is (subst (λ n. GoUpTo (keeper.history k) before.question n 0 (length before.shots) (map (up_to last) before.shots ++ last ∷ [])) shot.number
    (goes_up_to before.shots (keeper.history k) last learnt (shot.long ∙ ap (λ n. n + 1) (sym shot.number)) (omega arith) shot.is (shots_longer more old shots)))

-- what is so of a value once a call was no error is so of the value that is handed on after it
pub handed : {M W E : Type 0} (Is : W → Type 0) (made : Result M E) (value : W) (result : Result W E) → MatchResult result (λ x. (x ≡ value) × IsOk made) (λ e. made ≡ Err e) → OnOk made (Is value) → IfOk result Is
handed Is (Ok m) value (Ok x) same is = subst Is (sym same.0) is
handed Is (Err e) value (Ok x) same is = absurd (let none = same.1 in cc)
handed Is (Ok m) value (Err e) same is = tt
handed Is (Err d) value (Err e) same is = tt
