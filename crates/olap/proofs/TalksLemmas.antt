-- What a session has written, line by line.
use Rattle.std.proofs.Common.{◌≡◌, ◌∙◌, ℕ, Bool, true, false, List, [], ◌∷◌, ◌++◌, None, Some, Option, Result, Ok, Err, OnErr, IfOk, IfSome, refl, suc, cond, length, map, take, take_all, ◌+◌, ◌-◌, ◌≤◌, ◌==◌, ap₂, arith, sym, ap, subst, append_assoc, append-nil, reverse, true≢false}
use Rattle.std.proofs.KnownBytes.{Appends-kept, Appends-nil, Appends-trans, Keeps-refl}
use Rattle.std.proofs.lemmas.Grind.{reverse_onto}
use Rattle.std.proofs.lemmas.List.{length-take, reverse-reverse}
use Rattle.std.specs.Io.KnownBytes.{Keeps, prepend_known}
use Rattle.std.specs.List.{onto_first, slice_split}
use Rattle.std.specs.Prelude.{slice_index}
use Rattle.std.specs.Str.Lines.{lines, lines_of_parts}
use Rattle.std.specs.Prelude.{⊤}
use Rattle.olap.specs.Hearing.{HearsNext, lines_heard}
use Rattle.cells.specs.declared.cell.Cell.{Cell}
use Rattle.script.specs.Endings.{BeginsToWrite, Writes}
use Rattle.script.specs.Givens.{Givens}
use Rattle.script.specs.Limits.{script_limit}
use Rattle.script.specs.Output.{IsOutput}
use Rattle.script.specs.Manners.{in_form}
use Rattle.script.specs.Sessions.{AreReplies, Hearing, IsRefusedAfter, IsReply, last_line, no_line, with_line}
use Rattle.script.specs.Stops.{StopsAfter, Tells, stops}
use Rattle.clap.specs.Words.{Text}
use Rattle.script.specs.Hows.{hash_of_choice}
use Rattle.olap.specs.Folders.{AreTold}
use Rattle.command.specs.SessionWords.{AskForSession}
use Rattle.command.specs.declared.session_words.SessionJob.{SessionJob}
use Rattle.olap.specs.Talks.{AreRepliesSoFar, AreRepliesUpTo, AskToTalk, Holds, IsOfJob, IsTalk, IsTalkSoFar}
use Rattle.olap.specs.Talks as talks
use Rattle.script.specs.declared.finish.Finish.{Finish}
use Rattle.script.specs.declared.finish.Finish.TheVariants.{Stopped, Through}
use Rattle.script.specs.declared.on_refusal.OnRefusal.{OnRefusal}
use Rattle.script.specs.declared.on_refusal.OnRefusal.TheVariants.{GoesOn, Stops}

-- standard input held these lines, which were heard, and what is left
abbrev pub Left : Option (List ℕ) → Option (List ℕ) → List (List ℕ) → Type 0
Left None now lines = ⊤
Left (Some text) None lines = ⊥
Left (Some text) (Some rest) lines = lines_heard text ≡ reverse lines ++ lines_heard rest

-- the lines that are left
abbrev later_in : Option (List ℕ) → List (List ℕ)
later_in None = []
later_in (Some rest) = lines_heard rest

module _ (hash : Cell → ℕ) (givens : Givens) (on : OnRefusal) where
  -- these lines were heard and answered, after none of which a session stops
  pub record IsAnswered (input now taken new : Option (List ℕ)) (lines : List (List ℕ)) : Type 0 where
    pub left : Left input now lines
    pub wrote : Writes (AreRepliesUpTo hash givens on lines Through) taken new

  pub answered_none : (input taken : Option (List ℕ)) → IsAnswered input input taken taken []
  answered_none input taken = record { left = start input; wrote = record { whole = []; is_whole = talks.no_line; taken = Appends-nil taken } }
    where
      start : (input : Option (List ℕ)) → Left input input []
      start None = tt
      start (Some text) = refl

  pub answered_kept : (input now taken new newer : Option (List ℕ)) (lines : List (List ℕ)) → IsAnswered input now taken new lines → Keeps new newer → IsAnswered input now taken newer lines
  answered_kept input now taken new newer lines a k = record {
    left = a.left;
    wrote = record { whole = a.wrote.whole; is_whole = a.wrote.is_whole; taken = Appends-kept taken new newer a.wrote.whole a.wrote.taken k };
  }

  reversed_onto : (x : List ℕ) (xs more : List (List ℕ)) → reverse xs ++ x ∷ more ≡ reverse (x ∷ xs) ++ more
  reversed_onto x xs more = sym (rw (reverse_onto xs x []) (append_assoc (reverse xs) (x ∷ []) more))

  left_more : (input now next : Option (List ℕ)) (line : List ℕ) (lines : List (List ℕ)) → Left input now lines → HearsNext now true line next → Left input next (line ∷ lines)
  left_more None now next line lines l h = tt
  left_more (Some text) None next line lines l h = absurd l
  left_more (Some text) (Some rest) None line lines l h = absurd h
  left_more (Some text) (Some rest) (Some more) line lines l h = l ∙ ap (λ ls. reverse lines ++ ls) h ∙ reversed_onto line lines (lines_heard more)

  holds_left : (input now : Option (List ℕ)) (lines : List (List ℕ)) → Left input now lines → Holds input lines (later_in now)
  holds_left None now lines l = tt
  holds_left (Some text) None lines l = absurd l
  holds_left (Some text) (Some rest) lines l = l

  holds_all : (input now next : Option (List ℕ)) (line : List ℕ) (lines : List (List ℕ)) → Left input now lines → HearsNext now false line next → Holds input lines []
  holds_all None now next line lines l h = tt
  holds_all (Some text) None next line lines l h = absurd l
  holds_all (Some text) (Some rest) next line lines l h = l ∙ ap (λ r. reverse lines ++ lines_heard r) h

  -- one line more, after which the session goes on
  pub answered_more : (input now next taken new newer : Option (List ℕ)) (line : List ℕ) (lines : List (List ℕ)) → IsAnswered input now taken new lines → HearsNext now true line next →
      Writes (IsReply hash givens lines line) new newer → (StopsAfter on (IsRefusedAfter givens lines line) → ⊥) →
      IsAnswered input next taken newer (line ∷ lines)
  answered_more input now next taken new newer line lines a h w on_goes = record {
    left = left_more input now next line lines a.left h;
    wrote = record {
      whole = a.wrote.whole ++ w.whole;
      is_whole = talks.goes_on a.wrote.whole w.whole a.wrote.is_whole w.is_whole on_goes;
      taken = Appends-trans taken new newer a.wrote.whole w.whole a.wrote.taken w.taken;
    };
  }

  -- all lines were answered
  pub talk_through : (input now next taken new : Option (List ℕ)) (line : List ℕ) (lines : List (List ℕ)) → IsAnswered input now taken new lines → HearsNext now false line next →
      Writes (IsTalk input Through hash givens on) taken new
  talk_through input now next taken new line lines a h = record {
    whole = a.wrote.whole;
    is_whole = record { lines = lines; later = []; held = holds_all input now next line lines a.left h; all = λ _. refl; replies = a.wrote.is_whole };
    taken = a.wrote.taken;
  }

  abbrev is_through : Finish → Bool
  is_through Through = true
  is_through Stopped = false

  not_through : {A : Type 0} → Stopped ≡ Through → A
  not_through e = absurd (true≢false (sym (ap is_through e)))

  -- the last line is one after which the session stops
  pub talk_stopped : (input now next taken new newer : Option (List ℕ)) (line : List ℕ) (lines : List (List ℕ)) → IsAnswered input now taken new lines → HearsNext now true line next →
      Writes (IsReply hash givens lines line) new newer → StopsAfter on (IsRefusedAfter givens lines line) →
      Writes (IsTalk input Stopped hash givens on) taken newer
  talk_stopped input now next taken new newer line lines a h w on_stops = record {
    whole = a.wrote.whole ++ w.whole;
    is_whole = record {
      lines = line ∷ lines;
      later = later_in next;
      held = holds_left input next (line ∷ lines) (left_more input now next line lines a.left h);
      all = λ e. not_through e;
      replies = talks.stops a.wrote.whole w.whole a.wrote.is_whole w.is_whole on_stops;
    };
    taken = Appends-trans taken new newer a.wrote.whole w.whole a.wrote.taken w.taken;
  }

  replies_up_to : (lines : List (List ℕ)) (finish : Finish) (bytes : List ℕ) → AreRepliesUpTo hash givens on lines finish bytes → AreReplies hash givens lines bytes
  replies_up_to _ _ _ talks.no_line = no_line
  replies_up_to _ _ _ (talks.goes_on bytes reply earlier is_reply on_goes) = last_line bytes reply (replies_up_to _ _ _ earlier) is_reply
  replies_up_to _ _ _ (talks.stops bytes reply earlier is_reply on_stops) = last_line bytes reply (replies_up_to _ _ _ earlier) is_reply

  so_far : (lines : List (List ℕ)) (finish : Finish) (bytes : List ℕ) → AreRepliesUpTo hash givens on lines finish bytes → AreRepliesSoFar hash givens on lines bytes
  so_far _ _ _ talks.no_line = talks.no_line_so_far
  so_far _ _ _ (talks.goes_on bytes reply earlier is_reply on_goes) = talks.last_so_far bytes reply earlier is_reply
  so_far _ _ _ (talks.stops bytes reply earlier is_reply on_stops) = talks.last_so_far bytes reply earlier is_reply

  -- the session ends before a line is heard
  pub talk_broken : (input now taken new newer : Option (List ℕ)) (lines : List (List ℕ)) → IsAnswered input now taken new lines → Keeps new newer →
      BeginsToWrite (IsTalkSoFar input hash givens on) taken newer
  talk_broken input now taken new newer lines a k = record {
    whole = a.wrote.whole;
    is_whole = record { lines = lines; later = later_in now; held = holds_left input now lines a.left; replies = so_far lines Through a.wrote.whole a.wrote.is_whole };
    beginning = record { rest = []; up_to = record { front = a.wrote.whole; whole_is = sym (append-nil a.wrote.whole); taken = Appends-kept taken new newer a.wrote.whole a.wrote.taken k } };
  }

  -- it ends in the reply to a line
  pub talk_cut : (input now next taken new newer : Option (List ℕ)) (line : List ℕ) (lines : List (List ℕ)) → IsAnswered input now taken new lines → HearsNext now true line next →
      BeginsToWrite (IsReply hash givens lines line) new newer → BeginsToWrite (IsTalkSoFar input hash givens on) taken newer
  talk_cut input now next taken new newer line lines a h b = record {
    whole = a.wrote.whole ++ b.whole;
    is_whole = record {
      lines = line ∷ lines;
      later = later_in next;
      held = holds_left input next (line ∷ lines) (left_more input now next line lines a.left h);
      replies = talks.last_so_far a.wrote.whole b.whole a.wrote.is_whole b.is_whole;
    };
    beginning = record {
      rest = b.beginning.rest;
      up_to = record {
        front = a.wrote.whole ++ b.beginning.up_to.front;
        whole_is = ap (λ l. a.wrote.whole ++ l) b.beginning.up_to.whole_is ∙ sym (append_assoc a.wrote.whole b.beginning.up_to.front b.beginning.rest);
        taken = Appends-trans taken new newer a.wrote.whole b.beginning.up_to.front a.wrote.taken b.beginning.up_to.taken;
      };
    };
  }

-- the session goes on where it is not told to stop
pub no_stop : (on : OnRefusal) (refused : Bool) (Is : Type 0) → stops on refused ≡ false → Tells refused Is → StopsAfter on Is → ⊥
no_stop GoesOn refused Is e t s = s
no_stop Stops true Is e t s = absurd (true≢false e)
no_stop Stops false Is e t s = t s

pub stop_told : (on : OnRefusal) (refused : Bool) (Is : Type 0) → stops on refused ≡ true → Tells refused Is → StopsAfter on Is
stop_told GoesOn refused Is e t = absurd (true≢false (sym e))
stop_told Stops true Is e t = t
stop_told Stops false Is e t = absurd (true≢false (sym e))

-- a session has answered the lines that it heard, and goes on
pub record GoesOnTalking (hash : Cell → ℕ) (on : OnRefusal) (fresh session : Hearing) (input now taken new : Option (List ℕ)) (faults : ℕ) : Type 0 where
  pub same : session.givens ≡ fresh.givens
  pub is_open : session.ended ≡ None
  pub sound : faults ≡ 0
  pub answered : IsAnswered hash fresh.givens on input now taken new session.lines

module _ (hash : Cell → ℕ) (on : OnRefusal) (fresh session : Hearing) (input now taken new flushed : Option (List ℕ)) (faults : ℕ) where
  -- what was heard and answered where all of it is handed on
  handed_on : GoesOnTalking hash on fresh session input now taken new faults → Keeps new flushed → IsAnswered hash fresh.givens on input now taken flushed session.lines
  handed_on g k = answered_kept hash fresh.givens on input now taken new flushed session.lines g.answered k

  pub ends_talking : (next : Option (List ℕ)) (line : List ℕ) → GoesOnTalking hash on fresh session input now taken new faults → Keeps new flushed →
      HearsNext now false line next → Writes (IsTalk input Through hash fresh.givens on) taken flushed
  ends_talking next line g k h = talk_through hash fresh.givens on input now next taken flushed line session.lines (handed_on g k) h

  pub breaks_talking : GoesOnTalking hash on fresh session input now taken new faults → Keeps new flushed → BeginsToWrite (IsTalkSoFar input hash fresh.givens on) taken flushed
  breaks_talking g k = talk_broken hash fresh.givens on input now taken new flushed session.lines g.answered k

  module _ (next newer : Option (List ℕ)) (bytes line : List ℕ) (g : GoesOnTalking hash on fresh session input now taken new faults) (k : Keeps new flushed)
      (h : HearsNext now true line next) (b : bytes ≡ line) where
    pub cuts_talking : BeginsToWrite (IsReply hash session.givens session.lines bytes) flushed newer → BeginsToWrite (IsTalkSoFar input hash fresh.givens on) taken newer
    cuts_talking w =
        talk_cut hash fresh.givens on input now next taken flushed newer line session.lines (handed_on g k) h (rw (← b, ← g.same) w)

    module _ (refused : Bool) (w : Writes (IsReply hash session.givens session.lines bytes) flushed newer)
        (t : Tells refused (IsRefusedAfter session.givens session.lines bytes)) where
      pub stops_talking : (told : Bool) → told ≡ stops on refused → told ≡ true → Writes (IsTalk input Stopped hash fresh.givens on) taken newer
      stops_talking told e t' =
          let s : stops on refused ≡ true = sym e ∙ t' in
          talk_stopped hash fresh.givens on input now next taken flushed newer line session.lines (handed_on g k) h (rw (← b, ← g.same) w)
          (stop_told on refused (IsRefusedAfter fresh.givens session.lines line) s (rw (← b, ← g.same) t))

      pub goes_on_talking : (after : Hearing) (flushed_faults new_faults : ℕ) (told : Bool) → told ≡ stops on refused → told ≡ false → after ≡ with_line session bytes → flushed_faults ≡ faults → new_faults ≡ flushed_faults →
          GoesOnTalking hash on fresh after input next taken newer new_faults
      goes_on_talking after flushed_faults new_faults told is no_more a f e =
          let s : stops on refused ≡ false = sym is ∙ no_more in
          let more = answered_more hash fresh.givens on input now next taken flushed newer line session.lines (handed_on g k) h (rw (← b, ← g.same) w)
          (no_stop on refused (IsRefusedAfter fresh.givens session.lines line) s (rw (← b, ← g.same) t)) in
          record {
            same = ap (λ (s : Hearing). s.givens) a ∙ g.same;
            is_open = ap (λ (s : Hearing). s.ended) a ∙ g.is_open;
            sound = e ∙ f ∙ g.sound;
            answered = subst (IsAnswered hash fresh.givens on input next taken newer) (sym (ap (λ (s : Hearing). s.lines) a ∙ ap (λ l. l ∷ session.lines) b)) more;
          }

pub always_on_err : {T E P : Type 0} (r : Result T E) → P → OnErr r P
always_on_err (Ok x) p = tt
always_on_err (Err e) p = p

-- what is finished is the replies to some first lines
talk_so_far : (input : Option (List ℕ)) (finish : Finish) (hash : Cell → ℕ) (givens : Givens) (on : OnRefusal) (bytes : List ℕ) → IsTalk input finish hash givens on bytes →
    IsTalkSoFar input hash givens on bytes
talk_so_far input finish hash givens on bytes t =
    record { lines = t.lines; later = t.later; held = t.held; replies = so_far hash givens on t.lines finish bytes t.replies }

-- a talk and then its close leave a beginning
pub talk_closed : {E : Type 0} (input : Option (List ℕ)) (hash : Cell → ℕ) (givens : Givens) (on : OnRefusal) (a b c : Option (List ℕ)) (talked : Result Finish E) →
    IfOk talked (λ finish. Writes (IsTalk input finish hash givens on) a b) → OnErr talked (BeginsToWrite (IsTalkSoFar input hash givens on) a b) → Keeps b c →
    BeginsToWrite (IsTalkSoFar input hash givens on) a c
talk_closed input hash givens on a b c (Ok finish) w part k = record {
  whole = w.whole;
  is_whole = talk_so_far input finish hash givens on w.whole w.is_whole;
  beginning = record { rest = []; up_to = record { front = w.whole; whole_is = sym (append-nil w.whole); taken = Appends-kept a b c w.whole w.taken k } };
}
talk_closed input hash givens on a b c (Err e) w part k = record {
  whole = part.whole;
  is_whole = part.is_whole;
  beginning = record {
    rest = part.beginning.rest;
    up_to = record {
      front = part.beginning.up_to.front;
      whole_is = part.beginning.up_to.whole_is;
      taken = Appends-kept a b c part.beginning.up_to.front part.beginning.up_to.taken k;
    };
  };
}

pub talk_finished : {E : Type 0} (input : Option (List ℕ)) (hash : Cell → ℕ) (givens : Givens) (on : OnRefusal) (a b c : Option (List ℕ)) (talked : Result Finish E) (finish : Finish) →
    IfOk talked (λ finish. Writes (IsTalk input finish hash givens on) a b) → talked ≡ Ok finish → Keeps b c → Writes (IsTalk input finish hash givens on) a c
talk_finished input hash givens on a b c (Ok other) finish w is k =
    let same : other ≡ finish = cc in
    let v = rw same at w in
    record { whole = v.whole; is_whole = v.is_whole; taken = Appends-kept a b c v.whole v.taken k }
talk_finished input hash givens on a b c (Err e) finish w is k = absurd cc

-- ---- a script of the same lines

-- each of these lines is no longer than that
abbrev Short : ℕ → List (List ℕ) → Type 0
Short n [] = ⊤
Short n (line ∷ lines) = (length line ≤ n) × Short n lines

short_more : (n m : ℕ) (parts : List (List ℕ)) → n ≤ m → Short n parts → Short m parts
short_more n m [] h s = tt
short_more n m (part ∷ parts) h s = (omega (arith, s.0), short_more n m parts h s.1)

short_first : (n x : ℕ) (parts : List (List ℕ)) → Short n parts → Short (suc n) (onto_first x parts)
short_first n x [] s = (omega arith, tt)
short_first n x (part ∷ parts) s = (omega (arith, s.0), short_more n (suc n) parts (omega arith) s.1)

short_by : (b : Bool) (n x : ℕ) (parts : List (List ℕ)) → Short n parts → Short (suc n) (cond b ([] ∷ parts) (onto_first x parts))
short_by true n x parts s = (omega arith, short_more n (suc n) parts (omega arith) s)
short_by false n x parts s = short_first n x parts s

short_parts : (text : List ℕ) → Short (length text) (slice_split (λ b. b == 10) text)
short_parts [] = (omega arith, tt)
short_parts (x ∷ text) = short_by (x == 10) (length text) x (slice_split (λ b. b == 10) text) (short_parts text)

whole_stripped : (b : Bool) (n : ℕ) (line : List ℕ) → length line ≤ n → take n (cond b (take (length line - 1) line) line) ≡ cond b (take (length line - 1) line) line
whole_stripped true n line h = take_all n (take (length line - 1) line) (omega (arith, length-take (length line - 1) line))
whole_stripped false n line h = take_all n line h

whole_last : (b : Bool) (n : ℕ) (line : List ℕ) → length line ≤ n → map (take n) (cond b [] (line ∷ [])) ≡ cond b [] (line ∷ [])
whole_last true n line h = refl
whole_last false n line h = ap (λ l. l ∷ []) (take_all n line h)

whole_lines : (n : ℕ) (parts : List (List ℕ)) → Short n parts → map (take n) (lines_of_parts parts) ≡ lines_of_parts parts
whole_lines n [] s = refl
whole_lines n (part ∷ []) s = whole_last (length part == 0) n part s.0
whole_lines n (part ∷ next ∷ parts) s =
    ap₂ (λ l ls. l ∷ ls) (whole_stripped (slice_index part (length part - 1) == 13) n part s.0) (whole_lines n (next ∷ parts) s.1)

-- the lines of a script are heard whole
heard_whole : (n : ℕ) (script : List ℕ) → length script ≤ n → map (take (n + 1)) (lines script) ≡ lines script
heard_whole n script h =
    whole_lines (n + 1) (slice_split (λ b. b == 10) script) (short_more (length script) (n + 1) (slice_split (λ b. b == 10) script) (omega arith) (short_parts script))

pub talk_output : (hash : Cell → ℕ) (givens : Givens) (on : OnRefusal) (input : Option (List ℕ)) (a b : Option (List ℕ)) →
    ((script bytes : List ℕ) → length script ≤ script_limit → AreReplies hash givens (reverse (lines script)) bytes → IsOutput hash givens script bytes) →
    Writes (IsTalk input Through hash givens on) a b → IfSome input (λ script. length script ≤ script_limit → Writes (IsOutput hash givens script) a b)
talk_output hash givens on None a b law w = tt
talk_output hash givens on (Some script) a b law w = λ short.
    let t = w.is_whole in
    let same : reverse t.lines ≡ lines script = sym (append-nil (reverse t.lines)) ∙ ap (λ l. reverse t.lines ++ l) (sym (t.all refl)) ∙ sym t.held ∙ heard_whole script_limit script short in
    let back : t.lines ≡ reverse (lines script) = sym (reverse-reverse t.lines) ∙ ap reverse same in
    record { whole = w.whole; is_whole = law script w.whole short (subst (λ (ls : List (List ℕ)). AreReplies hash givens ls w.whole) back (replies_up_to hash givens on t.lines Through w.whole t.replies)); taken = w.taken }

-- what a reader has left that has read nothing yet
pub unread : (known : Option (List ℕ)) → prepend_known [] known ≡ known
unread None = refl
unread (Some text) = refl

-- no line was heard
pub talk_unstarted : (input : Option (List ℕ)) (hash : Cell → ℕ) (givens : Givens) (on : OnRefusal) (a : Option (List ℕ)) → BeginsToWrite (IsTalkSoFar input hash givens on) a a
talk_unstarted input hash givens on a = talk_broken hash givens on input input a a a [] (answered_none hash givens on input a) (Keeps-refl a)

-- ---- of the words

-- what is written of a job, from what was read
pub of_job : (file : List ℕ → Option (List ℕ)) (job : SessionJob) (parts : List (List ℕ)) → AreTold file job.parts.items parts → (Is : (Cell → ℕ) → Givens → OnRefusal → List ℕ → Type 0) (bytes : List ℕ) →
    Is (hash_of_choice job.hash) (record { manner = in_form job.form; limit = job.how.rows; parts = parts }) job.on_refusal bytes → IsOfJob file job Is bytes
of_job file job parts told Is bytes is = record { parts = parts; parts_told = told; is = is }

pub asked_to_talk : (file : List ℕ → Option (List ℕ)) (words : List Text) (job : SessionJob) → AskForSession words job → (Is : (Cell → ℕ) → Givens → OnRefusal → List ℕ → Type 0) (bytes : List ℕ) →
    IsOfJob file job Is bytes → AskToTalk file words Is bytes
asked_to_talk file words job asked Is bytes is = record { job = job; asked = asked; is = is }
