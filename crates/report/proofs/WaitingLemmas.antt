-- What waits, after each step, and what of it was written.
use Rattle.std.proofs.Common.{◌≡◌, ℕ, List, [], ◌∷◌, ◌++◌, Option, Result, Ok, Err, refl, sym, ap, ◌∙◌, subst, append_assoc}
use Rattle.std.proofs.lemmas.List.{append-nil}
use Rattle.std.proofs.lemmas.Result.{on_err_weaker, on_ok_weaker}
use Rattle.std.proofs.KnownBytes.{Appends-trans}
use Rattle.std.specs.Io.KnownBytes.{Appends}
use Rattle.std.specs.Prelude.{IsErr, OnErr, OnOk}
use Rattle.board.specs.Editions.{Edition}
use Rattle.report.specs.declared.question.Question.{Question}
use Rattle.report.specs.Laws.{takes_beginning, takes_last, takes_more, takes_start, takes_whole}
use Rattle.report.specs.Taken.{TakesBeginning, TakesUpTo}
use Rattle.report.specs.Waiting.{Awaits, AwaitsThen, Comes, GoesOn, HasAnswer, Heads, IsReportText, TakesFront, UnderWay, Waits, report_first, text_alone, with_report, with_text}
use Rattle.report.specs.declared.unwritten.Unwritten.{Unwritten}

pub always_on_err : {T E P : Type 0} (r : Result T E) → P → OnErr r P
always_on_err (Ok x) p = tt
always_on_err (Err e) p = p

-- ---- two pieces

module _ (a b : Option (List ℕ)) (first rest : List ℕ) where
  -- a beginning of the first
  pub begins_first : TakesBeginning a b first → TakesBeginning a b (first ++ rest)
  begins_first p = takes_beginning a a b (first ++ rest) first rest (takes_start a (first ++ rest)) p

  -- the first
  pub takes_first : Appends a b first → TakesUpTo a b (first ++ rest) rest
  takes_first p = takes_more a a b (first ++ rest) first rest (takes_start a (first ++ rest)) p

-- the first, and a beginning of the other
pub begins_second : (a b c : Option (List ℕ)) (first rest : List ℕ) → Appends a b first → TakesBeginning b c rest → TakesBeginning a c (first ++ rest)
begins_second a b c first rest p q = takes_last a b c (first ++ rest) rest (takes_first a b first rest p) q

-- a heading and then the answer of a question, of which there is one
module _ (a b c : Option (List ℕ)) (heading answer : List ℕ) (edition : Edition) (question : Question) (text : List ℕ) (heads : Heads heading edition question text) where
  pub begins_heading : TakesBeginning a b heading → TakesBeginning a b text
  begins_heading p = rw heads.joined (begins_first a b heading heads.answer p)

  module _ (is : IsReportText edition.rows question answer) (first : Appends a b heading) where
    pub writes_heads : Appends b c answer → Appends a c text
    writes_heads second = rw heads.joined (Appends-trans a b c heading heads.answer first (subst (Appends b c) (heads.has answer is) second))

    pub begins_heads : TakesBeginning b c answer → TakesBeginning a c text
    begins_heads late = rw heads.joined (begins_second a b c heading heads.answer first (subst (TakesBeginning b c) (heads.has answer is) late))

-- what was taken of a text, with more behind it
pub takes_with : (a b : Option (List ℕ)) (whole rest more : List ℕ) → TakesUpTo a b whole rest → TakesUpTo a b (whole ++ more) (rest ++ more)
takes_with a b whole rest more t = record {
  front = t.front;
  whole_is = ap (λ text. text ++ more) t.whole_is ∙ append_assoc t.front rest more;
  taken = t.taken;
}

-- ---- what waits

-- a text comes behind all the rest
pub comes_text : (after text : List ℕ) (reports : List UnderWay) (waiting : List ℕ) → Comes after reports waiting → Comes (after ++ text) reports (waiting ++ text)
comes_text after text [] waiting text_alone = text_alone
comes_text after text (report ∷ more) waiting (report_first answer rest has comes) =
    let longer : report.before ++ (answer ++ (rest ++ text)) ≡ (report.before ++ (answer ++ rest)) ++ text =
    sym (append_assoc report.before (answer ++ rest) text ∙ ap (λ t. report.before ++ t) (append_assoc answer rest text)) in
    subst (Comes (after ++ text) (report ∷ more)) longer (report_first answer (rest ++ text) has (comes_text after text more rest comes))

-- so does a report
comes_report : (after answer : List ℕ) (edition : Edition) (question : Question) (reports : List UnderWay) (waiting : List ℕ) → HasAnswer edition question answer → Comes after reports waiting →
    Comes [] (reports ++ record { before = after; edition = edition; question = question } ∷ []) (waiting ++ answer)
comes_report after answer edition question [] waiting has text_alone =
    subst (λ t. Comes [] (record { before = after; edition = edition; question = question } ∷ []) (after ++ t)) (append-nil answer) (report_first answer [] has text_alone)
comes_report after answer edition question (report ∷ more) waiting has (report_first first rest other comes) =
    let whole : UnderWay = record { before = after; edition = edition; question = question } in
    let longer : report.before ++ (first ++ (rest ++ answer)) ≡ (report.before ++ (first ++ rest)) ++ answer =
    sym (append_assoc report.before (first ++ rest) answer ∙ ap (λ t. report.before ++ t) (append_assoc first rest answer)) in
    subst (Comes [] (report ∷ (more ++ whole ∷ []))) longer (report_first first (rest ++ answer) other (comes_report after answer edition question more rest has comes))

-- where no report is under way, the text behind them is all
pub only_text : {after : List ℕ} {reports : List UnderWay} {waiting : List ℕ} → reports ≡ [] → Comes after reports waiting → waiting ≡ after
only_text none text_alone = refl
only_text none (report_first answer rest has comes) = absurd cc

pub awaits_nothing : (w : Waits) → w.reports ≡ [] → w.after ≡ [] → Awaits w []
awaits_nothing w none empty = rw (none, empty) text_alone

-- ---- steps

module _ {T : Type 0} (a b c : Option (List ℕ)) where
  -- what was written goes on
  pub front_on : (w v : Waits) (text : List ℕ) (r : Result T Unwritten) (f : TakesFront a b w text) → GoesOn b c v f.rest r → GoesOn a c v text r
  front_on w v text (Ok x) f on = record {
    front = record {
      rest = on.front.rest;
      taken = takes_more a b c text on.front.taken.front on.front.rest (subst (TakesUpTo a b text) on.front.taken.whole_is f.taken) on.front.taken.taken;
      awaits = on.front.awaits;
    };
    beginning = tt;
  }
  front_on w v text (Err e) f on = record { front = tt; beginning = takes_last a b c text f.rest f.taken on.beginning }

module _ {T : Type 0} (a b : Option (List ℕ)) where
  -- the oldest report was written
  oldest : (report : UnderWay) (v : Waits) (text : List ℕ) (r : Result T Unwritten) → Comes v.after (report ∷ v.reports) text →
      ((answer : List ℕ) → HasAnswer report.edition report.question answer → OnOk r (Appends a b (report.before ++ answer))) →
      ((answer : List ℕ) → HasAnswer report.edition report.question answer → OnErr r (TakesBeginning a b (report.before ++ answer))) → GoesOn a b v text r
  oldest report v text (Ok x) (report_first answer rest has comes) written beginning = record {
    front = record {
      rest = rest;
      taken = rw (← append_assoc report.before answer rest) (takes_first a b (report.before ++ answer) rest (written answer has));
      awaits = comes;
    };
    beginning = tt;
  }
  oldest report v text (Err e) (report_first answer rest has comes) written beginning = record {
    front = tt;
    beginning = rw (← append_assoc report.before answer rest) (begins_first a b (report.before ++ answer) rest (beginning answer has));
  }

  pub goes_oldest : (report : UnderWay) (w v : Waits) (text : List ℕ) (r : Result T Unwritten) → w.reports ≡ report ∷ v.reports → w.after ≡ v.after → Awaits w text →
      ((answer : List ℕ) → HasAnswer report.edition report.question answer → OnOk r (Appends a b (report.before ++ answer))) →
      ((answer : List ℕ) → HasAnswer report.edition report.question answer → OnErr r (TakesBeginning a b (report.before ++ answer))) → GoesOn a b v text r
  goes_oldest report w v text r is same awaits written beginning = oldest report v text r (rw (is, same) at awaits) written beginning

  -- it ended early behind a beginning
  pub stops : (v : Waits) (text : List ℕ) (r : Result T Unwritten) → IsErr r → TakesBeginning a b text → GoesOn a b v text r
  stops v text (Ok x) bad beginning = absurd cc
  stops v text (Err e) bad beginning = record { front = tt; beginning = beginning }

  -- all was written
  pub goes_whole : (v : Waits) (text : List ℕ) (r : Result T Unwritten) → OnOk r (Appends a b text) → OnErr r (TakesBeginning a b text) → OnOk r (Awaits v []) → GoesOn a b v text r
  goes_whole v text (Ok x) all beginning nothing = record {
    front = record { rest = []; taken = record { front = text; whole_is = sym (append-nil text); taken = all }; awaits = nothing };
    beginning = tt;
  }
  goes_whole v text (Err e) all beginning nothing = record { front = tt; beginning = beginning }

-- a text waits behind all that was left
pub front_text : {T : Type 0} (a b : Option (List ℕ)) (w : Waits) (waiting text : List ℕ) (x : T) → TakesFront a b w waiting → GoesOn a b (with_text w text) (waiting ++ text) (Ok x)
front_text a b w waiting text x f = record {
  front = record { rest = f.rest ++ text; taken = takes_with a b waiting f.rest text f.taken; awaits = comes_text w.after text w.reports f.rest f.awaits };
  beginning = tt;
}

-- nothing was written, and a text waits behind all that waited
pub waits_text : {T : Type 0} (a : Option (List ℕ)) (w : Waits) (waiting text : List ℕ) (x : T) → Awaits w waiting → GoesOn a a (with_text w text) (waiting ++ text) (Ok x)
waits_text a w waiting text x awaits = front_text a a w waiting text x record { rest = waiting; taken = takes_start a waiting; awaits = awaits }

-- a heading, and then the answer of a report
module _ (waits : Waits) (heading : List ℕ) (edition : Edition) (question : Question) (text : List ℕ) (p : AwaitsThen waits (Heads heading edition question) text) where
  pub before_answer : AwaitsThen waits (λ more. heading ≡ more) (p.waiting ++ heading)
  before_answer = record { waiting = p.waiting; more = heading; awaits = p.awaits; is_more = refl; joined = refl }

  pub behind_heading : text ≡ (p.waiting ++ heading) ++ p.is_more.answer
  behind_heading = p.joined ∙ ap (λ more. p.waiting ++ more) p.is_more.joined ∙ sym (append_assoc p.waiting heading p.is_more.answer)

  pub begins_answer : (a b : Option (List ℕ)) → TakesBeginning a b (p.waiting ++ heading) → TakesBeginning a b text
  begins_answer a b early = rw behind_heading (begins_first a b (p.waiting ++ heading) p.is_more.answer early)

  pub front_answer : {T : Type 0} (a b : Option (List ℕ)) (w : Waits) (x : T) → TakesFront a b w (p.waiting ++ heading) → GoesOn a b (with_report w edition question) text (Ok x)
  front_answer a b w x f = rw behind_heading (record {
    front = record {
      rest = f.rest ++ p.is_more.answer;
      taken = takes_with a b (p.waiting ++ heading) f.rest p.is_more.answer f.taken;
      awaits = comes_report w.after p.is_more.answer edition question w.reports f.rest p.is_more.has f.awaits;
    };
    beginning = tt;
  })

-- ---- the end

module _ {U : Type 0} (a b c : Option (List ℕ)) where
  -- what was written, and then an early end
  pub ends_early : {T : Type 0} (w v : Waits) (text : List ℕ) (e : Unwritten) (r : Result U Unwritten) (f : TakesFront a b w text) → GoesOn {T = T} b c v f.rest (Err e) → OnErr r (TakesBeginning a c text)
  ends_early w v text e r f on = always_on_err r (takes_last a b c text f.rest f.taken on.beginning)

  -- what was written, and the text behind all reports
  pub wholly : (w : Waits) (text : List ℕ) (r : Result U Unwritten) → w.reports ≡ [] → TakesFront a b w text → OnOk r (Appends b c w.after) → OnOk r (Appends a c text)
  wholly w text r none f = on_ok_weaker r (λ last.
      let all : f.rest ≡ w.after = only_text none f.awaits in
      takes_whole a c text (takes_more a b c text f.rest [] (rw append-nil f.taken) (subst (Appends b c) (sym all) last)))

  pub begins_wholly : (w : Waits) (text : List ℕ) (r : Result U Unwritten) → w.reports ≡ [] → TakesFront a b w text → OnErr r (TakesBeginning b c w.after) → OnErr r (TakesBeginning a c text)
  begins_wholly w text r none f = on_err_weaker r (λ late.
      let all : f.rest ≡ w.after = only_text none f.awaits in
      takes_last a b c text f.rest f.taken (subst (TakesBeginning b c) (sym all) late))
