-- Which texts are refusals, and which lines are refused.
use Rattle.std.proofs.Common.{◌≡◌, ◌∙◌, ◌+◌, ℕ, Bool, true, false, cond, Result, Ok, Err, List, [], get_or, inl, inr, length, sym, ap, refl, arith}
use Rattle.std.specs.Prelude.{⊤}
use Rattle.cells.specs.Tables.{Rows}
use Rattle.cells.specs.Updates.{Update, puts}
use Rattle.cells.specs.Values.{RowValue, Table as TableValue}
use Rattle.cells.specs.declared.cell.Cell.{Cell}
use Rattle.cells.specs.declared.refused.Refused.TheVariants.{TooManyRows}
use Rattle.forms.specs.declared.form.Form.{Form}
use Rattle.forms.specs.declared.form.Form.TheVariants.{Classic, Csv, Json, Table}
use Rattle.board.specs.Editions.{Editions}
use Rattle.script.specs.Deeds.{Declares, Deed, Loads, Nothing, Publishes, Reports, Shapes, Updates}
use Rattle.script.specs.Desks.{LaysOrOverflows, LoadsRows}
use Rattle.script.specs.Givens.{Givens}
use Rattle.script.specs.Listings.{rows_loaded}
use Rattle.script.specs.Output.{IsAnswer, IsReport, edition, is_overfull, loaded, published, report, updates}
use Rattle.script.specs.Spelling.{refusal}
use Rattle.script.specs.Stops.{AsksWrongly, IsQuiet, IsRefusal, IsRefusedDeed, is_refused_load}
use Rattle.script.specs.declared.fault.Fault.{Fault}
use Rattle.script.specs.declared.fault.Fault.TheVariants.{Line}
use Rattle.script.specs.declared.manner.Manner.{Manner}
use Rattle.script.proofs.SaysLemmas.{OneAnswer, says_one}

-- texts that differ at a place are two
apart_at : (k a b : ℕ) (xs ys : List ℕ) → xs ≡ ys → get_or xs k 0 ≡ a → get_or ys k 0 ≡ b → (a ≡ b → ⊥) → ⊥
apart_at k a b xs ys same is_a is_b unlike = unlike (sym is_a ∙ ap (λ t. get_or t k 0) same ∙ is_b)

-- a refusal is some text
some_text : (form : Form) (number : ℕ) (fault : Fault) → [] ≡ refusal form number fault → ⊥
some_text Classic number fault same = apart_at 0 0 108 [] (refusal Classic number fault) same refl refl (λ e. omega (arith, e))
some_text Csv number fault same = apart_at 0 0 108 [] (refusal Csv number fault) same refl refl (λ e. omega (arith, e))
some_text Json number fault same = apart_at 0 0 123 [] (refusal Json number fault) same refl refl (λ e. omega (arith, e))
some_text Table number fault same = apart_at 0 0 108 [] (refusal Table number fault) same refl refl (λ e. omega (arith, e))

pub no_refusal : (number : ℕ) (bytes : List ℕ) → bytes ≡ [] → IsRefusal number bytes → ⊥
no_refusal number bytes none is = some_text is.form number is.fault (sym none ∙ is.is)

-- ---- what the block of a line says of it that is no report and no shape

-- the line does neither
abbrev pub IsPlain : Result Deed Fault → Type 0
IsPlain (Ok Nothing) = ⊤
IsPlain (Ok (Declares t)) = ⊤
IsPlain (Ok (Loads t listing)) = ⊤
IsPlain (Ok (Updates more)) = ⊤
IsPlain (Ok Publishes) = ⊤
IsPlain (Ok (Reports t query)) = ⊥
IsPlain (Ok Shapes) = ⊥
IsPlain (Err fault) = ⊤

full_refused : (form : Form) (number n : ℕ) (full : Bool) (bytes : List ℕ) → bytes ≡ cond full (refusal form number (Line TooManyRows)) [] → IsRefusal n bytes → full ≡ true
full_refused form number n true bytes is refused = refl
full_refused form number n false bytes is refused = absurd (no_refusal n bytes is refused)

full_accepted : (form : Form) (number : ℕ) (full : Bool) (bytes : List ℕ) → bytes ≡ cond full (refusal form number (Line TooManyRows)) [] → bytes ≡ [] → full ≡ true → ⊥
full_accepted form number true bytes is none full = some_text form number (Line TooManyRows) (sym none ∙ is)
full_accepted form number false bytes is none full = absurd cc

load_refused : (form : Form) (number n limit : ℕ) (us : List Update) (held : Result (List RowValue) Fault) (bytes : List ℕ) → bytes ≡ loaded form number limit us held → IsRefusal n bytes →
    is_refused_load limit us held ≡ true
load_refused form number n limit us (Ok rs) bytes is refused = full_refused form number n (is_overfull limit us (puts rs)) bytes is refused
load_refused form number n limit us (Err fault) bytes is refused = refl

load_accepted : (form : Form) (number limit : ℕ) (us : List Update) (held : Result (List RowValue) Fault) (bytes : List ℕ) → bytes ≡ loaded form number limit us held → bytes ≡ [] →
    is_refused_load limit us held ≡ true → ⊥
load_accepted form number limit us (Ok rs) bytes is none refused = full_accepted form number (is_overfull limit us (puts rs)) bytes is none refused
load_accepted form number limit us (Err fault) bytes is none refused = some_text form number fault (sym none ∙ is)

-- it is refused where its block is a refusal
pub refused_by_text : (hash : Cell → ℕ) (givens : Givens) (before : List (List ℕ)) (r : Result Deed Fault) (n : ℕ) (bytes : List ℕ) → IsPlain r → IsAnswer hash givens before r bytes → IsRefusal n bytes →
    IsRefusedDeed givens before r
refused_by_text hash givens before (Ok Nothing) n bytes plain is refused = no_refusal n bytes is refused
refused_by_text hash givens before (Ok (Declares t)) n bytes plain is refused = no_refusal n bytes is refused
refused_by_text hash givens before (Ok (Loads t listing)) n bytes plain is refused =
    load_refused givens.manner.form (length before + 1) n givens.limit (updates givens before) (rows_loaded t givens.parts listing) bytes is refused
refused_by_text hash givens before (Ok (Updates more)) n bytes plain is refused = full_refused givens.manner.form (length before + 1) n (is_overfull givens.limit (updates givens before) more) bytes is refused
refused_by_text hash givens before (Ok Publishes) n bytes plain is refused = no_refusal n bytes is refused
refused_by_text hash givens before (Ok (Reports t query)) n bytes plain is refused = absurd plain
refused_by_text hash givens before (Ok Shapes) n bytes plain is refused = absurd plain
refused_by_text hash givens before (Err fault) n bytes plain is refused = tt

-- and not where it is no text
pub accepted_by_text : (hash : Cell → ℕ) (givens : Givens) (before : List (List ℕ)) (r : Result Deed Fault) (bytes : List ℕ) → IsPlain r → IsAnswer hash givens before r bytes → bytes ≡ [] →
    IsRefusedDeed givens before r → ⊥
accepted_by_text hash givens before (Ok Nothing) bytes plain is none refused = refused
accepted_by_text hash givens before (Ok (Declares t)) bytes plain is none refused = refused
accepted_by_text hash givens before (Ok (Loads t listing)) bytes plain is none refused =
    load_accepted givens.manner.form (length before + 1) givens.limit (updates givens before) (rows_loaded t givens.parts listing) bytes is none refused
accepted_by_text hash givens before (Ok (Updates more)) bytes plain is none refused = full_accepted givens.manner.form (length before + 1) (is_overfull givens.limit (updates givens before) more) bytes is none refused
accepted_by_text hash givens before (Ok Publishes) bytes plain is none refused = refused
accepted_by_text hash givens before (Ok (Reports t query)) bytes plain is none refused = plain
accepted_by_text hash givens before (Ok Shapes) bytes plain is none refused = plain
accepted_by_text hash givens before (Err fault) bytes plain is none refused = some_text givens.manner.form (length before + 1) fault (sym none ∙ is)

-- ---- a refused line has a refusal

full_told : (form : Form) (number : ℕ) (full : Bool) (bytes : List ℕ) → bytes ≡ cond full (refusal form number (Line TooManyRows)) [] → full ≡ true → IsRefusal number bytes
full_told form number true bytes is full = record { form = form; fault = Line TooManyRows; is = is }
full_told form number false bytes is full = absurd cc

load_told : (form : Form) (number limit : ℕ) (us : List Update) (held : Result (List RowValue) Fault) (bytes : List ℕ) → bytes ≡ loaded form number limit us held → is_refused_load limit us held ≡ true →
    IsRefusal number bytes
load_told form number limit us (Ok rs) bytes is refused = full_told form number (is_overfull limit us (puts rs)) bytes is refused
load_told form number limit us (Err fault) bytes is refused = record { form = form; fault = fault; is = is }

report_told : OneAnswer → (manner : Manner) (number edition : ℕ) (t : TableValue) (rs : List RowValue) (query bytes : List ℕ) → IsReport manner number edition t rs query bytes → AsksWrongly t rs query → IsRefusal number bytes
report_told law manner number edition t rs query bytes is wrong =
    record { form = manner.form; fault = Line wrong.fault; is = is.is ∙ ap (report manner number edition) (says_one law is.says wrong.says) }

pub refusal_told : OneAnswer → (hash : Cell → ℕ) (givens : Givens) (before : List (List ℕ)) (r : Result Deed Fault) (bytes : List ℕ) → IsAnswer hash givens before r bytes → IsRefusedDeed givens before r →
    IsRefusal (length before + 1) bytes
refusal_told law hash givens before (Ok Nothing) bytes is refused = absurd refused
refusal_told law hash givens before (Ok (Declares t)) bytes is refused = absurd refused
refusal_told law hash givens before (Ok (Loads t listing)) bytes is refused =
    load_told givens.manner.form (length before + 1) givens.limit (updates givens before) (rows_loaded t givens.parts listing) bytes is refused
refusal_told law hash givens before (Ok (Updates more)) bytes is refused = full_told givens.manner.form (length before + 1) (is_overfull givens.limit (updates givens before) more) bytes is refused
refusal_told law hash givens before (Ok Publishes) bytes is refused = absurd refused
refusal_told law hash givens before (Ok (Reports t query)) bytes is refused = report_told law givens.manner (length before + 1) (edition givens before) t (published givens before) query bytes is refused
refusal_told law hash givens before (Ok Shapes) bytes is refused = absurd refused
refusal_told law hash givens before (Err fault) bytes is refused = record { form = givens.manner.form; fault = fault; is = is }

-- ---- lines that write nothing or are refused

pub quiet_laid : {form : Form} (old new : Editions) (left : Rows) (number : ℕ) (bytes : List ℕ) → LaysOrOverflows form old new left number bytes → IsQuiet number bytes
quiet_laid old new left number bytes (inl lays) = inl lays.nothing
quiet_laid {form = form} old new left number bytes (inr over) = inr (record { form = form; fault = Line TooManyRows; is = over.refused })

pub quiet_loaded : (form : Form) (old new : Editions) (held : Result (List RowValue) Fault) (number : ℕ) (bytes : List ℕ) → LoadsRows form old new held number bytes → IsQuiet number bytes
quiet_loaded form old new (Ok rs) number bytes loads = quiet_laid old new _ number bytes loads
quiet_loaded form old new (Err fault) number bytes (unchanged, text) = inr (record { form = form; fault = fault; is = text })

pub quiet_refusal : (form : Form) (number : ℕ) (fault : Fault) (bytes : List ℕ) → bytes ≡ refusal form number fault → IsQuiet number bytes
quiet_refusal form number fault bytes is = inr (record { form = form; fault = fault; is = is })
