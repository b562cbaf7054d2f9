-- Lines that change the table: what they may say, their step, and what a session has after them.
use Rattle.std.proofs.Common.{◌≡◌, ◌+◌, ◌<◌, ◌≤◌, ℕ, Bool, true, false, cond, Option, Some, None, Result, Ok, Err, List, [], ◌∷◌, inl, inr, length, refl, sym, subst, arith}
use Rattle.std.specs.Prelude.{is_some, map, min}
use Rattle.std.specs.Str.{is_utf8}
use Rattle.std.specs.FinMap.{len}
use Rattle.board.specs.Editions.{ChangesDraft, Editions}
use Rattle.board.specs.Editions as keeper
use Rattle.cells.specs.Literals.{literal_of}
use Rattle.cells.specs.Tables.{Rows}
use Rattle.cells.specs.TotalOrder.{cell_total}
use Rattle.cells.specs.Values.{RowValue, Table}
use Rattle.cells.specs.declared.cell.Cell.{Cell}
use Rattle.cells.specs.declared.refused.Refused.{Refused}
use Rattle.cells.specs.declared.refused.Refused.TheVariants.{Limit, TooManyRows}
use Rattle.forms.specs.Csv.{csv_row}
use Rattle.forms.specs.declared.form.Form.{Form}
use Rattle.loader.specs.Records.{row_of_text}
use Rattle.script.specs.Changes.{IsChange, IsChangeLine, IsRuled, Refuses, change_text}
use Rattle.script.specs.Deeds.{Declares, Deed, Loads, Nothing, Publishes, Reports, Shapes, Updates, command_in, deed, deed_of, deletes, puts}
use Rattle.script.specs.Desks.{Executes, IsBehind, LaysOrOverflows, schema_of_desk}
use Rattle.script.specs.Givens.{Givens}
use Rattle.script.specs.Keys.{key_of_text}
use Rattle.script.specs.Output.{IsBlock, Lines, declared, deed_behind, edition}
use Rattle.script.specs.Sessions.{StandsBehind, counted, heard, is_heard, line_limit, next_number, not_heard, refused_unheard}
use Rattle.script.specs.Spelling.{refusal}
use Rattle.script.specs.Statements.{first_deed}
use Rattle.script.specs.Stops.{IsRefusedLine, Tells}
use Rattle.script.specs.ValueLines.{delete_line, publish_line, put_line}
use Rattle.script.specs.declared.fault.Fault.{Fault}
use Rattle.script.specs.declared.fault.Fault.TheVariants.{Line}
use Rattle.script.proofs.RefusalsLemmas.{IsPlain, accepted_by_text, refused_by_text}
use Rattle.script.proofs.SessionsLemmas.{heard_small, length-counted, stands_more, told_after}
use Rattle.script.proofs.StepsLemmas.{executes_refused}
use Rattle.script.proofs.UpdatesLemmas.{none_published}

-- ---- what such a line may say

-- what it does is a change
pub does_change : (line : List ℕ) (t : Option Table) (r : Result Deed Fault) → IsChangeLine line → deed t line ≡ r → IsChange r
does_change line t r changes does = subst IsChange does (changes t)

any_put : (o : Option RowValue) → IsChange (puts o)
any_put None = tt
any_put (Some row) = tt

pub put_changes : (cells : List Cell) → IsChangeLine (put_line cells)
put_changes cells before = of_text before (is_utf8 (put_line cells)) where
  of_text : (t : Option Table) (utf8 : Bool) → IsChange (deed_of t (cond utf8 (command_in (put_line cells)) None))
  of_text None true = tt
  of_text (Some t) true = any_put (row_of_text t (csv_row (map cell_total cells)))
  of_text None false = tt
  of_text (Some t) false = tt

any_delete : (o : Option Cell) → IsChange (deletes o)
any_delete None = tt
any_delete (Some key) = tt

pub delete_changes : (key : Cell) → IsChangeLine (delete_line key)
delete_changes key before = of_text before (is_utf8 (delete_line key)) where
  of_text : (t : Option Table) (utf8 : Bool) → IsChange (deed_of t (cond utf8 (command_in (delete_line key)) None))
  of_text None true = tt
  of_text (Some t) true = any_delete (key_of_text t (literal_of (cell_total key)))
  of_text None false = tt
  of_text (Some t) false = tt

pub publish_changes : IsChangeLine publish_line
publish_changes before = of_text before (is_utf8 publish_line) where
  of_text : (t : Option Table) (utf8 : Bool) → IsChange (deed_of t (cond utf8 (command_in publish_line) None))
  of_text None true = tt
  of_text (Some t) true = tt
  of_text None false = tt
  of_text (Some t) false = tt

-- it is no report and no shape
plain_change : (r : Result Deed Fault) → IsChange r → IsPlain r
plain_change (Ok Nothing) change = tt
plain_change (Ok (Declares t)) change = tt
plain_change (Ok (Loads t listing)) change = tt
plain_change (Ok (Updates more)) change = tt
plain_change (Ok Publishes) change = tt
plain_change (Ok (Reports t query)) change = absurd change
plain_change (Ok Shapes) change = absurd change
plain_change (Err fault) change = tt

-- ---- its step, where it is refused

-- before there is a table it is
pub no_first : (o : Option Table) → IsChange (Ok (first_deed o)) → ⊥
no_first None change = change
no_first (Some t) change = change

pub change_refused : (hash : Cell → ℕ) (givens : Givens) (line : List ℕ) (desk : Option Editions) (rule : Option Refused) → Refuses (deed (schema_of_desk desk) line) rule → (number : ℕ) →
    Executes hash givens line number desk desk (change_text givens.manner.form number rule)
change_refused hash givens line desk None refuses number = absurd refuses
change_refused hash givens line desk (Some rule) refuses number = executes_refused hash givens line number desk (Line rule) (refusal givens.manner.form number (Line rule)) refuses refl

-- ---- a row that is laid over the draft

pub laid : (old new : Editions) (left : Rows) → ChangesDraft old new left → len (keeper.draft new) ≤ keeper.limit old → (form : Form) (number : ℕ) → LaysOrOverflows form old new left number (change_text form number None)
laid old new left changes within form number = inl (record { draft = changes; within = subst (λ (rows : Rows). len rows ≤ keeper.limit old) changes.draft within; nothing = refl })

pub overflown : (old new : Editions) (left : Rows) → new ≡ old → keeper.limit old < len left → (form : Form) (number : ℕ) → LaysOrOverflows form old new left number (change_text form number (Some TooManyRows))
overflown old new left same full form number = inr (record { unchanged = same; full = full; refused = refl })

-- ---- what a session has after it

-- its block tells whether it is refused
told_by_text : (hash : Cell → ℕ) (givens : Givens) (earlier : Lines) (line : List ℕ) (form : Form) (number : ℕ) (rule : Option Refused) → IsPlain (deed_behind givens earlier line) →
    IsBlock hash givens earlier line (change_text form number rule) → Tells (is_some rule) (IsRefusedLine givens earlier line)
told_by_text hash givens earlier line form number None plain is = accepted_by_text hash givens earlier (deed_behind givens earlier line) [] plain is refl
told_by_text hash givens earlier line form number (Some rule) plain is =
    refused_by_text hash givens earlier (deed_behind givens earlier line) number (refusal form number (Line rule)) plain is (record { form = form; fault = Line rule; is = refl })

-- one that is heard
pub ruled_heard : (hash : Cell → ℕ) (givens : Givens) (before : Lines) (line : List ℕ) (desk after : Option Editions) (number : ℕ) (rule : Option Refused) → StandsBehind givens before desk number → is_heard before line ≡ true → IsChangeLine line →
    ((n : ℕ) → Executes hash givens line n desk after (change_text givens.manner.form n rule)) → IsRuled hash givens before line rule
ruled_heard hash givens before line desk after number rule stands h changes executes =
    let form = givens.manner.form in
    let is = (executes (length (counted before) + 1)).block (counted before) stands.behind refl in
    let same : length (counted before) + 1 ≡ next_number before = omega (arith, length-counted before, (heard_small before line h).0) in
    record {
      reply = heard h (subst (λ n. IsBlock hash givens (counted before) line (change_text form n rule)) same is);
      tells = told_after givens before line h (is_some rule)
          (told_by_text hash givens (counted before) line form (length (counted before) + 1) rule (plain_change (deed_behind givens (counted before) line) (changes (declared givens (counted before)))) is);
    }

pub stands_changed : (hash : Cell → ℕ) (givens : Givens) (before : Lines) (line : List ℕ) (desk after : Option Editions) (number : ℕ) (rule : Option Refused) → StandsBehind givens before desk number → is_heard before line ≡ true →
    ((n : ℕ) → Executes hash givens line n desk after (change_text givens.manner.form n rule)) →
    (there : Option Editions) (ls : Lines) (last : ℕ) → there ≡ after → ls ≡ line ∷ before → last ≡ min (number + 1) line_limit → StandsBehind givens ls there last
stands_changed hash givens before line desk after number rule stands h executes there ls last same are is =
    stands_more givens before line desk after number stands h (executes 0).stands there ls last same are is

-- one that is not
pub ruled_unheard : (hash : Cell → ℕ) (givens : Givens) (before : Lines) (line : List ℕ) → is_heard before line ≡ false → IsRuled hash givens before line (Some Limit)
ruled_unheard hash givens before line h = record { reply = not_heard h refl; tells = refused_unheard h }

-- the number of the last edition
pub edition_there : (givens : Givens) (ls : Lines) (desk : Option Editions) (number : ℕ) (k : Editions) → StandsBehind givens ls desk number → desk ≡ Some k → k.last.number ≡ edition givens (counted ls)
edition_there givens ls desk number k stands there = let behind = subst (IsBehind givens (counted ls)) there stands.behind in behind.edition

pub edition_none : (givens : Givens) (ls : Lines) (desk : Option Editions) (number : ℕ) → StandsBehind givens ls desk number → desk ≡ None → 0 ≡ edition givens (counted ls)
edition_none givens ls desk number stands none = sym (none_published givens (counted ls) (subst (IsBehind givens (counted ls)) none stands.behind))
