-- What a run over parts of its own tells, beside the run over all rows.
use Rattle.std.proofs.Common.{◌≡◌, ◌∙◌, ℕ, suc, ◌+◌, ◌/◌, ◌%◌, ◌<◌, ◌≤◌, Bool, true, false, cond, Option, Result, Ok, Err, List, [], ◌∷◌, ◌++◌, drop, length, nat_lt, reverse, refl, slice_index_or, sym, take, ap, ap₂, subst, arith}
use Rattle.std.proofs.Math.Seq.{drop-cons}
use Rattle.std.proofs.lemmas.List.{length-take-le, take-append-drop}
use Rattle.std.proofs.lemmas.Bool.{eq-eqb}
use Rattle.std.proofs.lemmas.Bool.Decides.{nat_tests}
use Rattle.std.proofs.lemmas.List.Elements.{filter-append}
use Rattle.std.specs.List.{AllByRecursion}
use Rattle.std.specs.Prelude.{⊤}
use Rattle.cells.specs.Updates.{Delete, Put, Update, key_of, puts, rows, touches}
use Rattle.cells.specs.Values.{RowValue, Table}
use Rattle.cells.specs.declared.cell.Cell.{Cell}
use Rattle.loader.specs.Shards.{taken, takes, whole}
use Rattle.script.specs.Deeds.{Declares, Deed, Loads, Nothing, Publishes, Reports, Shapes, Updates, deed}
use Rattle.script.specs.Givens.{Givens}
use Rattle.script.specs.Listings.{rows_loaded}
use Rattle.script.specs.Output.{Lines, added, declared, declared_by, deed_behind, is_overfull, is_publish, published, updates, within, within_loaded}
use Rattle.script.specs.Own.{HasItsRows, HasOwn, HaveOwn, IsBadLoad, IsRefusedAt, LoadsBadly, NoneRefused, PutNoRows, Puts, PutsNoRow}
use Rattle.script.specs.Telling.{IsLineOf, share}
use Rattle.script.specs.Told.{AreTold, FitAll, Fits, FitsLoaded, IsTold, IsToldReport, told_load}
use Rattle.script.specs.Walks.{GoesOver, IsDoing, PutNothing, StandsBehind}
use Rattle.script.specs.declared.fault.Fault.{Fault}
use Rattle.script.specs.declared.told.Told.{Told}
use Rattle.script.specs.declared.told.Told.TheVariants as told
use Rattle.script.specs.declared.walk.Doing.{Doing}
use Rattle.script.specs.declared.walk.Doing.TheVariants as doing
use Rattle.script.specs.declared.walk.Walk.{Walk}
use Rattle.script.proofs.BlocksLemmas.{reversed_onto}
use Rattle.script.proofs.RetellingLemmas.{all_taken}
use Rattle.script.proofs.StepsLemmas.{published_more, updates_more}
use Rattle.script.proofs.TellingLemmas.{share_puts, stays, taken_rows}
use Rattle.script.proofs.WalksLemmas.{does_behind, stands_more}

-- ---- updates of the own parts, and those of the run over all rows

module _ (takes : Cell → Bool) where
  -- the row that an update puts is taken
  abbrev IsOwn : Update → Type 0
  IsOwn (Put row) = takes row.key ≡ true
  IsOwn (Delete key) = ⊤

  -- the rows of the first updates are those of the second ones that are taken
  record Match (some all : List Update) : Type 0 where
    pub own : AllByRecursion IsOwn some
    pub same : share takes some ≡ share takes all

  own_append : (us vs : List Update) → AllByRecursion IsOwn us → AllByRecursion IsOwn vs → AllByRecursion IsOwn (us ++ vs)
  own_append [] vs first second = second
  own_append (u ∷ us) vs first second = (first.0, own_append us vs first.1 second)

  match_none : Match [] []
  match_none = record { own = tt; same = refl }

  match_more : (some all more others : List Update) → Match some all → Match more others → Match (some ++ more) (all ++ others)
  match_more some all more others first second = record {
    own = own_append some more first.own second.own;
    same = filter-append (λ u. takes (key_of u)) some more ∙ ap₂ (λ (us vs : List Update). us ++ vs) first.same second.same ∙ sym (filter-append (λ u. takes (key_of u)) all others);
  }

  own_rows : (us : List Update) → AllByRecursion IsOwn us → taken takes (rows us) ≡ rows us
  own_rows [] own = refl
  own_rows (Put r ∷ us) own = stays takes (touches r.key us) r (rows us) (rows us) own.0 (own_rows us own.1)
  own_rows (Delete key ∷ us) own = own_rows us own.1

  match_rows : (some all : List Update) → Match some all → rows some ≡ taken takes (rows all)
  match_rows some all it = sym (own_rows some it.own) ∙ taken_rows takes some ∙ ap rows it.same ∙ sym (taken_rows takes all)

  -- no more rows
  taken_few : (rs : List RowValue) → length (taken takes rs) ≤ length rs
  taken_few [] = omega arith
  taken_few (r ∷ rs) = few_step (takes r.key) r rs (taken_few rs) where
    few_step : (here : Bool) (r : RowValue) (rs : List RowValue) → length (taken takes rs) ≤ length rs → length (cond here (r ∷ taken takes rs) (taken takes rs)) ≤ length (r ∷ rs)
    few_step true r rs few = omega (arith, few)
    few_step false r rs few = omega (arith, few)

  match_room : (limit : ℕ) (some all : List Update) → Match some all → nat_lt limit (length (rows all)) ≡ false → nat_lt limit (length (rows some)) ≡ false
  match_room limit some all it room =
      ap (λ (rs : List RowValue). nat_lt limit (length rs)) (match_rows some all it) ∙ smaller limit (length (taken takes (rows all))) (length (rows all)) (taken_few (rows all)) room where
        smaller : (limit m n : ℕ) → m ≤ n → nat_lt limit n ≡ false → nat_lt limit m ≡ false
        smaller limit m n less room = grind (arith, nat_tests)

  -- deletes, and the rows of a load
  match_deletes : (more : List Update) → PutNothing more → Match more more
  match_deletes more none = record { own = deletes more none; same = refl } where
    deletes : (us : List Update) → PutNothing us → AllByRecursion IsOwn us
    deletes [] none = tt
    deletes (Put row ∷ us) none = absurd none
    deletes (Delete key ∷ us) none = (tt, deletes us none)

  taken_own : (rs : List RowValue) → AllByRecursion IsOwn (puts (taken takes rs))
  taken_own [] = tt
  taken_own (r ∷ rs) = own_step (takes r.key) r rs refl (taken_own rs) where
    own_step : (here : Bool) (r : RowValue) (rs : List RowValue) → takes r.key ≡ here → AllByRecursion IsOwn (puts (taken takes rs)) → AllByRecursion IsOwn (puts (cond here (r ∷ taken takes rs) (taken takes rs)))
    own_step true r rs is own = (is, own)
    own_step false r rs is own = own

  taken_twice : (rs : List RowValue) → taken takes (taken takes rs) ≡ taken takes rs
  taken_twice [] = refl
  taken_twice (r ∷ rs) = twice_step (takes r.key) r rs refl (taken_twice rs) where
    twice_step : (here : Bool) (r : RowValue) (rs : List RowValue) → takes r.key ≡ here → taken takes (taken takes rs) ≡ taken takes rs →
        taken takes (cond here (r ∷ taken takes rs) (taken takes rs)) ≡ cond here (r ∷ taken takes rs) (taken takes rs)
    twice_step true r rs is same = ap (λ b. cond b (r ∷ taken takes (taken takes rs)) (taken takes (taken takes rs))) is ∙ ap (λ (l : List RowValue). r ∷ l) same
    twice_step false r rs is same = same

  match_puts : (rs : List RowValue) → Match (puts (taken takes rs)) (puts rs)
  match_puts rs = record {
    own = taken_own rs;
    same = share_puts takes (taken takes rs) ∙ ap puts (taken_twice rs) ∙ sym (share_puts takes rs);
  }

  match_within : (a b : Bool) (us vs : List Update) → a ≡ false → b ≡ false → Match us vs → Match (cond a [] us) (cond b [] vs)
  match_within a b us vs is is_too it = subst (λ x. Match (cond x [] us) (cond b [] vs)) (sym is) (subst (λ x. Match us (cond x [] vs)) (sym is_too) it)

-- ---- the lines of a run over own parts

-- the one shard of one takes all keys
pub takes_whole : (hash_of : Cell → ℕ) (key : Cell) → takes hash_of whole key ≡ true
takes_whole hash_of key = eq-eqb (hash_of key / 4294967296 % 1 + 1) 1 (omega arith)

module _ (givens : Givens) (takes : Cell → Bool) (parts : List (List ℕ)) where
  -- what a run over these parts is given
  abbrev own : Givens
  own = record { manner = givens.manner; limit = givens.limit; parts = parts }

  same_declared : (before : Lines) → declared own before ≡ declared givens before
  same_declared [] = refl
  same_declared (line ∷ before) = ap (λ d. declared_by d (deed d line)) (same_declared before)

  same_deed : (before : Lines) (line : List ℕ) → deed_behind own before line ≡ deed_behind givens before line
  same_deed before line = ap (λ d. deed d line) (same_declared before)

  -- behind these lines the run has the rows of the run over all rows that are taken
  record Beside (before : Lines) : Type 0 where
    pub updates : Match takes (updates own before) (updates givens before)
    pub published : published own before ≡ taken takes (published givens before)

  abbrev Adds : List Update → List Update → Result Deed Fault → Type 0
  Adds us vs does = Fits own us does × Match takes (added own us does) (added givens vs does)

  adds_updates : (us vs more : List Update) → Match takes us vs → PutNothing more → Fits givens vs (Ok (Updates more)) → Adds us vs (Ok (Updates more))
  adds_updates us vs more it none fits =
      let deletes = match_deletes takes more none in
      let room : is_overfull givens.limit us more ≡ false = match_room takes givens.limit (us ++ more) (vs ++ more) (match_more takes us vs more more it deletes) fits in
      (room, match_within takes (is_overfull givens.limit us more) (is_overfull givens.limit vs more) more more room fits deletes)

  adds_rows : (us vs : List Update) (t : Table) (listing : List ℕ) → Match takes us vs → HasItsRows givens takes parts t listing → Fits givens vs (Ok (Loads t listing)) → Adds us vs (Ok (Loads t listing))
  adds_rows us vs t listing it has fits =
      let ours = puts (taken takes has.rs) in
      let theirs = puts has.rs in
      let both = match_puts takes has.rs in
      let fit : is_overfull givens.limit vs theirs ≡ false = subst (FitsLoaded givens.limit vs) has.all fits in
      let room : is_overfull givens.limit us ours ≡ false = match_room takes givens.limit (us ++ ours) (vs ++ theirs) (match_more takes us vs ours theirs it both) fit in
      let put : Match takes (within givens.limit us ours) (within givens.limit vs theirs) =
      match_within takes (is_overfull givens.limit us ours) (is_overfull givens.limit vs theirs) ours theirs room fit both in (
        subst (FitsLoaded givens.limit us) (sym has.own) room,
        subst (λ r. Match takes (within_loaded givens.limit us r) (within_loaded givens.limit vs (rows_loaded t givens.parts listing))) (sym has.own)
            (subst (λ r. Match takes (within givens.limit us ours) (within_loaded givens.limit vs r)) (sym has.all) put),
      )

  -- what a line adds
  adds : (us vs : List Update) (does : Result Deed Fault) → Match takes us vs → HasOwn givens takes parts does → PutsNoRow does → Fits givens vs does → Adds us vs does
  adds us vs (Ok (Updates more)) it has none fits = adds_updates us vs more it none fits
  adds us vs (Ok (Loads t listing)) it has none fits = adds_rows us vs t listing it has fits
  adds us vs (Ok Nothing) it has none fits = (tt, match_none takes)
  adds us vs (Ok (Declares t)) it has none fits = (tt, match_none takes)
  adds us vs (Ok Publishes) it has none fits = (tt, match_none takes)
  adds us vs (Ok (Reports t query)) it has none fits = (tt, match_none takes)
  adds us vs (Ok Shapes) it has none fits = (tt, match_none takes)
  adds us vs (Err fault) it has none fits = (tt, match_none takes)

  published_by : (before : Lines) → Beside before → (b : Bool) →
      cond b (rows (updates own before)) (published own before) ≡ taken takes (cond b (rows (updates givens before)) (published givens before))
  published_by before it true = match_rows takes (updates own before) (updates givens before) it.updates
  published_by before it false = it.published

  -- one line more
  beside_more : (before : Lines) (line : List ℕ) → Beside before → HasOwn givens takes parts (deed_behind givens before line) → PutsNoRow (deed_behind givens before line) →
      Fits givens (updates givens before) (deed_behind givens before line) → Fits own (updates own before) (deed_behind own before line) × Beside (line ∷ before)
  beside_more before line it has none fits =
      let does = deed_behind givens before line in
      let same = same_deed before line in
      let more = adds (updates own before) (updates givens before) does it.updates has none fits in (
        subst (Fits own (updates own before)) (sym same) more.0,
        record {
          updates = subst (λ (us : List Update). Match takes us (updates givens (line ∷ before))) (sym (updates_more own before line does same))
              (match_more takes (updates own before) (updates givens before) (added own (updates own before) does) (added givens (updates givens before) does) it.updates more.1);
          published = published_more own before line does same ∙ published_by before it (is_publish does);
        },
      )

  -- what is told of a line
  told_so : (all : Cell → Bool) → ((key : Cell) → all key ≡ true) → (before : Lines) (does : Result Deed Fault) (it : Told) → Beside before → HasOwn givens takes parts does →
      IsTold own all before does it → IsTold givens takes before does it
  told_so all every before (Ok (Loads t listing)) it beside has is = is ∙ ap told_load has.own ∙ sym (ap told_load has.all)
  told_so all every before (Ok (Reports t query)) it beside has is =
      subst (λ (rs : List RowValue). IsToldReport t rs query it) (all_taken all every (published own before) ∙ beside.published) is
  told_so all every before (Ok Nothing) it beside has is = is
  told_so all every before (Ok (Declares t)) it beside has is = is
  told_so all every before (Ok (Updates more)) it beside has is = is
  told_so all every before (Ok Publishes) it beside has is = is
  told_so all every before (Ok Shapes) it beside has is = is
  told_so all every before (Err fault) it beside has is = is

  all_told : (all : Cell → Bool) → ((key : Cell) → all key ≡ true) → (before left : Lines) (its : List Told) → Beside before → HaveOwn givens takes parts before left → PutNoRows givens before left →
      FitAll givens before left → AreTold own all before left its → AreTold givens takes before left its
  all_told all every before [] [] beside have none fit are = tt
  all_told all every before [] (it ∷ its) beside have none fit are = absurd are
  all_told all every before (line ∷ left) [] beside have none fit are = absurd are
  all_told all every before (line ∷ left) (it ∷ its) beside have none fit are =
      let more = beside_more before line beside have.0 none.0 fit.0 in (
        told_so all every before (deed_behind givens before line) it beside have.0 (subst (λ d. IsTold own all before d it) (same_deed before line) are.0),
        all_told all every (line ∷ before) left its more.1 have.1 none.1 fit.1 are.1,
      )

  all_fit : (before left : Lines) → Beside before → HaveOwn givens takes parts before left → PutNoRows givens before left → FitAll givens before left → FitAll own before left
  all_fit before [] beside have none fit = tt
  all_fit before (line ∷ left) beside have none fit =
      let more = beside_more before line beside have.0 none.0 fit.0 in
      (more.0, all_fit (line ∷ before) left more.1 have.1 none.1 fit.1)

  -- what a run over these parts tells is told of the rows that are taken
  pub told_beside : (all : Cell → Bool) → ((key : Cell) → all key ≡ true) → (script : Lines) (its : List Told) →
      ((other : Givens) → other.parts ≡ parts → FitAll other [] script → AreTold other all [] script its) →
      HaveOwn givens takes parts [] script → PutNoRows givens [] script → FitAll givens [] script → AreTold givens takes [] script its
  told_beside all every script its tells have none fit =
      let start : Beside [] = record { updates = match_none takes; published = refl } in
      all_told all every [] script its start have none fit (tells own refl (all_fit [] script start have none fit))

-- ---- the first line that puts a row

-- so far no line does
pub record NoPutYet (before rest script : Lines) (walk : Walk) : Type 0 where
  pub stands : StandsBehind before walk
  pub all : script ≡ reverse before ++ rest
  pub none : (givens : Givens) → PutNoRows givens before rest → PutNoRows givens [] script
  pub count : length before + length rest ≡ length script

pub no_put_start : (script : Lines) (walk : Walk) → StandsBehind [] walk → NoPutYet [] script script walk
no_put_start script walk stands = record { stands = stands; all = refl; none = λ givens none. none; count = omega arith }

puts_no_row : (declared : Option Table) (does : Result Deed Fault) (it : Doing) → (it ≡ doing.Puts → ⊥) → IsDoing declared does it → PutsNoRow does
puts_no_row declared (Ok (Updates more)) doing.Quiet other is = is
puts_no_row declared (Ok (Updates more)) doing.Puts other is = absurd (other refl)
puts_no_row declared (Ok (Updates more)) doing.Loads other is = absurd is
puts_no_row declared (Ok (Updates more)) (doing.Reports query) other is = absurd (let bad = is.is in cc)
puts_no_row declared (Ok (Updates more)) doing.Shape other is = absurd (cc)
puts_no_row declared (Ok (Updates more)) (doing.Refused fault) other is = absurd (cc)
puts_no_row declared (Ok Nothing) it other is = tt
puts_no_row declared (Ok (Declares t)) it other is = tt
puts_no_row declared (Ok (Loads t listing)) it other is = tt
puts_no_row declared (Ok Publishes) it other is = tt
puts_no_row declared (Ok (Reports t query)) it other is = tt
puts_no_row declared (Ok Shapes) it other is = tt
puts_no_row declared (Err fault) it other is = tt

module _ (before left script : Lines) (walk : Walk) (so_far : NoPutYet before left script walk) where
  -- nor does one more
  pub no_put_more : (line : List ℕ) (rest : Lines) (new : Walk) (it : Doing) → left ≡ line ∷ rest → GoesOver line walk new it → (it ≡ doing.Puts → ⊥) → NoPutYet (line ∷ before) rest script new
  no_put_more line rest new it is goes other = record {
    stands = stands_more before line walk new it so_far.stands goes;
    all = so_far.all ∙ ap (λ (ls : Lines). reverse before ++ ls) is ∙ reversed_onto line before rest;
    none = λ givens none. so_far.none givens (subst (PutNoRows givens before) (sym is)
        (puts_no_row new.schema (deed_behind givens before line) it other (does_behind givens before line walk new it so_far.stands goes), none));
    count = omega (arith, so_far.count, ap length is);
  }

  -- one more does
  pub puts_first : (line : List ℕ) (rest : Lines) (new : Walk) → left ≡ line ∷ rest → GoesOver line walk new doing.Puts → IsLineOf Puts script new.number
  puts_first line rest new is goes = record {
    before = before;
    line = line;
    later = rest;
    joined = so_far.all ∙ ap (λ (ls : Lines). reverse before ++ ls) is;
    place = goes.counts ∙ ap (λ n. n + 1) so_far.stands.same_number;
    is = λ givens. does_behind givens before line walk new doing.Puts so_far.stands goes;
  }

  -- no line is left
  pub no_put_all : left ≡ [] → (givens : Givens) → PutNoRows givens [] script
  no_put_all is givens = so_far.none givens (subst (PutNoRows givens before) (sym is) tt)

-- ---- the first line of which a refusal is told

pub record NoneYet (all : List Told) (index line : ℕ) : Type 0 where
  pub none : NoneRefused (drop index all) → NoneRefused all
  pub place : line ≡ index

quiet_step : (it : Told) (rest : List Told) → ((fault : Fault) → it ≡ told.Refused fault → ⊥) → NoneRefused rest → NoneRefused (it ∷ rest)
quiet_step told.Nothing rest other none = none
quiet_step (told.Refused fault) rest other none = absurd (other fault refl)
quiet_step (told.Kept sets) rest other none = none

from_here : (all : List Told) (index : ℕ) (it : Told) → index < length all → it ≡ slice_index_or all index it → drop index all ≡ it ∷ drop (index + 1) all
from_here all index it less is =
    let next : suc index ≡ index + 1 = omega arith in
    drop-cons all index it less ∙ ap₂ (λ (x : Told) (xs : List Told). x ∷ xs) (sym is) (ap (λ (n : ℕ). drop n all) next)

pub none_more : (all : List Told) (index line : ℕ) (it : Told) → NoneYet all index line → index < length all → it ≡ slice_index_or all index it → ((fault : Fault) → it ≡ told.Refused fault → ⊥) →
    NoneYet all (index + 1) (line + 1)
none_more all index line it so_far less is other = record {
  none = λ none. so_far.none (subst NoneRefused (sym (from_here all index it less is)) (quiet_step it (drop (index + 1) all) other none));
  place = ap (λ n. n + 1) so_far.place;
}

pub refused_here : (all : List Told) (index line : ℕ) (it : Told) (fault : Fault) → NoneYet all index line → index < length all → it ≡ slice_index_or all index it → it ≡ told.Refused fault →
    IsRefusedAt all (line + 1) fault
refused_here all index line it fault so_far less here is = record {
  before = take index all;
  later = drop (index + 1) all;
  joined = sym (take-append-drop index all) ∙ ap (λ (l : List Told). take index all ++ l) (from_here all index it less here ∙ ap (λ (x : Told). x ∷ drop (index + 1) all) is);
  place = omega (arith, so_far.place, length-take-le index all (omega (arith, less)));
}

-- ---- why such a run ends early

same_fault : (fault other : Fault) → told.Refused fault ≡ told.Refused other → fault ≡ other
same_fault fault other is = cc

load_refused : (t : Table) (parts : List (List ℕ)) (listing : List ℕ) (fault : Fault) (held : Result (List RowValue) Fault) → rows_loaded t parts listing ≡ held → told.Refused fault ≡ told_load held →
    rows_loaded t parts listing ≡ Err fault
load_refused t parts listing fault (Ok rs) is refuses = absurd (cc)
load_refused t parts listing fault (Err other) is refuses = is ∙ ap Err (sym (same_fault fault other refuses))

bad_load : (givens : Givens) (all : Cell → Bool) (before : Lines) (does : Result Deed Fault) (fault : Fault) → IsTold givens all before does (told.Refused fault) → IsBadLoad givens.parts fault does
bad_load givens all before (Ok (Loads t listing)) fault is = record { table = t; listing = listing; is = refl; refused = load_refused t givens.parts listing fault (rows_loaded t givens.parts listing) refl is }
bad_load givens all before (Ok (Reports t query)) fault is = absurd is
bad_load givens all before (Ok Nothing) fault is = absurd (cc)
bad_load givens all before (Ok (Declares t)) fault is = absurd (cc)
bad_load givens all before (Ok (Updates more)) fault is = absurd (cc)
bad_load givens all before (Ok Publishes) fault is = absurd (cc)
bad_load givens all before (Ok Shapes) fault is = absurd is
bad_load givens all before (Err other) fault is = absurd (cc)

refused_line : (givens : Givens) (all : Cell → Bool) (before left script : Lines) (its later : List Told) (fault : Fault) (n : ℕ) → script ≡ reverse before ++ left → n ≡ length before + length its + 1 →
    AreTold givens all before left (its ++ told.Refused fault ∷ later) → IsLineOf (λ behind line. IsBadLoad givens.parts fault (deed_behind givens behind line)) script n
refused_line givens all before [] script [] later fault n joined place are = absurd are
refused_line givens all before [] script (it ∷ its) later fault n joined place are = absurd are
refused_line givens all before (line ∷ left) script [] later fault n joined place are = record {
  before = before;
  line = line;
  later = left;
  joined = joined;
  place = omega (arith, place);
  is = bad_load givens all before (deed_behind givens before line) fault are.0;
}
refused_line givens all before (line ∷ left) script (it ∷ its) later fault n joined place are =
    refused_line givens all (line ∷ before) left script its later fault n (joined ∙ reversed_onto line before left) (omega (arith, place)) are.1

-- of a load that is told to be refused
pub loads_badly : (all : Cell → Bool) (parts : List (List ℕ)) (script : Lines) (its : List Told) (number : ℕ) (fault : Fault) →
    ((givens : Givens) → givens.parts ≡ parts → FitAll givens [] script → AreTold givens all [] script its) → IsRefusedAt its number fault → LoadsBadly parts script number fault
loads_badly all parts script its number fault tells at = λ givens same fit.
    subst (λ (ps : List (List ℕ)). IsLineOf (λ behind line. IsBadLoad ps fault (deed_behind givens behind line)) script number) same
    (refused_line givens all [] script script at.before at.later fault number refl (omega (arith, at.place))
    (subst (AreTold givens all [] script) at.joined (tells givens same fit)))
