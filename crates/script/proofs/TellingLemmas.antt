-- The shard's part of a table after one more line, and what is told of the lines.
use Rattle.std.proofs.Common.{◌≡◌, ◌∙◌, ◌||◌, ℕ, ◌+◌, ◌<◌, ◌≤◌, Bool, true, false, cond, Option, Some, None, Result, Ok, Err, List, [], ◌∷◌, ◌++◌, length, reverse, refl, sym, ap, ap₂, subst, append_assoc, arith}
use Rattle.std.proofs.lemmas.List.{append-nil}
use Rattle.std.proofs.lemmas.List.Elements.{filter-append}
use Rattle.std.specs.FinMap.{insert, len, remove}
use Rattle.std.specs.List.{AllByRecursion}
use Rattle.std.specs.Prelude.{IfOk, OnOk}
use Rattle.cells.specs.CellOrder.{cell_cmp, cell_eq}
use Rattle.cells.specs.Laws.{len_rows, table_rows_delete, table_rows_put}
use Rattle.cells.specs.SameKeys.{same_cells}
use Rattle.cells.specs.Tables.{Rows, laid_over, table}
use Rattle.cells.specs.Updates.{AreLeft, Delete, Put, Update, key_of, puts, rows, touches}
use Rattle.cells.specs.Values.{RowValue, Table}
use Rattle.cells.specs.declared.cell.Cell.{Cell}
use Rattle.board.specs.Editions.{Begins, ChangesDraft, Editions}
use Rattle.board.specs.Editions as keeper
use Rattle.loader.specs.Loads.{AreTaken}
use Rattle.loader.specs.Parts.{FaultyRecord}
use Rattle.loader.specs.Shards.{taken}
use Rattle.trie.specs.Maps.{map_of}
use Rattle.script.specs.Deeds.{Declares, Deed, Loads, Nothing, Publishes, Reports, deed}
use Rattle.script.specs.Desks.{schema_of_desk}
use Rattle.script.specs.Givens.{Givens}
use Rattle.script.specs.Limits.{script_limit}
use Rattle.script.specs.Listings.{rows_held, rows_loaded}
use Rattle.script.specs.Output.{Lines, added, declared, declared_by, deed_behind, is_publish, published, updates, within_loaded}
use Rattle.script.specs.Telling.{AsksForShape, EndsBy, EndsLine, EndsOver, EndsWithin, FitBehind, HasLimit, IsBlank, IsFull, IsLineOf, IsShare, IsShareBehind, LacksRoom, LaysShare, LaysSilently, LoadsShare, Overfills, TellsLine, TellsReport, asked, edition_of_desk, puts_of, share}
use Rattle.script.specs.Told.{AreTold, FitAll, Fits, FitsLoaded, IsTold, told_load}
use Rattle.script.specs.declared.fault.Fault.{Fault}
use Rattle.script.specs.declared.telling.Untold.{Untold}
use Rattle.script.specs.declared.telling.Untold.TheVariants.{OutOfMemory, Shape, TooManyRows, TooMuch}
use Rattle.script.specs.declared.told.Told.{Told}
use Rattle.script.specs.declared.told.Told.TheVariants as told
use Rattle.script.proofs.BlocksLemmas.{reversed_onto}
use Rattle.script.proofs.StepsLemmas.{declared_more, left_published, published_more, updates_more}
use Rattle.script.proofs.UpdatesLemmas.{LieOver}

-- ---- the updates of keys that are taken

module _ (takes : Cell → Bool) where
  -- an update of a key that is not taken is of another key than one that is
  other : (key : Cell) (u : Update) (touched same : Bool) → takes key ≡ true → takes (key_of u) ≡ false → cell_eq (key_of u) key ≡ same → touched ≡ (same || touched)
  other key u touched false is not_taken e = refl
  other key u touched true is not_taken e = absurd (let bad : false ≡ true = sym not_taken ∙ ap takes (same_cells (key_of u) key e) ∙ is in cc)

  touches_step : (key : Cell) (u : Update) (us : List Update) (here : Bool) → takes key ≡ true → takes (key_of u) ≡ here → touches key (share takes us) ≡ touches key us →
      touches key (cond here (u ∷ share takes us) (share takes us)) ≡ (cell_eq (key_of u) key || touches key us)
  touches_step key u us true is e same = ap (λ b. cell_eq (key_of u) key || b) same
  touches_step key u us false is e same = same ∙ other key u (touches key us) (cell_eq (key_of u) key) is e refl

  -- the others touch no key that is taken
  touches_share : (key : Cell) → takes key ≡ true → (us : List Update) → touches key (share takes us) ≡ touches key us
  touches_share key is [] = refl
  touches_share key is (u ∷ us) = touches_step key u us (takes (key_of u)) is refl (touches_share key is us)

  deleted : (here : Bool) (u : Cell) (us : List Update) → rows us ≡ rows (cond here (Delete u ∷ us) us)
  deleted true u us = refl
  deleted false u us = refl

  -- a row that is not taken is left out
  left_out : (touched : Bool) (r : RowValue) (rs left : List RowValue) → takes r.key ≡ false → taken takes rs ≡ left → taken takes (cond touched rs (r ∷ rs)) ≡ left
  left_out true r rs left e same = same
  left_out false r rs left e same = ap (λ b. cond b (r ∷ taken takes rs) (taken takes rs)) e ∙ same

  -- one that is taken stays where no later update has its key
  pub stays : (touched : Bool) (r : RowValue) (rs left : List RowValue) → takes r.key ≡ true → taken takes rs ≡ left → taken takes (cond touched rs (r ∷ rs)) ≡ cond touched left (r ∷ left)
  stays true r rs left e same = same
  stays false r rs left e same = ap (λ b. cond b (r ∷ taken takes rs) (taken takes rs)) e ∙ ap (λ (l : List RowValue). r ∷ l) same

  put_step : (r : RowValue) (us : List Update) (here : Bool) → takes r.key ≡ here → taken takes (rows us) ≡ rows (share takes us) →
      taken takes (cond (touches r.key us) (rows us) (r ∷ rows us)) ≡ rows (cond here (Put r ∷ share takes us) (share takes us))
  put_step r us true e same =
      stays (touches r.key us) r (rows us) (rows (share takes us)) e same
      ∙ ap (λ b. cond b (rows (share takes us)) (r ∷ rows (share takes us))) (sym (touches_share r.key e us))
  put_step r us false e same = left_out (touches r.key us) r (rows us) (rows (share takes us)) e same

  -- the rows that are taken are those that the updates of these keys leave
  pub taken_rows : (us : List Update) → taken takes (rows us) ≡ rows (share takes us)
  taken_rows [] = refl
  taken_rows (Put r ∷ us) = put_step r us (takes r.key) refl (taken_rows us)
  taken_rows (Delete key ∷ us) = taken_rows us ∙ deleted (takes key) key (share takes us)

  put_taken : (here : Bool) (r : RowValue) (rs : List RowValue) → cond here (Put r ∷ puts rs) (puts rs) ≡ puts (cond here (r ∷ rs) rs)
  put_taken true r rs = refl
  put_taken false r rs = refl

  -- the puts of rows that are taken
  pub share_puts : (rs : List RowValue) → share takes (puts rs) ≡ puts (taken takes rs)
  share_puts [] = refl
  share_puts (r ∷ rs) = ap (λ us. cond (takes r.key) (Put r ∷ us) us) (share_puts rs) ∙ put_taken (takes r.key) r (taken takes rs)

  -- some updates left those rows of an edition that are taken
  left_taken : (givens : Givens) (before : Lines) → AreLeft (taken takes (published givens before))
  left_taken givens before = let left = left_published givens before in record {
    updates = share takes left.updates;
    is = ap (taken takes) left.is ∙ taken_rows left.updates;
  }

  -- ---- what is laid over a draft

  -- an update whose key is taken
  pub lays_one : (old new : Editions) (u : Update) (left : Rows) → takes (key_of u) ≡ true → ((us : List Update) → keeper.draft old ≡ table (rows us) → left ≡ table (rows (us ++ u ∷ []))) →
      ChangesDraft old new left → LaysShare takes old new (u ∷ [])
  lays_one old new u left is leaves changes = record {
    draft = λ us e. changes.draft ∙ leaves us e ∙ ap (λ (more : List Update). table (rows (us ++ more))) (sym (ap (λ b. cond b (u ∷ []) []) is));
    edition = changes.edition;
    published = changes.published;
    schema = changes.schema;
    limit = changes.limit;
  }

  -- updates of which none has a key that is taken
  pub lays_none : (k : Editions) (more : List Update) → share takes more ≡ [] → LaysShare takes k k more
  lays_none k more none = record {
    draft = λ us e. e ∙ ap (λ (all : List Update). table (rows all)) (sym (ap (λ (m : List Update). us ++ m) none ∙ append-nil us));
    edition = refl;
    published = refl;
    schema = refl;
    limit = refl;
  }

  pub lays_put : (old new : Editions) (row : RowValue) → takes row.key ≡ true → ChangesDraft old new (insert (keeper.draft old) row.key row) → LaysShare takes old new (Put row ∷ [])
  lays_put old new row is changes =
      lays_one old new (Put row) (insert (keeper.draft old) row.key row) is (λ us e. ap (λ (d : Rows). insert d row.key row) e ∙ sym (table_rows_put us row)) changes

  pub lays_delete : (old new : Editions) (key : Cell) → takes key ≡ true → ChangesDraft old new (remove (keeper.draft old) key) → LaysShare takes old new (Delete key ∷ [])
  lays_delete old new key is changes =
      lays_one old new (Delete key) (remove (keeper.draft old) key) is (λ us e. ap (λ (d : Rows). remove d key) e ∙ sym (table_rows_delete us key)) changes

  pub lays_loaded : LieOver → (old new : Editions) (rs : List RowValue) (held : Rows) → held ≡ table (rows (puts (taken takes rs))) → ChangesDraft old new (laid_over held (keeper.draft old)) →
      LaysShare takes old new (puts rs)
  lays_loaded law old new rs held is changes = record {
    draft = λ us e.
        changes.draft ∙ ap₂ laid_over is e ∙ sym (law us (taken takes rs)) ∙ ap (λ (more : List Update). table (rows (us ++ more))) (sym (share_puts rs));
    edition = changes.edition;
    published = changes.published;
    schema = changes.schema;
    limit = changes.limit;
  }

-- ---- what the steps of a line answer

module _ (takes : Cell → Bool) where
  pub puts_silently : (old new : Editions) (row : RowValue) → true ≡ takes row.key → ChangesDraft old new (insert (keeper.draft old) row.key row) → LaysSilently takes old new (Put row ∷ []) told.Nothing
  puts_silently old new row is changes = record { lays = lays_put takes old new row (sym is) changes; nothing = refl }

  pub deletes_silently : (old new : Editions) (key : Cell) → true ≡ takes key → ChangesDraft old new (remove (keeper.draft old) key) → LaysSilently takes old new (Delete key ∷ []) told.Nothing
  deletes_silently old new key is changes = record { lays = lays_delete takes old new key (sym is) changes; nothing = refl }

  -- the rows of parts
  pub loads_taken : LieOver →
      (old new : Editions) (said : Result (List RowValue) FaultyRecord) (held : List (Cell × RowValue)) (it : Result Told Untold) → AreTaken takes said held →
      OnOk it (ChangesDraft old new (laid_over (map_of cell_cmp held) (keeper.draft old))) → IfOk it (λ t. t ≡ told.Nothing) → IfOk it (LoadsShare takes old new (rows_held said))
  loads_taken law old new said held (Ok it) taken changes nothing =
      subst (λ s. LoadsShare takes old new (rows_held s) it) (sym taken.is) (record { lays = lays_loaded takes law old new taken.rs (map_of cell_cmp held) taken.map changes; nothing = nothing })
  loads_taken law old new said held (Err e) taken changes nothing = tt

-- ---- how a run ends early

module _ (takes : Cell → Bool) where
  -- there is no room for these rows, which some updates leave
  full_by : (k : Editions) (more : List Update) (left : Rows) → ((us : List Update) → keeper.draft k ≡ table (rows us) → left ≡ table (rows (us ++ share takes more))) → keeper.limit k < len left → IsFull takes k more
  full_by k more left leaves full = λ us e. subst (λ n. keeper.limit k < n) (ap (λ (d : Rows). len d) (leaves us e) ∙ len_rows (us ++ share takes more)) full

  pub full_put : (k : Editions) (row : RowValue) → true ≡ takes row.key → keeper.limit k < len (insert (keeper.draft k) row.key row) → IsFull takes k (Put row ∷ [])
  full_put k row is full = full_by k (Put row ∷ []) (insert (keeper.draft k) row.key row)
      (λ us e. ap (λ (d : Rows). insert d row.key row) e ∙ sym (table_rows_put us row)
      ∙ ap (λ (more : List Update). table (rows (us ++ more))) (ap (λ b. cond b (Put row ∷ []) []) is)) full

  -- the same of loaded rows
  pub ends_loaded : LieOver →
      (k : Editions) (number : ℕ) (said : Result (List RowValue) FaultyRecord) (held : List (Cell × RowValue)) (e : Untold) → AreTaken takes said held →
      EndsOver k number (laid_over (map_of cell_cmp held) (keeper.draft k)) e → EndsBy takes k number (puts_of (rows_held said)) e
  ends_loaded law k number said held OutOfMemory loaded ends = tt
  ends_loaded law k number said held TooMuch loaded ends = absurd ends
  ends_loaded law k number said held (Shape line) loaded ends = absurd ends
  ends_loaded law k number said held (TooManyRows line) loaded ends = (
    ends.0,
    subst (λ s. IsFull takes k (puts_of (rows_held s))) (sym loaded.is) (full_by k (puts loaded.rs) (laid_over (map_of cell_cmp held) (keeper.draft k))
        (λ us e. ap₂ laid_over loaded.map e ∙ sym (law us (taken takes loaded.rs)) ∙ ap (λ (more : List Update). table (rows (us ++ more))) (sym (share_puts takes loaded.rs))) ends.1),
  )

-- ---- a line that adds updates

-- what is so of a line that adds these updates where there is room for them, and of which this is told
record Adds (takes : Cell → Bool) (parts : List (List ℕ)) (r : Result Deed Fault) (more : List Update) (it : Told) : Type 0 where
  declares : (earlier : Option Table) → declared_by earlier r ≡ earlier
  adds : (givens : Givens) (us : List Update) → givens.parts ≡ parts → Fits givens us r → added givens us r ≡ more
  quiet : is_publish r ≡ false
  told : (givens : Givens) (before : Lines) → givens.parts ≡ parts → IsTold givens takes before r it

module _ (takes : Cell → Bool) (parts : List (List ℕ)) (limit : ℕ) (line : List ℕ) where
  -- ---- once there is a table

  module _ (old : Editions) (r : Result Deed Fault) (does : deed (Some (keeper.schema old)) line ≡ r) where
    does_so : (givens : Givens) (before : Lines) → IsShare takes givens before old → deed_behind givens before line ≡ r
    does_so givens before stands = ap (λ t. deed t line) stands.schema ∙ does

    tells_added : (new : Editions) (more : List Update) (it : Told) → Adds takes parts r more it → LaysShare takes old new more → TellsLine takes parts limit line (Some old) (Some new) it
    tells_added new more it adds lays = record {
      told = λ givens before same stands. subst (λ d. IsTold givens takes before d it) (sym (does_so givens before stands)) (adds.told givens before same);
      stands = λ givens before same stands fits.
          let so = does_so givens before stands in
          let all : updates givens (line ∷ before) ≡ updates givens before ++ more =
          updates_more givens before line r so
          ∙ ap (λ us. updates givens before ++ us) (adds.adds givens (updates givens before) same (subst (Fits givens (updates givens before)) so fits)) in
          let shared : share takes (updates givens (line ∷ before)) ≡ share takes (updates givens before) ++ share takes more =
          ap (share takes) all ∙ filter-append (λ u. takes (key_of u)) (updates givens before) more in
          record {
            schema = declared_more givens before line r so ∙ adds.declares (declared givens before) ∙ stands.schema ∙ ap Some (sym lays.schema);
            draft = lays.draft (share takes (updates givens before)) stands.draft ∙ ap (λ (us : List Update). table (rows us)) (sym shared);
            published = lays.published ∙ stands.published ∙ ap (λ (rs : List RowValue). table (taken takes rs))
                (sym (published_more givens before line r so ∙ ap (λ b. cond b (rows (updates givens before)) (published givens before)) adds.quiet));
          };
      few = omega (arith, lays.edition);
      limited = λ same. lays.limit ∙ same;
    }

  abbrev TellsKept : Editions → Editions → Told → Type 0
  TellsKept old new it = TellsLine takes parts limit line (Some old) (Some new) it

  -- a load
  loads_by : (old new : Editions) (listing : List ℕ) (it : Told) (held : Result (List RowValue) Fault) → deed (Some (keeper.schema old)) line ≡ Ok (Loads (keeper.schema old) listing) →
      rows_loaded (keeper.schema old) parts listing ≡ held → LoadsShare takes old new held it → TellsKept old new it
  loads_by old new listing it (Ok rs) does hold silent = tells_added old (Ok (Loads (keeper.schema old) listing)) does new (puts rs) it (record {
    declares = λ earlier. refl;
    adds = λ givens us same fits.
        let so = ap (λ ps. rows_loaded (keeper.schema old) ps listing) same ∙ hold in
        ap (within_loaded givens.limit us) so ∙ ap (λ b. cond b [] (puts rs)) (subst (FitsLoaded givens.limit us) so fits);
    quiet = refl;
    told = λ givens before same. silent.nothing ∙ sym (ap told_load (ap (λ ps. rows_loaded (keeper.schema old) ps listing) same ∙ hold));
  }) silent.lays
  loads_by old new listing it (Err fault) does hold (unchanged, is) =
      subst (λ k. TellsKept old k it) (sym unchanged) (tells_added old (Ok (Loads (keeper.schema old) listing)) does old [] it (record {
        declares = λ earlier. refl;
        adds = λ givens us same fits. ap (within_loaded givens.limit us) (ap (λ ps. rows_loaded (keeper.schema old) ps listing) same ∙ hold);
        quiet = refl;
        told = λ givens before same. is ∙ sym (ap told_load (ap (λ ps. rows_loaded (keeper.schema old) ps listing) same ∙ hold));
      }) (lays_none takes old [] refl))

  pub tells_load : (old new : Editions) (listing : List ℕ) (it : Told) → deed (Some (keeper.schema old)) line ≡ Ok (Loads (keeper.schema old) listing) →
      LoadsShare takes old new (rows_loaded (keeper.schema old) parts listing) it → TellsKept old new it
  tells_load old new listing it does loads = loads_by old new listing it (rows_loaded (keeper.schema old) parts listing) does refl loads

  pub tells_publish : (old new : Editions) (it : Told) → deed (Some (keeper.schema old)) line ≡ Ok Publishes → keeper.Publishes old new → it ≡ told.Nothing → TellsKept old new it
  tells_publish old new it does publishes is = record {
    told = λ givens before same stands. subst (λ d. IsTold givens takes before d it) (sym (does_so old (Ok Publishes) does givens before stands)) is;
    stands = λ givens before same stands fits.
        let so = does_so old (Ok Publishes) does givens before stands in
        record {
          schema = declared_more givens before line (Ok Publishes) so ∙ stands.schema ∙ ap Some (sym publishes.schema);
          draft = publishes.draft ∙ stands.draft
              ∙ ap (λ (us : List Update). table (rows (share takes us))) (sym (updates_more givens before line (Ok Publishes) so ∙ append-nil (updates givens before)));
          published = publishes.published ∙ stands.draft ∙ ap table (sym (taken_rows takes (updates givens before)))
              ∙ ap (λ (rs : List RowValue). table (taken takes rs)) (sym (published_more givens before line (Ok Publishes) so));
        };
    few = omega (arith, publishes.edition);
    limited = λ same. publishes.limit ∙ same;
  }

  pub tells_report : (k : Editions) (query : List ℕ) (it : Told) → deed (Some (keeper.schema k)) line ≡ Ok (Reports (keeper.schema k) query) → TellsReport k.last query it → TellsKept k k it
  tells_report k query it does tells = record {
    told = λ givens before same stands.
        subst (λ d. IsTold givens takes before d it) (sym (does_so k r does givens before stands))
        (tells (taken takes (published givens before)) (left_taken takes givens before) stands.published);
    stands = λ givens before same stands fits.
        let so = does_so k r does givens before stands in
        record {
          schema = declared_more givens before line r so ∙ stands.schema;
          draft = stands.draft ∙ ap (λ (us : List Update). table (rows (share takes us))) (sym (updates_more givens before line r so ∙ append-nil (updates givens before)));
          published = stands.published ∙ ap (λ (rs : List RowValue). table (taken takes rs)) (sym (published_more givens before line r so));
        };
    few = omega arith;
    limited = λ same. same;
  } where
    r : Result Deed Fault
    r = Ok (Reports (keeper.schema k) query)

  -- ---- before there is a table

  module _ (r : Result Deed Fault) (does : deed None line ≡ r) where
    first_so : (givens : Givens) (before : Lines) → IsBlank takes givens before → deed_behind givens before line ≡ r
    first_so givens before blank = ap (λ t. deed t line) blank.schema ∙ does

    still_blank : ((earlier : Option Table) → declared_by earlier r ≡ earlier) → ((givens : Givens) (us : List Update) → added givens us r ≡ []) → is_publish r ≡ false →
        ((givens : Givens) (before : Lines) → IsTold givens takes before r told.Nothing) → TellsLine takes parts limit line None None told.Nothing
    still_blank same none quiet tells = record {
      told = λ givens before _ blank. subst (λ d. IsTold givens takes before d told.Nothing) (sym (first_so givens before blank)) (tells givens before);
      stands = λ givens before _ blank _.
          let so = first_so givens before blank in
          record {
            schema = declared_more givens before line r so ∙ same (declared givens before) ∙ blank.schema;
            draft = updates_more givens before line r so ∙ ap (λ us. updates givens before ++ us) (none givens (updates givens before)) ∙ append-nil (updates givens before) ∙ blank.draft;
            published = published_more givens before line r so ∙ ap (λ b. cond b (rows (updates givens before)) (published givens before)) quiet ∙ blank.published;
          };
      few = omega arith;
      limited = λ same. same;
    }

  pub first_nothing : deed None line ≡ Ok Nothing → TellsLine takes parts limit line None None told.Nothing
  first_nothing does = still_blank (Ok Nothing) does (λ earlier. refl) (λ givens us. refl) refl (λ givens before. refl)

  pub first_refused : (fault : Fault) → deed None line ≡ Err fault → TellsLine takes parts limit line None None told.Nothing
  first_refused fault does = still_blank (Err fault) does (λ earlier. refl) (λ givens us. refl) refl (λ givens before. refl)

  pub first_declares : (t : Table) (k : Editions) → deed None line ≡ Ok (Declares t) → Begins limit t k → TellsLine takes parts limit line None (Some k) told.Nothing
  first_declares t k does begins = record {
    told = λ givens before _ blank. subst (λ d. IsTold givens takes before d told.Nothing) (sym (first_so (Ok (Declares t)) does givens before blank)) refl;
    stands = λ givens before _ blank _.
        let so = first_so (Ok (Declares t)) does givens before blank in
        record {
          schema = declared_more givens before line (Ok (Declares t)) so ∙ ap Some (sym begins.schema);
          draft = begins.draft
              ∙ sym (ap (λ (us : List Update). table (rows (share takes us))) (updates_more givens before line (Ok (Declares t)) so ∙ append-nil (updates givens before) ∙ blank.draft));
          published = begins.published ∙ sym (ap (λ (rs : List RowValue). table (taken takes rs)) (published_more givens before line (Ok (Declares t)) so ∙ blank.published));
        };
    few = omega (arith, begins.edition);
    limited = λ _. begins.limit;
  }
  -- ---- the lines of a script

-- the lines before have these told: with what is told of the rest, all is that of the script
pub record ToldSoFar (takes : Cell → Bool) (givens : Givens) (before rest script : Lines) (tolds : List Told) (desk : Option Editions) : Type 0 where
  pub fits : FitAll givens before rest
  pub stands : IsShareBehind takes givens before desk
  pub tells : (more : List Told) → AreTold givens takes before rest more → AreTold givens takes [] script (tolds ++ more)

-- so far a run has come, where there is room for the rows of each line
pub record Goes (takes : Cell → Bool) (parts : List (List ℕ)) (limit : ℕ) (before rest script : Lines) (tolds : List Told) (desk : Option Editions) (number : ℕ) : Type 0 where
  pub so_far : (givens : Givens) → givens.parts ≡ parts → FitAll givens [] script → ToldSoFar takes givens before rest script tolds desk
  pub fit : (givens : Givens) → givens.parts ≡ parts → FitBehind givens before → IsShareBehind takes givens before desk
  pub few : edition_of_desk desk ≤ number
  pub limited : HasLimit limit desk
  pub all : script ≡ reverse before ++ rest
  pub number_is : number ≡ length before
  pub count : length before + length rest ≡ length script
  pub short : length script ≤ script_limit + 1
  pub narrow : AllByRecursion (λ line. length line ≤ script_limit) rest

pub goes_start : (takes : Cell → Bool) (parts : List (List ℕ)) (limit : ℕ) (script : Lines) (tolds : List Told) → tolds ≡ [] → length script ≤ script_limit + 1 →
    AllByRecursion (λ line. length line ≤ script_limit) script → Goes takes parts limit [] script script tolds None 0
goes_start takes parts limit script tolds none short narrow = record {
  so_far = λ givens same fits. record {
    fits = fits;
    stands = record { schema = refl; draft = refl; published = refl };
    tells = λ more are. subst (λ (t : List Told). AreTold givens takes [] script (t ++ more)) (sym none) are;
  };
  fit = λ givens same fits. record { schema = refl; draft = refl; published = refl };
  few = omega arith;
  limited = tt;
  all = refl;
  number_is = refl;
  count = omega arith;
  short = short;
  narrow = narrow;
}

module _ (takes : Cell → Bool) (parts : List (List ℕ)) (limit : ℕ) (before left script : Lines) (tolds : List Told) (desk : Option Editions) (number : ℕ)
    (goes : Goes takes parts limit before left script tolds desk number) where
  pub narrow_rest : (line : List ℕ) (rest : Lines) → left ≡ line ∷ rest → (length line ≤ script_limit) × AllByRecursion (λ l. length l ≤ script_limit) rest
  narrow_rest line rest is = subst (AllByRecursion (λ l. length l ≤ script_limit)) is goes.narrow

  -- one line more
  pub goes_more : (line : List ℕ) (rest : Lines) (after : Option Editions) (it : Told) (new : List Told) → left ≡ line ∷ rest → TellsLine takes parts limit line desk after it → new ≡ tolds ++ it ∷ [] →
      Goes takes parts limit (line ∷ before) rest script new after (number + 1)
  goes_more line rest after it new is step joined = record {
    so_far = λ givens same fits.
        let before_it = goes.so_far givens same fits in
        let room : FitAll givens before (line ∷ rest) = subst (FitAll givens before) is before_it.fits in
        record {
          fits = room.1;
          stands = step.stands givens before same before_it.stands room.0;
          tells = λ more are.
              subst (AreTold givens takes [] script) (sym (ap (λ (t : List Told). t ++ more) joined ∙ append_assoc tolds (it ∷ []) more))
              (before_it.tells (it ∷ more) (subst (λ (ls : Lines). AreTold givens takes before ls (it ∷ more)) (sym is) (step.told givens before same before_it.stands, are)));
        };
    fit = λ givens same fits. step.stands givens before same (goes.fit givens same fits.1) fits.0;
    few = omega (arith, step.few, goes.few);
    limited = step.limited goes.limited;
    all = goes.all ∙ ap (λ (ls : Lines). reverse before ++ ls) is ∙ reversed_onto line before rest;
    number_is = omega (arith, goes.number_is);
    count = omega (arith, goes.count, ap length is);
    short = goes.short;
    narrow = (narrow_rest line rest is).1;
  }

  -- a line that ends the run is one of the script's
  is_line : (Is : Lines → List ℕ → Type 0) (line : List ℕ) (rest : Lines) (n : ℕ) → left ≡ line ∷ rest → n ≡ number + 1 → Is before line → IsLineOf Is script n
  is_line Is line rest n is place so = record {
    before = before;
    line = line;
    later = rest;
    joined = goes.all ∙ ap (λ (ls : Lines). reverse before ++ ls) is;
    place = omega (arith, place, goes.number_is);
    is = so;
  }

  declared_at : (givens : Givens) (desk_now : Option Editions) → IsShareBehind takes givens before desk_now → declared givens before ≡ schema_of_desk desk_now
  declared_at givens None stands = stands.schema
  declared_at givens (Some k) stands = stands.schema

  lacks : (line : List ℕ) (desk_now : Option Editions) → ((givens : Givens) → givens.parts ≡ parts → FitBehind givens before → IsShareBehind takes givens before desk_now) →
      HasLimit limit desk_now → Overfills takes parts desk_now line → LacksRoom takes parts limit before line
  lacks line None stands limited full = absurd full
  lacks line (Some k) stands limited full = λ givens same fits.
      let here = stands givens same fits in
      let more = asked parts (deed (Some (keeper.schema k)) line) in
      let over : keeper.limit k < length (rows (share takes (updates givens before) ++ share takes more)) = full (share takes (updates givens before)) here.draft in
      subst (λ d. limit < length (rows (share takes (updates givens before ++ asked parts d)))) (sym (ap (λ t. deed t line) here.schema))
      (subst (λ (us : List Update). limit < length (rows us)) (sym (filter-append (λ u. takes (key_of u)) (updates givens before) more))
      (subst (λ n. n < length (rows (share takes (updates givens before) ++ share takes more))) limited over))

  pub goes_ends : (line : List ℕ) (rest : Lines) (e : Untold) → left ≡ line ∷ rest → EndsLine takes parts desk (number + 1) line e → EndsWithin takes parts limit script e
  goes_ends line rest OutOfMemory is ends = tt
  goes_ends line rest TooMuch is ends = absurd ends
  goes_ends line rest (Shape place) is ends =
      is_line (AsksForShape takes parts) line rest place is ends.0 (λ givens same fits. ap (λ t. deed t line) (declared_at givens desk (goes.fit givens same fits)) ∙ ends.1)
  goes_ends line rest (TooManyRows place) is ends = is_line (LacksRoom takes parts limit) line rest place is ends.0 (lacks line desk goes.fit goes.limited ends.1)

  -- no line is left
  pub goes_all : left ≡ [] → (givens : Givens) → givens.parts ≡ parts → FitAll givens [] script → AreTold givens takes [] script tolds
  goes_all is givens same fits =
      let all = goes.so_far givens same fits in
      subst (AreTold givens takes [] script) (append-nil tolds) (all.tells [] (subst (λ (ls : Lines). AreTold givens takes before ls []) (sym is) tt))
