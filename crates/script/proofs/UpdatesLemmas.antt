-- A run after one more line that changes the keeper, or declares its table.
use Rattle.std.proofs.Common.{◌≡◌, ℕ, ◌+◌, ◌-◌, ◌<◌, ◌≤◌, Bool, true, false, cond, Option, Some, None, Result, Ok, Err, List, [], ◌∷◌, ◌++◌, inl, inr, length, map, refl, sym, ap, ap₂, subst, ◌∙◌, arith}
use Rattle.std.proofs.lemmas.Bool.Decides.{nat_tests}
use Rattle.std.proofs.lemmas.List.{append-nil, map-append}
use Rattle.std.specs.FinMap.{contains_key, insert, len, len-empty, len-remove, remove}
use Rattle.std.specs.Prelude.{nat_lt}
use Rattle.cells.specs.CellOrder.{cell_cmp, cell_cmp-total}
use Rattle.cells.specs.Laws.{len_rows, table_rows_delete, table_rows_put}
use Rattle.cells.specs.Tables.{Rows, laid_over, table}
use Rattle.cells.specs.Updates.{Delete, Put, Update, puts, rows}
use Rattle.cells.specs.Values.{RowValue, Table}
use Rattle.cells.specs.declared.cell.Cell.{Cell}
use Rattle.cells.specs.declared.refused.Refused.TheVariants.{TooManyRows}
use Rattle.board.specs.Editions.{Begins, ChangesDraft, Editions}
use Rattle.board.specs.Editions as keeper
use Rattle.script.specs.Deeds.{Declares, Deed, Loads, Nothing, Publishes, Reports, Shapes, Updates, deed, declares}
use Rattle.script.specs.Givens.{Givens}
use Rattle.script.specs.Listings.{rows_loaded}
use Rattle.script.specs.Output.{IsAnswer, Lines, added, declared, declared_by, edition, editions, is_overfull, is_publish, loaded, published, updated, updates, within, within_loaded}
use Rattle.script.specs.Spelling.{refusal}
use Rattle.script.specs.Desks.{Executes, Keeps, LaysOrOverflows, LoadsRows, PutsRow}
use Rattle.script.specs.declared.fault.Fault.{Fault}
use Rattle.script.specs.declared.fault.Fault.TheVariants.{Line}
use Rattle.script.proofs.StepsLemmas.{block_by, declared_more, deed_first, does_so, edition_more, editions_more, leaves_at, published_more, same_stays, stands_left, updates_more}

-- ---- lines that change it

-- what a line that adds updates does: nothing else, and its block is that of updates
record Adds (hash : Cell → ℕ) (givens : Givens) (r : Result Deed Fault) (more : List Update) : Type 0 where
  declares : (before : Lines) → declared_by (declared givens before) r ≡ declared givens before
  adds : (us : List Update) → added givens us r ≡ within givens.limit us more
  quiet : is_publish r ≡ false
  writes : (before : Lines) (bytes : List ℕ) → bytes ≡ updated givens.manner.form (length before + 1) givens.limit (updates givens before) more → IsAnswer hash givens before r bytes

adds_updates : (hash : Cell → ℕ) (givens : Givens) (more : List Update) → Adds hash givens (Ok (Updates more)) more
adds_updates hash givens more = record { declares = λ before. refl; adds = λ us. refl; quiet = refl; writes = λ before bytes is. is }

adds_rows : (hash : Cell → ℕ) (givens : Givens) (t : Table) (listing : List ℕ) (rs : List RowValue) → rows_loaded t givens.parts listing ≡ Ok rs → Adds hash givens (Ok (Loads t listing)) (puts rs)
adds_rows hash givens t listing rs hold = record {
  declares = λ before. refl;
  adds = λ us. ap (within_loaded givens.limit us) hold;
  quiet = refl;
  writes = λ before bytes is. is ∙ sym (ap (loaded givens.manner.form (length before + 1) givens.limit (updates givens before)) hold);
}

fits : (m n l : ℕ) → m ≡ n → n ≤ l → nat_lt l m ≡ false
fits m n l e h = grind (arith, nat_tests)

exceeds : (m n l : ℕ) → m ≡ n → l < n → nat_lt l m ≡ true
exceeds m n l e h = grind (arith, nat_tests)

-- a line adds updates, which make these rows of the draft
module _ (hash : Cell → ℕ) (givens : Givens) (line : List ℕ) (number : ℕ) (k : Editions) (r : Result Deed Fault) (more : List Update)
    (does : deed (Some (keeper.schema k)) line ≡ r) (adds : Adds hash givens r more) (left : Rows)
    (leaves : (us : List Update) → keeper.draft k ≡ table (rows us) → table (rows (us ++ more)) ≡ left) where
  many : (before : Lines) → Keeps givens before k → length (rows (updates givens before ++ more)) ≡ len left
  many before stands = sym (len_rows (updates givens before ++ more)) ∙ ap (λ (m : Rows). len m) (leaves (updates givens before) stands.draft)

  -- there is room for them
  executes_laid : (new : Editions) (bytes : List ℕ) → ChangesDraft k new left → ((before : Lines) → Keeps givens before k → len left ≤ givens.limit) → bytes ≡ [] →
      Executes hash givens line number (Some k) (Some new) bytes
  executes_laid new bytes changes room none = record {
    block = λ before stands n.
        block_by givens before line r (does_so givens before line (Some k) r stands does) hash bytes
        (adds.writes before bytes (none ∙ sym (ap (λ b. cond b (refusal givens.manner.form (length before + 1) (Line TooManyRows)) []) (fitting before stands))));
    stands = λ before stands.
        let so = does_so givens before line (Some k) r stands does in
        record {
          schema = declared_more givens before line r so ∙ adds.declares before ∙ stands.schema ∙ ap Some (sym changes.schema);
          same_limit = changes.limit ∙ stands.same_limit;
          draft = changes.draft ∙ sym (leaves (updates givens before) stands.draft) ∙ ap (λ us. table (rows us)) (sym (all_added before stands so));
          within = rw changes.draft (room before stands);
          edition = changes.edition ∙ stands.edition
              ∙ sym (edition_more givens before line r so ∙ ap (λ b. cond b (edition givens before + 1) (edition givens before)) adds.quiet);
          published = changes.published ∙ stands.published
              ∙ ap table (sym (published_more givens before line r so ∙ ap (λ b. cond b (rows (updates givens before)) (published givens before)) adds.quiet));
          history = changes.history ∙ stands.history
              ∙ ap (map table) (sym (editions_more givens before line r so ∙ ap (λ b. cond b (editions givens before ++ rows (updates givens before) ∷ []) (editions givens before)) adds.quiet));
        };
    stays = record { board = changes.board; schema = changes.schema };
  } where
    fitting : (before : Lines) → Keeps givens before k → is_overfull givens.limit (updates givens before) more ≡ false
    fitting before stands = fits _ _ givens.limit (many before stands) (room before stands)

    all_added : (before : Lines) → Keeps givens before k → deed (declared givens before) line ≡ r → updates givens (line ∷ before) ≡ updates givens before ++ more
    all_added before stands so =
        updates_more givens before line r so
        ∙ ap (λ us. updates givens before ++ us) (adds.adds (updates givens before) ∙ ap (λ b. cond b [] more) (fitting before stands))

  -- there is none
  executes_overfull : (bytes : List ℕ) → keeper.limit k < len left → bytes ≡ refusal givens.manner.form number (Line TooManyRows) → Executes hash givens line number (Some k) (Some k) bytes
  executes_overfull bytes full text = record {
    block = λ before stands n.
        block_by givens before line r (does_so givens before line (Some k) r stands does) hash bytes
        (adds.writes before bytes
        (text ∙ ap (λ m. refusal givens.manner.form m (Line TooManyRows)) n ∙ sym (ap (λ b. cond b (refusal givens.manner.form (length before + 1) (Line TooManyRows)) []) (exceeding before stands))));
    stands = λ before stands.
        stands_left givens before line (Some k)
        (leaves_at givens before line r (does_so givens before line (Some k) r stands does) (adds.declares before)
        (adds.adds (updates givens before) ∙ ap (λ b. cond b [] more) (exceeding before stands)) adds.quiet)
        stands;
    stays = same_stays (Some k);
  } where
    exceeding : (before : Lines) → Keeps givens before k → is_overfull givens.limit (updates givens before) more ≡ true
    exceeding before stands = exceeds _ _ givens.limit (many before stands) (subst (λ l. l < len left) stands.same_limit full)

  -- there is, or there is not
  executes_either : (new : Editions) (bytes : List ℕ) → LaysOrOverflows givens.manner.form k new left number bytes → Executes hash givens line number (Some k) (Some new) bytes
  executes_either new bytes (inl lays) = executes_laid new bytes lays.draft (λ before stands. subst (λ l. len left ≤ l) stands.same_limit lays.within) lays.nothing
  executes_either new bytes (inr over) = rw over.unchanged (executes_overfull bytes over.full over.refused)

-- what a put writes is the line's block, whether the row was laid or refused
pub executes_put : (hash : Cell → ℕ) (givens : Givens) (line : List ℕ) (number : ℕ) (k new : Editions) (row : RowValue) (bytes : List ℕ)
    → deed (Some (keeper.schema k)) line ≡ Ok (Updates (Put row ∷ [])) → PutsRow givens.manner.form k new row number bytes → Executes hash givens line number (Some k) (Some new) bytes
executes_put hash givens line number k new row bytes does puts =
    executes_either hash givens line number k (Ok (Updates (Put row ∷ []))) (Put row ∷ []) does (adds_updates hash givens (Put row ∷ [])) (insert (keeper.draft k) row.key row)
    (λ us is. table_rows_put us row ∙ ap (λ d. insert d row.key row) (sym is)) new bytes puts

fewer : (there : Bool) (m n l : ℕ) → m ≡ cond there (n - 1) n → n ≤ l → m ≤ l
fewer true m n l e h = omega arith
fewer false m n l e h = omega arith

pub executes_delete : (hash : Cell → ℕ) (givens : Givens) (line : List ℕ) (number : ℕ) (k : Editions) (key : Cell) → deed (Some (keeper.schema k)) line ≡ Ok (Updates (Delete key ∷ []))
    → (new : Editions) (bytes : List ℕ) → ChangesDraft k new (remove (keeper.draft k) key) → bytes ≡ [] → Executes hash givens line number (Some k) (Some new) bytes
executes_delete hash givens line number k key does new bytes changes none =
    executes_laid hash givens line number k (Ok (Updates (Delete key ∷ []))) (Delete key ∷ []) does (adds_updates hash givens (Delete key ∷ [])) (remove (keeper.draft k) key)
    (λ us is. table_rows_delete us key ∙ ap (λ d. remove d key) (sym is)) new bytes changes
    (λ before stands. fewer (contains_key (keeper.draft k) key) _ _ givens.limit (len-remove cell_cmp-total (keeper.draft k) key) stands.within) none

-- ---- loads

-- the law of puts behind any updates: their rows lie over those that the updates leave
abbrev pub LieOver : Type 0
LieOver = (us : List Update) (rs : List RowValue) → table (rows (us ++ puts rs)) ≡ laid_over (table (rows (puts rs))) (table (rows us))

executes_load : LieOver → (hash : Cell → ℕ) (givens : Givens) (line : List ℕ) (number : ℕ) (k new : Editions) (listing bytes : List ℕ) (held : Result (List RowValue) Fault)
    → rows_loaded (keeper.schema k) givens.parts listing ≡ held → deed (Some (keeper.schema k)) line ≡ Ok (Loads (keeper.schema k) listing) → LoadsRows givens.manner.form k new held number bytes
    → Executes hash givens line number (Some k) (Some new) bytes
executes_load law hash givens line number k new listing bytes (Ok rs) hold does loads =
    executes_either hash givens line number k (Ok (Loads (keeper.schema k) listing)) (puts rs) does (adds_rows hash givens (keeper.schema k) listing rs hold)
    (laid_over (table (rows (puts rs))) (keeper.draft k)) (λ us is. law us rs ∙ ap (laid_over (table (rows (puts rs)))) (sym is)) new bytes loads
executes_load law hash givens line number k new listing bytes (Err fault) hold does (unchanged, text) = rw unchanged (record {
  block = λ before stands n.
      block_by givens before line r (does_so givens before line (Some k) r stands does) hash bytes
      (text ∙ ap (λ m. refusal givens.manner.form m fault) n ∙ sym (ap (loaded givens.manner.form (length before + 1) givens.limit (updates givens before)) hold));
  stands = λ before stands.
      stands_left givens before line (Some k)
      (leaves_at givens before line r (does_so givens before line (Some k) r stands does) refl (ap (within_loaded givens.limit (updates givens before)) hold) refl) stands;
  stays = same_stays (Some k);
}) where
  r : Result Deed Fault
  r = Ok (Loads (keeper.schema k) listing)

-- what a load writes is the line's block, by that law
pub executes_loads : (hash : Cell → ℕ) (givens : Givens) (line : List ℕ) (number : ℕ) (k new : Editions) (listing bytes : List ℕ)
    → deed (Some (keeper.schema k)) line ≡ Ok (Loads (keeper.schema k) listing) → LieOver
    → LoadsRows givens.manner.form k new (rows_loaded (keeper.schema k) givens.parts listing) number bytes → Executes hash givens line number (Some k) (Some new) bytes
executes_loads hash givens line number k new listing bytes does law loads =
    executes_load law hash givens line number k new listing bytes (rows_loaded (keeper.schema k) givens.parts listing) refl does loads

pub executes_publish : (hash : Cell → ℕ) (givens : Givens) (line : List ℕ) (number : ℕ) (k new : Editions) (bytes : List ℕ)
    → deed (Some (keeper.schema k)) line ≡ Ok Publishes → keeper.Publishes k new → bytes ≡ [] → Executes hash givens line number (Some k) (Some new) bytes
executes_publish hash givens line number k new bytes does publishes none = record {
  block = λ before stands n. block_by givens before line (Ok Publishes) (does_so givens before line (Some k) (Ok Publishes) stands does) hash bytes none;
  stands = λ before stands.
      let more = does_so givens before line (Some k) (Ok Publishes) stands does in
      record {
        schema = declared_more givens before line (Ok Publishes) more ∙ stands.schema ∙ ap Some (sym publishes.schema);
        same_limit = publishes.limit ∙ stands.same_limit;
        draft =
            publishes.draft ∙ stands.draft
            ∙ ap (λ us. table (rows us)) (sym (updates_more givens before line (Ok Publishes) more ∙ append-nil (updates givens before)));
        within = rw publishes.draft stands.within;
        edition = publishes.edition ∙ ap (λ n. n + 1) stands.edition ∙ sym (edition_more givens before line (Ok Publishes) more);
        published = publishes.published ∙ stands.draft ∙ ap table (sym (published_more givens before line (Ok Publishes) more));
        history = publishes.history
            ∙ ap₂ (λ all last. all ++ last ∷ []) stands.history stands.draft
            ∙ sym (map-append table (editions givens before) (rows (updates givens before) ∷ []))
            ∙ ap (map table) (sym (editions_more givens before line (Ok Publishes) more));
      };
  stays = record { board = publishes.board; schema = publishes.schema };
}

-- ---- the line that declares the table

-- before there is a table a line adds and publishes nothing
record IsFirst (givens : Givens) (r : Result Deed Fault) : Type 0 where
  adds : (us : List Update) → added givens us r ≡ []
  quiet : is_publish r ≡ false

first_deed : (givens : Givens) (line : List ℕ) → IsFirst givens (deed None line)
first_deed givens line = deed_first (IsFirst givens) (record { adds = λ us. refl; quiet = refl }) (λ t. record { adds = λ us. refl; quiet = refl }) (λ fault. record { adds = λ us. refl; quiet = refl }) line

-- nothing was updated or published before there is a table
record IsBlank (givens : Givens) (before : Lines) : Type 0 where
  updates : updates givens before ≡ []
  edition : edition givens before ≡ 0
  published : published givens before ≡ []
  editions : editions givens before ≡ [] ∷ []

blank_more : (givens : Givens) (before : Lines) (line : List ℕ) (r : Result Deed Fault) → IsFirst givens r → deed (declared givens before) line ≡ r → IsBlank givens before → IsBlank givens (line ∷ before)
blank_more givens before line r first does blank = record {
  updates = updates_more givens before line r does ∙ ap (λ us. updates givens before ++ us) (first.adds (updates givens before)) ∙ append-nil (updates givens before) ∙ blank.updates;
  edition = edition_more givens before line r does ∙ ap (λ b. cond b (edition givens before + 1) (edition givens before)) first.quiet ∙ blank.edition;
  published = published_more givens before line r does ∙ ap (λ b. cond b (rows (updates givens before)) (published givens before)) first.quiet ∙ blank.published;
  editions = editions_more givens before line r does ∙ ap (λ b. cond b (editions givens before ++ rows (updates givens before) ∷ []) (editions givens before)) first.quiet ∙ blank.editions;
}

-- a table, once declared, stays
stays : (earlier : Option Table) (r : Result Deed Fault) → declared_by earlier r ≡ None → earlier ≡ None
stays None r e = refl
stays (Some t) (Ok Nothing) e = e
stays (Some t) (Ok (Declares u)) e = absurd (cc)
stays (Some t) (Ok (Loads u listing)) e = e
stays (Some t) (Ok (Updates more)) e = e
stays (Some t) (Ok Publishes) e = e
stays (Some t) (Ok (Reports u query)) e = e
stays (Some t) (Ok Shapes) e = e
stays (Some t) (Err fault) e = e

blank : (givens : Givens) (before : Lines) → declared givens before ≡ None → IsBlank givens before
blank givens [] e = record { updates = refl; edition = refl; published = refl; editions = refl }
blank givens (line ∷ before) e =
    let none = stays (declared givens before) (deed (declared givens before) line) e in
    blank_more givens before line (deed (declared givens before) line) (subst (λ t. IsFirst givens (deed t line)) (sym none) (first_deed givens line)) refl (blank givens before none)

-- there is no edition before there is a table
pub none_published : (givens : Givens) (before : Lines) → declared givens before ≡ None → edition givens before ≡ 0
none_published givens before none = (blank givens before none).edition

pub executes_declare : (hash : Cell → ℕ) (givens : Givens) (line : List ℕ) (number : ℕ) (t : Table) (k : Editions) (bytes : List ℕ)
    → deed None line ≡ Ok (Declares t) → Begins givens.limit t k → bytes ≡ [] → Executes hash givens line number None (Some k) bytes
executes_declare hash givens line number t k bytes does begins none = record {
  block = λ before stands n. block_by givens before line (Ok (Declares t)) (does_so givens before line None (Ok (Declares t)) stands does) hash bytes none;
  stands = λ before stands.
      let more = does_so givens before line None (Ok (Declares t)) stands does in
      let blank = blank givens before stands in
      record {
        schema = declared_more givens before line (Ok (Declares t)) more ∙ ap Some (sym begins.schema);
        same_limit = begins.limit;
        draft = begins.draft ∙ sym (ap (λ us. table (rows us)) (updates_more givens before line (Ok (Declares t)) more ∙ append-nil (updates givens before) ∙ blank.updates));
        within = rw (begins.draft, len-empty cell_cmp RowValue) (omega arith);
        edition = begins.edition ∙ sym (edition_more givens before line (Ok (Declares t)) more ∙ blank.edition);
        published = begins.published ∙ sym (ap table (published_more givens before line (Ok (Declares t)) more ∙ blank.published));
        history = begins.history ∙ sym (ap (map table) (editions_more givens before line (Ok (Declares t)) more ∙ blank.editions));
      };
  stays = tt;
}
