-- A run after one more line: what the line says, and lines that leave the keeper.
use Rattle.std.proofs.Common.{◌≡◌, ℕ, ◌+◌, Bool, true, false, cond, Option, Some, None, Result, Ok, Err, List, [], ◌∷◌, ◌++◌, inl, inr, length, map, refl, sym, ap, subst, ◌∙◌}
use Rattle.std.proofs.lemmas.Bool.{cases_Bool}
use Rattle.std.proofs.lemmas.List.{append-nil}
use Rattle.std.specs.FinMap.{keys}
use Rattle.std.specs.Prelude.{◌⊎◌, IfErr, IfOk, IsErr, OnOk, Vec}
use Rattle.std.specs.declared.alloc.Global.{Global}
use Rattle.cells.specs.Tables.{Rows, table}
use Rattle.cells.specs.Updates.{AreLeft, Delete, Put, Update, rows}
use Rattle.cells.specs.Values.{RowValue, Table}
use Rattle.cells.specs.declared.cell.Cell.{Cell}
use Rattle.cells.specs.declared.refused.Refused.TheVariants.{OutOfMemory}
use Rattle.trie.specs.Shapes.{shape_of}
use Rattle.board.specs.Editions.{Editions}
use Rattle.board.specs.Editions as keeper
use Rattle.forms.specs.declared.form.Form.{Form}
use Rattle.forms.specs.declared.form.Form.TheVariants.{Classic, Csv, Json, Table as TableForm}
use Rattle.script.specs.Blocks.{Steps, WillReport, is_refused, quiet, quiet_by}
use Rattle.script.specs.Deeds.{Declares, Deed, Nothing, Reports, Shapes, deed, deed_of, declares, is_comment, command_of}
use Rattle.script.specs.Endings.{HasWorkers, reports}
use Rattle.script.specs.Givens.{Givens}
use Rattle.script.specs.Output.{IsAnswer, IsBlock, IsReport, Lines, added, declared, declared_by, deed_behind, edition, editions, is_publish, published, updates, within, keys as keys_of_rows}
use Rattle.script.specs.Spelling.{refusal, shape_text}
use Rattle.script.specs.Desks.{Executes, IsBehind, Stays, schema_of_desk}
use Rattle.script.specs.declared.block.Block.{Block}
use Rattle.script.specs.Stops.{IsQuiet, IsRefusedDeed, IsRefusedLine, Tells}
use Rattle.script.specs.declared.block.Block.TheVariants.{Refusal, Text}
use Rattle.script.specs.declared.command.Command.{Command}
use Rattle.script.specs.declared.command.Command.TheVariants as command
use Rattle.script.specs.declared.fault.Fault.{Fault}
use Rattle.script.specs.declared.fault.Fault.TheVariants.{Line}
use Rattle.script.proofs.RefusalsLemmas.{IsPlain, accepted_by_text, refused_by_text}

-- ---- the definitions, at a line whose deed is known

module _ (givens : Givens) (before : Lines) (line : List ℕ) (r : Result Deed Fault) (does : deed (declared givens before) line ≡ r) where
  pub declared_more : declared givens (line ∷ before) ≡ declared_by (declared givens before) r
  declared_more = ap (declared_by (declared givens before)) does

  pub updates_more : updates givens (line ∷ before) ≡ updates givens before ++ added givens (updates givens before) r
  updates_more = ap (λ d. updates givens before ++ added givens (updates givens before) d) does

  pub edition_more : edition givens (line ∷ before) ≡ cond (is_publish r) (edition givens before + 1) (edition givens before)
  edition_more = ap (λ d. cond (is_publish d) (edition givens before + 1) (edition givens before)) does

  pub published_more : published givens (line ∷ before) ≡ cond (is_publish r) (rows (updates givens before)) (published givens before)
  published_more = ap (λ d. cond (is_publish d) (rows (updates givens before)) (published givens before)) does

  pub editions_more : editions givens (line ∷ before) ≡ cond (is_publish r) (editions givens before ++ rows (updates givens before) ∷ []) (editions givens before)
  editions_more = ap (λ d. cond (is_publish d) (editions givens before ++ rows (updates givens before) ∷ []) (editions givens before)) does

  pub block_by : (hash : Cell → ℕ) (bytes : List ℕ) → IsAnswer hash givens before r bytes → IsBlock hash givens before line bytes
  block_by hash bytes is = subst (λ d. IsAnswer hash givens before d bytes) (sym does) is

declared_is : (givens : Givens) (before : Lines) (desk : Option Editions) → IsBehind givens before desk → declared givens before ≡ schema_of_desk desk
declared_is givens before None stands = stands
declared_is givens before (Some k) stands = stands.schema

pub does_so : (givens : Givens) (before : Lines) (line : List ℕ) (desk : Option Editions) (r : Result Deed Fault) → IsBehind givens before desk → deed (schema_of_desk desk) line ≡ r → deed (declared givens before) line ≡ r
does_so givens before line desk r stands does = ap (λ t. deed t line) (declared_is givens before desk stands) ∙ does

-- ---- lines that leave the keeper

-- the line leaves the run where it was
pub record Leaves (givens : Givens) (before : Lines) (line : List ℕ) : Type 0 where
  declared : declared givens (line ∷ before) ≡ declared givens before
  updates : updates givens (line ∷ before) ≡ updates givens before
  edition : edition givens (line ∷ before) ≡ edition givens before
  published : published givens (line ∷ before) ≡ published givens before
  editions : editions givens (line ∷ before) ≡ editions givens before

pub leaves_at : (givens : Givens) (before : Lines) (line : List ℕ) (r : Result Deed Fault) → deed (declared givens before) line ≡ r
    → declared_by (declared givens before) r ≡ declared givens before → added givens (updates givens before) r ≡ [] → is_publish r ≡ false → Leaves givens before line
leaves_at givens before line r does same none quiet = record {
  declared = declared_more givens before line r does ∙ same;
  updates = updates_more givens before line r does ∙ ap (λ us. updates givens before ++ us) none ∙ append-nil (updates givens before);
  edition = edition_more givens before line r does ∙ rw quiet refl;
  published = published_more givens before line r does ∙ rw quiet refl;
  editions = editions_more givens before line r does ∙ rw quiet refl;
}

pub stands_left : (givens : Givens) (before : Lines) (line : List ℕ) (desk : Option Editions) → Leaves givens before line → IsBehind givens before desk → IsBehind givens (line ∷ before) desk
stands_left givens before line None leaves stands = leaves.declared ∙ stands
stands_left givens before line (Some k) leaves stands = record {
  schema = leaves.declared ∙ stands.schema;
  same_limit = stands.same_limit;
  draft = stands.draft ∙ ap (λ us. table (rows us)) (sym leaves.updates);
  within = stands.within;
  edition = stands.edition ∙ sym leaves.edition;
  published = stands.published ∙ ap table (sym leaves.published);
  history = stands.history ∙ ap (map table) (sym leaves.editions);
}

pub same_stays : (desk : Option Editions) → Stays desk desk
same_stays None = tt
same_stays (Some k) = record { board = refl; schema = refl }

-- a line that declares, adds and publishes nothing
executes_quiet : (hash : Cell → ℕ) (givens : Givens) (line : List ℕ) (number : ℕ) (desk : Option Editions) (r : Result Deed Fault) (bytes : List ℕ) → deed (schema_of_desk desk) line ≡ r
    → ((earlier : Option Table) → declared_by earlier r ≡ earlier) → ((us : List Update) → added givens us r ≡ []) → is_publish r ≡ false
    → ((before : Lines) → IsBehind givens before desk → number ≡ length before + 1 → IsAnswer hash givens before r bytes)
    → Executes hash givens line number desk desk bytes
executes_quiet hash givens line number desk r bytes does same none quiet writes = record {
  block = λ before stands n. block_by givens before line r (does_so givens before line desk r stands does) hash bytes (writes before stands n);
  stands = λ before stands. stands_left givens before line desk (leaves_at givens before line r (does_so givens before line desk r stands does) (same (declared givens before)) (none (updates givens before)) quiet) stands;
  stays = same_stays desk;
}

pub executes_nothing : (hash : Cell → ℕ) (givens : Givens) (line : List ℕ) (number : ℕ) (desk : Option Editions) (bytes : List ℕ) → deed (schema_of_desk desk) line ≡ Ok Nothing → bytes ≡ [] → Executes hash givens line number desk desk bytes
executes_nothing hash givens line number desk bytes does none = executes_quiet hash givens line number desk (Ok Nothing) bytes does (λ earlier. refl) (λ us. refl) refl (λ before stands n. none)

pub executes_refused : (hash : Cell → ℕ) (givens : Givens) (line : List ℕ) (number : ℕ) (desk : Option Editions) (fault : Fault) (bytes : List ℕ)
    → deed (schema_of_desk desk) line ≡ Err fault → bytes ≡ refusal givens.manner.form number fault → Executes hash givens line number desk desk bytes
executes_refused hash givens line number desk fault bytes does text =
    executes_quiet hash givens line number desk (Err fault) bytes does (λ earlier. refl) (λ us. refl) refl (λ before stands n. text ∙ ap (λ m. refusal givens.manner.form m fault) n)

-- some updates left the published rows
pub left_published : (givens : Givens) (before : Lines) → AreLeft (published givens before)
left_published givens [] = record { updates = []; is = refl }
left_published givens (line ∷ before) = either (is_publish (deed (declared givens before) line)) (left_published givens before) where
  either : (b : Bool) → AreLeft (published givens before) → AreLeft (cond b (rows (updates givens before)) (published givens before))
  either true earlier = record { updates = updates givens before; is = refl }
  either false earlier = earlier

-- an accepted line whose block is this text
pub steps_text : {H : Type 0} (hash : Cell → ℕ) (givens : Givens) (line : List ℕ) (number : ℕ) (old new : Option Editions) (bytes : Vec ℕ Global)
    → ((before : Lines) → IsBehind givens before old → IsBlock hash givens before line bytes.items → IsRefusedLine givens before line → ⊥) → Executes hash givens line number old new bytes.items → Steps {H = H} hash givens line number old new (Text bytes)
steps_text hash givens line number old new bytes accepted executes = record {
  foretells = λ before stands n. let is = executes.block before stands n in record { text = bytes.items; is = is; will = refl; tells = accepted before stands is };
  stands = executes.stands;
  stays = executes.stays;
  asks = λ asked. absurd asked;
}

-- a refused one
steps_refusal : {H : Type 0} (hash : Cell → ℕ) (givens : Givens) (line : List ℕ) (number : ℕ) (old new : Option Editions) (bytes : Vec ℕ Global)
    → ((before : Lines) → IsBehind givens before old → IsBlock hash givens before line bytes.items → IsRefusedLine givens before line) → Executes hash givens line number old new bytes.items → Steps {H = H} hash givens line number old new (Refusal bytes)
steps_refusal hash givens line number old new bytes refused executes = record {
  foretells = λ before stands n. let is = executes.block before stands n in record { text = bytes.items; is = is; will = refl; tells = refused before stands is };
  stands = executes.stands;
  stays = executes.stays;
  asks = λ asked. absurd asked;
}

-- one that writes nothing, or is refused
quiet_nothing : {H : Type 0} (bytes : Vec ℕ Global) → bytes.items ≡ [] → quiet {H = H} bytes ≡ Text bytes
quiet_nothing bytes none = ap (λ t. quiet_by t bytes) none

quiet_refused : {H : Type 0} (bytes : Vec ℕ Global) (number : ℕ) (form : Form) (fault : Fault) → bytes.items ≡ refusal form number fault → quiet {H = H} bytes ≡ Refusal bytes
quiet_refused bytes number Classic fault is = ap (λ t. quiet_by t bytes) is
quiet_refused bytes number Csv fault is = ap (λ t. quiet_by t bytes) is
quiet_refused bytes number Json fault is = ap (λ t. quiet_by t bytes) is
quiet_refused bytes number TableForm fault is = ap (λ t. quiet_by t bytes) is

-- a line is plain at its desk, and so behind the lines before
plain_behind : (givens : Givens) (before : Lines) (line : List ℕ) (desk : Option Editions) → IsBehind givens before desk → IsPlain (deed (schema_of_desk desk) line) → IsPlain (deed_behind givens before line)
plain_behind givens before line desk stands plain = subst (λ t. IsPlain (deed t line)) (sym (declared_is givens before desk stands)) plain

pub steps_quiet : {H : Type 0} (hash : Cell → ℕ) (givens : Givens) (line : List ℕ) (number : ℕ) (old new : Option Editions) (bytes : Vec ℕ Global)
    → IsPlain (deed (schema_of_desk old) line) → IsQuiet number bytes.items → Executes hash givens line number old new bytes.items → Steps {H = H} hash givens line number old new (quiet bytes)
steps_quiet {H} hash givens line number old new bytes plain (inl none) executes =
    subst (λ b. Steps {H = H} hash givens line number old new b) (sym (quiet_nothing bytes none)) (steps_text hash givens line number old new bytes
    (λ before stands is. accepted_by_text hash givens before (deed_behind givens before line) bytes.items (plain_behind givens before line old stands plain) is none) executes)
steps_quiet {H} hash givens line number old new bytes plain (inr refused) executes =
    subst (λ b. Steps {H = H} hash givens line number old new b) (sym (quiet_refused bytes number refused.form refused.fault refused.is)) (steps_refusal hash givens line number old new bytes
    (λ before stands is. refused_by_text hash givens before (deed_behind givens before line) number bytes.items (plain_behind givens before line old stands plain) is refused) executes)

-- a line with no desk yet says nothing, declares the table or is refused
pub deed_first : (P : Result Deed Fault → Type 0) → P (Ok Nothing) → ((t : Table) → P (Ok (Declares t))) → ((fault : Fault) → P (Err fault)) → (line : List ℕ) → P (deed None line)
deed_first P silent declaring refused line = elim (cases_Bool (is_comment line)) [ inl nothing ↦ rw nothing silent | inr some ↦ rw some (named (command_of line)) ] where
  by : (o : Option Table) → P (declares o)
  by None = refused _
  by (Some t) = declaring t

  named : (o : Option (Command × List ℕ)) → P (deed_of None o)
  named None = refused _
  named (Some (command.Table, rest)) = by _
  named (Some (command.Load, rest)) = refused _
  named (Some (command.Put, rest)) = refused _
  named (Some (command.Delete, rest)) = refused _
  named (Some (command.Publish, rest)) = refused _
  named (Some (command.Report, rest)) = refused _
  named (Some (command.Shape, rest)) = refused _

pub steps_first : {H : Type 0} (hash : Cell → ℕ) (givens : Givens) (line : List ℕ) (number : ℕ) (old new : Option Editions) (bytes : Vec ℕ Global)
    → old ≡ None → IsQuiet number bytes.items → Executes hash givens line number old new bytes.items → Steps {H = H} hash givens line number old new (quiet bytes)
steps_first hash givens line number old new bytes none silent executes =
    steps_quiet hash givens line number old new bytes (subst (λ desk. IsPlain (deed (schema_of_desk desk) line)) (sym none) (deed_first IsPlain tt (λ t. tt) (λ fault. tt) line)) silent executes

pub steps_nothing : {H : Type 0} (hash : Cell → ℕ) (givens : Givens) (line : List ℕ) (number : ℕ) (desk : Option Editions) (bytes : Vec ℕ Global)
    → deed (schema_of_desk desk) line ≡ Ok Nothing → bytes.items ≡ [] → Steps {H = H} hash givens line number desk desk (Text bytes)
steps_nothing hash givens line number desk bytes does none =
    steps_text hash givens line number desk desk bytes (λ before stands is refused. subst (IsRefusedDeed givens before) (does_so givens before line desk (Ok Nothing) stands does) refused)
    (executes_nothing hash givens line number desk bytes.items does none)

-- that of a shape, whose text may be wanting
pub steps_shape : {H E F : Type 0} (hash : Cell → ℕ) (givens : Givens) (line : List ℕ) (number : ℕ) (desk : Option Editions) (text : Result (Vec ℕ Global) E) (block : Result (Block H) F) (f : F)
    → IfOk text (λ bytes. block ≡ Ok (Text bytes)) → IfErr text (λ _. block ≡ Err f) → deed (schema_of_desk desk) line ≡ Ok Shapes → IfOk text (λ bytes. Executes hash givens line number desk desk bytes.items)
    → IfOk block (Steps {H = H} hash givens line number desk desk)
steps_shape {H} hash givens line number desk (Ok bytes) block f is same does executes =
    subst (λ b. IfOk b (Steps {H = H} hash givens line number desk desk)) (sym is) (steps_text hash givens line number desk desk bytes
    (λ before stands so refused. subst (IsRefusedDeed givens before) (does_so givens before line desk (Ok Shapes) stands does) refused) executes)
steps_shape {H} hash givens line number desk (Err e) block f is same does executes = subst (λ b. IfOk b (Steps {H = H} hash givens line number desk desk)) (sym same) tt

pub steps_as_quiet : {H E F : Type 0} (hash : Cell → ℕ) (givens : Givens) (line : List ℕ) (number : ℕ) (old new : Option Editions) (text : Result (Vec ℕ Global) E) (block : Result (Block H) F) (f : F)
    → IfOk text (λ bytes. block ≡ Ok (quiet bytes)) → IfErr text (λ _. block ≡ Err f) → ((IsErr text → ⊥) → IsPlain (deed (schema_of_desk old) line)) → IfOk text (λ bytes. IsQuiet number bytes.items) → IfOk text (λ bytes. Executes hash givens line number old new bytes.items)
    → IfOk block (Steps {H = H} hash givens line number old new)
steps_as_quiet {H} hash givens line number old new (Ok bytes) block f is same plain silent executes =
    subst (λ b. IfOk b (Steps {H = H} hash givens line number old new)) (sym is) (steps_quiet hash givens line number old new bytes (plain (λ (bad : false ≡ true). absurd cc)) silent executes)
steps_as_quiet {H} hash givens line number old new (Err e) block f is same plain silent executes = subst (λ b. IfOk b (Steps {H = H} hash givens line number old new)) (sym same) tt

-- a refused line is plain, where its block is there
pub plain_refused : {T E : Type 0} (desk : Option Editions) (line : List ℕ) (fault : Fault) (text : Result T E) → (fault ≡ Line OutOfMemory) ⊎ (deed (schema_of_desk desk) line ≡ Err fault)
    → (fault ≡ Line OutOfMemory → IsErr text) → (IsErr text → ⊥) → IsPlain (deed (schema_of_desk desk) line)
plain_refused desk line fault text (inl wanting) memory found = absurd (found (memory wanting))
plain_refused desk line fault text (inr does) memory found = subst IsPlain (sym does) tt

-- what an answer has where it is Ok, and what it tells then
pub both_ok : {T E : Type 0} (r : Result T E) (A : Type 0) (B C : T → Type 0) → ((x : T) → A → B x → C x) → OnOk r A → IfOk r B → IfOk r C
both_ok (Ok x) A B C f a b = f x a b
both_ok (Err e) A B C f a b = tt

-- the block of a refused line; want of memory is no block
pub executes_refused_text : {E : Type 0} (hash : Cell → ℕ) (givens : Givens) (line : List ℕ) (number : ℕ) (desk : Option Editions) (fault : Fault) (text : Result (Vec ℕ Global) E)
    → (fault ≡ Line OutOfMemory) ⊎ (deed (schema_of_desk desk) line ≡ Err fault) → (fault ≡ Line OutOfMemory → IsErr text)
    → IfOk text (λ bytes. bytes.items ≡ refusal givens.manner.form number fault) → IfOk text (λ bytes. Executes hash givens line number desk desk bytes.items)
executes_refused_text hash givens line number desk fault (Ok bytes) (inl wanting) memory is = absurd (let bad : false ≡ true = memory wanting in cc)
executes_refused_text hash givens line number desk fault (Ok bytes) (inr does) memory is = executes_refused hash givens line number desk fault bytes.items does is
executes_refused_text hash givens line number desk fault (Err e) asks memory is = tt

pub steps_report : {H : Type 0} (hash : Cell → ℕ) (givens : Givens) (line : List ℕ) (number : ℕ) (k : Editions) (query : List ℕ) (block : Block H)
    → deed (Some (keeper.schema k)) line ≡ Ok (Reports (keeper.schema k) query) → WillReport givens.manner k.last number query block → Steps hash givens line number (Some k) (Some k) block
steps_report hash givens line number k query block does answers =
    let r = Ok (Reports (keeper.schema k) query) in record {
      foretells = λ before stands n.
          let told = answers.is (published givens before) (left_published givens before) stands.published in record {
            text = told.text;
            is = block_by givens before line r (does_so givens before line (Some k) r stands does) hash told.text
                (subst (λ m. IsReport givens.manner m (edition givens before) (keeper.schema k) (published givens before) query told.text) n
                (subst (λ e. IsReport givens.manner number e (keeper.schema k) (published givens before) query told.text) stands.edition told.is));
            will = told.will;
            tells = subst (λ d. Tells (is_refused block) (IsRefusedDeed givens before d)) (sym (does_so givens before line (Some k) r stands does)) told.tells;
          };
      stands = λ before stands. stands_left givens before line (Some k) (leaves_at givens before line r (does_so givens before line (Some k) r stands does) refl refl refl) stands;
      stays = same_stays (Some k);
      asks = λ asked. subst HasWorkers (sym does) reports;
    }

-- the law of a table's shape: it is that of the keys of its rows
abbrev HaveShapes : (Cell → ℕ) → Type 0
HaveShapes hash = (rs : List RowValue) → AreLeft rs → shape_of hash (keys (table rs)) ≡ shape_of hash (keys_of_rows rs)

pub executes_shape : (hash : Cell → ℕ) (givens : Givens) (line : List ℕ) (number : ℕ) (k : Editions) (bytes : List ℕ)
    → deed (Some (keeper.schema k)) line ≡ Ok Shapes → HaveShapes hash
    → bytes ≡ shape_text givens.manner number (keeper.edition k) (shape_of hash (keys (keeper.published k))) → Executes hash givens line number (Some k) (Some k) bytes
executes_shape hash givens line number k bytes does law text =
    executes_quiet hash givens line number (Some k) (Ok Shapes) bytes does (λ earlier. refl) (λ us. refl) refl (λ before stands n.
    let shape : shape_of hash (keys (keeper.published k)) ≡ shape_of hash (keys_of_rows (published givens before)) =
    ap (λ (rs : Rows). shape_of hash (keys rs)) stands.published ∙ law (published givens before) (left_published givens before) in
    text ∙ rw (n, stands.edition, shape) refl)
