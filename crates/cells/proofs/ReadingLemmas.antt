-- The tokens and the schema that a text spells: what is computed is what the relations say.
use Rattle.std.proofs.Common.{◌≡◌, ℕ, zero, suc, ◌≤◌, Bool, true, false, List, [], ◌∷◌, ◌++◌, length, length-append, map, Option, Some, None, Result, Ok, Err, ◌⊎◌, inl, inr, refl, sym, ap, ◌∙◌, subst, arith, bytes_eq, count_by, nat_le, not, ◌&&◌, ◌==◌, option_map, position, IfOk, IfErr}
use Rattle.std.specs.List.{IsDistinct}
use Rattle.std.proofs.lemmas.Bool.{eq-eqb, eqb-true, le-leb, leb-true}
use Rattle.std.proofs.lemmas.Cmp.{nat_list_eq_equiv}
use Rattle.std.proofs.lemmas.List.{length-map}
use Rattle.std.proofs.lemmas.Map.Made.{IsDistinct-from_count, distinct_count-from_IsDistinct}
use Rattle.std.proofs.lemmas.Option.{none-some, option_and_then_some, same_Some}
use Rattle.cells.specs.declared.refused.Refused.{Refused}
use Rattle.cells.specs.declared.refused.Refused.TheVariants.{BadSchema, OutOfMemory}
use Rattle.cells.specs.declared.schema.Column.{Column}
use Rattle.cells.specs.declared.schema.ColumnDefinition.{ColumnDefinition}
use Rattle.cells.specs.declared.token.Mark.TheVariants.{Comma, LeftParen, RightParen}
use Rattle.cells.specs.declared.token.Token.{Token}
use Rattle.cells.specs.declared.token.TokenFault.TheVariants.{Bad, Memory}
use Rattle.cells.specs.declared.token.Token.TheVariants.{Word, Mark}
use Rattle.cells.specs.Limits.{column_limit}
use Rattle.cells.specs.Reading.{are_different, defined, definitions_within, may_define, schema_of, table_of, tokens_of, tokens_within, with_others}
use Rattle.cells.specs.Refusals.{Answers, AnswersBy}
use Rattle.cells.specs.Scanning.{token_at}
use Rattle.cells.specs.SchemaReading.{SpellsColumns, definition_at, key_place}
use Rattle.cells.specs.Schemas.{IsTable, SpellsSchema, TextSpellsSchema, columns_tokens, is_reserved}
use Rattle.cells.specs.Spelling.{Spells, SpellsRest, is_blank, without_blanks}
use Rattle.cells.specs.Values.{Table}
use Rattle.cells.proofs.ChoicesLemmas.{by_branch}
use Rattle.cells.proofs.ColumnsLemmas.{behind_shorter, definition_read, first_of_more, first_of_one, spells_before, spells_last, spells_others, IsRead}
use Rattle.cells.proofs.RunsLemmas.{past_shorter}
use Rattle.cells.proofs.TokensLemmas.{spells_nothing, token_begins, token_read, token_shorter}

-- ---- they compute

-- ---- tokens

-- what a map of an option came from
map_some : {A B P : Type 0} (f : A → B) (o : Option A) (y : B) → option_map f o ≡ Some y → ((x : A) → o ≡ Some x → f x ≡ y → P) → P
map_some f None y e then = absurd (none-some y e)
map_some f (Some x) y e then = then x refl (same_Some (f x) y e)

-- of a text that begins with no blank
rest_spelt : (most : ℕ) (text : List ℕ) (ts : List Token) → tokens_within most text ≡ Some ts → SpellsRest text ts
rest_spelt most [] ts e = subst (SpellsRest []) (same_Some [] ts e) refl
rest_spelt zero (b ∷ bs) ts e = absurd (none-some ts e)
rest_spelt (suc most) (b ∷ bs) ts e =
    option_and_then_some _ (token_at (b ∷ bs)) ts e (λ x read more.
    map_some (λ us. x.0 ∷ us) (tokens_within most (without_blanks x.1)) ts more (λ us others is.
    subst (SpellsRest (b ∷ bs)) is (x.1, token_begins (b ∷ bs) x.0 x.1 read, rest_spelt most (without_blanks x.1) us others)))

-- each token makes the rest shorter, so as many steps as bytes suffice
spelt_rest : (most : ℕ) (text : List ℕ) (ts : List Token) → length text ≤ most → SpellsRest text ts → tokens_within most text ≡ Some ts
spelt_rest most [] ts few spells = ap Some (sym (spells_nothing ts spells))
spelt_rest zero (b ∷ bs) ts few spells = absurd (omega arith)
spelt_rest (suc most) (b ∷ bs) [] few spells = absurd (let none = ap length spells in omega arith)
spelt_rest (suc most) (b ∷ bs) (t ∷ ts) few spells =
    let read = token_read (b ∷ bs) t spells.0 spells.1 in
    let shorter = token_shorter (b ∷ bs) t spells.0 read in
    rw (read, spelt_rest most (without_blanks spells.0) ts (omega arith) spells.2) refl

pub tokens_spelt : (text : List ℕ) (ts : List Token) → tokens_of text ≡ Some ts → Spells text ts
tokens_spelt text ts = rest_spelt (length text) (without_blanks text) ts

pub spelt_tokens : (text : List ℕ) (ts : List Token) → Spells text ts → tokens_of text ≡ Some ts
spelt_tokens text ts = spelt_rest (length text) (without_blanks text) ts (past_shorter is_blank text)

-- ---- column definitions

-- what follows a definition that was read, where others spells what it gives
behind_spelt : (others : List Token → Option (List ColumnDefinition)) → ((ts : List Token) (ds : List ColumnDefinition) → others ts ≡ Some ds → SpellsColumns ts ds)
    → (ts : List Token) (d : ColumnDefinition) (behind : List Token) (ds : List ColumnDefinition) → IsRead ts d behind → with_others others d behind ≡ Some ds → SpellsColumns ts ds
behind_spelt others each ts d (Mark RightParen ∷ []) ds read e = subst (SpellsColumns ts) (same_Some (d ∷ []) ds e) (spells_last ts d read)
behind_spelt others each ts d (Mark Comma ∷ rest) ds read e =
    map_some (λ es. d ∷ es) (others rest) ds e (λ es found is. subst (SpellsColumns ts) is (spells_before ts rest d es read (each rest es found)))
behind_spelt others each ts d behind ds read e = absurd (none-some ds e)

-- definitions that are computed are spelt, and the other way round
definitions_spelt : (most : ℕ) (ts : List Token) (ds : List ColumnDefinition) → definitions_within most ts ≡ Some ds → SpellsColumns ts ds
definitions_spelt zero ts ds e = absurd (none-some ds e)
definitions_spelt (suc most) ts ds e =
    option_and_then_some _ (definition_at ts) ds e (λ x read. behind_spelt (definitions_within most) (definitions_spelt most) ts x.0 x.1 ds (definition_read ts x.0 x.1 read))

spelt_definitions : (most : ℕ) (ts : List Token) (ds : List ColumnDefinition) → length ts ≤ most → SpellsColumns ts ds → definitions_within most ts ≡ Some ds
spelt_definitions zero ts ds few spells =
    let whole = ap length spells.spelt ∙ length-append (columns_tokens ds) (Mark RightParen ∷ []) in absurd (omega arith)
spelt_definitions (suc most) ts [] few spells = absurd (let some = spells.some in omega arith)
spelt_definitions (suc most) ts (d ∷ []) few spells = rw (first_of_one ts d spells) refl
spelt_definitions (suc most) ts (d ∷ e ∷ es) few spells =
    let read = first_of_more ts d e es spells in
    let rest = columns_tokens (e ∷ es) ++ Mark RightParen ∷ [] in
    let shorter = behind_shorter ts d (Mark Comma ∷ rest) read in
    rw (read, spelt_definitions most rest (e ∷ es) (omega arith) (spells_others ts d e es spells)) refl

-- ---- schemas

different_names : (cs : List Column) → are_different cs ≡ true → IsDistinct bytes_eq (map (λ c. c.name) cs)
different_names cs e = IsDistinct-from_count nat_list_eq_equiv (map (λ c. c.name) cs) (eqb-true _ _ e ∙ sym (length-map cs (λ c. c.name)))

names_different : (cs : List Column) → IsDistinct bytes_eq (map (λ c. c.name) cs) → are_different cs ≡ true
names_different cs distinct = eq-eqb _ _ (distinct_count-from_IsDistinct nat_list_eq_equiv (map (λ c. c.name) cs) distinct ∙ length-map cs (λ c. c.name))

and_parts : (a b c : Bool) → (not a && b && c) ≡ true → (a ≡ false) × (b ≡ true) × (c ≡ true)
and_parts false true true e = (refl, refl, refl)
and_parts a b c e = absurd (cc)

-- definitions that may define a table define the one that their tokens spell
defined_spelt : (name : List ℕ) (rest : List Token) (ds : List ColumnDefinition) (t : Table) → SpellsColumns rest ds → defined name ds ≡ Some t → SpellsSchema (Word name ∷ Mark LeftParen ∷ rest) t
defined_spelt name rest ds t spells e =
    by_branch (may_define name ds) _ None (Some t) e (λ may e.
    map_some _ (key_place ds) t e (λ k place is.
    let parts = and_parts (is_reserved name) (nat_le (length ds) column_limit) (are_different (map (λ d. d.column) ds)) may in
    by_branch (count_by (λ d. d.is_key) ds == 1) (position (λ d. d.is_key) ds) None (Some k) place (λ one key.
    subst (SpellsSchema (Word name ∷ Mark LeftParen ∷ rest)) is (record {
      definitions = ds;
      spelt = ap (λ ts. Word name ∷ Mark LeftParen ∷ ts) spells.spelt;
      table = record {
        columns = refl;
        some = spells.some;
        few = leb-true (length ds) column_limit parts.1;
        table_name = parts.0;
        column_names = spells.names;
        different = different_names (map (λ d. d.column) ds) parts.2;
        one_key = eqb-true _ _ one;
        key = key;
      };
    })) (λ _ none. absurd (none-some k none)))) (λ _ none. absurd (none-some t none))

-- a table that definitions may define is the one that they define
spelt_defined : (ds : List ColumnDefinition) (t : Table) → IsTable t ds → defined t.name ds ≡ Some t
spelt_defined ds t table =
    let few = le-leb (length ds) column_limit table.few in
    let different = names_different (map (λ d. d.column) ds) (subst (λ cs. IsDistinct bytes_eq (map (λ c. c.name) cs)) table.columns table.different) in
    let one = eq-eqb (count_by (λ d. d.is_key) ds) 1 table.one_key in
    rw (table.table_name, few, different, one, table.key) (ap (λ cs. Some (record { name = t.name; columns = cs; key = t.key })) (sym table.columns))

table_spelt : (ts : List Token) (t : Table) → table_of ts ≡ Some t → SpellsSchema ts t
table_spelt (Word name ∷ Mark LeftParen ∷ rest) t e =
    option_and_then_some (defined name) (definitions_within (length rest) rest) t e (λ ds found.
    defined_spelt name rest ds t (definitions_spelt (length rest) rest ds found))
table_spelt ts t e = absurd (none-some t e)

spelt_table : (ts : List Token) (t : Table) → SpellsSchema ts t → table_of ts ≡ Some t
spelt_table ts t spells =
    let rest = columns_tokens spells.definitions ++ Mark RightParen ∷ [] in
    let columns : SpellsColumns rest spells.definitions = record { spelt = refl; some = spells.table.some; names = spells.table.column_names } in
    rw (spells.spelt, spelt_definitions (length rest) rest spells.definitions (omega arith) columns) (spelt_defined spells.definitions t spells.table)

pub schema_spelt : (text : List ℕ) (t : Table) → schema_of text ≡ Some t → TextSpellsSchema text t
schema_spelt text t e = option_and_then_some table_of (tokens_of text) t e (λ ts found is. (ts, tokens_spelt text ts found, table_spelt ts t is))

pub spelt_schema : (text : List ℕ) (t : Table) → TextSpellsSchema text t → schema_of text ≡ Some t
spelt_schema text t spells = rw (spelt_tokens text spells.0 spells.1) (spelt_table spells.0 t spells.2)

-- ---- what a reader answers

-- a fault is the answer where nothing is there, and want of memory may be
fault_answers : {Y : Type 0} (bad e : Refused) (o : Option Y) → (e ≡ bad) ⊎ (e ≡ OutOfMemory)
    → ((y : Y) → o ≡ Some y → (e ≡ OutOfMemory) ⊎ ((e ≡ bad) × (◌≡◌ {A = Option Y} (Some y) None))) → (e ≡ OutOfMemory) ⊎ ((e ≡ bad) × (o ≡ None))
fault_answers bad e (Some y) refused only = only y refl
fault_answers bad e None (inl is) only = inr (is, refl)
fault_answers bad e None (inr memory) only = inl memory

-- what is spelt is answered, and a fault comes only where nothing is
pub schema_answers : (text : List ℕ) (result : Result Table Refused)
    → IfOk result (λ s. TextSpellsSchema text s) → ((t : Table) → TextSpellsSchema text t → Answers BadSchema (Some t) result) → IfErr result (λ e. (e ≡ BadSchema) ⊎ (e ≡ OutOfMemory))
    → Answers BadSchema (schema_of text) result
schema_answers text (Ok s) found only refused = spelt_schema text s found
schema_answers text (Err e) found only refused = fault_answers BadSchema e (schema_of text) refused (λ t is. only t (schema_spelt text t is))

-- the same of tokens that are seen by view
pub tokens_answer : {X : Type 0} (view : X → List Token) (bad : Refused) (text : List ℕ) (result : Result X Refused)
    → IfOk result (λ v. Spells text (view v)) → ((ts : List Token) → Spells text ts → AnswersBy view bad (Some ts) result) → IfErr result (λ e. (e ≡ bad) ⊎ (e ≡ OutOfMemory))
    → AnswersBy view bad (tokens_of text) result
tokens_answer view bad text (Ok v) found only refused = spelt_tokens text (view v) found
tokens_answer view bad text (Err e) found only refused = fault_answers bad e (tokens_of text) refused (λ ts is. only ts (tokens_spelt text ts is))

-- a fault that is no want of memory says that there is no value
pub none_where_bad : {Y : Type 0} (o : Option Y) → (Bad ≡ Memory) ⊎ ((Bad ≡ Bad) × (o ≡ None)) → o ≡ None
none_where_bad o (inl e) = cc
none_where_bad o (inr bad) = bad.1
