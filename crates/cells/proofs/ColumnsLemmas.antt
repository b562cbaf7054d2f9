-- Column definitions among tokens: the function gives what the spelling says.
use Rattle.std.proofs.Common.{◌≡◌, ◌≢◌, ℕ, ◌<◌, Bool, true, false, ◌||◌, cond, List, [], ◌∷◌, ◌++◌, length, Option, Some, None, ◌⊎◌, inl, inr, refl, sym, ap, ◌∙◌, subst, arith, append_assoc, length-append, bytes_eq, codes}
use Rattle.std.specs.List.{list_any}
use Rattle.std.proofs.lemmas.Bool.{cases_Bool}
use Rattle.std.proofs.lemmas.Option.{none-some, some_pair_parts}
use Rattle.std.proofs.lemmas.Slice.Eq.{bytes_eq-Decides}
use Rattle.cells.specs.declared.schema.ColumnDefinition.{ColumnDefinition}
use Rattle.cells.specs.declared.schema.ColumnType.{ColumnType}
use Rattle.cells.specs.declared.schema.ColumnType.TheVariants.{Int, Text}
use Rattle.cells.specs.declared.token.Token.{Token}
use Rattle.cells.specs.declared.token.Token.TheVariants.{Word, Number, Quoted, Mark}
use Rattle.cells.specs.declared.token.Mark.{Mark as Sign}
use Rattle.cells.specs.declared.token.Mark.TheVariants.{Comma, RightParen}
use Rattle.cells.specs.Schemas.{column_tokens, columns_tokens, is_reserved, type_word}
use Rattle.cells.specs.SchemaReading.{SpellsColumns, definition_at, definition_of, key_mark, type_of}

abbrev Read : Type 0
Read = Option (ColumnDefinition × List Token)

same_word : (a b : List ℕ) → bytes_eq a b ≡ true → a ≡ b
same_word a b e = (bytes_eq-Decides a b).0 e

or_false : (a b : Bool) → (a || b) ≡ false → (a ≡ false) × (b ≡ false)
or_false true b e = absurd (cc)
or_false false b e = (refl, e)

-- ---- one definition

-- what is spelt so is read, where a sign follows
read_again : (d : ColumnDefinition) (m : Sign) (tail : List Token) → is_reserved d.column.name ≡ false
    → definition_at (column_tokens d ++ Mark m ∷ tail) ≡ Some (d, Mark m ∷ tail)
unfolding definition_at
read_again d m tail named = at d.column.name d.column.kind d.is_key named where
  at : (name : List ℕ) (kind : ColumnType) (is_key : Bool) → is_reserved name ≡ false
      → definition_at (Word name ∷ Word (type_word kind) ∷ (cond is_key (Word (codes "KEY") ∷ []) [] ++ Mark m ∷ tail))
      ≡ Some (record { column = record { name = name; kind = kind }; is_key = is_key }, Mark m ∷ tail)
  at name Int true h = rw h refl
  at name Int false h = rw h refl
  at name Text true h = rw h refl
  at name Text false h = rw h refl

type_read : (word : List ℕ) (kind : ColumnType) → type_of word ≡ Some kind → word ≡ type_word kind
type_read word kind e =
    elim (cases_Bool (bytes_eq word (codes "INT"))) [
      | inl int ↦ same_word word (codes "INT") int ∙ ap type_word (kinds Int (rw int at e))
      | inr no_int ↦ elim (cases_Bool (bytes_eq word (codes "TEXT"))) [
        | inl text ↦ same_word word (codes "TEXT") text ∙ ap type_word (kinds Text (rw (no_int, text) at e))
        | inr no_text ↦ absurd (none-some kind (rw (no_int, no_text) at e))
      ]
    ] where
      kinds : (found : ColumnType) → Some found ≡ Some kind → found ≡ kind
      kinds found same = cc

-- KEY or nothing, and what follows
key_read : (ts : List Token) → ts ≡ cond (key_mark ts).0 (Word (codes "KEY") ∷ []) [] ++ (key_mark ts).1
key_read [] = refl
key_read (Word word ∷ rest) = elim (cases_Bool (bytes_eq word (codes "KEY"))) [
  | inl key ↦ rw key (ap (λ w. Word w ∷ rest) (same_word word (codes "KEY") key))
  | inr other ↦ rw other refl
]
key_read (Number n ∷ rest) = refl
key_read (Quoted text ∷ rest) = refl
key_read (Mark m ∷ rest) = refl

-- a definition that was read is spelt so, and its name is not reserved
pub record IsRead (ts : List Token) (d : ColumnDefinition) (behind : List Token) : Type 0 where
  pub spelt : ts ≡ column_tokens d ++ behind
  pub named : is_reserved d.column.name ≡ false

definition_is : (name word : List ℕ) (rest : List Token) (kind : Option ColumnType) (d : ColumnDefinition) (behind : List Token)
    → type_of word ≡ kind → is_reserved name ≡ false → definition_of name kind (key_mark rest) ≡ Some (d, behind) → IsRead (Word name ∷ Word word ∷ rest) d behind
definition_is name word rest None d behind is named e = absurd (none-some (d, behind) e)
definition_is name word rest (Some kind) d behind is named e =
    let parts = some_pair_parts (record { column = record { name = name; kind = kind }; is_key = (key_mark rest).0 }) d (key_mark rest).1 behind e in
    rw (sym parts.0, sym parts.1) (record {
      spelt = ap (λ w. Word name ∷ Word w ∷ rest) (type_read word kind is) ∙ ap (λ r. Word name ∷ Word (type_word kind) ∷ r) (key_read rest);
      named = named;
    })

pub definition_read : (ts : List Token) (d : ColumnDefinition) (behind : List Token) → definition_at ts ≡ Some (d, behind) → IsRead ts d behind
unfolding definition_at
definition_read (Word name ∷ Word word ∷ rest) d behind e =
    elim (cases_Bool (is_reserved name)) [
      | inl reserved ↦ absurd (none-some (d, behind) (rw reserved at e))
      | inr free ↦ definition_is name word rest (type_of word) d behind refl free (rw free at e)
    ]
definition_read ts d behind e = absurd (none-some (d, behind) e)

-- what follows a definition is shorter
pub behind_shorter : (ts : List Token) (d : ColumnDefinition) (behind : List Token) → definition_at ts ≡ Some (d, behind) → length behind < length ts
behind_shorter ts d behind e =
    let lengths = ap length (definition_read ts d behind e).spelt ∙ length-append (column_tokens d) behind in
    omega arith

-- ---- definitions with commas between

named_first : (d : ColumnDefinition) (ds : List ColumnDefinition) → list_any (λ c. is_reserved c.column.name) (d ∷ ds) ≡ false → is_reserved d.column.name ≡ false
named_first d ds h = (or_false (is_reserved d.column.name) (list_any (λ c. is_reserved c.column.name) ds) h).0

-- what definitions that are spelt begin with: the first, and a comma or the end
pub first_of_one : (ts : List Token) (d : ColumnDefinition) → SpellsColumns ts (d ∷ []) → definition_at ts ≡ Some (d, Mark RightParen ∷ [])
first_of_one ts d spells = ap definition_at spells.spelt ∙ read_again d RightParen [] (named_first d [] spells.names)

pub first_of_more : (ts : List Token) (d e : ColumnDefinition) (es : List ColumnDefinition) → SpellsColumns ts (d ∷ e ∷ es)
    → definition_at ts ≡ Some (d, Mark Comma ∷ (columns_tokens (e ∷ es) ++ Mark RightParen ∷ []))
first_of_more ts d e es spells =
    ap definition_at (spells.spelt ∙ append_assoc (column_tokens d) (Mark Comma ∷ columns_tokens (e ∷ es)) (Mark RightParen ∷ []))
    ∙ read_again d Comma (columns_tokens (e ∷ es) ++ Mark RightParen ∷ []) (named_first d (e ∷ es) spells.names)

-- what was found, and then what the rest spells, is what the whole spells
pub record Kept (ts : List Token) (found : List ColumnDefinition) (rest : List Token) : Type 0 where
  pub sound : (ds : List ColumnDefinition) → SpellsColumns rest ds → SpellsColumns ts (found ++ ds)
  pub complete : (ds : List ColumnDefinition) → SpellsColumns ts ds → (es : List ColumnDefinition) × (ds ≡ found ++ es) × SpellsColumns rest es

pub kept_first : (ts : List Token) → Kept ts [] ts
kept_first ts = record { sound = λ ds spells. spells; complete = λ ds spells. (ds, refl, spells) }

-- what follows the first comma spells the other definitions
pub spells_others : (ts : List Token) (d e : ColumnDefinition) (es : List ColumnDefinition) → SpellsColumns ts (d ∷ e ∷ es)
    → SpellsColumns (columns_tokens (e ∷ es) ++ Mark RightParen ∷ []) (e ∷ es)
spells_others ts d e es spells = record {
  spelt = refl;
  some = omega arith;
  names = (or_false (is_reserved d.column.name) (list_any (λ c. is_reserved c.column.name) (e ∷ es)) spells.names).1;
}

-- what definitions begin with: the one that is read, and then the end, or a comma and the others
spells_next : (rest : List Token) (es : List ColumnDefinition) (d : ColumnDefinition) (behind : List Token)
    → SpellsColumns rest es → definition_at rest ≡ Some (d, behind)
    → ((es ≡ d ∷ []) × (behind ≡ Mark RightParen ∷ []))
    ⊎ ((others : List ColumnDefinition) × (more : List Token) × (es ≡ d ∷ others) × (behind ≡ Mark Comma ∷ more) × SpellsColumns more others)
spells_next rest [] d behind spells read = absurd (let some = spells.some in omega arith)
spells_next rest (e ∷ []) d behind spells read =
    let same = some_pair_parts e d (Mark RightParen ∷ []) behind (sym (first_of_one rest e spells) ∙ read) in
    inl (ap (λ f. f ∷ []) same.0, sym same.1)
spells_next rest (e ∷ f ∷ fs) d behind spells read =
    let same = some_pair_parts e d _ behind (sym (first_of_more rest e f fs spells) ∙ read) in
    inr (
      f ∷ fs,
      columns_tokens (f ∷ fs) ++ Mark RightParen ∷ [],
      ap (λ g. g ∷ f ∷ fs) same.0,
      sym same.1,
      spells_others rest e f fs spells,
    )

-- a definition and a comma before definitions
pub spells_before : (rest more : List Token) (d : ColumnDefinition) (ds : List ColumnDefinition)
    → IsRead rest d (Mark Comma ∷ more) → SpellsColumns more ds → SpellsColumns rest (d ∷ ds)
spells_before rest more d [] read spells = absurd (let some = spells.some in omega arith)
spells_before rest more d (e ∷ es) read spells = record {
  spelt =
      read.spelt ∙ ap (λ r. column_tokens d ++ Mark Comma ∷ r) spells.spelt
      ∙ sym (append_assoc (column_tokens d) (Mark Comma ∷ columns_tokens (e ∷ es)) (Mark RightParen ∷ []));
  some = omega arith;
  names = rw read.named spells.names;
}

pub spells_last : (rest : List Token) (d : ColumnDefinition) → IsRead rest d (Mark RightParen ∷ []) → SpellsColumns rest (d ∷ [])
spells_last rest d read = record { spelt = read.spelt; some = omega arith; names = rw read.named refl }

module _ (ts rest : List Token) (found : List ColumnDefinition) (kept : Kept ts found rest) where
  module _ (d : ColumnDefinition) (behind : List Token) (new : List ColumnDefinition) (read : definition_at rest ≡ Some (d, behind)) (is : new ≡ found ++ d ∷ []) where
    pub kept_more : (more : List Token) → behind ≡ Mark Comma ∷ more → Kept ts new more
    kept_more more comma = rw is (record {
      sound = λ ds spells.
          let whole = kept.sound (d ∷ ds) (spells_before rest more d ds (subst (IsRead rest d) comma (definition_read rest d behind read)) spells) in
          subst (SpellsColumns ts) (sym (append_assoc found (d ∷ []) ds)) whole;
      complete = λ ds spells.
          let left = kept.complete ds spells in
          elim (spells_next rest left.0 d behind left.2 read) [
            | inl last ↦ absurd (let both : Mark RightParen ∷ [] ≡ Mark Comma ∷ more = sym last.1 ∙ comma in cc)
            | inr next ↦
                let same : Mark Comma ∷ next.1 ≡ Mark Comma ∷ more = sym next.3 ∙ comma in
                let tails : next.1 ≡ more = cc in
                (next.0, left.1 ∙ ap (λ es. found ++ es) next.2 ∙ sym (append_assoc found (d ∷ []) next.0), subst (λ r. SpellsColumns r next.0) tails next.4)
          ];
    })

    pub kept_found : behind ≡ Mark RightParen ∷ [] → SpellsColumns ts new
    kept_found end = rw is (kept.sound (d ∷ []) (spells_last rest d (subst (IsRead rest d) end (definition_read rest d behind read))))

    pub kept_only : behind ≡ Mark RightParen ∷ [] → (ds : List ColumnDefinition) → SpellsColumns ts ds → ◌≡◌ {A = Option (List ColumnDefinition)} (Some ds) (Some new)
    kept_only end ds spells =
        let left = kept.complete ds spells in
        elim (spells_next rest left.0 d behind left.2 read) [
          | inl last ↦ ap Some (left.1 ∙ ap (λ es. found ++ es) last.0 ∙ sym is)
          | inr next ↦ absurd (let both : Mark Comma ∷ next.1 ≡ Mark RightParen ∷ [] = sym next.3 ∙ end in cc)
        ]

    pub kept_other : ((more : List Token) → behind ≢ Mark Comma ∷ more) → behind ≢ Mark RightParen ∷ [] → (ds : List ColumnDefinition) → ¬ (SpellsColumns ts ds)
    kept_other no_comma no_end ds spells =
        let left = kept.complete ds spells in
        elim (spells_next rest left.0 d behind left.2 read) [ inl last ↦ no_end last.1 | inr next ↦ no_comma next.1 next.3 ]

  pub kept_none : definition_at rest ≡ None → (ds : List ColumnDefinition) → ¬ (SpellsColumns ts ds)
  kept_none none ds spells = let left = kept.complete ds spells in nothing left.0 left.2 where
    nothing : (es : List ColumnDefinition) → ¬ (SpellsColumns rest es)
    nothing [] spells = let some = spells.some in omega arith
    nothing (e ∷ []) spells = none-some _ (sym none ∙ first_of_one rest e spells)
    nothing (e ∷ f ∷ fs) spells = none-some _ (sym none ∙ first_of_more rest e f fs spells)
