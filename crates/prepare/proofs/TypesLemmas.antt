-- Types of columns, record by record.
use Rattle.std.proofs.Common.{refl, ap, sym, ◌∙◌, ◌≡◌, ◌<◌, ℕ, Bool, true, false, ◌&&◌, List, [], ◌∷◌, ◌++◌, length, append_assoc, arith, ◌≤◌, ◌≢◌, ◌+◌, below_more, get_or-set_other, get_or-set_same}
use Rattle.std.proofs.lemmas.List.{map-append}
use Rattle.std.proofs.lemmas.List.Folds.{list_all-append}
use Rattle.std.specs.List.{list_all, slice_index_or, slice_set}
use Rattle.std.specs.Prelude.{if◌then◌else◌}
use Rattle.cells.specs.declared.schema.ColumnType.{ColumnType}
use Rattle.cells.specs.declared.schema.ColumnType.TheVariants.{Int, Text}
use Rattle.records.specs.Records.{Fields}
use Rattle.prepare.specs.Proposals.{AreTypes, column_of, field_in, fits_int, narrowed, type_of}

-- all records are those that were read and those that are left, and these are the types of the first
pub record ReachedTypes (all left : List Fields) (count : ℕ) (types : List ColumnType) : Type 0 where
  pub read : List Fields
  pub parted : all ≡ read ++ left
  pub are : AreTypes read count types

and_true : (b : Bool) → (b && true) ≡ b
and_true true = refl
and_true false = refl

-- one field more
type_more : (fields : Fields) (field : List ℕ) → type_of (fields ++ field ∷ []) ≡ narrowed (type_of fields) field
type_more fields field = ap (λ b. if b then Int else Text) (list_all-append fits_int fields (field ∷ [])) ∙ go (list_all fits_int fields) where
  go : (so_far : Bool) → (if so_far && (fits_int field && true) then Int else Text) ≡ narrowed (if so_far then Int else Text) field
  go true = ap (λ b. if b then Int else Text) (and_true (fits_int field))
  go false = refl

-- one record more
pub types_more : (all left later : List Fields) (count : ℕ) (types narrower : List ColumnType) (fields : Fields)
    → ReachedTypes all left count types → left ≡ fields ∷ later → length narrower ≡ length types
    → ((place : ℕ) → place < length types → slice_index_or narrower place Text ≡ narrowed (slice_index_or types place Text) (field_in place fields))
    → ReachedTypes all later count narrower
types_more all left later count types narrower fields reached took long step = record {
  read = reached.read ++ fields ∷ [];
  parted = reached.parted ∙ ap (λ rest. reached.read ++ rest) took ∙ sym (append_assoc reached.read (fields ∷ []) later);
  are = record {
    all = long ∙ reached.are.all;
    each = λ place within.
        let here : place < length types = omega (arith, reached.are.all) in
        step place here
        ∙ ap (λ kind. narrowed kind (field_in place fields)) (reached.are.each place within)
        ∙ sym (type_more (column_of place reached.read) (field_in place fields))
        ∙ ap type_of (sym (map-append (field_in place) reached.read (fields ∷ [])));
  };
}

-- the first types have one record more
pub record Narrowed (start types : List ColumnType) (fields : Fields) (place : ℕ) : Type 0 where
  pub done : (k : ℕ) → k < place → slice_index_or types k Text ≡ narrowed (slice_index_or start k Text) (field_in k fields)
  pub left : (k : ℕ) → place ≤ k → slice_index_or types k Text ≡ slice_index_or start k Text

pub narrowed_more : (start types : List ColumnType) (fields : Fields) (place : ℕ) (kind : ColumnType)
    → place < length types → kind ≡ narrowed (slice_index_or types place Text) (field_in place fields) → Narrowed start types fields place
    → Narrowed start (slice_set types place kind) fields (place + 1)
narrowed_more start types fields place kind within is so_far = record {
  done = below_more _ _
      (λ k h. let other : k ≢ place = omega arith in rw get_or-set_other (so_far.done k h))
      (rw get_or-set_same (is ∙ ap (λ before. narrowed before (field_in place fields)) (so_far.left place (omega arith))));
  left = λ k h. let other : k ≢ place = omega arith in rw get_or-set_other (so_far.left k (omega arith));
}
