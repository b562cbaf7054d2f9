-- What a read of a record tells of the records that a reader has left.
use Rattle.std.proofs.Common.{refl, ap, ap₂, sym, inl, ◌∙◌}
use Rattle.std.specs.Bool.{MatchBool}
use Rattle.std.specs.Borrow.{Bor}
use Rattle.std.specs.Prelude.{◌≡◌, ℕ, Bool, true, false, not, List, [], ◌∷◌, Option, Some, None, unwrap_or, if◌then◌else◌}
use Rattle.csv.specs.Machine.{ends_at_end}
use Rattle.csv.specs.Reading.{ReadRecord, Reached, has_failed, is_flexible, reader_state, source_of, took_first}
use Rattle.csv.specs.declared.reader.Reader.{Reader}
use Rattle.csv.proofs.ReadFacts.{rows-end, rows-more}
use Rattle.records.specs.Records.{IsReading, config_of, records_at, records_left}
use Rattle.records.specs.Laws.{records_at-end, records_at-more}

-- a reader that has not failed knows the bytes that it has left
known : (failed : Bool) → failed ≡ false → (test : Bool) (a b : List ℕ) → (y : List ℕ) × ((if failed then None else (if test then Some a else Some b)) ≡ Some y)
known true g test a b = cc
known false g true a b = (a, refl)
known false g false a b = (b, refl)

source_known : (r : Reader (Bor (List ℕ))) → has_failed r ≡ false → (y : List ℕ) × (source_of (λ s. Some s.now) r ≡ Some y)
source_known r g = known (has_failed r) g _ _ _

module _ (d : ℕ) (r t : Reader (Bor (List ℕ))) (fields : List (List ℕ)) (reading : IsReading d r) where
  -- where a record was found, it was the first of those left
  found_next : ReadRecord (λ s. Some s.now) r t true fields → took_first t ≡ true → is_flexible t ≡ is_flexible r → has_failed t ≡ has_failed r
      → (records_left d r ≡ fields ∷ records_left d t) × IsReading d t
  unfolding Reached
  found_next read first flexible goes =
      let (y, at_y) = source_known r reading.goes in
      let (z, at_z, reached) = rows-more (λ (s : Bor (List ℕ)). Some s.now) r t fields (config_of d) (reader_state r) y y [] reading.config at_y (refl, refl) read in
      let (p, next, same, after) = reached in
      let m = records_at-more d (reader_state r) y p reading.state next in (
        ap (λ (o : Option (List ℕ)). records_at d (reader_state r) (unwrap_or o [])) at_y ∙ m.0
            ∙ ap₂ (λ (f : List (List ℕ)) (rest : List (List (List ℕ))). f ∷ rest) (sym same)
            (ap₂ (records_at d) after.0 after.1 ∙ ap (λ (o : Option (List ℕ)). records_at d (reader_state t) (unwrap_or o [])) (sym at_z)),
        record {
          trim = read.3 ∙ reading.trim;
          ready = inl first;
          config = read.2 ∙ reading.config;
          flexible = flexible ∙ reading.flexible;
          state = ap ends_at_end (sym after.0) ∙ m.1;
          goes = goes ∙ reading.goes;
        },
      )

  -- where none was found, none was left
  none_next : ReadRecord (λ s. Some s.now) r t false fields → records_left d r ≡ []
  none_next read =
      let (y, at_y) = source_known r reading.goes in
      ap (λ (o : Option (List ℕ)). records_at d (reader_state r) (unwrap_or o [])) at_y
      ∙ records_at-end d (reader_state r) y (rows-end (λ (s : Bor (List ℕ)). Some s.now) r t fields (config_of d) y reading.config at_y read)

  -- what `next` tells; a reader that found none is done
  pub after_read : (found : Bool) → ReadRecord (λ s. Some s.now) r t found fields → took_first t ≡ true → is_flexible t ≡ is_flexible r
      → has_failed t ≡ has_failed r
      → (not found ≡ false → IsReading d t)
      × MatchBool found (records_left d r ≡ fields ∷ (if not found then [] else records_left d t))
      ((records_left d r ≡ []) × ((if not found then [] else records_left d t) ≡ []))
  after_read true read first flexible goes = let h = found_next read first flexible goes in (λ e. h.1, h.0)
  after_read false read first flexible goes = (λ e. cc, (none_next read, refl))
