-- The rows that a shard takes.
use Rattle.std.proofs.Common.{◌≡◌, ◌+◌, ◌/◌, ◌%◌, Bool, true, false, cond, ℕ, List, [], ◌∷◌, ◌++◌, refl, ap, subst, ◌∙◌, arith}
use Rattle.std.proofs.lemmas.Bool.{eq-eqb}
use Rattle.std.proofs.lemmas.List.{map-append}
use Rattle.std.proofs.lemmas.List.Elements.{filter-append}
use Rattle.std.specs.List.{AllByRecursion}
use Rattle.std.specs.Prelude.{Result, Ok, Err}
use Rattle.cells.specs.Fitting.{IsRowOf}
use Rattle.cells.specs.Tables.{keyed_rows, table}
use Rattle.cells.specs.Updates.{puts, rows}
use Rattle.cells.specs.Values.{RowValue, Table}
use Rattle.cells.specs.declared.cell.Cell.{Cell}
use Rattle.loader.specs.Loads.{Held, Loads, LoadsTaken}
use Rattle.loader.specs.Parts.{FaultyRecord}
use Rattle.loader.specs.Shards.{ShardValue, taken, takes, whole}
use Rattle.loader.specs.declared.fault.PartFault.{PartFault}
use Rattle.loader.specs.declared.fault.PartFault.TheVariants.{Bad, OutOfMemory, NoWorker}

-- ---- the one shard of one

takes_key : (hash_of : Cell → ℕ) (key : Cell) → takes hash_of whole key ≡ true
takes_key hash_of key = eq-eqb (hash_of key / 4294967296 % 1 + 1) 1 (omega arith)

takes_all : (hash_of : Cell → ℕ) (rs : List RowValue) → taken (takes hash_of whole) rs ≡ rs
takes_all hash_of [] = refl
takes_all hash_of (row ∷ rs) =
    ap (λ (here : Bool). cond here (row ∷ taken (takes hash_of whole) rs) (taken (takes hash_of whole) rs)) (takes_key hash_of row.key)
    ∙ ap (λ (l : List RowValue). row ∷ l) (takes_all hash_of rs)

loads_all : (hash_of : Cell → ℕ) (said : Result (List RowValue) FaultyRecord) (loaded : Result Held PartFault) → LoadsTaken (takes hash_of whole) said loaded → Loads said loaded
loads_all hash_of said (Ok held) is = record {
  rs = is.rs;
  is = is.is;
  map = is.map ∙ ap (λ (l : List RowValue). table (rows (puts l))) (takes_all hash_of is.rs);
}
loads_all hash_of said (Err (Bad part entry)) is = is
loads_all hash_of said (Err OutOfMemory) is = tt
loads_all hash_of said (Err NoWorker) is = tt

-- to load what it takes is to load all
pub whole_loads : (hash_of : Cell → ℕ) (shard : ShardValue) (said : Result (List RowValue) FaultyRecord) (loaded : Result Held PartFault) → shard ≡ whole →
    LoadsTaken (takes hash_of shard) said loaded → Loads said loaded
whole_loads hash_of shard said loaded is all = loads_all hash_of said loaded (subst (λ (s : ShardValue). LoadsTaken (takes hash_of s) said loaded) is all)

-- ---- rows of any shard

module _ (takes : Cell → Bool) where
  -- rows that are taken are among all
  pub taken_fit : (t : Table) (rs : List RowValue) → AllByRecursion (IsRowOf t) rs → AllByRecursion (IsRowOf t) (taken takes rs)
  taken_fit t [] fit = tt
  taken_fit t (row ∷ rs) fit = with_first (takes row.key) (taken_fit t rs fit.1)
    where
      with_first : (here : Bool) → AllByRecursion (IsRowOf t) (taken takes rs) → AllByRecursion (IsRowOf t) (cond here (row ∷ taken takes rs) (taken takes rs))
      with_first true behind = (fit.0, behind)
      with_first false behind = behind

  -- those of some rows are taken, and then those of others
  pub taken_append : (rs more : List RowValue) → keyed_rows (taken takes (rs ++ more)) ≡ keyed_rows (taken takes rs) ++ keyed_rows (taken takes more)
  taken_append rs more =
      ap keyed_rows (filter-append (λ (r : RowValue). takes r.key) rs more) ∙ map-append (λ (r : RowValue). (r.key, r)) (taken takes rs) (taken takes more)
