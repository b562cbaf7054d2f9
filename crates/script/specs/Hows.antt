-- What a run may be told.
use Rattle.std.specs.Prelude.{ℕ}
use Rattle.cells.specs.Hashes.{fnv_hash, plain_hash}
use Rattle.cells.specs.declared.cell.Cell.{Cell}
use Rattle.script.specs.Limits.{IsWithin}
use Rattle.script.specs.Limits as limits
use Rattle.trie.specs.declared.cutting.Cutting.{Cutting}
use Rattle.script.specs.declared.hash_choice.HashChoice.{HashChoice}
use Rattle.script.specs.declared.hash_choice.HashChoice.TheVariants.{Fnv, Plain}

-- how a run is made, as contracts see it
pub record Settings : Type 0 where
  pub workers : ℕ
  pub cutting : Cutting
  pub rows : ℕ

-- each number lies in its range
pub record AreInRange (workers : ℕ) (cutting : Cutting) (rows : ℕ) : Type 0 where
  pub workers_within : IsWithin limits.workers workers
  pub depth_within : IsWithin limits.depth cutting.depth
  pub rows_within : IsWithin limits.rows rows

-- how a run is made where nothing is said
abbrev pub default_settings : Settings
default_settings = record {
  workers = limits.workers.default;
  cutting = record { depth = limits.depth.default; small = limits.small.default };
  rows = limits.rows.default;
}

-- the hash of keys where nothing is said
abbrev pub default_hash : HashChoice
default_hash = Fnv

-- the hash of keys that was chosen
abbrev pub hash_of_choice : HashChoice → Cell → ℕ
hash_of_choice Fnv = fnv_hash
hash_of_choice Plain = plain_hash
