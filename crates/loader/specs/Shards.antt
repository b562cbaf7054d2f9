-- Shards of a table: which of them takes a key, and the rows that one of them takes.
use Rattle.std.specs.Prelude.{◌≤◌, ◌+◌, ◌/◌, ◌%◌, ◌==◌, Bool, ℕ, List, filter}
use Rattle.cells.specs.Values.{RowValue}
use Rattle.cells.specs.declared.cell.Cell.{Cell}

-- a shard of so many, by its number
pub record ShardValue : Type 0 where
  pub number : ℕ
  pub count : ℕ

-- a shard has this number, of so many
pub record IsNumberOf (number count : ℕ) : Type 0 where
  pub least : 1 ≤ number
  pub most : number ≤ count

-- the one shard of one
abbrev pub whole : ShardValue
whole = record { number = 1; count = 1 }

-- the shard of a key, of so many, numbered from 1: by the upper half of its hash, since the lower digits decide the shape of the
-- trie
abbrev pub shard_of : (Cell → ℕ) → ℕ → Cell → ℕ
shard_of hash_of count key = hash_of key / 4294967296 % count + 1

-- the key belongs to the shard
abbrev pub takes : (Cell → ℕ) → ShardValue → Cell → Bool
takes hash_of shard key = shard_of hash_of shard.count key == shard.number

-- the rows whose keys are taken, in their order
abbrev pub taken : (Cell → Bool) → List RowValue → List RowValue
taken takes rs = filter (λ r. takes r.key) rs
