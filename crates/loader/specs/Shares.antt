-- Rows spread over shares by the hashes of their keys.
use Rattle.std.specs.Prelude.{◌≡◌, ◌<◌, ◌==◌, ◌%◌, ℕ, List, [], Vec, filter, length, map, slice_index_or}
use Rattle.std.specs.List.{flat_map}
use Rattle.std.specs.declared.alloc.Global.{Global}
use Rattle.cells.specs.Values.{RowValue}
use Rattle.cells.specs.declared.cell.Cell.{Cell}

-- rows, each beside its key
abbrev pub Pairs : Type 0
Pairs = List (Cell × RowValue)

-- how many shares there are
abbrev pub share_count : ℕ
share_count = 32

-- the share of a hash
abbrev pub share_of : ℕ → ℕ
share_of hash = hash % share_count

-- the rows of a share, in their order
abbrev pub pairs_of_share : (Cell → ℕ) → Pairs → ℕ → Pairs
pairs_of_share hash_of pairs share = filter (λ pair. share_of (hash_of pair.0) == share) pairs

-- each share has its rows of the list, in their order
pub record AreSpread (hash_of : Cell → ℕ) (pairs : Pairs) (shares : List Pairs) : Type 0 where
  pub many : length shares ≡ share_count
  pub each : (share : ℕ) → share < share_count → slice_index_or shares share [] ≡ pairs_of_share hash_of pairs share

-- the rows of some lists, those of one behind those of another
abbrev pub pairs_in : List (Vec (Cell × RowValue) Global) → Pairs
pairs_in lists = flat_map (λ list. list.items) lists

-- the rows of each share of a part
abbrev pub lists : List (Vec (Cell × RowValue) Global) → List Pairs
lists shares = map (λ list. list.items) shares

-- the rows of each share of some parts
abbrev pub in_shares : List (Vec (Vec (Cell × RowValue) Global) Global) → List Pairs
in_shares shares = map (λ share. pairs_in share.items) shares

-- the rows of some shares, those of one behind those of another
abbrev pub all_in : List (Vec (Vec (Cell × RowValue) Global) Global) → Pairs
all_in shares = flat_map (λ share. pairs_in share.items) shares
