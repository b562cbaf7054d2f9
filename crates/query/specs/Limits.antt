-- The limits of what this crate reads, each named here and in `src/limits.rt`.
use Rattle.std.specs.Prelude.{ℕ}

-- the most bytes of a query
abbrev pub query_limit : ℕ
query_limit = 65536

-- the most parentheses of a query that may be open at once
abbrev pub parenthesis_limit : ℕ
parenthesis_limit = 64

-- the most items of a select list, and the most aggregates in HAVING
abbrev pub item_limit : ℕ
item_limit = 32

-- the most columns of a GROUPING
abbrev pub grouping_limit : ℕ
grouping_limit = 16

-- the most grouping sets of a query, repeated ones counted
abbrev pub set_limit : ℕ
set_limit = 256
