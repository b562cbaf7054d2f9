-- The limits of reports.
use Rattle.std.specs.Prelude.{ℕ}
use Rattle.crew.specs.Limits.{seat_limit}

-- the most workers of a report, each of which has a seat
abbrev pub worker_limit : ℕ
worker_limit = seat_limit

-- how many reports may be under way at a time
abbrev pub under_way_limit : ℕ
under_way_limit = 8
