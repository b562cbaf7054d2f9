-- How viewers show their blocks as they come.
use Rattle.std.specs.Prelude.{◌⊎◌, ◌+◌, ℕ, List, sum_by}
use Rattle.report.specs.Onlooking.{Onlooking}
use Rattle.script.specs.Givens.{Givens}
use Rattle.script.specs.Output.{edition}
use Rattle.script.specs.Tails.{Viewing}
use Rattle.script.specs.Turns.{IsViewSince, ShowsLast, ShowsNext, Turn}

-- how many blocks are still to come
abbrev pub blocks_left : List Turn → ℕ
blocks_left turns = sum_by (λ turn. turn.left + 1) turns

-- the bytes are the last block of this viewer
abbrev pub IsLastViewOf : Givens → Viewing → List (List ℕ) → Onlooking → List ℕ → Type 0
IsLastViewOf givens viewing before onlooker bytes = IsViewSince givens viewing before onlooker.number onlooker.least (edition givens before) bytes

-- the bytes are the next block of one of the viewers, or the last one of one
abbrev pub TakesTurn : Givens → Viewing → List (List ℕ) → List Turn → List Turn → List ℕ → Type 0
TakesTurn givens viewing before old new bytes = ShowsNext givens viewing before old new bytes ⊎ ShowsLast givens viewing before old new bytes
