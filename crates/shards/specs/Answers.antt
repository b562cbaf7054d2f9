-- Partial answers of shards: what they are of, and who is told of.
use Rattle.std.specs.Prelude.{◌≡◌, ◌≢◌, ⊤, ◌<◌, ◌≤◌, ◌==◌, Bool, true, false, ℕ, List, [], length, map}
use Rattle.std.specs.List.{list_any}
use Rattle.std.specs.Str.Lines.{lines}
use Rattle.cells.specs.declared.cell.Cell.{Cell}
use Rattle.loader.specs.Shards.{IsNumberOf, ShardValue}
use Rattle.script.specs.Givens.{Givens}
use Rattle.script.specs.Limits.{script_limit}
use Rattle.script.specs.Own.{HaveOwn}
use Rattle.script.specs.Told.{AreTold}
use Rattle.script.specs.declared.told.Told.{Told}
use Rattle.shards.specs.Documents.{DocumentValue, line_value}
use Rattle.shards.specs.declared.complete.Incomplete.{Incomplete}
use Rattle.shards.specs.declared.complete.Incomplete.TheVariants as incomplete
use Rattle.shards.specs.declared.joining.Unjoined.{Unjoined}
use Rattle.shards.specs.declared.joining.Unjoined.TheVariants as unjoined

-- to which of so many shards a key belongs, by its number
abbrev pub Sharding : Type 0
Sharding = ℕ → Cell → ℕ

-- the key belongs to one of the shards of these numbers, of so many
abbrev pub is_among : Sharding → ℕ → List ℕ → Cell → Bool
is_among shard_of count numbers key = list_any (λ number. shard_of count key == number) numbers

-- the shards of these numbers tell of the script, over the parts that a run over all rows is given; each key belongs to a shard
pub record IsPartialAnswer (shard_of : Sharding) (givens : Givens) (it : DocumentValue) : Type 0 where
  pub tolds : List Told
  pub are : map line_value tolds ≡ it.lines
  pub told : AreTold givens (is_among shard_of it.count it.numbers) [] (lines it.script) tolds
  pub each : (key : Cell) → IsNumberOf (shard_of it.count key) it.count

-- the key belongs to the shard
abbrev pub belongs : Sharding → ShardValue → Cell → Bool
belongs shard_of shard key = shard_of shard.count key == shard.number

-- a shard has these parts of its own of the rows of a run, each of whose keys belongs to a shard
pub record HasOwnParts (shard_of : Sharding) (givens : Givens) (shard : ShardValue) (script : List ℕ) (parts : List (List ℕ)) : Type 0 where
  pub own : HaveOwn givens (belongs shard_of shard) parts [] (lines script)
  pub each : (key : Cell) → IsNumberOf (shard_of shard.count key) shard.count

-- no number is in both lists
abbrev pub AreApart : List ℕ → List ℕ → Type 0
AreApart first second = (number : ℕ) → list_any (λ n. number == n) first ≡ true → list_any (λ n. number == n) second ≡ false

-- the shard of this number has told
abbrev pub has_told : DocumentValue → ℕ → Bool
has_told it number = list_any (λ n. number == n) it.numbers

-- the two are of one script and of a table that is divided alike into as many shards, and no shard is in both
pub record AreOfOne (first second : DocumentValue) : Type 0 where
  pub script : first.script ≡ second.script
  pub division : first.division ≡ second.division
  pub count : first.count ≡ second.count
  pub apart : AreApart first.numbers second.numbers

-- why the two are not joined
abbrev pub IsUnjoined : DocumentValue → DocumentValue → Unjoined → Type 0
IsUnjoined first second unjoined.OutOfMemory = ⊤
IsUnjoined first second unjoined.OtherScript = first.script ≢ second.script
IsUnjoined first second unjoined.OtherDivision = first.division ≢ second.division
IsUnjoined first second unjoined.OtherCount = first.count ≢ second.count
IsUnjoined first second (unjoined.Twice shard) = (has_told first shard ≡ true) × (has_told second shard ≡ true)
IsUnjoined first second unjoined.Unfit = AreOfOne first second

-- all shards have told
abbrev pub IsComplete : DocumentValue → Type 0
IsComplete it = (number : ℕ) → 1 ≤ number → number ≤ it.count → has_told it number ≡ true

-- the shard of this number has not
pub record IsMissing (it : DocumentValue) (shard : ℕ) : Type 0 where
  pub least : 1 ≤ shard
  pub most : shard ≤ it.count
  pub untold : has_told it shard ≡ false

-- why there is no output
abbrev pub IsIncomplete : DocumentValue → Incomplete → Type 0
IsIncomplete it incomplete.OutOfMemory = ⊤
IsIncomplete it incomplete.TooLong = script_limit < length it.script
IsIncomplete it (incomplete.Missing shard) = IsMissing it shard
IsIncomplete it incomplete.Unfit = IsComplete it
