-- What the manual has pages of.
use Rattle.std.specs.Prelude.{◌≡◌, ℕ, List, true, Some, codes}
use Rattle.std.specs.Str.{bytes_eq}
use Rattle.cells.specs.Integers.{whole_number_of}
use Rattle.cells.specs.Refusals.{number_of}
use Rattle.olap.specs.declared.manual.Topic.{Topic}
use Rattle.olap.specs.declared.manual.Topic.TheVariants.{Check, Language, Query, Refusal, Schema}

-- the word names this page: a refusal has its number
abbrev pub IsNamed : List ℕ → Topic → Type 0
IsNamed word Language = bytes_eq word (codes "language") ≡ true
IsNamed word Check = bytes_eq word (codes "check") ≡ true
IsNamed word Query = bytes_eq word (codes "query") ≡ true
IsNamed word Schema = bytes_eq word (codes "schema") ≡ true
IsNamed word (Refusal refusal) = whole_number_of word ≡ Some (number_of refusal)
