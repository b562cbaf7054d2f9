-- The numbers and names of refusals, and what a call may answer.
use Rattle.std.specs.Prelude.{◌≡◌, ◌⊎◌, ℕ, List, codes, Option, Some, None, Result, Ok, Err}
use Rattle.cells.specs.declared.refused.Refused.{Refused}
use Rattle.cells.specs.declared.refused.Refused.TheVariants.{NoTable, TableAgain, BadCommand, BadSchema, NoPart, BadPart, BadRecord, BadKey, TooManyRows, QuerySyntax, Unknown, NotGrouped, WrongType, TooManySets, Limit, OutOfMemory, NoWorker, WriteFailed, NotShown}
use Rattle.cells.specs.declared.token.TokenFault.{TokenFault}
use Rattle.cells.specs.declared.token.TokenFault.TheVariants.{Bad, Memory}

-- the number that a report prints
abbrev pub number_of : Refused → ℕ
number_of NoTable = 1
number_of TableAgain = 2
number_of BadCommand = 3
number_of BadSchema = 4
number_of NoPart = 5
number_of BadPart = 6
number_of BadRecord = 7
number_of BadKey = 8
number_of TooManyRows = 9
number_of QuerySyntax = 10
number_of Unknown = 11
number_of NotGrouped = 12
number_of WrongType = 13
number_of TooManySets = 14
number_of Limit = 15
number_of OutOfMemory = 90
number_of NoWorker = 91
number_of WriteFailed = 92
number_of NotShown = 93

-- the name, which stands beside the number where programs read
abbrev pub name_of : Refused → List ℕ
name_of NoTable = codes "NoTable"
name_of TableAgain = codes "TableAgain"
name_of BadCommand = codes "BadCommand"
name_of BadSchema = codes "BadSchema"
name_of NoPart = codes "NoPart"
name_of BadPart = codes "BadPart"
name_of BadRecord = codes "BadRecord"
name_of BadKey = codes "BadKey"
name_of TooManyRows = codes "TooManyRows"
name_of QuerySyntax = codes "QuerySyntax"
name_of Unknown = codes "Unknown"
name_of NotGrouped = codes "NotGrouped"
name_of WrongType = codes "WrongType"
name_of TooManySets = codes "TooManySets"
name_of Limit = codes "Limit"
name_of OutOfMemory = codes "OutOfMemory"
name_of NoWorker = codes "NoWorker"
name_of WriteFailed = codes "WriteFailed"
name_of NotShown = codes "NotShown"

-- What a reader answers, beside what it is said to read. `view` is how its value is seen, and `want` the fault that comes
-- where memory is wanting, whatever is said.

-- the value that is said, or the fault that is said
abbrev pub ReadsBy : {X Y E : Type 0} → E → (X → Y) → Result Y E → Result X E → Type 0
ReadsBy want view said (Ok x) = said ≡ Ok (view x)
ReadsBy want view said (Err e) = (e ≡ want) ⊎ (said ≡ Err e)

-- the value that is there, or the one fault, which comes only where there is none
abbrev pub AnswersOr : {X Y E : Type 0} → E → (X → Y) → E → Option Y → Result X E → Type 0
AnswersOr want view fault o (Ok x) = o ≡ Some (view x)
AnswersOr want view fault o (Err e) = (e ≡ want) ⊎ ((e ≡ fault) × (o ≡ None))

-- the same of faults that are refusals: as the value itself is (Reads, Answers), and as it is seen by view (AnswersBy)
abbrev pub Reads : {X : Type 0} → Result X Refused → Result X Refused → Type 0
Reads said result = ReadsBy OutOfMemory (λ x. x) said result

abbrev pub AnswersBy : {X Y : Type 0} → (X → Y) → Refused → Option Y → Result X Refused → Type 0
AnswersBy view fault o result = AnswersOr OutOfMemory view fault o result

abbrev pub Answers : {T : Type 0} → Refused → Option T → Result T Refused → Type 0
Answers fault o result = AnswersBy (λ x. x) fault o result

-- the same of a reader of tokens, whose one fault is that the text is bad
abbrev pub Gives : {X Y : Type 0} → (X → Y) → Option Y → Result X TokenFault → Type 0
Gives view o result = AnswersOr Memory view Bad o result
