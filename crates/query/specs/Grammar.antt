-- How tokens spell a query (after ISO/IEC 9075-2:1999: 7.11 query specification, 7.8 where clause, 7.9 group by
-- clause, 7.10 having clause, 6.16 set function specification, 8.1 to 8.4 and the null predicate of clause 8, and the boolean value
-- expression; and after ISO/IEC 9075-2:2016: GROUP BY DISTINCT, feature T434, and GROUPING of several columns, feature
-- T433): a family for each rule of the grammar, a constructor for each alternative.
-- `SpellsX ts x rest` says that the tokens ts begin with a spelling of x, and that rest follows it.
use Rattle.std.specs.Prelude.{◌≡◌, ℕ, Bool, true, false, List, [], ◌∷◌, codes, Option, Some, None}
use Rattle.cells.specs.Schemas.{is_reserved}
use Rattle.cells.specs.declared.token.Token.{Token}
use Rattle.cells.specs.declared.token.Token.TheVariants.{Word, Number, Quoted, Mark}
use Rattle.cells.specs.declared.token.Mark.TheVariants.{LeftParen, RightParen, Comma, Asterisk, Equals, NotEquals, LessThanOrEquals, GreaterThanOrEquals, LessThan, GreaterThan}
use Rattle.query.specs.Trees.{ElementTree, Empty, OneUnit, Rollup, Cube, Sets, ElementTrees, NoElements, MoreElements, PredicateTree, Or, And, Not, Holds, PredicateTrees, NoPredicates, MorePredicates}
use Rattle.query.specs.Having.{having_of}
use Rattle.query.specs.Values.{GroupsTree, HavingTree, QueryTree, all_rows, no_having}
use Rattle.query.specs.declared.item.Item.{Item}
use Rattle.query.specs.declared.item.Item.TheVariants as item
use Rattle.query.specs.declared.test.Test.{Test}
use Rattle.query.specs.declared.test.Test.TheVariants as test
use Rattle.query.specs.declared.test.Literal.{Literal}
use Rattle.query.specs.declared.test.Literal.TheVariants as literal
use Rattle.query.specs.declared.test.Operand.{Operand}
use Rattle.query.specs.declared.test.Operand.TheVariants as operand
use Rattle.query.specs.declared.test.Comparison.{Comparison}
use Rattle.query.specs.declared.test.Comparison.TheVariants as comparison

abbrev pub word : List ℕ → Token
word w = Word w

-- the signs and the reserved words of the grammar, as tokens
abbrev pub lparen : Token
lparen = Mark LeftParen

abbrev pub rparen : Token
rparen = Mark RightParen

abbrev pub comma : Token
comma = Mark Comma

abbrev pub star : Token
star = Mark Asterisk

abbrev pub SELECT : Token
SELECT = Word (codes "SELECT")

abbrev pub FROM : Token
FROM = Word (codes "FROM")

abbrev pub WHERE : Token
WHERE = Word (codes "WHERE")

abbrev pub GROUP : Token
GROUP = Word (codes "GROUP")

abbrev pub BY : Token
BY = Word (codes "BY")

abbrev pub HAVING : Token
HAVING = Word (codes "HAVING")

abbrev pub ROLLUP : Token
ROLLUP = Word (codes "ROLLUP")

abbrev pub CUBE : Token
CUBE = Word (codes "CUBE")

abbrev pub GROUPING : Token
GROUPING = Word (codes "GROUPING")

abbrev pub SETS : Token
SETS = Word (codes "SETS")

abbrev pub COUNT : Token
COUNT = Word (codes "COUNT")

abbrev pub SUM : Token
SUM = Word (codes "SUM")

abbrev pub MIN : Token
MIN = Word (codes "MIN")

abbrev pub MAX : Token
MAX = Word (codes "MAX")

abbrev pub DISTINCT : Token
DISTINCT = Word (codes "DISTINCT")

abbrev pub OR : Token
OR = Word (codes "OR")

abbrev pub AND : Token
AND = Word (codes "AND")

abbrev pub NOT : Token
NOT = Word (codes "NOT")

abbrev pub IS : Token
IS = Word (codes "IS")

abbrev pub NULL : Token
NULL = Word (codes "NULL")

abbrev pub BETWEEN : Token
BETWEEN = Word (codes "BETWEEN")

abbrev pub IN : Token
IN = Word (codes "IN")

-- x { sep x }: one or several, with the separator between them
pub data Separated {X : Type 0} (sep : Token) (Spells : List Token → X → List Token → Type 0) : List Token → List X → List Token → Type 0 where
  last : {ts rest : List Token} {x : X} → Spells ts x rest → Separated sep Spells ts (x ∷ []) rest
  next : {ts us rest : List Token} {x : X} {xs : List X} → Spells ts x (sep ∷ us) → Separated sep Spells us xs rest → Separated sep Spells ts (x ∷ xs) rest

-- name: a word that is not reserved
pub data SpellsName : List Token → List ℕ → List Token → Type 0 where
  name : {n : List ℕ} {rest : List Token} → is_reserved n ≡ false → SpellsName (Word n ∷ rest) n rest

-- item = name | GROUPING "(" name { "," name } ")" | COUNT "(" "*" ")" | COUNT "(" [ DISTINCT ] name ")"
--     | ( SUM | MIN | MAX ) "(" name ")"
pub data SpellsItem : List Token → Item (List ℕ) → List Token → Type 0 where
  -- name
  column : {n : List ℕ} {rest : List Token} → is_reserved n ≡ false → SpellsItem (Word n ∷ rest) (item.Column n) rest
  -- GROUPING "(" name { "," name } ")"
  grouping : {ts rest : List Token} {ns : List (List ℕ)} → Separated comma SpellsName ts ns (rparen ∷ rest) → SpellsItem (GROUPING ∷ lparen ∷ ts) (item.Grouping ns) rest
  -- COUNT "(" "*" ")"
  count_rows : {rest : List Token} → SpellsItem (COUNT ∷ lparen ∷ star ∷ rparen ∷ rest) item.CountRows rest
  -- COUNT "(" [ DISTINCT ] name ")"
  count : {n : List ℕ} {rest : List Token} → is_reserved n ≡ false → SpellsItem (COUNT ∷ lparen ∷ Word n ∷ rparen ∷ rest) (item.Count n) rest
  count_distinct : {n : List ℕ} {rest : List Token} → is_reserved n ≡ false → SpellsItem (COUNT ∷ lparen ∷ DISTINCT ∷ Word n ∷ rparen ∷ rest) (item.CountDistinct n) rest
  -- ( SUM | MIN | MAX ) "(" name ")"
  sum : {n : List ℕ} {rest : List Token} → is_reserved n ≡ false → SpellsItem (SUM ∷ lparen ∷ Word n ∷ rparen ∷ rest) (item.Sum n) rest
  min : {n : List ℕ} {rest : List Token} → is_reserved n ≡ false → SpellsItem (MIN ∷ lparen ∷ Word n ∷ rparen ∷ rest) (item.Min n) rest
  max : {n : List ℕ} {rest : List Token} → is_reserved n ≡ false → SpellsItem (MAX ∷ lparen ∷ Word n ∷ rparen ∷ rest) (item.Max n) rest

-- unit = name | "(" name { "," name } ")"
pub data SpellsUnit : List Token → List (List ℕ) → List Token → Type 0 where
  one : {ts rest : List Token} {n : List ℕ} → SpellsName ts n rest → SpellsUnit ts (n ∷ []) rest
  several : {ts rest : List Token} {ns : List (List ℕ)} → Separated comma SpellsName ts ns (rparen ∷ rest) → SpellsUnit (lparen ∷ ts) ns rest

mutual
  -- element = "(" ")" | unit | ROLLUP "(" unit { "," unit } ")" | CUBE "(" unit { "," unit } ")"
  --     | GROUPING SETS "(" element { "," element } ")"
  pub data SpellsElement : List Token → ElementTree → List Token → Type 0 where
    -- "(" ")"
    empty : {rest : List Token} → SpellsElement (lparen ∷ rparen ∷ rest) Empty rest
    -- unit
    unit : {ts rest : List Token} {u : List (List ℕ)} → SpellsUnit ts u rest → SpellsElement ts (OneUnit u) rest
    -- ROLLUP "(" unit { "," unit } ")"
    rollup : {ts rest : List Token} {us : List (List (List ℕ))} → Separated comma SpellsUnit ts us (rparen ∷ rest) → SpellsElement (ROLLUP ∷ lparen ∷ ts) (Rollup us) rest
    -- CUBE "(" unit { "," unit } ")"
    cube : {ts rest : List Token} {us : List (List (List ℕ))} → Separated comma SpellsUnit ts us (rparen ∷ rest) → SpellsElement (CUBE ∷ lparen ∷ ts) (Cube us) rest
    -- GROUPING SETS "(" element { "," element } ")"
    sets : {ts rest : List Token} {es : ElementTrees} → SpellsElements ts es (rparen ∷ rest) → SpellsElement (GROUPING ∷ SETS ∷ lparen ∷ ts) (Sets es) rest

  -- element { "," element }
  pub data SpellsElements : List Token → ElementTrees → List Token → Type 0 where
    last_element : {ts rest : List Token} {e : ElementTree} → SpellsElement ts e rest → SpellsElements ts (MoreElements e NoElements) rest
    next_element : {ts us rest : List Token} {e : ElementTree} {es : ElementTrees} → SpellsElement ts e (comma ∷ us) → SpellsElements us es rest → SpellsElements ts (MoreElements e es) rest

-- literal = number | text
pub data SpellsLiteral : List Token → Literal → List Token → Type 0 where
  number : {n : _} {rest : List Token} → SpellsLiteral (Number n ∷ rest) (literal.Int n) rest
  text : {t : List ℕ} {rest : List Token} → SpellsLiteral (Quoted t ∷ rest) (literal.Text t) rest

-- operand = leaf | literal: a leaf is what the clause allows beside a literal, a name in WHERE and an item in HAVING
pub data SpellsOperand {C : Type 0} (Leaf : List Token → C → List Token → Type 0) : List Token → Operand C → List Token → Type 0 where
  leaf_operand : {ts rest : List Token} {c : C} → Leaf ts c rest → SpellsOperand Leaf ts (operand.Column c) rest
  literal_operand : {ts rest : List Token} {l : Literal} → SpellsLiteral ts l rest → SpellsOperand Leaf ts (operand.Literal l) rest

-- comparison = "=" | "<>" | "<" | "<=" | ">" | ">="
pub data SpellsComparison : List Token → Comparison → List Token → Type 0 where
  equal : {rest : List Token} → SpellsComparison (Mark Equals ∷ rest) comparison.Equal rest
  not_equal : {rest : List Token} → SpellsComparison (Mark NotEquals ∷ rest) comparison.NotEqual rest
  less : {rest : List Token} → SpellsComparison (Mark LessThan ∷ rest) comparison.Less rest
  less_or_equal : {rest : List Token} → SpellsComparison (Mark LessThanOrEquals ∷ rest) comparison.LessOrEqual rest
  greater : {rest : List Token} → SpellsComparison (Mark GreaterThan ∷ rest) comparison.Greater rest
  greater_or_equal : {rest : List Token} → SpellsComparison (Mark GreaterThanOrEquals ∷ rest) comparison.GreaterOrEqual rest

-- [ word ]: whether the word stands there
pub data SpellsMark (mark : Token) : List Token → Bool → List Token → Type 0 where
  without : {rest : List Token} → SpellsMark mark rest false rest
  with : {rest : List Token} → SpellsMark mark (mark ∷ rest) true rest

-- [ NOT ]
abbrev pub SpellsNot : List Token → Bool → List Token → Type 0
SpellsNot = SpellsMark NOT

-- test = operand comparison operand | operand IS [ NOT ] NULL | operand [ NOT ] BETWEEN operand AND operand
--     | operand [ NOT ] IN "(" literal { "," literal } ")"
pub data SpellsTest {C : Type 0} (Leaf : List Token → C → List Token → Type 0) : List Token → Test C → List Token → Type 0 where
  -- operand comparison operand
  compare : {ts us vs rest : List Token} {a b : Operand C} {c : Comparison} → SpellsOperand Leaf ts a us → SpellsComparison us c vs → SpellsOperand Leaf vs b rest → SpellsTest Leaf ts (test.Compare a c b) rest
  -- operand IS [ NOT ] NULL
  is_null : {ts us rest : List Token} {a : Operand C} {not : Bool} → SpellsOperand Leaf ts a (IS ∷ us) → SpellsNot us not (NULL ∷ rest) → SpellsTest Leaf ts (test.IsNull a not) rest
  -- operand [ NOT ] BETWEEN operand AND operand
  between : {ts us vs ws rest : List Token} {a low high : Operand C} {not : Bool} → SpellsOperand Leaf ts a us → SpellsNot us not (BETWEEN ∷ vs) → SpellsOperand Leaf vs low (AND ∷ ws) → SpellsOperand Leaf ws high rest → SpellsTest Leaf ts (test.Between a low high not) rest
  -- operand [ NOT ] IN "(" literal { "," literal } ")"
  among : {ts us vs rest : List Token} {a : Operand C} {ls : List Literal} {not : Bool} → SpellsOperand Leaf ts a us → SpellsNot us not (IN ∷ lparen ∷ vs) → Separated comma SpellsLiteral vs ls (rparen ∷ rest) → SpellsTest Leaf ts (test.In a ls not) rest

mutual
  -- predicate = term { OR term }: one term is itself, several are an OR of at least two
  pub data SpellsPredicate {C : Type 0} (Leaf : List Token → C → List Token → Type 0) : List Token → PredicateTree (Test C) → List Token → Type 0 where
    one_term : {ts rest : List Token} {p : PredicateTree (Test C)} → SpellsTerm Leaf ts p rest → SpellsPredicate Leaf ts p rest
    or : {ts us rest : List Token} {p : PredicateTree (Test C)} {ps : PredicateTrees (Test C)} → SpellsTerm Leaf ts p (OR ∷ us) → SpellsTerms Leaf us ps rest → SpellsPredicate Leaf ts (Or (MorePredicates p ps)) rest

  -- term { OR term }, as a list
  pub data SpellsTerms {C : Type 0} (Leaf : List Token → C → List Token → Type 0) : List Token → PredicateTrees (Test C) → List Token → Type 0 where
    last_term : {ts rest : List Token} {p : PredicateTree (Test C)} → SpellsTerm Leaf ts p rest → SpellsTerms Leaf ts (MorePredicates p NoPredicates) rest
    next_term : {ts us rest : List Token} {p : PredicateTree (Test C)} {ps : PredicateTrees (Test C)} → SpellsTerm Leaf ts p (OR ∷ us) → SpellsTerms Leaf us ps rest → SpellsTerms Leaf ts (MorePredicates p ps) rest

  -- term = factor { AND factor }: one factor is itself, several are an AND of at least two
  pub data SpellsTerm {C : Type 0} (Leaf : List Token → C → List Token → Type 0) : List Token → PredicateTree (Test C) → List Token → Type 0 where
    one_factor : {ts rest : List Token} {p : PredicateTree (Test C)} → SpellsFactor Leaf ts p rest → SpellsTerm Leaf ts p rest
    and : {ts us rest : List Token} {p : PredicateTree (Test C)} {ps : PredicateTrees (Test C)} → SpellsFactor Leaf ts p (AND ∷ us) → SpellsFactors Leaf us ps rest → SpellsTerm Leaf ts (And (MorePredicates p ps)) rest

  -- factor { AND factor }, as a list
  pub data SpellsFactors {C : Type 0} (Leaf : List Token → C → List Token → Type 0) : List Token → PredicateTrees (Test C) → List Token → Type 0 where
    last_factor : {ts rest : List Token} {p : PredicateTree (Test C)} → SpellsFactor Leaf ts p rest → SpellsFactors Leaf ts (MorePredicates p NoPredicates) rest
    next_factor : {ts us rest : List Token} {p : PredicateTree (Test C)} {ps : PredicateTrees (Test C)} → SpellsFactor Leaf ts p (AND ∷ us) → SpellsFactors Leaf us ps rest → SpellsFactors Leaf ts (MorePredicates p ps) rest

  -- factor = [ NOT ] primary
  pub data SpellsFactor {C : Type 0} (Leaf : List Token → C → List Token → Type 0) : List Token → PredicateTree (Test C) → List Token → Type 0 where
    plain : {ts rest : List Token} {p : PredicateTree (Test C)} → SpellsPrimary Leaf ts p rest → SpellsFactor Leaf ts p rest
    not : {ts rest : List Token} {p : PredicateTree (Test C)} → SpellsPrimary Leaf ts p rest → SpellsFactor Leaf (NOT ∷ ts) (Not p) rest

  -- primary = "(" predicate ")" | test: parentheses leave no trace in the tree
  pub data SpellsPrimary {C : Type 0} (Leaf : List Token → C → List Token → Type 0) : List Token → PredicateTree (Test C) → List Token → Type 0 where
    parens : {ts rest : List Token} {p : PredicateTree (Test C)} → SpellsPredicate Leaf ts p (rparen ∷ rest) → SpellsPrimary Leaf (lparen ∷ ts) p rest
    tested : {ts rest : List Token} {t : Test C} → SpellsTest Leaf ts t rest → SpellsPrimary Leaf ts (Holds t) rest

-- [ WHERE predicate ]
pub data SpellsWhere : List Token → Option (PredicateTree (Test (List ℕ))) → List Token → Type 0 where
  no_where : {rest : List Token} → SpellsWhere rest None rest
  where_predicate : {ts rest : List Token} {p : PredicateTree (Test (List ℕ))} → SpellsPredicate SpellsName ts p rest → SpellsWhere (WHERE ∷ ts) (Some p) rest

-- [ GROUP BY [ DISTINCT ] element { "," element } ]: without it, it is as with GROUP BY ()
pub data SpellsGroups : List Token → GroupsTree → List Token → Type 0 where
  no_groups : {rest : List Token} → SpellsGroups rest all_rows rest
  group_by : {ts us rest : List Token} {d : Bool} {es : List ElementTree} → SpellsMark DISTINCT ts d us → Separated comma SpellsElement us es rest → SpellsGroups (GROUP ∷ BY ∷ ts) (record { distinct = d; elements = es }) rest

-- [ HAVING predicate ], over items
pub data SpellsHaving : List Token → HavingTree → List Token → Type 0 where
  without_having : {rest : List Token} → SpellsHaving rest no_having rest
  having : {ts rest : List Token} {p : PredicateTree (Test (Item (List ℕ)))} → SpellsPredicate SpellsItem ts p rest → SpellsHaving (HAVING ∷ ts) (having_of p) rest

-- query = SELECT item { "," item } FROM name [ WHERE predicate ] [ GROUP BY [ DISTINCT ] element { "," element } ]
--     [ HAVING predicate ]
pub data SpellsQuery : List Token → QueryTree → Type 0 where
  query : {ts us vs ws xs : List Token} {items : List (Item (List ℕ))} {table : List ℕ} {condition : Option (PredicateTree (Test (List ℕ)))} {groups : GroupsTree} {having : HavingTree} →
      Separated comma SpellsItem ts items (FROM ∷ us) → SpellsName us table vs → SpellsWhere vs condition ws → SpellsGroups ws groups xs → SpellsHaving xs having [] →
      SpellsQuery (SELECT ∷ ts) (record { items = items; table = table; condition = condition; groups = groups; having = having })
