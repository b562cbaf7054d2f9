-- What is told of lines, whatever memory has it, and of the same keys, however they are said.
use Rattle.std.proofs.Common.{◌≡◌, ◌∙◌, ◌==◌, ◌||◌, ◌≤◌, ℕ, Bool, true, false, cond, List, [], ◌∷◌, ◌++◌, None, Some, ap, arith, map, refl, subst, sym, inl, inr}
use Rattle.std.proofs.lemmas.Bool.{cases_Bool, eq-eqb, eqb-true}
use Rattle.std.proofs.lemmas.List.Folds.{list_any-append}
use Rattle.std.proofs.lemmas.Option.{same_Some}
use Rattle.std.specs.List.{find, list_any}
use Rattle.std.specs.Prelude.{Ok, Err, Result}
use Rattle.std.specs.Str.Lines.{lines}
use Rattle.cells.specs.Values.{RowValue}
use Rattle.cells.specs.declared.cell.Cell.{Cell}
use Rattle.loader.specs.Shards.{IsNumberOf, ShardValue, taken}
use Rattle.loader.specs.Shards as loader
use Rattle.script.specs.Deeds.{Declares, Deed, Loads, Nothing, Publishes, Reports, Shapes, Updates}
use Rattle.script.specs.Givens.{Givens}
use Rattle.script.specs.Listings.{rows_loaded}
use Rattle.script.specs.Output.{deed_behind, published}
use Rattle.script.specs.Told.{AreTold, IsKeptFor, IsTold, IsToldReport, told_load}
use Rattle.script.specs.declared.fault.Fault.{Fault}
use Rattle.script.specs.declared.told.Told.{Told}
use Rattle.script.specs.declared.told.Told.TheVariants as told
use Rattle.shards.specs.Answers.{AreApart, IsPartialAnswer, Sharding, belongs, is_among}
use Rattle.shards.specs.Documents.{DocumentValue, line_value}
use Rattle.shards.specs.declared.division.Division.{Division}

-- ---- whatever memory has it
nothing_alike : (x y : Told) → x ≡ told.Nothing → line_value x ≡ line_value y → y ≡ told.Nothing
nothing_alike x told.Nothing is same = refl
nothing_alike x (told.Refused fault) is same = let never = sym (ap line_value is) ∙ same in absurd (cc)
nothing_alike x (told.Kept sets) is same = let never = sym (ap line_value is) ∙ same in absurd (cc)

refused_alike : (x y : Told) (fault : Fault) → x ≡ told.Refused fault → line_value x ≡ line_value y → y ≡ told.Refused fault
refused_alike x told.Nothing fault is same = let never = sym (ap line_value is) ∙ same in absurd (cc)
refused_alike x (told.Refused other) fault is same = let both = sym (ap line_value is) ∙ same in cc
refused_alike x (told.Kept sets) fault is same = let never = sym (ap line_value is) ∙ same in absurd (cc)

load_alike : (x y : Told) (r : Result (List RowValue) Fault) → x ≡ told_load r → line_value x ≡ line_value y → y ≡ told_load r
load_alike x y (Ok rs) is same = nothing_alike x y is same
load_alike x y (Err fault) is same = refused_alike x y fault is same

module _ (givens : Givens) where
  report_alike : (t : _) (rs : List RowValue) (query : List ℕ) (x y : Told) → IsToldReport t rs query x → line_value x ≡ line_value y → IsToldReport t rs query y
  report_alike t rs query told.Nothing told.Nothing is same = is
  report_alike t rs query told.Nothing (told.Refused fault) is same = absurd (cc)
  report_alike t rs query told.Nothing (told.Kept sets) is same = absurd (cc)
  report_alike t rs query (told.Refused fault) y is same = absurd is
  report_alike t rs query (told.Kept sets) told.Nothing is same = absurd (cc)
  report_alike t rs query (told.Kept sets) (told.Refused fault) is same = absurd (cc)
  report_alike t rs query (told.Kept sets) (told.Kept others) is same = subst (IsKeptFor t rs query) (cc) is

  told_alike : (takes : Cell → Bool) (before : List (List ℕ)) (d : Result Deed Fault) (x y : Told) → IsTold givens takes before d x → line_value x ≡ line_value y → IsTold givens takes before d y
  told_alike takes before (Ok Nothing) x y is same = nothing_alike x y is same
  told_alike takes before (Ok (Declares t)) x y is same = nothing_alike x y is same
  told_alike takes before (Ok (Loads t listing)) x y is same = load_alike x y (rows_loaded t givens.parts listing) is same
  told_alike takes before (Ok (Updates more)) x y is same = nothing_alike x y is same
  told_alike takes before (Ok Publishes) x y is same = nothing_alike x y is same
  told_alike takes before (Ok (Reports t query)) x y is same = report_alike t (taken takes (published givens before)) query x y is same
  told_alike takes before (Ok Shapes) x y is same = absurd is
  told_alike takes before (Err fault) x y is same = nothing_alike x y is same

  pub all_alike : (takes : Cell → Bool) (before left : List (List ℕ)) (xs ys : List Told) → AreTold givens takes before left xs → map line_value xs ≡ map line_value ys → AreTold givens takes before left ys
  all_alike takes before [] [] [] are same = tt
  all_alike takes before [] [] (y ∷ ys) are same = absurd (cc)
  all_alike takes before [] (x ∷ xs) ys are same = absurd are
  all_alike takes before (line ∷ left) [] ys are same = absurd are
  all_alike takes before (line ∷ left) (x ∷ xs) [] are same = absurd (cc)
  all_alike takes before (line ∷ left) (x ∷ xs) (y ∷ ys) are same =
      (told_alike takes before (deed_behind givens before line) x y are.0 (cc), all_alike takes (line ∷ before) left xs ys are.1 (cc))

  -- ---- of the same keys
  taken_same : (one two : Cell → Bool) → ((key : Cell) → one key ≡ two key) → (rs : List RowValue) → taken one rs ≡ taken two rs
  taken_same one two same [] = refl
  taken_same one two same (r ∷ rs) = rw (same r.key, taken_same one two same rs) refl

  told_same : (one two : Cell → Bool) → ((key : Cell) → one key ≡ two key) → (before : List (List ℕ)) (d : Result Deed Fault) (x : Told) → IsTold givens one before d x → IsTold givens two before d x
  told_same one two same before (Ok Nothing) x is = is
  told_same one two same before (Ok (Declares t)) x is = is
  told_same one two same before (Ok (Loads t listing)) x is = is
  told_same one two same before (Ok (Updates more)) x is = is
  told_same one two same before (Ok Publishes) x is = is
  told_same one two same before (Ok (Reports t query)) x is = subst (λ rs. IsToldReport t rs query x) (taken_same one two same (published givens before)) is
  told_same one two same before (Ok Shapes) x is = is
  told_same one two same before (Err fault) x is = is

  pub all_same : (one two : Cell → Bool) → ((key : Cell) → one key ≡ two key) → (before left : List (List ℕ)) (xs : List Told) → AreTold givens one before left xs → AreTold givens two before left xs
  all_same one two same before [] [] are = tt
  all_same one two same before [] (x ∷ xs) are = absurd are
  all_same one two same before (line ∷ left) [] are = absurd are
  all_same one two same before (line ∷ left) (x ∷ xs) are = (told_same one two same before (deed_behind givens before line) x are.0, all_same one two same (line ∷ before) left xs are.1)

-- ---- numbers of shards
or_false : (b : Bool) → b ≡ (b || false)
or_false true = refl
or_false false = refl

pub takes_among : (shard_of : Sharding) (shard : ShardValue) (key : Cell) → belongs shard_of shard key ≡ is_among shard_of shard.count (shard.number ∷ []) key
takes_among shard_of shard key = or_false (belongs shard_of shard key)

pub among_both : (shard_of : Sharding) (count : ℕ) (first second : List ℕ) (key : Cell) → (is_among shard_of count first key || is_among shard_of count second key) ≡ is_among shard_of count (first ++ second) key
among_both shard_of count first second key = sym (list_any-append (λ number. shard_of count key == number) first second)

-- no number of the first list is found in the second
pub apart : (first second : List ℕ) → find (λ number. list_any (λ n. number == n) second) first ≡ None → AreApart first second
apart [] second none number there = absurd (cc)
apart (m ∷ first) second none number there = elim (cases_Bool (list_any (λ n. m == n) second)) [
  | inl found ↦ absurd (let never = sym none ∙ ap (λ b. cond b (Some m) (find (λ number. list_any (λ n. number == n) second) first)) found in cc)
  | inr missed ↦
      let later : find (λ number. list_any (λ n. number == n) second) first ≡ None = sym (ap (λ b. cond b (Some m) (find (λ number. list_any (λ n. number == n) second) first)) missed) ∙ none in
      elim (cases_Bool (number == m)) [
        | inl same ↦ let is : number ≡ m = eqb-true number m same in ap (λ k. list_any (λ n. k == n) second) is ∙ missed
        | inr other ↦ apart first second later number (sym (ap (λ b. b || list_any (λ n. number == n) first) other) ∙ there)
      ]
]

or_true : (a b : Bool) → b ≡ true → (a || b) ≡ true
or_true true b is = refl
or_true false b is = is

-- a number that is found is in both lists
pub in_both_lists : (first second : List ℕ) (m : ℕ) → find (λ number. list_any (λ n. number == n) second) first ≡ Some m → (list_any (λ n. m == n) first ≡ true) × (list_any (λ n. m == n) second ≡ true)
in_both_lists [] second m is = absurd (cc)
in_both_lists (k ∷ first) second m is = elim (cases_Bool (list_any (λ n. k == n) second)) [
  | inl there ↦
      let same : k ≡ m = same_Some k m (sym (ap (λ b. cond b (Some k) (find (λ number. list_any (λ n. number == n) second) first)) there) ∙ is) in
      (ap (λ b. b || list_any (λ n. m == n) first) (eq-eqb m k (sym same)), ap (λ j. list_any (λ n. j == n) second) (sym same) ∙ there)
  | inr missed ↦
      let later = in_both_lists first second m (sym (ap (λ b. cond b (Some k) (find (λ number. list_any (λ n. number == n) second) first)) missed) ∙ is) in
      (or_true (m == k) (list_any (λ n. m == n) first) later.0, later.1)
]

-- of as many shards as there are, each key belongs to one
pub each_of : (hash_of : Cell → ℕ) (count : ℕ) → 1 ≤ count → (key : Cell) → IsNumberOf (loader.shard_of hash_of count key) count
each_of hash_of count some key = record { least = omega arith; most = omega (arith, some) }

-- each key belongs to one of the shards that have told
pub all_among : (shard_of : Sharding) (count : ℕ) (numbers : List ℕ) → ((key : Cell) → IsNumberOf (shard_of count key) count) → ((number : ℕ) → 1 ≤ number → number ≤ count → list_any (λ n. number == n) numbers ≡ true) → (key : Cell) →
    is_among shard_of count numbers key ≡ true
all_among shard_of count numbers each all key = let one = each key in all (shard_of count key) one.least one.most

-- ---- partial answers
-- the partial answer of one shard
pub one_shard : (shard_of : Sharding) (givens : Givens) (division : Division) (shard : ShardValue) (script : List ℕ) (tolds : List Told) (it : DocumentValue) →
    it ≡ record { script = script; division = division; count = shard.count; numbers = shard.number ∷ []; lines = map line_value tolds } →
    AreTold givens (belongs shard_of shard) [] (lines script) tolds → ((key : Cell) → IsNumberOf (shard_of shard.count key) shard.count) → IsPartialAnswer shard_of givens it
one_shard shard_of givens division shard script tolds it is told each = subst (IsPartialAnswer shard_of givens) (sym is)
    (record { tolds = tolds; are = refl; each = each; told = all_same givens (belongs shard_of shard) (is_among shard_of shard.count (shard.number ∷ [])) (takes_among shard_of shard) [] (lines script) tolds told })

-- what is told in a partial answer, whatever memory has it
pub told_in : (shard_of : Sharding) (givens : Givens) (it : DocumentValue) (tolds : List Told) → IsPartialAnswer shard_of givens it → map line_value tolds ≡ it.lines →
    AreTold givens (is_among shard_of it.count it.numbers) [] (lines it.script) tolds
told_in shard_of givens it tolds answer are = all_alike givens (is_among shard_of it.count it.numbers) [] (lines it.script) answer.tolds tolds answer.told (answer.are ∙ sym are)

-- the partial answer of both
pub both_answer : (shard_of : Sharding) (givens : Givens) (first second : DocumentValue) (xs ys both : List Told) (it : DocumentValue) →
    first.script ≡ second.script → first.count ≡ second.count → AreApart first.numbers second.numbers →
    map line_value xs ≡ first.lines → map line_value ys ≡ second.lines →
    ((one two : Cell → Bool) → ((key : Cell) → one key ≡ true → two key ≡ false) → AreTold givens one [] (lines first.script) xs → AreTold givens two [] (lines first.script) ys →
    AreTold givens (λ key. one key || two key) [] (lines first.script) both) →
    it.script ≡ first.script → it.count ≡ first.count → it.numbers ≡ first.numbers ++ second.numbers → it.lines ≡ map line_value both →
    IsPartialAnswer shard_of givens first → IsPartialAnswer shard_of givens second → IsPartialAnswer shard_of givens it
both_answer shard_of givens first second xs ys both it script count are_apart are_xs are_ys joins is_script is_count is_numbers is_lines one two =
    let among_one = is_among shard_of first.count first.numbers in
    let among_two = is_among shard_of first.count second.numbers in
    let told_one = told_in shard_of givens first xs one are_xs in
    let told_second = told_in shard_of givens second ys two are_ys in
    let told_script = subst (λ s. AreTold givens (is_among shard_of second.count second.numbers) [] (lines s) ys) (sym script) told_second in
    let told_two = subst (λ n. AreTold givens (is_among shard_of n second.numbers) [] (lines first.script) ys) (sym count) told_script in
    let told = joins among_one among_two (λ key there. are_apart (shard_of first.count key) there) told_one told_two in
    let all = all_same givens (λ key. among_one key || among_two key) (is_among shard_of first.count (first.numbers ++ second.numbers)) (among_both shard_of first.count first.numbers second.numbers) [] (lines first.script) both told in
    let of_numbers = subst (λ ns. AreTold givens (is_among shard_of first.count ns) [] (lines first.script) both) (sym is_numbers) all in
    let of_count = subst (λ n. AreTold givens (is_among shard_of n it.numbers) [] (lines first.script) both) (sym is_count) of_numbers in
    record { tolds = both; are = sym is_lines; told = subst (λ s. AreTold givens (is_among shard_of it.count it.numbers) [] (lines s) both) (sym is_script) of_count; each = λ key. subst (λ n. IsNumberOf (shard_of n key) n) (sym is_count) (one.each key) }
