use Rattle.std.proofs.Common.{List, ℕ, ap, ap₂, arith, get_or, length, sym, take, append-nil, ◌+◌, ◌++◌, ◌∷◌, [], ◌<◌, ◌≡◌, ◌∙◌}
use Rattle.std.specs.Prelude.{None, Some}
use Rattle.std.proofs.lemmas.List.{append_assoc, get_or_default, get_or_read, length-map, map_more, take_all}
use Rattle.std.proofs.lemmas.List.Elements.{All-from_recursion, All-get_or}
use Rattle.cells.specs.declared.cell.Cell.{Cell}
use Rattle.cells.specs.declared.cell.Cell.TheVariants.{Null}
use Rattle.columns.specs.Columns.{AreCodes, ColumnValue, decoded}
use Rattle.columns.proofs.ColumnsLemmas.{codes_coded, puts_coded, recode_all, recoded_by}
use Rattle.columns.proofs.code_column.CodeColumn.append_listed.Goals as goal

-- the column of these codes and no list
abbrev unlisted : List ℕ → ColumnValue
unlisted codes = record { cells = None; by_row = codes }

no_more : (column : ColumnValue) → column.cells ≡ None → column ≡ unlisted (column.by_row ++ [])
no_more column none = ap₂ (λ cells codes. record { cells = cells; by_row = codes }) none (sym (append-nil column.by_row))

one_more : (recoded codes by_row : List ℕ) (i code became : ℕ) (old new : ColumnValue) → i < length codes → code ≡ get_or codes i code → became ≡ get_or recoded code 0 →
    old ≡ unlisted (by_row ++ recoded_by recoded (take i codes)) → new ≡ unlisted (old.by_row ++ became ∷ []) → new ≡ unlisted (by_row ++ recoded_by recoded (take (i + 1) codes))
one_more recoded codes by_row i code became old new within at is was puts =
    let before : List ℕ = recoded_by recoded (take i codes) in
    let more : recoded_by recoded (take (i + 1) codes) ≡ before ++ became ∷ [] =
    map_more (λ k. get_or recoded k 0) codes i code within ∙ ap (λ n. before ++ n ∷ []) (sym (is ∙ ap (λ k. get_or recoded k 0) at)) in
    puts ∙ ap (λ l. unlisted (l ++ became ∷ [])) (ap (λ v. v.by_row) was) ∙ ap unlisted (append_assoc by_row before (became ∷ []) ∙ ap (λ l. by_row ++ l) (sym more))

-- each code is one of the list that was recoded
below : (cells others : List Cell) (recoded codes : List ℕ) (i : ℕ) → decoded (Some cells) recoded ≡ others → AreCodes (Some others) codes → i < length codes → get_or codes i 0 < length recoded
below cells others recoded codes i stand are within = omega (
  arith,
  All-get_or (λ k. k < length others) codes i 0 within (All-from_recursion (λ k. k < length others) codes are),
  ap (λ l. length l) stand,
  length-map recoded (λ c. get_or cells c Null),
)

pub loop-code-init : goal.loop-code-init
loop-code-init c = no_more c.take_list.new.self c.in_ok-list.ensures.given

pub index-requires : goal.index-requires
index-requires c =
    let recoded = c.in_ok-recoded.recoded in
    omega (
      arith,
      below c.codes_of.new.self c.args.cells.now recoded.items c.args.codes.now c.loop-code.code-index c.in_ok-recoded.ensures.stand c.requires c.loop-code-test.true,
      recoded.ok.0,
    )

pub push_code-requires : goal.push_code-requires
push_code-requires c = ap (λ v. v.cells) c.loop-code.invariant

pub loop-code-preserved : goal.loop-code-preserved
loop-code-preserved c =
    let codes = c.args.codes.now in
    let recoded = c.in_ok-recoded.recoded.items in
    let i = c.loop-code.code-index in
    let code = get_or codes i 0 in
    let within = below c.codes_of.new.self c.args.cells.now recoded codes i c.in_ok-recoded.ensures.stand c.requires c.loop-code-test.true in
    one_more recoded codes c.take_list.new.self.by_row i code c.index.result.now c.loop-code.self c.push_code.new.self c.loop-code-test.true
    (get_or_default codes i 0 code c.loop-code-test.true) (get_or_read recoded code c.index.result.now within c.index.ensures 0) c.loop-code.invariant c.in_ok-push_code.ensures

pub invariant_of-self : goal.invariant_of-self
invariant_of-self c =
    let codes : List ℕ = c.args.codes.now in
    let recoded : List ℕ = c.in_ok-recoded.recoded.items in
    let added : c.self-2.inside.by_row.items ≡ c.take_list.new.self.by_row ++ recoded_by recoded codes =
    ap (λ v. v.by_row) c.self-2.view_is ∙ ap (λ v. v.by_row) c.loop-code.invariant ∙
    ap (λ l. c.take_list.new.self.by_row ++ recoded_by recoded l) (take_all c.loop-code.code-index codes (omega (arith, c.loop-code-test.false))) in
    codes_coded (decoded (Some c.args.cells.now) codes) c.args.self.now c.take_list.new.self c.in_ok-list.list c.codes_of.new.self (recoded_by recoded codes) c.self-2.inside.by_row.items c.in_ok-list.ensures
    (recode_all c.in_ok-list.list c.codes_of.new.self c.args.cells.now recoded codes c.in_ok-recoded.ensures c.requires) added

pub returns : goal.returns
returns c =
    let codes : List ℕ = c.args.codes.now in
    let recoded : List ℕ = c.in_ok-recoded.recoded.items in
    let added : c.self-2.inside.by_row.items ≡ c.take_list.new.self.by_row ++ recoded_by recoded codes =
    ap (λ v. v.by_row) c.self-2.view_is ∙ ap (λ v. v.by_row) c.loop-code.invariant ∙
    ap (λ l. c.take_list.new.self.by_row ++ recoded_by recoded l) (take_all c.loop-code.code-index codes (omega (arith, c.loop-code-test.false))) in
    puts_coded (decoded (Some c.args.cells.now) codes) c.args.self.now c.take_list.new.self c.in_ok-list.list c.codes_of.new.self (recoded_by recoded codes) c.self-2.inside.by_row.items c.in_ok-list.ensures
    (recode_all c.in_ok-list.list c.codes_of.new.self c.args.cells.now recoded codes c.in_ok-recoded.ensures c.requires) added
