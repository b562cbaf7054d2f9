use Rattle.std.proofs.Common.{◌≡◌, ◌<◌, List, ℕ, arith, get_or, length, refl, sym, ◌∙◌}
use Rattle.std.proofs.lemmas.List.{length-map}
use Rattle.groups.specs.Parting.{codes_at}
use Rattle.groups.proofs.DifferingLemmas.{code_there, listed_end, listed_none, listed_push}
use Rattle.groups.proofs.TuplesLemmas.{all_at}
use Rattle.groups.proofs.differing.codes_by_group.Goals as goal

pub loop-at-init : goal.loop-at-init
loop-at-init c = listed_none c.args.count _ c.in_ok-lists.ensures

pub bounds-rows-at : goal.bounds-rows-at
bounds-rows-at c = c.loop-at-test.true

pub bounds-codes-rows : goal.bounds-codes-rows
bounds-codes-rows c = all_at (λ row. row < length c.args.codes.now) c.args.rows.now c.loop-at.at 0 c.requires.rows c.loop-at-test.true

pub bounds-numbers-at : goal.bounds-numbers-at
bounds-numbers-at c = omega (arith, c.loop-at-test.true, c.requires.numbers.0)

pub index_mut-requires : goal.index_mut-requires
index_mut-requires c =
    let below : get_or c.args.numbers.now c.loop-at.at 0 < c.args.count =
    all_at (λ n. n < c.args.count) c.args.numbers.now c.loop-at.at 0 c.requires.numbers.1 (omega (arith, c.loop-at-test.true, c.requires.numbers.0)) in
    omega (arith, below, c.loop-at.invariant.counted, length-map c.loop-at.lists.items (λ list. list.items), c.loop-at.lists.ok.0)

pub loop-at-preserved : goal.loop-at-preserved
loop-at-preserved c =
    let i = c.loop-at.at in
    let codes : List ℕ = c.args.codes.now in
    let rows : List ℕ = c.args.rows.now in
    let long : length (codes_at codes rows) ≡ length rows = length-map rows (λ row. get_or codes row 0) in
    let below : get_or c.args.numbers.now i 0 < c.args.count =
    all_at (λ n. n < c.args.count) c.args.numbers.now i 0 c.requires.numbers.1 (omega (arith, c.loop-at-test.true, c.requires.numbers.0)) in
    listed_push c.args.count c.args.numbers.now (codes_at codes rows) c.loop-at.lists.items i (get_or c.args.numbers.now i 0) (get_or codes (get_or rows i 0) 0)
    c.index_mut.result.now c.push.new.self (c.requires.numbers.0 ∙ sym long) (omega (arith, c.loop-at-test.true, long)) refl
    (code_there codes rows i c.loop-at-test.true) below c.index_mut.ensures.value c.in_ok-push.ensures.items c.loop-at.invariant

pub returns : goal.returns
returns c =
    let long : length (codes_at c.args.codes.now c.args.rows.now) ≡ length c.args.rows.now = length-map c.args.rows.now (λ row. get_or c.args.codes.now row 0) in
    listed_end c.args.count c.args.numbers.now (codes_at c.args.codes.now c.args.rows.now) _ c.loop-at.at
    (omega (arith, c.loop-at-test.false, c.loop-at.auto.at-end, c.requires.numbers.0))
    (omega (arith, c.loop-at-test.false, c.loop-at.auto.at-end, long)) c.loop-at.invariant
