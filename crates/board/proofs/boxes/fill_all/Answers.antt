use Rattle.std.proofs.Common.{◌≡◌, ◌-◌, [], ◌∷◌, ◌++◌, length, length-append, ap, ◌∙◌, option_to_list, arith}
use Rattle.board.proofs.CopiesLemmas.{copy_is_end, goes_further, left_ends}
use Rattle.board.proofs.boxes.fill_all.Goals as goal

pub turn-requires-clause-last : goal.turn-requires-clause-last
turn-requires-clause-last g c =
    let is = c.pop.ensures.items ∙ ap (λ o. c.pop.new.self.items ++ option_to_list o) c.in-Some.is in
    copy_is_end _ _ _ _ _ c.loop-copy.invariant.0 c.wait_for_side-side.ensures _ _ _ is c.loop-copy.invariant.3

pub loop-copy-preserved : goal.loop-copy-preserved
loop-copy-preserved g c =
    let is = c.pop.ensures.items ∙ ap (λ o. c.pop.new.self.items ++ option_to_list o) c.in-Some.is in (
      goes_further _ _ _ _ _ c.loop-copy.invariant.0 c.wait_for_side-side.ensures _ c.turn.ensures,
      omega (arith, c.loop-copy.invariant.1, ap length is, length-append c.pop.new.self.items (c.in-Some.copy ∷ [])),
      omega arith,
      left_ends c.args.seat.now _ _ _ _ c.loop-copy.invariant.0 c.wait_for_side-side.ensures _ _ _ is c.loop-copy.invariant.3,
    )

pub returns : goal.returns
returns g c =
    let none = rw c.in_default.is at c.pop.ensures.cases in
    let done : length c.args.copies.items ≡ c.loop-copy.word - 1 = omega (arith, c.loop-copy.invariant.1, none.0, c.loop-copy.copies.ok.0) in
    rw done c.loop-copy.invariant.0
