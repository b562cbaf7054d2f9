use Rattle.std.proofs.Common.{◌≡◌, ◌<◌, [], ◌∷◌, ◌++◌, ap, arith, ◌∙◌}
use Rattle.std.specs.List.{range_with_len}
use Rattle.crew.proofs.AloneLemmas.{may_take_next, shared_alone, took_next}
use Rattle.crew.proofs.sharing.alone.Goals as goal

pub take-requires : goal.take-requires
take-requires g c =
    let within : c.loop-place.place < g.K.Task.count c.args.task.now = omega (arith, c.loop-place-test.true, c.requires.count.0) in
    may_take_next (g.K.Task.makes c.args.task.now) (g.K.Task.count c.args.task.now) c.loop-place.place c.loop-place.made within c.loop-place.invariant.0

pub loop-place-preserved : goal.loop-place-preserved
loop-place-preserved g c = (
  took_next (g.K.Task.makes c.args.task.now) c.loop-place.place c.take.new.made (c.in_ok-take.ensures (range_with_len 0 c.loop-place.place) c.loop-place.invariant.0),
  omega (arith, c.loop-place-test.true),
)

pub returns-clause-shared : goal.returns-clause-shared
returns-clause-shared g c =
    let all : c.loop-place.place ≡ c.args.count = omega (arith, c.loop-place-test.false, c.loop-place.invariant.1) in
    shared_alone (g.K.Task.makes c.args.task.now) c.args.count c.loop-place.place c.loop-place.made c.push.new.self.items all c.loop-place.invariant.0
    (c.in_ok-push.ensures.items ∙ ap (λ l. l ++ c.loop-place.made ∷ []) c.in_ok-all.ensures.items)
