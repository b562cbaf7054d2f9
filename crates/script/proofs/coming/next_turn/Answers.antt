use Rattle.std.proofs.Common.{inl, inr, rules}
use Rattle.script.specs.Givens.{givens_of}
use Rattle.script.specs.Viewers.{viewing_of}
use Rattle.script.proofs.ComingLemmas.{is_waiting, left_onlooking, no_going, no_turns, one_viewer_fewer, shows_last}
use Rattle.script.proofs.coming.next_turn.Goals as goal

pub returns-then-count-gt0-clause-turn : goal.returns-then-count-gt0-clause-turn
returns-then-count-gt0-clause-turn g c = λ before keeps. inl (c.in_ok-block.ensures.next before keeps)

pub returns-in_default-clause-nobody : goal.returns-in_default-clause-nobody
returns-in_default-clause-nobody g c = λ none. no_turns c.args.onlookers.now (no_going c.args.onlookers.now c.count.result c.count.ensures (search rules)) (c.in_default.ensures.none none).0

pub last_block-requires-clause-waiting : goal.last_block-requires-clause-waiting
last_block-requires-clause-waiting g c κs within = is_waiting c.args.setup.now.manner.now (viewing_of c.args.viewing) c.args.keeper.now c.args.onlookers.now c.next_waiting.new.self c.in-Some.onlooker (no_going c.args.onlookers.now c.count.result c.count.ensures (search rules)) c.in-Some.ensures.some c.requires.looking

pub returns-clause-looking : goal.returns-clause-looking
returns-clause-looking g c = left_onlooking c.args.setup.now.manner.now (viewing_of c.args.viewing) c.args.keeper.now c.args.onlookers.now c.next_waiting.new.self c.in-Some.onlooker (no_going c.args.onlookers.now c.count.result c.count.ensures (search rules)) c.in-Some.ensures.some c.requires.looking

pub returns-clause-fewer : goal.returns-clause-fewer
returns-clause-fewer g c = one_viewer_fewer c.args.setup.now.manner.now (viewing_of c.args.viewing) c.args.keeper.now c.args.onlookers.now c.next_waiting.new.self c.in-Some.onlooker (no_going c.args.onlookers.now c.count.result c.count.ensures (search rules)) c.in-Some.ensures.some c.requires.looking

pub returns-clause-turn : goal.returns-clause-turn
returns-clause-turn g c = λ before keeps. inr (shows_last c.args.setup.now.manner.now (viewing_of c.args.viewing) c.args.keeper.now c.args.onlookers.now c.next_waiting.new.self c.in-Some.onlooker (no_going c.args.onlookers.now c.count.result c.count.ensures (search rules)) c.in-Some.ensures.some c.requires.looking (givens_of c.args.setup.now) before c.in_ok-block-2.block.items (c.in_ok-block-2.ensures.last before keeps))
