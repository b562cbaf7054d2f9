use Rattle.std.proofs.Common.{List, ℕ, ap, arith, length, ◌∙◌}
use Rattle.std.proofs.lemmas.List.{length-map, length-replicate, length-set}
use Rattle.std.specs.Prelude.{[]}
use Rattle.groups.specs.Dealing.{indexes_of}
use Rattle.groups.proofs.DealingLemmas.{dealt_next, dealt_none}
use Rattle.groups.proofs.dealing.Dealer.lists.Goals as goal

pub loop-row-init : goal.loop-row-init
loop-row-init c = record {
  dealt = dealt_none c.args.lists (indexes_of c.in_ok-made.made.items) c.in_ok-made.ensures;
  long = omega (arith, ap (λ l. length l) c.in_ok-made.ensures, length-map c.in_ok-made.made.items (λ list. list.items), length-replicate {A = List ℕ} c.args.lists []);
}

pub loop-row-preserved : goal.loop-row-preserved
loop-row-preserved c = record {
  dealt = dealt_next c.loop-row.made.items c.list_of-list.result c.loop-row.row c.index_mut.result.now c.push.new.self (omega (arith, c.list_of-list.ensures, c.loop-row.invariant.long)) c.index_mut.ensures.value
      c.in_ok-push.ensures.items c.loop-row.invariant.dealt;
  long = length-set c.loop-row.made.items c.list_of-list.result c.push.new.self ∙ c.loop-row.invariant.long;
}
