use Rattle.std.proofs.Common.{rules, ◌≡◌, Some}
use Rattle.std.specs.Prelude.{codes}
use Rattle.serde_json.specs.Find.{as_str}
use Rattle.serde_json.specs.View.{view}
use Rattle.shards.proofs.FaultsLemmas.{part_read}
use Rattle.shards.proofs.fault.fault_of.Goals as goal

pub returns-in-Some-part : goal.returns-in-Some-part
returns-in-Some-part c = λ fault spells.
    let says : as_str (view c.in-Some.word.now) ≡ Some (codes "part") = search rules in
    part_read fault (view c.args.value.now) c.both_of.result c.in-Some.word c.in-Some.behind c.part_of.result spells c.both_of.ensures c.in-Some.is says c.part_of.ensures
