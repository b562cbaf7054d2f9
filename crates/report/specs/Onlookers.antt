-- Onlookers whose threads were started.
use Rattle.report.specs.Onlooking.{Onlooking}
use Rattle.report.specs.declared.onlookers.Going.{Going}

-- what is known of an onlooker whose thread was started
abbrev pub onlooker_of : {H : Type 0} → Going H → Onlooking
onlooker_of g = g.handle.promise.onlooker.value
