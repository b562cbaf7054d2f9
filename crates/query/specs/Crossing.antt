-- Plans may cross threads. A predicate reaches itself by way of its parts.
use denote.Builtin.{usize}
use denote.Model.Goals.{has_of, part_has, send, sync}
use denote.Model.Local.{Parts, rows}
use denote.Model.Marks.{tied_send, tied_sync}
use denote.Param.Send.{IsSend, IsSync, sendable}
use denote.RattleType.{RattleType}
use Rattle.std.proofs.Crossing.{crosses}
use Rattle.cells.specs.Crossing.{cell_send, cell_sync}
use Rattle.query.specs.contracts.plan.Plan as Plan
use Rattle.query.specs.contracts.predicate.Predicate as Predicate
use Rattle.query.specs.contracts.predicate.Predicate.TheKnot as Knot
use Rattle.query.specs.contracts.test.Literals as Literals
use Rattle.query.specs.contracts.test.Operand as Operand
use Rattle.query.specs.contracts.test.Test as Test
use Rattle.query.specs.declared.predicate.Predicate.TheDeep as Members

-- ---- what may be sent
literals_send : IsSend Literals.the_field.row
literals_send = let cell = cell_send in search (sendable, crosses) depth 40

operand_send : IsSend (Operand.the_field usize).row
operand_send = let cell = cell_send in search (sendable, crosses) depth 40

test_send : IsSend (Test.the_field usize).row
test_send = let operand = operand_send in let literals = literals_send in search (sendable, crosses) depth 40

form_send : (h : RattleType) → IsSend h → IsSend (Knot.layer-PredicateForm usize h h h)
form_send h below = let test = test_send in search (sendable, crosses) depth 40

seen_send : (p : Parts (Knot.frame usize)) → IsSend (rows (Knot.frame usize) p Members.member-Predicate) → IsSend (Knot.view-Predicate usize p)
seen_send p below = let form = form_send _ below in search (sendable, crosses) depth 40

layer_send : (p : Parts (Knot.frame usize)) → ((j : Members.the_members) → IsSend (rows (Knot.frame usize) p j)) →
    (i : Members.the_members) → IsSend (rows (Knot.frame usize) (Knot.step usize p) i)
layer_send p all Members.member-Predicate = has_of (Knot.frame usize) send (Knot.step usize p) Members.member-Predicate
    (part_has send (Knot.view-Predicate usize p) (seen_send p (all Members.member-Predicate)))

predicate_send : IsSend (Predicate.the_field usize).row
predicate_send = tied_send (Knot.frame usize) (Knot.step usize) (Knot.sizes usize) layer_send Members.member-Predicate

pub plan_send : IsSend Plan.the_field.row
plan_send = let predicate = predicate_send in search (sendable, crosses) depth 40

-- ---- what may be shared
literals_sync : IsSync Literals.the_field.row
literals_sync = let cell = cell_sync in search (sendable, crosses) depth 40

operand_sync : IsSync (Operand.the_field usize).row
operand_sync = let cell = cell_sync in search (sendable, crosses) depth 40

test_sync : IsSync (Test.the_field usize).row
test_sync = let operand = operand_sync in let literals = literals_sync in search (sendable, crosses) depth 40

form_sync : (h : RattleType) → IsSync h → IsSync (Knot.layer-PredicateForm usize h h h)
form_sync h below = let test = test_sync in search (sendable, crosses) depth 40

seen_sync : (p : Parts (Knot.frame usize)) → IsSync (rows (Knot.frame usize) p Members.member-Predicate) → IsSync (Knot.view-Predicate usize p)
seen_sync p below = let form = form_sync _ below in search (sendable, crosses) depth 40

layer_sync : (p : Parts (Knot.frame usize)) → ((j : Members.the_members) → IsSync (rows (Knot.frame usize) p j)) →
    (i : Members.the_members) → IsSync (rows (Knot.frame usize) (Knot.step usize p) i)
layer_sync p all Members.member-Predicate = has_of (Knot.frame usize) sync (Knot.step usize p) Members.member-Predicate
    (part_has sync (Knot.view-Predicate usize p) (seen_sync p (all Members.member-Predicate)))

predicate_sync : IsSync (Predicate.the_field usize).row
predicate_sync = tied_sync (Knot.frame usize) (Knot.step usize) (Knot.sizes usize) layer_sync Members.member-Predicate

pub plan_sync : IsSync Plan.the_field.row
plan_sync = let predicate = predicate_sync in search (sendable, crosses) depth 40
