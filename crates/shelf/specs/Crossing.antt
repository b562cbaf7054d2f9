-- A shelf may cross threads where its value may, whatever its promise is.
use denote.Param.Send.{IsSend, IsSync, sendable}
use denote.RattleType.{RattleType}
use Rattle.std.proofs.Crossing.{crosses}
use Rattle.boxcar.proofs.slot.OnceSlot.TheSendSync as TheSlot
use Rattle.boxcar.proofs.slot.Written.TheSendSync as TheWritten
use Rattle.boxcar.specs.contracts.slot.OnceSlot as OnceSlot
use Rattle.shelf.specs.contracts.made.Made as Made
use Rattle.shelf.specs.contracts.made.SameName as SameName
use Rattle.shelf.specs.contracts.made.SameNameSlotRuleMade.TheImpl as Rule
use Rattle.shelf.specs.contracts.place.Shelf as Shelf
use Rattle.std.proofs.sync.Once.TheSendSync as TheOnce
use Rattle.std.specs.declared.thread.Promise as Promise

module _ (T P : RattleType) (promise : Promise.Ghosts P.Denot T.Denot) (ts : IsSend T) (ty : IsSync T) where
  made_send : IsSend (Made.the_row T P)
  made_send = search (TheWritten.the_send, sendable, crosses) depth 40

  made_sync : IsSync (Made.the_row T P)
  made_sync = search (TheWritten.the_sync, sendable, crosses) depth 40

  abbrev slot : RattleType
  slot = OnceSlot.the_row (Made.the_row T P) SameName.the_row (Rule.ghosts T P promise Rule.no_dict)

  slot_send : IsSend slot
  slot_send = TheSlot.the_send (Made.the_row T P) SameName.the_row (Rule.ghosts T P promise Rule.no_dict) made_send

  slot_sync : IsSync slot
  slot_sync = TheSlot.the_sync (Made.the_row T P) SameName.the_row (Rule.ghosts T P promise Rule.no_dict) made_send made_sync

  pub shelf_send : IsSend (Shelf.the_row T P promise)
  shelf_send = let send = slot_send in let once = TheOnce.the_field_send in search (TheWritten.the_send, sendable, crosses) depth 40

  pub shelf_sync : IsSync (Shelf.the_row T P promise)
  shelf_sync = let sync = slot_sync in let once = TheOnce.the_field_sync in search (TheWritten.the_sync, sendable, crosses) depth 40
