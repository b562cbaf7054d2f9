use Rattle.std.proofs.Common.{List, ap, subst, sym, ◌++◌}
use Rattle.cells.specs.Values.{RowValue}
use Rattle.crew.specs.Gathered.{Gathers, MayFold}
use Rattle.crew.specs.Gathering.{rows_at}
use Rattle.crew.proofs.GatheredLemmas.{has_room, may_fold, piece_taken}
use Rattle.groups.specs.Partials.{rows_of}
use Rattle.crew.proofs.gathering.GatheringTask.take.Goals as goal

pub take-taken-requires : goal.take-taken-requires
take-taken-requires g c =
    let asked = c.args.self.now in
    has_room asked.plan asked.pieces c.rows_are_few.ensures c.args.made.now c.args.place c.requires c.piece.result.now c.piece.ensures

pub fold-requires : goal.fold-requires
fold-requires g c =
    let asked = c.args.self.now in
    subst (λ p. MayFold p c.take-taken.new.self) (sym (ap (λ a. a.plan) c.self.view_is))
    (may_fold asked.plan asked.pieces c.rows_are_few.ensures c.args.made.now c.args.place c.requires c.piece.result.now c.piece.ensures c.take-taken.new.self
    (c.in_ok-laid.ensures asked.plan (rows_at asked.pieces c.requires.places) c.requires.made_of))

pub returns-else-is_batch : goal.returns-else-is_batch
returns-else-is_batch g c = λ places made.
    let asked = c.args.self.now in
    piece_taken asked.plan asked.pieces places c.args.place c.piece.result.now c.piece.ensures c.take-taken.new.self (c.in_ok-laid.ensures asked.plan (rows_at asked.pieces places) made)

pub returns-in_ok-fold : goal.returns-in_ok-fold
returns-in_ok-fold g c = λ places made.
    let asked = c.args.self.now in
    let rows : List RowValue = rows_at asked.pieces places ++ rows_of c.piece.result.now in
    let same = ap (λ a. a.plan) c.self.view_is in
    piece_taken asked.plan asked.pieces places c.args.place c.piece.result.now c.piece.ensures c.fold.new.self
    (subst (λ p. Gathers p rows c.fold.new.self) same
    (c.in_ok-fold.ensures rows (subst (λ p. Gathers p rows c.take-taken.new.self) (sym same) (c.in_ok-laid.ensures asked.plan (rows_at asked.pieces places) made))))
