-- Where a run stops after a refused line.
use Rattle.std.proofs.Common.{◌≡◌, ◌⊎◌, ◌∙◌, ◌+◌, ℕ, Bool, true, false, Result, Ok, Err, List, [], ◌∷◌, ◌++◌, inl, inr, length, refl, sym, ap, subst, append_assoc}
use Rattle.cells.specs.Values.{RowValue, Table}
use Rattle.cells.specs.declared.cell.Cell.{Cell}
use Rattle.cells.specs.declared.refused.Refused.{Refused}
use Rattle.script.specs.Deeds.{Declares, Deed, Loads, Nothing, Publishes, Reports, Shapes, Updates}
use Rattle.script.specs.Givens.{Givens}
use Rattle.script.specs.Listings.{rows_loaded}
use Rattle.script.specs.Output.{AreBlocks, IsAnswer, IsBlock, Lines, deed_behind, is_overfull, published, updates, line_first as block_first, no_line as no_block}
use Rattle.script.specs.Says.{Answer, Says}
use Rattle.script.specs.Stops.{AreBlocksUpTo, AsksWrongly, IsRefusal, IsRefusedDeed, IsRefusedLine, StoppedAt, StopsAfter, Tells, is_refused_load, last_line, line_first, no_line, stops}
use Rattle.script.specs.declared.fault.Fault.{Fault}
use Rattle.script.specs.declared.finish.Finish.{Finish}
use Rattle.script.specs.declared.finish.Finish.TheVariants.{Stopped, Through}
use Rattle.script.specs.declared.on_refusal.OnRefusal.{OnRefusal}
use Rattle.script.specs.declared.on_refusal.OnRefusal.TheVariants.{GoesOn, Stops}
use Rattle.script.proofs.BlocksLemmas.{reversed_onto}
use Rattle.script.proofs.RefusalsLemmas.{refusal_told}
use Rattle.script.proofs.SaysLemmas.{OneAnswer, never_wrong}

-- ---- which lines are

-- it is told of some line
pub record Told (Refused : Type 0) : Type 0 where
  pub refused : Bool
  pub tells : Tells refused Refused

told_never : Told ⊥
told_never = record { refused = false; tells = λ never. never }

told_by : (b : Bool) → Told (b ≡ true)
told_by true = record { refused = true; tells = refl }
told_by false = record { refused = false; tells = λ bad. absurd cc }

told_report : OneAnswer → (t : Table) (rs : List RowValue) (query : List ℕ) (said : Result Answer Refused) → Says t rs query said → Told (AsksWrongly t rs query)
told_report law t rs query (Ok told) says = record { refused = false; tells = never_wrong law says }
told_report law t rs query (Err fault) says = record { refused = true; tells = record { fault = fault; says = says } }

pub told_line : OneAnswer → (hash : Cell → ℕ) (givens : Givens) (before : Lines) (r : Result Deed Fault) (bytes : List ℕ) → IsAnswer hash givens before r bytes → Told (IsRefusedDeed givens before r)
told_line law hash givens before (Ok Nothing) bytes is = told_never
told_line law hash givens before (Ok (Declares t)) bytes is = told_never
told_line law hash givens before (Ok (Loads t listing)) bytes is = told_by (is_refused_load givens.limit (updates givens before) (rows_loaded t givens.parts listing))
told_line law hash givens before (Ok (Updates us)) bytes is = told_by (is_overfull givens.limit (updates givens before) us)
told_line law hash givens before (Ok Publishes) bytes is = told_never
told_line law hash givens before (Ok (Reports t query)) bytes is = told_report law t (published givens before) query is.said is.says
told_line law hash givens before (Ok Shapes) bytes is = told_never
told_line law hash givens before (Err fault) bytes is = record { refused = true; tells = tt }

-- ---- where a run stops

pub stops_after : (on : OnRefusal) (refused : Bool) (Refused : Type 0) → stops on refused ≡ true → Tells refused Refused → StopsAfter on Refused
stops_after GoesOn refused Refused stop tells = absurd cc
stops_after Stops true Refused stop tells = tells
stops_after Stops false Refused stop tells = absurd cc

pub goes_after : (on : OnRefusal) (refused : Bool) (Refused : Type 0) → stops on refused ≡ false → Tells refused Refused → StopsAfter on Refused → ⊥
goes_after GoesOn refused Refused goes tells stop = stop
goes_after Stops true Refused goes tells stop = absurd cc
goes_after Stops false Refused goes tells stop = tells stop

pub stops_or_goes : (on : OnRefusal) (refused : Bool) (Refused : Type 0) → Tells refused Refused → StopsAfter on Refused ⊎ (StopsAfter on Refused → ⊥)
stops_or_goes GoesOn refused Refused tells = inr (λ stop. stop)
stops_or_goes Stops true Refused tells = inl tells
stops_or_goes Stops false Refused tells = inr tells

-- ---- a run that goes on

-- has the blocks of all lines
pub all_blocks : {hash : Cell → ℕ} {givens : Givens} {before lines : Lines} {finish : Finish} {bytes : List ℕ} → AreBlocksUpTo hash givens GoesOn before lines finish bytes →
    (finish ≡ Through) × AreBlocks hash givens before lines bytes
all_blocks no_line = (refl, no_block)
all_blocks (last_line is stop) = absurd stop
all_blocks (line_first bytes rest is goes are) = let more = all_blocks are in (more.0, block_first bytes rest is more.1)

-- ---- a strict run

-- that went through has them, too
pub through_blocks : {hash : Cell → ℕ} {givens : Givens} {on : OnRefusal} {before lines : Lines} {finish : Finish} {bytes : List ℕ} → AreBlocksUpTo hash givens on before lines finish bytes → finish ≡ Through →
    AreBlocks hash givens before lines bytes
through_blocks no_line through = no_block
through_blocks (last_line is stop) through = absurd cc
through_blocks (line_first bytes rest is goes are) through = block_first bytes rest is (through_blocks are through)

-- that stopped did so at the first refused line
pub stopped_at : OneAnswer → {hash : Cell → ℕ} {givens : Givens} {before lines : Lines} {finish : Finish} {bytes : List ℕ} → AreBlocksUpTo hash givens Stops before lines finish bytes → finish ≡ Stopped →
    StoppedAt hash givens before lines bytes
stopped_at law no_line stop = absurd cc
stopped_at law {hash = hash} {givens = givens} (last_line {before = before} {later = later} {line = line} {bytes = bytes} is refused) stop = record {
  earlier = [];
  line = line;
  later = later;
  first = [];
  block = bytes;
  parted = refl;
  accepted = no_line;
  is_block = is;
  is_refused = refused;
  refused = refusal_told law hash givens before (deed_behind givens before line) bytes is refused;
  joined = refl;
}
stopped_at law {hash = hash} {givens = givens} (line_first {before = before} {line = line} bytes rest is goes are) stop =
    let p = stopped_at law are stop in
    record {
      earlier = line ∷ p.earlier;
      line = p.line;
      later = p.later;
      first = bytes ++ p.first;
      block = p.block;
      parted = ap (λ ls. line ∷ ls) p.parted;
      accepted = line_first bytes p.first is goes p.accepted;
      is_block = subst (λ ls. IsBlock hash givens ls p.line p.block) (reversed_onto line p.earlier before) p.is_block;
      is_refused = subst (λ ls. IsRefusedLine givens ls p.line) (reversed_onto line p.earlier before) p.is_refused;
      refused = subst (λ ls. IsRefusal (length ls + 1) p.block) (reversed_onto line p.earlier before) p.refused;
      joined = ap (λ t. bytes ++ t) p.joined ∙ sym (append_assoc bytes p.first p.block);
    }
