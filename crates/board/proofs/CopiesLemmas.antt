-- Copies of the last edition that are handed out one after another, the last of them first.
use Rattle.std.proofs.Common.{◌≡◌, ℕ, ◌+◌, ◌-◌, List, [], ◌∷◌, ◌++◌, length, ◌∙◌, arith, Option, All, length-append}
use Rattle.std.proofs.Math.Seq.{get_or-append_seam}
use Rattle.std.proofs.lemmas.List.{get_or_append_left}
use Rattle.atomic_table.specs.declared.shared.Seat.{Seat}
use Rattle.board.specs.Editions.{Edition}
use Rattle.board.specs.Ends.{GoesOn, TakesSide}
use Rattle.board.specs.Law.{IsEnd}
use Rattle.board.specs.declared.law.View.{View}

module _ (s m t : Seat (Option Edition) View) (word side : ℕ) (gone : GoesOn (word - 1) s m) (taken : TakesSide word side m t) where
  -- what is handed out is the last edition, as the keeper sees it who has the side of a box
  pub copy_is_end : (old new : List Edition) (e : Edition) → old ≡ new ++ e ∷ [] → All (IsEnd s.me.0.seen s.me.0.schema) old → IsEnd t.me.0.seen t.me.0.schema e
  copy_is_end old new e is ends =
      let last : IsEnd s.me.0.seen s.me.0.schema e =
      rw (get_or-append_seam new e [] e) at ((rw is at ends) (length new) e (omega (arith, length-append new (e ∷ [])))) in
      rw (taken.seen, taken.schema, gone.seen, gone.schema) last

  -- and the keeper goes on to the next box
  pub goes_further : (u : Seat (Option Edition) View) → GoesOn word t u → GoesOn (word + 1 - 1) s u
  goes_further u turned =
      let same : word + 1 - 1 ≡ word = omega arith in
      rw same (record {
        same = turned.same ∙ taken.same ∙ gone.same;
        at = turned.at;
        seen = turned.seen ∙ taken.seen ∙ gone.seen;
        schema = turned.schema ∙ taken.schema ∙ gone.schema;
        made = turned.made ∙ taken.made ∙ gone.made;
      })

  -- those that are left are such copies, too
  pub left_ends : (old new : List Edition) (e : Edition) → old ≡ new ++ e ∷ [] → All (IsEnd s.me.0.seen s.me.0.schema) old → All (IsEnd s.me.0.seen s.me.0.schema) new
  left_ends old new e is ends k d lt =
      rw (get_or_append_left new (e ∷ []) d k lt) at ((rw is at ends) k d (omega (arith, lt, length-append new (e ∷ []))))
