-- Laws of what a writer has taken, piece after piece.
use Rattle.std.proofs.Common.{ℕ, List, [], ◌++◌, Option, refl, sym, ◌∙◌, append_assoc, length, take, drop, ◌-◌}
use Rattle.std.proofs.lemmas.List.{append-nil, take-append-drop, take_rest}
use Rattle.std.specs.Io.KnownBytes.{Appends, Keeps}
use Rattle.std.proofs.KnownBytes.{Appends-nil, Appends-trans, Appends-kept}
use Rattle.report.specs.Taken.{TakesUpTo, TakesBeginning}

-- nothing taken yet
pub takes_start : (a : Option (List ℕ)) (whole : List ℕ) → TakesUpTo a a whole whole
takes_start a whole = record { front = []; whole_is = refl; taken = Appends-nil a }

-- the next piece taken whole
pub takes_more : (a b c : Option (List ℕ)) (whole piece rest : List ℕ) → TakesUpTo a b whole (piece ++ rest) → Appends b c piece → TakesUpTo a c whole rest
takes_more a b c whole piece rest t p = record {
  front = t.front ++ piece;
  whole_is = t.whole_is ∙ sym (append_assoc t.front piece rest);
  taken = Appends-trans a b c t.front piece t.taken p;
}

-- a beginning of the next piece taken
pub takes_beginning : (a b c : Option (List ℕ)) (whole piece rest : List ℕ) → TakesUpTo a b whole (piece ++ rest) → TakesBeginning b c piece → TakesBeginning a c whole
takes_beginning a b c whole piece rest t p = record {
  rest = p.rest ++ rest;
  up_to = takes_more a b c whole p.up_to.front (p.rest ++ rest)
      (rw (← append_assoc p.up_to.front p.rest rest, ← p.up_to.whole_is) t) p.up_to.taken;
}

-- all of it taken
pub takes_whole : (a b : Option (List ℕ)) (whole : List ℕ) → TakesUpTo a b whole [] → Appends a b whole
takes_whole a b whole t = rw (t.whole_is, append-nil t.front) t.taken

-- nothing of it taken
pub takes_none : (a b : Option (List ℕ)) (whole : List ℕ) → Keeps a b → TakesBeginning a b whole
takes_none a b whole k = record {
  rest = whole;
  up_to = record { front = []; whole_is = refl; taken = Appends-kept a a b [] (Appends-nil a) k };
}

-- the first n bytes of it taken
pub takes_front : (a b : Option (List ℕ)) (whole : List ℕ) (n : ℕ) → Appends a b (take n whole) → TakesBeginning a b whole
takes_front a b whole n p = record {
  rest = drop n whole;
  up_to = record { front = take n whole; whole_is = sym (take-append-drop n whole); taken = p };
}

-- the first n bytes of the rest taken
pub takes_part : (a b c : Option (List ℕ)) (whole rest : List ℕ) (n : ℕ) → TakesUpTo a b whole rest → Appends b c (take n rest) →
    TakesUpTo a c whole (take (length rest - n) (drop n rest))
takes_part a b c whole rest n t p = rw take_rest (takes_more a b c whole (take n rest) (drop n rest) (rw take-append-drop t) p)

-- a beginning of the rest taken
pub takes_last : (a b c : Option (List ℕ)) (whole rest : List ℕ) → TakesUpTo a b whole rest → TakesBeginning b c rest → TakesBeginning a c whole
takes_last a b c whole rest t p = takes_beginning a b c whole rest [] (rw append-nil t) p

-- none of it, and all of it up to a rest
pub takes_nothing : (a : Option (List ℕ)) (whole : List ℕ) → TakesBeginning a a whole
takes_nothing a whole = record { rest = whole; up_to = takes_start a whole }

pub takes_so_far : (a b : Option (List ℕ)) (whole rest : List ℕ) → TakesUpTo a b whole rest → TakesBeginning a b whole
takes_so_far a b whole rest taken = record { rest = rest; up_to = taken }
