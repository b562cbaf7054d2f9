-- A text with a fault of its quotes is not well quoted.
use Rattle.std.proofs.Common.{◌≡◌, ◌+◌, ◌==◌, ◌<◌, ℕ, Bool, true, false, List, [], ◌∷◌, ◌++◌, length, inl, inr, refl, ap, subst, sym, ◌∙◌, arith}
use Rattle.std.specs.List.{AllByRecursion}
use Rattle.std.specs.Prelude.{Result, Ok, Err, if◌then◌else◌}
use Rattle.prepare.specs.Quotes.{AreFields, Ended, IsBare, IsEnded, IsField, IsMisquoted, IsWellQuoted, doubled, in_quotes, joined, kind_of, step}
use Rattle.prepare.specs.declared.quotes.Kind.{Kind}
use Rattle.prepare.specs.declared.quotes.Kind.TheVariants as kind
use Rattle.prepare.specs.declared.quotes.QuoteFault.{QuoteFault}
use Rattle.prepare.specs.declared.quotes.QuoteFault.TheVariants as fault
use Rattle.prepare.specs.declared.quotes.Standing.{Standing}
use Rattle.prepare.specs.declared.quotes.Standing.TheVariants as at

-- where a reader stands at the end of a text, or its first fault with its place
abbrev Outcome : Type 0
Outcome = Result Standing (QuoteFault × ℕ)

abbrev go_on : (Standing → Outcome) → ℕ → Result Standing QuoteFault → Outcome
go_on more place (Ok s) = more s
go_on more place (Err f) = Err (f, place)

abbrev run : ℕ → Standing → ℕ → List ℕ → Outcome
run d s place [] = Ok s
run d s place (b ∷ bs) = go_on (λ next. run d next (place + 1) bs) place (step s (kind_of d b) place)

-- what is read after a front
run_after : (d : ℕ) (front rest : List ℕ) (s next : Standing) (place : ℕ) → run d s place front ≡ Ok next → run d s place (front ++ rest) ≡ run d next (place + length front) rest
run_after d [] rest s next place e = let same : s ≡ next = cc in ap (λ (n : ℕ). run d s n rest) (omega arith) ∙ ap (λ (r : Standing). run d r (place + 0) rest) same
run_after d (b ∷ bs) rest s next place e = go (λ s2. run_after d bs rest s2 next (place + 1)) (step s (kind_of d b) place) e where
  go : ((s2 : Standing) → run d s2 (place + 1) bs ≡ Ok next → run d s2 (place + 1) (bs ++ rest) ≡ run d next (place + 1 + length bs) rest)
      → (r : Result Standing QuoteFault) → go_on (λ s2. run d s2 (place + 1) bs) place r ≡ Ok next
      → go_on (λ s2. run d s2 (place + 1) (bs ++ rest)) place r ≡ run d next (place + length (b ∷ bs)) rest
  go later (Ok s2) k = later s2 k ∙ ap (λ (n : ℕ). run d next n rest) (omega arith)
  go later (Err f) k = cc

-- ---- fields

-- a field may end here
abbrev Rests : Standing → Type 0
Rests at.Start = Unit {0}
Rests at.Bare = Unit {0}
Rests (at.Quoted opened) = ⊥
Rests (at.Closed opened) = Unit {0}

step_end : (s : Standing) (place : ℕ) → Rests s → step s kind.End place ≡ Ok at.Start
step_end at.Start place rests = refl
step_end at.Bare place rests = refl
step_end (at.Quoted opened) place rests = absurd rests
step_end (at.Closed opened) place rests = refl

run_bare : (d : ℕ) (field : List ℕ) (place : ℕ) → IsBare d field → run d at.Bare place field ≡ Ok at.Bare
run_bare d [] place bare = refl
run_bare d (b ∷ bs) place bare = ap (λ (k : Kind). go_on (λ next. run d next (place + 1) bs) place (step at.Bare k place)) bare.0 ∙ run_bare d bs (place + 1) bare.1

step_inside : (k : Kind) (opened place : ℕ) → (k ≡ kind.Quote → ⊥) → step (at.Quoted opened) k place ≡ Ok (at.Quoted opened)
step_inside kind.Quote opened place none = absurd (none refl)
step_inside kind.End opened place none = refl
step_inside kind.Other opened place none = refl

no_quote_kind : (d b : ℕ) → (b == 34) ≡ false → kind_of d b ≡ kind.Quote → ⊥
no_quote_kind d b other e = end_or_other _ (rw other at e) where
  end_or_other : (test : Bool) → (if test then kind.End else kind.Other) ≡ kind.Quote → ⊥
  end_or_other true bad = cc
  end_or_other false bad = cc

run_inside : (d : ℕ) (text : List ℕ) (opened place : ℕ) → run d (at.Quoted opened) place (doubled text) ≡ Ok (at.Quoted opened)
run_inside d [] opened place = refl
run_inside d (b ∷ bs) opened place = by_byte (b == 34) refl (λ n. run_inside d bs opened n) where
  by_byte : (test : Bool) → (b == 34) ≡ test → ((n : ℕ) → run d (at.Quoted opened) n (doubled bs) ≡ Ok (at.Quoted opened))
      → run d (at.Quoted opened) place ((if test then 34 ∷ 34 ∷ [] else b ∷ []) ++ doubled bs) ≡ Ok (at.Quoted opened)
  by_byte true e later = later (place + 1 + 1)
  by_byte false e later = ap (go_on (λ next. run d next (place + 1) (doubled bs)) place) (step_inside (kind_of d b) opened place (no_quote_kind d b e)) ∙ later (place + 1)

run_quoted : (d : ℕ) (text : List ℕ) (place : ℕ) → run d at.Start place (in_quotes text) ≡ Ok (at.Closed place)
run_quoted d text place = run_after d (34 ∷ doubled text) (34 ∷ []) at.Start (at.Quoted place) place (run_inside d text place (place + 1))

run_begun : (d : ℕ) (field : List ℕ) (place : ℕ) → IsBare d field → 0 < length field → run d at.Start place field ≡ Ok at.Bare
run_begun d [] place bare some = absurd (omega (arith, some))
run_begun d (b ∷ bs) place bare some = ap (λ (k : Kind). go_on (λ next. run d next (place + 1) bs) place (step at.Start k place)) bare.0 ∙ run_bare d bs (place + 1) bare.1

record Runs (d : ℕ) (text : List ℕ) (place : ℕ) : Type 0 where
  last : Standing
  is : run d at.Start place text ≡ Ok last
  rests : Rests last

run_field : (d : ℕ) (field : List ℕ) (place : ℕ) → IsField d field → Runs d field place
run_field d [] place (inl bare) = record { last = at.Start; is = refl; rests = tt }
run_field d (b ∷ bs) place (inl bare) = record {
  last = at.Bare;
  is = run_begun d (b ∷ bs) place bare (omega arith);
  rests = tt;
}
run_field d field place (inr quoted) = record { last = at.Closed place; is = ap (run d at.Start place) quoted.1 ∙ run_quoted d quoted.0 place; rests = tt }

run_ended : (d : ℕ) (e : Ended) (place : ℕ) → IsEnded d e → run d at.Start place (e.field ++ e.end ∷ []) ≡ Ok at.Start
run_ended d e place is =
    let field = run_field d e.field place is.0 in
    run_after d e.field (e.end ∷ []) at.Start field.last place field.is
    ∙ ap (λ (k : Kind). go_on (λ next. Ok next) (place + length e.field) (step field.last k (place + length e.field))) is.1
    ∙ ap (go_on (λ next. Ok next) (place + length e.field)) (step_end field.last (place + length e.field) field.rests)

run_fields : (d : ℕ) (fields : List Ended) (place : ℕ) → AllByRecursion (IsEnded d) fields → run d at.Start place (joined fields) ≡ Ok at.Start
run_fields d [] place each = refl
run_fields d (e ∷ es) place each =
    run_after d (e.field ++ e.end ∷ []) (joined es) at.Start at.Start place (run_ended d e place each.0)
    ∙ run_fields d es (place + length (e.field ++ e.end ∷ [])) each.1

-- ---- texts

run_front : (d : ℕ) (front rest : List ℕ) → AreFields d front → run d at.Start 0 (front ++ rest) ≡ run d at.Start (length front) rest
run_front d front rest are = run_after d front rest at.Start at.Start 0 (ap (run d at.Start 0) are.is ∙ run_fields d are.fields 0 are.each) ∙ ap (λ (n : ℕ). run d at.Start n rest) (omega arith)

well_runs : (d : ℕ) (text : List ℕ) → IsWellQuoted d text → Runs d text 0
well_runs d text well =
    let last = run_field d well.last (length well.front) well.field in
    record { last = last.last; is = ap (run d at.Start 0) well.is ∙ run_front d well.front well.last well.fields ∙ last.is; rests = last.rests }

-- what comes of a fault
abbrev outcome : QuoteFault → ℕ → Outcome
outcome fault.Open place = Ok (at.Quoted place)
outcome fault.Followed place = Err (fault.Followed, place)
outcome fault.Stray place = Err (fault.Stray, place)

misquoted_runs : (d : ℕ) (text : List ℕ) (f : QuoteFault) (place : ℕ) → IsMisquoted d text f place → run d at.Start 0 text ≡ outcome f place
misquoted_runs d text fault.Open place m =
    ap (run d at.Start 0) m.is
    ∙ run_front d m.front (34 ∷ doubled m.inside) m.fields
    ∙ run_inside d m.inside (length m.front) (length m.front + 1)
    ∙ ap (λ (n : ℕ). Ok (at.Quoted n)) (sym m.before)
misquoted_runs d text fault.Followed place m =
    ap (run d at.Start 0) m.is
    ∙ run_after d (m.front ++ in_quotes m.inside) (m.byte ∷ m.later) at.Start (at.Closed (length m.front)) 0
    (run_front d m.front (in_quotes m.inside) m.fields ∙ run_quoted d m.inside (length m.front))
    ∙ ap (λ (k : Kind). go_on (λ next. run d next (0 + length (m.front ++ in_quotes m.inside) + 1) m.later) (0 + length (m.front ++ in_quotes m.inside))
    (step (at.Closed (length m.front)) k (0 + length (m.front ++ in_quotes m.inside)))) m.other
    ∙ ap (λ (n : ℕ). Err (fault.Followed, n)) (omega (arith, m.before))
misquoted_runs d text fault.Stray place m =
    ap (run d at.Start 0) m.is
    ∙ run_after d (m.front ++ m.field) (34 ∷ m.later) at.Start at.Bare 0 (run_front d m.front m.field m.fields ∙ run_begun d m.field (length m.front) m.bare m.some)
    ∙ ap (λ (n : ℕ). Err (fault.Stray, n)) (omega (arith, m.before))

pub never_both : (d : ℕ) (text : List ℕ) (f : QuoteFault) (place : ℕ) → IsMisquoted d text f place → IsWellQuoted d text → ⊥
never_both d text f place m well = let runs = well_runs d text well in go f runs.last (sym runs.is ∙ misquoted_runs d text f place m) runs.rests where
  go : (g : QuoteFault) (s : Standing) → ◌≡◌ {A = Outcome} (Ok s) (outcome g place) → Rests s → ⊥
  go fault.Open s e rests = let same : s ≡ at.Quoted place = cc in let bad : Rests (at.Quoted place) = subst Rests same rests in bad
  go fault.Followed s e rests = cc
  go fault.Stray s e rests = cc
