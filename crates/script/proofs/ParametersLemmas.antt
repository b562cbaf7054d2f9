-- A query is filled part by part.
use Rattle.std.proofs.Common.{◌≡◌, ◌≢◌, ℕ, suc, ◌<◌, Bool, true, false, ◌==◌, List, [], ◌∷◌, ◌++◌, length, get_or, Option, Some, None, refl, sym, ap, ◌∙◌, arith, append_assoc, append-nil}
use Rattle.std.proofs.lemmas.Bool.{eqb-true}
use Rattle.std.proofs.lemmas.Bool.Decides.{nat_tests}
use Rattle.std.specs.Prelude.{option_and_then, option_map}
use Rattle.cells.specs.declared.cell.Cell.{Cell}
use Rattle.script.specs.Parameters.{PutsMark, at_end, at_mark, filled_from, is_quoted, turned}

abbrev Filled : Type 0
Filled = Option (List ℕ)

-- no `?` is among the bytes
abbrev pub NoMark : List ℕ → Type 0
NoMark bs = (i : ℕ) → i < length bs → get_or bs i 0 ≡ 63 → ⊥

-- some bytes before what is filled
abbrev pub before : List ℕ → Filled → Filled
before front o = option_map (λ more. front ++ more) o

before_nothing : (o : Filled) → before [] o ≡ o
before_nothing None = refl
before_nothing (Some m) = refl

before_one : (b : ℕ) (bs : List ℕ) (o : Filled) → option_map (λ more. b ∷ more) (before bs o) ≡ before (b ∷ bs) o
before_one b bs None = refl
before_one b bs (Some m) = refl

before_both : (a b : List ℕ) (o : Filled) → before a (before b o) ≡ before (a ++ b) o
before_both a b None = refl
before_both a b (Some m) = ap Some (sym (append_assoc a b m))

no_mark_first : (b : ℕ) (bs : List ℕ) → NoMark (b ∷ bs) → (b == 63) ≡ false
no_mark_first b bs h = let differs : b ≢ 63 = h 0 (omega arith) in grind (arith, nat_tests)

no_mark_rest : (b : ℕ) (bs : List ℕ) → NoMark (b ∷ bs) → NoMark bs
no_mark_rest b bs h i lt = h (suc i) (omega arith)

-- bytes without a `?` stand as they are
filled_part : (part rest : List ℕ) (quoted : Bool) (cells : List Cell) → NoMark part → filled_from quoted cells (part ++ rest) ≡ before part (filled_from (is_quoted quoted part) cells rest)
filled_part [] rest quoted cells plain = sym (before_nothing (filled_from quoted cells rest))
filled_part (b ∷ bs) rest quoted cells plain =
    rw (no_mark_first b bs plain) (ap (option_map (λ more. b ∷ more)) (filled_part bs rest (turned quoted b) cells (no_mark_rest b bs plain)) ∙ before_one b bs (filled_from (is_quoted (turned quoted b) bs) cells rest))

-- what stands for a `?`
filled_mark : (quoted : Bool) (cells : List Cell) (behind : List ℕ) (o : Option (List ℕ × List Cell)) → at_mark quoted cells ≡ o →
    filled_from quoted cells (63 ∷ behind) ≡ option_and_then (λ x. before x.0 (filled_from quoted x.1 behind)) o
filled_mark quoted cells behind o e = ap (option_and_then (λ (x : List ℕ × List Cell). before x.0 (filled_from quoted x.1 behind))) e

module _ (whole : Filled) (front part behind rest : List ℕ) (quoted : Bool) (cells : List Cell) (is : rest ≡ part ++ 63 ∷ behind) (plain : NoMark part) (same : before front (filled_from quoted cells rest) ≡ whole) where
  from_part : before front (before part (filled_from (is_quoted quoted part) cells (63 ∷ behind))) ≡ whole
  from_part = ap (before front) (sym (filled_part part (63 ∷ behind) quoted cells plain) ∙ ap (filled_from quoted cells) (sym is)) ∙ same

  module _ (now : Bool) (turns : now ≡ is_quoted quoted part) where
    from_mark : before front (before part (filled_from now cells (63 ∷ behind))) ≡ whole
    from_mark = rw turns from_part

    -- the loop's step
    pub filled_more : (full : List ℕ) (left : List Cell) → PutsMark now cells (front ++ part) full left → before full (filled_from now left behind) ≡ whole
    filled_more full left puts =
        ap (λ l. before l (filled_from now left behind)) puts.behind
        ∙ sym (before_both (front ++ part) puts.text (filled_from now left behind))
        ∙ ap (before (front ++ part)) (sym (filled_mark now cells behind (Some (puts.text, left)) puts.stands))
        ∙ sym (before_both front part (filled_from now cells (63 ∷ behind)))
        ∙ from_mark

    -- nothing stands for the `?`
    pub filled_not : at_mark now cells ≡ None → None ≡ whole
    filled_not mark = sym (ap (λ o. before front (before part o)) (filled_mark now cells behind None mark)) ∙ from_mark

-- at the last part
pub filled_last : (whole : Filled) (front rest : List ℕ) (quoted : Bool) (cells : List Cell) → NoMark rest → before front (filled_from quoted cells rest) ≡ whole → before (front ++ rest) (at_end cells) ≡ whole
filled_last whole front rest quoted cells plain same =
    sym (before_both front rest (at_end cells))
    ∙ ap (before front) (sym (filled_part rest [] quoted cells plain) ∙ ap (filled_from quoted cells) (append-nil rest))
    ∙ same

-- no cell is left there
pub ends_empty : (cells : List Cell) (text joined : List ℕ) (whole : Filled) → true ≡ (length cells == 0) → text ≡ joined → before joined (at_end cells) ≡ whole → Some text ≡ whole
ends_empty [] text joined whole none is same = ap Some (is ∙ sym (append-nil joined)) ∙ same
ends_empty (cell ∷ cells) text joined whole none is same = absurd (omega (arith, eqb-true (length (cell ∷ cells)) 0 (sym none)))

-- one is
pub ends_left : (cells : List Cell) (joined : List ℕ) (whole : Filled) → false ≡ (length cells == 0) → before joined (at_end cells) ≡ whole → None ≡ whole
ends_left [] joined whole some same = absurd cc
ends_left (cell ∷ cells) joined whole some same = same
