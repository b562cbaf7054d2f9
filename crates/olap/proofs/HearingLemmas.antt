-- The lines that are heard, from their pieces.
use Rattle.std.proofs.Common.{◌≡◌, ◌≢◌, ◌≤◌, ◌<◌, ◌+◌, ◌-◌, ◌∙◌, ◌==◌, ℕ, zero, suc, Bool, true, false, cond, not, List, [], ◌∷◌, ◌++◌, All, None, Some, Option, length, map, min, take, get_or, get_or-take, eqb-true, eq-eqb, refl, sym, ap, subst, arith, append_assoc, append-nil, take_all, take-take, ne_eqb, true≢false, IfSome, OnSome}
use Rattle.std.proofs.lemmas.Bool.Decides.{nat_tests}
use Rattle.std.proofs.lemmas.List.{length-take, take_min, take_more}
use Rattle.std.proofs.lemmas.List.Sums.{fails_before_first, passes_at_first}
use Rattle.std.proofs.Math.Seq.{take-append-add}
use Rattle.std.proofs.lemmas.List.Elements.{All-append}
use Rattle.std.proofs.lemmas.List.Splits.{length-slice_split, slice_split_at, slice_split_none}
use Rattle.std.proofs.BufReadLemmas.{Consumes_shown}
use Rattle.std.proofs.KnownBytes.{Consumes-kept, Consumes-nil, Consumes-trans}
use Rattle.std.specs.Io.{StartsWith}
use Rattle.std.specs.Io.BufRead.{DropsConsumable}
use Rattle.std.specs.Io.KnownBytes.{Consumes, IsAtEnd, Keeps}
use Rattle.std.specs.List.{position, position_or_len, slice_split}
use Rattle.std.specs.Prelude.{nat_le, nat_lt, slice_index}
use Rattle.std.specs.Str.Lines.{lines, lines_of_parts, strip_carriage_return}
use Rattle.olap.specs.Hearing.{HearsNext, IsCut, TakesPiece, bytes_of, closed, heard, kept, lines_heard}
use Rattle.script.specs.Limits.{script_limit}
use Rattle.olap.specs.declared.hearing.Met.{Met}
use Rattle.olap.specs.declared.hearing.Met.TheVariants.{InputEnd, LineEnd, More}

-- so much was heard of a line that has not ended
pub record Listens (old new : Option (List ℕ)) (line : List ℕ) : Type 0 where
  pub seen : List ℕ
  pub within : All (λ byte. byte ≢ 10) seen
  pub is_kept : line ≡ kept seen
  pub consumed : Consumes old new seen

-- a beginning of a beginning and more
take_front : (n : ℕ) (xs ys : List ℕ) → take n (take n xs ++ ys) ≡ take n (xs ++ ys)
take_front zero xs ys = refl
take_front (suc n) [] ys = refl
take_front (suc n) (x ∷ xs) ys = ap (λ l. x ∷ l) (take_front n xs ys)

abbrev is_end : Met → Bool
is_end More = false
is_end LineEnd = false
is_end InputEnd = true

not_end : (met : Met) → is_end met ≡ false → met ≡ InputEnd → ⊥
not_end met other e = true≢false (sym (ap is_end e) ∙ other)

-- ---- the end of a line

stripped_short : (b : Bool) (n : ℕ) (line : List ℕ) → length line ≤ n → take n (cond b (take (length line - 1) line) line) ≡ cond b (take (length line - 1) line) line
stripped_short true n line h = take_all n (take (length line - 1) line) (omega (arith, length-take (length line - 1) line))
stripped_short false n line h = take_all n line h

stripped_long : (b : Bool) (n : ℕ) (line : List ℕ) → n < length line → take n (cond b (take (length line - 1) line) line) ≡ take n line
stripped_long true n line h = take-take n (length line - 1) line (omega arith)
stripped_long false n line h = refl

-- what is left of the bytes that were kept is what is heard of the line
closed_at : (n : ℕ) (line : List ℕ) (b : Bool) → nat_le (length (take (n + 1) line)) n ≡ b →
    cond b (strip_carriage_return (take (n + 1) line)) (take n (take (n + 1) line)) ≡ take n (strip_carriage_return line)
closed_at n line true short =
    let few : length line ≤ n = grind (arith, nat_tests, length-take (n + 1) line) in
    rw (take_all (n + 1) line (omega arith)) (sym (stripped_short (slice_index line (length line - 1) == 13) n line few))
closed_at n line false long =
    let many : n < length line = grind (arith, nat_tests, length-take (n + 1) line) in
    take-take n (n + 1) line (omega arith) ∙ sym (stripped_long (slice_index line (length line - 1) == 13) n line many)

closed_kept : (line : List ℕ) → closed (kept line) ≡ heard (strip_carriage_return line)
closed_kept line = closed_at (script_limit + 1) line (nat_le (length (take (script_limit + 1 + 1) line)) (script_limit + 1)) refl

-- ---- the first line

more_parts : (x : List ℕ) (parts : List (List ℕ)) → 0 < length parts → lines_of_parts (x ∷ parts) ≡ strip_carriage_return x ∷ lines_of_parts parts
more_parts x [] h = absurd (omega arith)
more_parts x (y ∷ parts) h = refl

no_feed : (line : List ℕ) → All (λ byte. byte ≢ 10) line → All (λ byte. (byte == 10) ≡ false) line
no_feed line h = λ k d l. ne_eqb _ 10 (h k d l)

lines_ended : (line rest : List ℕ) → All (λ byte. byte ≢ 10) line → lines (line ++ 10 ∷ rest) ≡ strip_carriage_return line ∷ lines rest
lines_ended line rest h =
    ap lines_of_parts (slice_split_at (λ b. b == 10) line 10 rest (no_feed line h) refl)
    ∙ more_parts line (slice_split (λ b. b == 10) rest) (omega (arith, length-slice_split (λ b. b == 10) rest))

one_line : (line : List ℕ) → 0 < length line → lines_of_parts (line ∷ []) ≡ line ∷ []
one_line line n = grind (arith, nat_tests)

lines_last : (line : List ℕ) → All (λ byte. byte ≢ 10) line → 0 < length line → lines line ≡ line ∷ []
lines_last line h n = ap lines_of_parts (slice_split_none (λ b. b == 10) line (no_feed line h)) ∙ one_line line n

-- ---- what is heard

-- more of a line
seen_more : (old mid new : Option (List ℕ)) (line after : List ℕ) (met : Met) → (l : Listens old mid line) (t : TakesPiece mid new line after met) →
    (after ≡ kept (l.seen ++ t.piece)) × All (λ byte. byte ≢ 10) (l.seen ++ t.piece) × Consumes old new ((l.seen ++ t.piece) ++ bytes_of met)
seen_more old mid new line after met l t = (
  t.is_kept ∙ ap (λ (k : List ℕ). kept (k ++ t.piece)) l.is_kept ∙ take_front (script_limit + 2) l.seen t.piece,
  All-append (λ byte. byte ≢ 10) l.seen t.piece l.within t.within,
  subst (Consumes old new) (sym (append_assoc l.seen t.piece (bytes_of met))) (Consumes-trans old mid new l.seen (t.piece ++ bytes_of met) l.consumed t.consumed),
)

pub listens_more : (old mid new : Option (List ℕ)) (line after : List ℕ) → Listens old mid line → TakesPiece mid new line after More → Listens old new after
listens_more old mid new line after l t =
    let s = seen_more old mid new line after More l t in
    record { seen = l.seen ++ t.piece; within = s.1; is_kept = s.0; consumed = subst (Consumes old new) (append-nil (l.seen ++ t.piece)) s.2 }

-- the line that has ended
hears_line : (old new : Option (List ℕ)) (seen line : List ℕ) → All (λ byte. byte ≢ 10) seen → Consumes old new (seen ++ 10 ∷ []) → line ≡ heard (strip_carriage_return seen) → HearsNext old true line new
hears_line None new seen line h c e = tt
hears_line (Some text) None seen line h c e = absurd c
hears_line (Some text) (Some rest) seen line h c e =
    let whole : text ≡ seen ++ 10 ∷ rest = c ∙ append_assoc seen (10 ∷ []) rest in
    rw (whole, lines_ended seen rest h) (ap (λ l. l ∷ lines_heard rest) (sym e))

pub hears_ended : (old mid new : Option (List ℕ)) (line after result : List ℕ) → Listens old mid line → TakesPiece mid new line after LineEnd → result ≡ closed after → HearsNext old true result new
hears_ended old mid new line after result l t e =
    let s = seen_more old mid new line after LineEnd l t in
    hears_line old new (l.seen ++ t.piece) result s.1 s.2 (e ∙ ap closed s.0 ∙ closed_kept (l.seen ++ t.piece))

-- the last line, which has no end, or none
no_bytes : (n : ℕ) (seen : List ℕ) → seen ≡ [] → length (take (n + 1) seen) ≡ 0
no_bytes n seen e = omega (arith, ap length e, length-take (n + 1) seen)

some_bytes : (n x : ℕ) (xs : List ℕ) → (length (take (n + 1) (x ∷ xs)) == 0) ≡ false
some_bytes n x xs = ne_eqb (length (take (n + 1) (x ∷ xs))) 0 (λ none. omega (arith, none, length-take (n + 1) (x ∷ xs)))

last_heard : (n x : ℕ) (xs : List ℕ) → All (λ byte. byte ≢ 10) (x ∷ xs) → map (take (n + 1)) (lines (x ∷ xs)) ≡ take (n + 1) (x ∷ xs) ∷ []
last_heard n x xs h = ap (map (take (n + 1))) (lines_last (x ∷ xs) h (omega arith))

hears_rest : (old : Option (List ℕ)) (seen : List ℕ) (new : Option (List ℕ)) (some : Bool) → All (λ byte. byte ≢ 10) seen → Consumes old new seen → OnSome old (IsAtEnd new) →
    some ≡ not (length (heard seen) == 0) → HearsNext old some (heard seen) new
hears_rest None seen new some h c end e = tt
hears_rest (Some text) seen None some h c end e = absurd c
hears_rest (Some text) [] (Some rest) true h c end e = absurd (true≢false (e ∙ ap (λ (n : ℕ). not (n == 0)) (no_bytes script_limit [] refl)))
hears_rest (Some text) [] (Some rest) false h c end e = c ∙ end
hears_rest (Some text) (x ∷ seen) (Some rest) false h c end e =
    absurd (true≢false (sym (ap not (some_bytes script_limit x seen)) ∙ sym e))
hears_rest (Some text) (x ∷ seen) (Some rest) true h c end e =
    let whole : text ≡ x ∷ seen = c ∙ ap (λ l. (x ∷ seen) ++ l) end ∙ append-nil (x ∷ seen) in
    rw (whole, end) (last_heard script_limit x seen h)

end_seen : (old mid new : Option (List ℕ)) (seen : List ℕ) → Consumes old mid seen → OnSome mid (IsAtEnd new) → OnSome old (IsAtEnd new)
end_seen None mid new seen c end = tt
end_seen (Some x) None new seen c end = absurd c
end_seen (Some x) (Some y) new seen c end = end

pub hears_end : (old mid new : Option (List ℕ)) (line after result : List ℕ) (some : Bool) → Listens old mid line → TakesPiece mid new line after InputEnd →
    result ≡ take (script_limit + 1) after → some ≡ not (length result == 0) → HearsNext old some result new
hears_end old mid new line after result some l t e is =
    let s = seen_more old mid new line after InputEnd l t in
    let seen : List ℕ = l.seen ++ t.piece in
    let same : result ≡ heard seen = e ∙ ap (take (script_limit + 1)) s.0 ∙ take-take (script_limit + 1) (script_limit + 2) seen (omega arith) in
    rw same (hears_rest old seen new some s.1 (subst (Consumes old new) (append-nil seen) s.2) (end_seen old mid new l.seen l.consumed (t.ended refl)) (is ∙ ap (λ (k : List ℕ). not (length k == 0)) same))

-- ---- the bytes at hand

-- a piece of what a reader has at hand was kept, and used up with what was met
pub takes_shown : (a b c : Option (List ℕ)) (buffered : Option ℕ) (shown : List ℕ) (piece used : ℕ) (met : Met) (before after : List ℕ) → IsCut shown piece used met →
    IfSome a (λ xs. StartsWith xs shown) → IfSome a (λ xs. length shown ≡ 0 → xs ≡ []) → Keeps a b →
    IfSome a (λ _. IfSome buffered (λ k. length shown ≤ k)) → DropsConsumable b c buffered used →
    after ≡ kept (before ++ take piece shown) → TakesPiece a c before after met
takes_shown a b c buffered shown piece used met before after cut front end keeps fits drops is =
    let moved = Consumes_shown a b c buffered shown used cut.most front end keeps fits drops in
    record { piece = take piece shown; within = cut.within; is_kept = is; consumed = subst (Consumes a c) cut.joined moved.0; ended = λ e. moved.1 (ap length (cut.ended e)) }

-- nothing was taken
pub takes_none : (a b : Option (List ℕ)) (line : List ℕ) → length line ≤ script_limit + 2 → Keeps a b → TakesPiece a b line line More
takes_none a b line fits keeps = record {
  piece = [];
  within = λ k d l. absurd (omega arith);
  is_kept = sym (ap kept (append-nil line) ∙ take_all (script_limit + 2) line fits);
  consumed = Consumes-kept a a b [] (Consumes-nil a) keeps;
  ended = λ e. absurd (not_end More refl e);
}

-- ---- what is at hand of a line

-- what is before the first line feed has none
at_piece : (bytes : List ℕ) (n : ℕ) → n ≤ position_or_len (λ b. b == 10) bytes → All (λ byte. byte ≢ 10) (take n bytes)
at_piece bytes n fits = λ k d l feed.
    let below : k < n = omega (arith, length-take n bytes) in
    let fails : (get_or bytes k d == 10) ≡ false = fails_before_first (λ b. b == 10) bytes k d (omega arith) in
    true≢false (sym (eq-eqb (get_or bytes k d) 10 (sym (get_or-take n bytes k d below) ∙ feed)) ∙ fails)

first_place : (a n at : ℕ) → cond (nat_lt a n) (Some a) None ≡ Some at → (a < n) × (a ≡ at)
first_place a n at e = grind (arith, nat_tests)

no_place : (a n : ℕ) → cond (nat_lt a n) (Some a) None ≡ None → n ≤ a
no_place a n e = grind (arith, nat_tests)

pub cut_ended : (bytes : List ℕ) (at : ℕ) → position (λ b. b == 10) bytes ≡ Some at → IsCut bytes at (at + 1) LineEnd
cut_ended bytes at e =
    let p = first_place (position_or_len (λ b. b == 10) bytes) (length bytes) at e in
    let feed : get_or bytes at 0 ≡ 10 = eqb-true (get_or bytes at 0) 10 (subst (λ n. (get_or bytes n 0 == 10) ≡ true) p.1 (passes_at_first (λ b. b == 10) bytes 0 p.0)) in
    record {
      most = omega (arith, p.0, p.1);
      within = at_piece bytes at (omega (arith, p.1));
      joined = take_more bytes at 0 (omega (arith, p.0, p.1)) ∙ ap (λ b. take at bytes ++ b ∷ []) feed;
      ended = λ is. absurd (not_end LineEnd refl is);
    }

pub cut_whole : (bytes : List ℕ) → position (λ b. b == 10) bytes ≡ None → IsCut bytes (length bytes) (length bytes) More
cut_whole bytes e = record {
  most = omega arith;
  within = at_piece bytes (length bytes) (no_place (position_or_len (λ b. b == 10) bytes) (length bytes) e);
  joined = sym (append-nil (take (length bytes) bytes));
  ended = λ is. absurd (not_end More refl is);
}

pub kept_room : (n room : ℕ) (line piece : List ℕ) → length line ≤ n → room ≡ min (n - length line) (length piece) → line ++ take room piece ≡ take n (line ++ piece)
kept_room n room line piece fits is =
    let whole : length line + (n - length line) ≡ n = omega arith in
    ap (λ k. line ++ take k piece) is ∙ ap (λ l. line ++ l) (take_min (n - length line) piece) ∙ sym (take-append-add line piece (n - length line))
    ∙ ap (λ k. take k (line ++ piece)) whole

pub listens_fits : (old new : Option (List ℕ)) (line : List ℕ) → Listens old new line → length line ≤ script_limit + 2
listens_fits old new line l = omega (arith, ap length l.is_kept, length-take (script_limit + 2) l.seen)
