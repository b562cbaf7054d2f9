-- Codes, and the cells that they stand for.
use Rattle.std.specs.Prelude.{◌≡◌, ℕ, ◌+◌, ◌<◌, ◌≤◌, List, [], ◌∷◌, ◌++◌, length, map, take, Option, Some, None, refl}
use Rattle.std.proofs.Common.{get_or, ap, ap₂, sym, ◌∙◌, subst, arith}
use Rattle.std.proofs.lemmas.List.{append_assoc, get_or_append_left, get_or_default, get_or-map, length-append, length-map, map-append, take_all, take_more}
use Rattle.std.proofs.lemmas.List.Elements.{All-from_recursion, All-get_or}
use Rattle.std.proofs.Math.Seq.{get_or-append_seam}
use Rattle.cells.specs.declared.cell.Cell.{Cell}
use Rattle.cells.specs.declared.cell.Cell.TheVariants.{Null}
use Rattle.columns.specs.Coding.{GivesList, Puts, Recode}
use Rattle.columns.specs.Columns.{AreCodes, ColumnValue, cell_of, cells_of, decoded, number_cell}

-- ---- codes after which cells came
pub still_codes : (cells more : List Cell) (codes : List ℕ) → AreCodes (Some cells) codes → AreCodes (Some (cells ++ more)) codes
still_codes cells more [] are = tt
still_codes cells more (c ∷ codes) are = (omega (arith, are.0, length-append cells more), still_codes cells more codes are.1)

pub still_stand : (cells more : List Cell) (codes : List ℕ) → AreCodes (Some cells) codes → decoded (Some (cells ++ more)) codes ≡ decoded (Some cells) codes
still_stand cells more [] are = refl
still_stand cells more (c ∷ codes) are = ap₂ (λ (x : Cell) (xs : List Cell). x ∷ xs) (get_or_append_left cells more Null c are.0) (still_stand cells more codes are.1)

pub both_codes : (cells : List Cell) (xs ys : List ℕ) → AreCodes (Some cells) xs → AreCodes (Some cells) ys → AreCodes (Some cells) (xs ++ ys)
both_codes cells [] ys one two = two
both_codes cells (x ∷ xs) ys one two = (one.0, both_codes cells xs ys one.1 two)

pub decoded_both : (cells : Option (List Cell)) (xs ys : List ℕ) → decoded cells (xs ++ ys) ≡ decoded cells xs ++ decoded cells ys
decoded_both cells xs ys = map-append (λ code. cell_of cells code) xs ys

-- ---- codes of cells

recode_more : (xs : List Cell) (x : Cell) (old mid new : List Cell) (codes : List ℕ) (code : ℕ) → Recode xs old mid codes → Recode (x ∷ []) mid new (code ∷ []) →
    Recode (xs ++ x ∷ []) old new (codes ++ code ∷ [])
recode_more xs x old mid new codes code one two = record {
  more = one.more ++ two.more;
  grown = two.grown ∙ ap (λ l. l ++ two.more) one.grown ∙ append_assoc old one.more two.more;
  within = both_codes new codes (code ∷ []) (subst (λ l. AreCodes (Some l) codes) (sym two.grown) (still_codes mid two.more codes one.within)) two.within;
  stand = decoded_both (Some new) codes (code ∷ []) ∙
      ap₂ (λ (a b : List Cell). a ++ b) (ap (λ l. decoded (Some l) codes) two.grown ∙ still_stand mid two.more codes one.within ∙ one.stand) two.stand;
}

-- a cell was added
pub recode_added : (cells old items : List Cell) (cell : Cell) (code : ℕ) → cells ≡ old → items ≡ cells ++ cell ∷ [] → code ≡ length cells → Recode (cell ∷ []) old items (code ∷ [])
recode_added cells old items cell code is added number = subst (λ l. Recode (cell ∷ []) l items (code ∷ [])) is (rw (added, number) (record {
  more = cell ∷ [];
  grown = refl;
  within = (omega (arith, length-append cells (cell ∷ [])), tt);
  stand = ap (λ (c : Cell). c ∷ []) (get_or-append_seam cells cell [] Null);
}))

pub recode_next : (cells : List Cell) (i : ℕ) (cell : Cell) (old mid new : List Cell) (codes added : List ℕ) (code : ℕ) → i < length cells → cell ≡ get_or cells i cell →
    Recode (take i cells) old mid codes → Recode (cell ∷ []) mid new (code ∷ []) → added ≡ codes ++ code ∷ [] → Recode (take (i + 1) cells) old new added
recode_next cells i cell old mid new codes added code h is one two e =
    subst (Recode (take (i + 1) cells) old new) (sym e) (subst (λ l. Recode l old new (codes ++ code ∷ [])) (sym (take_more cells i cell h ∙ ap (λ (d : Cell). take i cells ++ d ∷ []) (sym is))) (recode_more (take i cells) cell old mid new codes code one two))

-- the cells of numbers' codes, the one at i
pub numbers_next : (lent by_row : List ℕ) (i : ℕ) (cell : Cell) (mid new : List Cell) (codes added : List ℕ) (code : ℕ) → lent ≡ by_row → i < length lent → cell ≡ number_cell (get_or lent i 0) →
    Recode (take i (decoded None by_row)) [] mid codes → Recode (cell ∷ []) mid new (code ∷ []) → added ≡ codes ++ code ∷ [] → Recode (take (i + 1) (decoded None by_row)) [] new added
numbers_next lent by_row i cell mid new codes added code same h is one two e =
    let cells : List Cell = decoded None by_row in
    let there : i < length cells = omega (arith, h, ap (λ l. length l) same, length-map by_row (λ code. number_cell code)) in
    let at : cell ≡ get_or cells i cell =
    is ∙ ap (λ l. number_cell (get_or l i 0)) same ∙ sym (get_or-map (λ code. number_cell code) by_row i 0 Null (omega (arith, h, ap (λ l. length l) same))) ∙ get_or_default cells i Null cell there in
    recode_next cells i cell [] mid new codes added code there at one two e

pub numbers_all : (lent by_row : List ℕ) (i : ℕ) (new : List Cell) (codes : List ℕ) → lent ≡ by_row → length lent ≤ i → Recode (take i (decoded None by_row)) [] new codes → Recode (decoded None by_row) [] new codes
numbers_all lent by_row i new codes same h now =
    subst (λ l. Recode l [] new codes) (take_all i (decoded None by_row) (omega (arith, h, ap (λ l. length l) same, length-map by_row (λ code. number_cell code)))) now

-- the list of what a column of numbers had is given
pub gives_made : (old new : ColumnValue) (list : List Cell) (codes : List ℕ) → old.cells ≡ None → new ≡ record { cells = None; by_row = codes } → Recode (decoded None old.by_row) [] list codes →
    GivesList old new list
gives_made old new list codes none is one = rw is (record {
  given = refl;
  within = one.within;
  stand = one.stand ∙ ap (λ d. decoded d old.by_row) (sym none);
})

-- ---- cells put into a column
pub puts_both : (xs ys : List Cell) (old mid new : ColumnValue) → Puts xs old mid → Puts ys mid new → Puts (xs ++ ys) old new
puts_both xs ys old mid new one two = record { behind = two.behind ∙ ap (λ l. l ++ ys) one.behind ∙ append_assoc (cells_of old) xs ys }

-- codes of the list that was given came to those of the column
pub puts_coded : (cells : List Cell) (old mid : ColumnValue) (list grown : List Cell) (codes added : List ℕ) → GivesList old mid list → Recode cells list grown codes → added ≡ mid.by_row ++ codes →
    Puts cells old (record { cells = Some grown; by_row = added })
puts_coded cells old mid list grown codes added gives one e = record {
  behind =
      ap (decoded (Some grown)) e ∙ decoded_both (Some grown) mid.by_row codes ∙
      ap₂ (λ (a b : List Cell). a ++ b) (ap (λ l. decoded (Some l) mid.by_row) one.grown ∙ still_stand list one.more mid.by_row gives.within ∙ gives.stand) one.stand;
}

pub codes_coded : (cells : List Cell) (old mid : ColumnValue) (list grown : List Cell) (codes added : List ℕ) → GivesList old mid list → Recode cells list grown codes → added ≡ mid.by_row ++ codes →
    AreCodes (Some grown) added
codes_coded cells old mid list grown codes added gives one e =
    subst (AreCodes (Some grown)) (sym e) (both_codes grown mid.by_row codes (subst (λ l. AreCodes (Some l) mid.by_row) (sym one.grown) (still_codes list one.more mid.by_row gives.within)) one.within)

-- the code of a cell came behind codes of a list, which has grown or not
pub codes_grown : (old new : List Cell) (cell : Cell) (codes added : List ℕ) (code : ℕ) → AreCodes (Some old) codes → Recode (cell ∷ []) old new (code ∷ []) → added ≡ codes ++ code ∷ [] → AreCodes (Some new) added
codes_grown old new cell codes added code within one e =
    subst (AreCodes (Some new)) (sym e) (both_codes new codes (code ∷ []) (subst (λ l. AreCodes (Some l) codes) (sym one.grown) (still_codes old one.more codes within)) one.within)

pub stand_grown : (old new : List Cell) (cell : Cell) (codes added : List ℕ) (code : ℕ) → AreCodes (Some old) codes → Recode (cell ∷ []) old new (code ∷ []) → added ≡ codes ++ code ∷ [] →
    decoded (Some new) added ≡ decoded (Some old) codes ++ cell ∷ []
stand_grown old new cell codes added code within one e =
    ap (decoded (Some new)) e ∙ decoded_both (Some new) codes (code ∷ []) ∙
    ap₂ (λ (a b : List Cell). a ++ b) (ap (λ l. decoded (Some l) codes) one.grown ∙ still_stand old one.more codes within) one.stand

-- ---- codes of another column's cells
-- the code that a code became
abbrev pub recoded_by : List ℕ → List ℕ → List ℕ
recoded_by recoded codes = map (λ code. get_or recoded code 0) codes

pub recoded_stand : (cells others : List Cell) (recoded codes : List ℕ) → decoded (Some cells) recoded ≡ others → AreCodes (Some others) codes →
    decoded (Some cells) (recoded_by recoded codes) ≡ decoded (Some others) codes
recoded_stand cells others recoded [] stand are = refl
recoded_stand cells others recoded (c ∷ codes) stand are =
    ap₂ (λ (x : Cell) (xs : List Cell). x ∷ xs)
    (sym (get_or-map (λ code. get_or cells code Null) recoded c 0 Null (omega (arith, are.0, ap (λ l. length l) stand, length-map recoded (λ c. get_or cells c Null)))) ∙ ap (λ l. get_or l c Null) stand)
    (recoded_stand cells others recoded codes stand are.1)

code_at : (cells : List Cell) (codes : List ℕ) (i : ℕ) → AreCodes (Some cells) codes → i < length codes → get_or codes i 0 < length cells
code_at cells codes i are h = All-get_or (λ k. k < length cells) codes i 0 h (All-from_recursion (λ k. k < length cells) codes are)

pub recoded_codes : (cells others : List Cell) (recoded codes : List ℕ) → decoded (Some cells) recoded ≡ others → AreCodes (Some cells) recoded → AreCodes (Some others) codes → AreCodes (Some cells) (recoded_by recoded codes)
recoded_codes cells others recoded [] stand within are = tt
recoded_codes cells others recoded (c ∷ codes) stand within are = (
  code_at cells recoded c within (omega (arith, are.0, ap (λ l. length l) stand, length-map recoded (λ c. get_or cells c Null))),
  recoded_codes cells others recoded codes stand within are.1,
)

-- the codes of another column's cells, by what its list was recoded to
pub recode_all : (list grown others : List Cell) (recoded codes : List ℕ) → Recode others list grown recoded → AreCodes (Some others) codes →
    Recode (decoded (Some others) codes) list grown (recoded_by recoded codes)
recode_all list grown others recoded codes one are = record {
  more = one.more;
  grown = one.grown;
  within = recoded_codes grown others recoded codes one.stand one.within are;
  stand = recoded_stand grown others recoded codes one.stand are;
}
