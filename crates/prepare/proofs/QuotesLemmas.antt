-- Fields with their quotes, one byte after another.
use Rattle.std.proofs.Common.{◌≡◌, ◌<◌, ◌≤◌, ◌+◌, ◌==◌, ℕ, Bool, true, false, List, [], ◌∷◌, ◌++◌, length, take, drop, get_or, inl, inr, refl, ap, subst, sym, ◌∙◌, arith, append_assoc, take-append-drop}
use Rattle.std.proofs.lemmas.Bool.{cases_Bool}
use Rattle.std.proofs.lemmas.Bool.Decides.{nat_tests}
use Rattle.std.proofs.lemmas.List.{append-nil, drop_more, length-append, length-take-le, take_more}
use Rattle.std.specs.Prelude.{Ok, Err, if◌then◌else◌}
use Rattle.prepare.specs.Quotes.{AreFields, Ended, IsBare, IsEnded, IsField, IsFollowed, IsMisquoted, IsOpen, IsStray, doubled, in_quotes, joined, kind_of, step}
use Rattle.prepare.specs.declared.quotes.Kind.{Kind}
use Rattle.prepare.specs.declared.quotes.Kind.TheVariants as kind
use Rattle.prepare.specs.declared.quotes.QuoteFault.{QuoteFault}
use Rattle.prepare.specs.declared.quotes.QuoteFault.TheVariants as fault
use Rattle.prepare.specs.declared.quotes.Standing.{Standing}
use Rattle.prepare.specs.declared.quotes.Standing.TheVariants as at
use Rattle.prepare.proofs.KeysLemmas.{all_push}

-- ---- kinds

pub is_quote : (d b : ℕ) → kind_of d b ≡ kind.Quote → b ≡ 34
is_quote d b e = elim (cases_Bool (b == 34)) [
  | inl quote ↦ grind (arith, nat_tests)
  | inr other ↦ absurd (end_or_other _ (rw other at e))
] where
  end_or_other : (test : Bool) → (if test then kind.End else kind.Other) ≡ kind.Quote → ⊥
  end_or_other true bad = cc
  end_or_other false bad = cc

pub no_quote : (d b : ℕ) → (kind_of d b ≡ kind.Quote → ⊥) → (b == 34) ≡ false
no_quote d b none = elim (cases_Bool (b == 34)) [
  | inl quote ↦ absurd (none (rw quote refl))
  | inr other ↦ other
]

-- ---- what is between quotes

pub doubled-append : (xs ys : List ℕ) → doubled (xs ++ ys) ≡ doubled xs ++ doubled ys
doubled-append [] ys = refl
doubled-append (x ∷ xs) ys =
    ap (λ later. (if x == 34 then 34 ∷ 34 ∷ [] else x ∷ []) ++ later) (doubled-append xs ys)
    ∙ sym (append_assoc (if x == 34 then 34 ∷ 34 ∷ [] else x ∷ []) (doubled xs) (doubled ys))

doubled_quote : (xs : List ℕ) → doubled (xs ++ 34 ∷ []) ≡ doubled xs ++ 34 ∷ 34 ∷ []
doubled_quote xs = doubled-append xs (34 ∷ [])

doubled_other : (xs : List ℕ) (b : ℕ) → (b == 34) ≡ false → doubled (xs ++ b ∷ []) ≡ doubled xs ++ b ∷ []
doubled_other xs b other = doubled-append xs (b ∷ []) ∙ ap (λ (test : Bool). doubled xs ++ ((if test then 34 ∷ 34 ∷ [] else b ∷ []) ++ [])) other

-- ---- fields

pub joined-append : (xs ys : List Ended) → joined (xs ++ ys) ≡ joined xs ++ joined ys
joined-append [] ys = refl
joined-append (x ∷ xs) ys =
    ap (λ later. (x.field ++ x.end ∷ []) ++ later) (joined-append xs ys) ∙ sym (append_assoc (x.field ++ x.end ∷ []) (joined xs) (joined ys))

-- one more field was ended
fields_more : (d : ℕ) (front field : List ℕ) (end : ℕ) → AreFields d front → IsField d field → kind_of d end ≡ kind.End → AreFields d ((front ++ field) ++ end ∷ [])
fields_more d front field end so_far is ends = let last : Ended = record { field = field; end = end } in record {
  fields = so_far.fields ++ last ∷ [];
  is = append_assoc front field (end ∷ [])
      ∙ ap (λ before. before ++ (field ++ end ∷ [])) so_far.is
      ∙ ap (λ later. joined so_far.fields ++ later) (sym (append-nil (field ++ end ∷ [])))
      ∙ sym (joined-append so_far.fields (last ∷ []));
  each = all_push (IsEnded d) so_far.fields last so_far.each (is, ends);
}

-- ---- where a reader stands

pub record IsInBare (d : ℕ) (read : List ℕ) : Type 0 where
  pub front : List ℕ
  pub field : List ℕ
  pub is : read ≡ front ++ field
  pub fields : AreFields d front
  pub bare : IsBare d field
  pub some : 0 < length field

pub record IsAfterQuote (d : ℕ) (read : List ℕ) (opened : ℕ) : Type 0 where
  pub front : List ℕ
  pub inside : List ℕ
  pub is : read ≡ front ++ in_quotes inside
  pub fields : AreFields d front
  pub before : opened ≡ length front

-- what was read, by where it stands
abbrev pub Stands : ℕ → List ℕ → Standing → Type 0
Stands d read at.Start = AreFields d read
Stands d read at.Bare = IsInBare d read
Stands d read (at.Quoted opened) = IsOpen d read opened
Stands d read (at.Closed opened) = IsAfterQuote d read opened

module _ (d : ℕ) (read : List ℕ) (byte : ℕ) where
  start_quote : AreFields d read → byte ≡ 34 → IsOpen d (read ++ byte ∷ []) (length read)
  start_quote so_far quote = record { front = read; inside = []; is = ap (λ b. read ++ b ∷ []) quote; fields = so_far; before = refl }

  start_end : AreFields d read → kind_of d byte ≡ kind.End → AreFields d (read ++ byte ∷ [])
  start_end so_far ends = subst (λ front. AreFields d (front ++ byte ∷ [])) (append-nil read) (fields_more d read [] byte so_far (inl tt) ends)

  start_other : AreFields d read → kind_of d byte ≡ kind.Other → IsInBare d (read ++ byte ∷ [])
  start_other so_far other = record { front = read; field = byte ∷ []; is = refl; fields = so_far; bare = (other, tt); some = omega arith }

  bare_end : IsInBare d read → kind_of d byte ≡ kind.End → AreFields d (read ++ byte ∷ [])
  bare_end so_far ends = subst (λ front. AreFields d (front ++ byte ∷ [])) (sym so_far.is) (fields_more d so_far.front so_far.field byte so_far.fields (inl so_far.bare) ends)

  bare_other : IsInBare d read → kind_of d byte ≡ kind.Other → IsInBare d (read ++ byte ∷ [])
  bare_other so_far other = record {
    front = so_far.front;
    field = so_far.field ++ byte ∷ [];
    is = ap (λ front. front ++ byte ∷ []) so_far.is ∙ append_assoc so_far.front so_far.field (byte ∷ []);
    fields = so_far.fields;
    bare = all_push (λ b. kind_of d b ≡ kind.Other) so_far.field byte so_far.bare other;
    some = omega (arith, length-append so_far.field (byte ∷ []));
  }

  module _ (opened : ℕ) where
    quoted_quote : IsOpen d read opened → byte ≡ 34 → IsAfterQuote d (read ++ byte ∷ []) opened
    quoted_quote so_far quote = record {
      front = so_far.front;
      inside = so_far.inside;
      is = ap (λ b. read ++ b ∷ []) quote ∙ ap (λ front. front ++ 34 ∷ []) so_far.is ∙ append_assoc so_far.front (34 ∷ doubled so_far.inside) (34 ∷ []);
      fields = so_far.fields;
      before = so_far.before;
    }

    quoted_other : IsOpen d read opened → (byte == 34) ≡ false → IsOpen d (read ++ byte ∷ []) opened
    quoted_other so_far other = record {
      front = so_far.front;
      inside = so_far.inside ++ byte ∷ [];
      is = ap (λ front. front ++ byte ∷ []) so_far.is
          ∙ append_assoc so_far.front (34 ∷ doubled so_far.inside) (byte ∷ [])
          ∙ ap (λ later. so_far.front ++ (34 ∷ later)) (sym (doubled_other so_far.inside byte other));
      fields = so_far.fields;
      before = so_far.before;
    }

    closed_quote : IsAfterQuote d read opened → byte ≡ 34 → IsOpen d (read ++ byte ∷ []) opened
    closed_quote so_far quote = record {
      front = so_far.front;
      inside = so_far.inside ++ 34 ∷ [];
      is = ap (λ b. read ++ b ∷ []) quote
          ∙ ap (λ front. front ++ 34 ∷ []) so_far.is
          ∙ append_assoc so_far.front (in_quotes so_far.inside) (34 ∷ [])
          ∙ ap (λ later. so_far.front ++ (34 ∷ later)) (append_assoc (doubled so_far.inside) (34 ∷ []) (34 ∷ []) ∙ sym (doubled_quote so_far.inside));
      fields = so_far.fields;
      before = so_far.before;
    }

    closed_end : IsAfterQuote d read opened → kind_of d byte ≡ kind.End → AreFields d (read ++ byte ∷ [])
    closed_end so_far ends = subst (λ front. AreFields d (front ++ byte ∷ [])) (sym so_far.is)
        (fields_more d so_far.front (in_quotes so_far.inside) byte so_far.fields (inr (so_far.inside, refl)) ends)

  -- one byte more
  by_kind : (k : Kind) → kind_of d byte ≡ k → (s next : Standing) → Stands d read s → step s k (length read) ≡ Ok next → Stands d (read ++ byte ∷ []) next
  by_kind kind.Quote e at.Start next so went = let same : at.Quoted (length read) ≡ next = cc in subst (λ (s : Standing). Stands d (read ++ byte ∷ []) s) same (start_quote so (is_quote d byte e))
  by_kind kind.End e at.Start next so went = let same : at.Start ≡ next = cc in subst (λ (s : Standing). Stands d (read ++ byte ∷ []) s) same (start_end so e)
  by_kind kind.Other e at.Start next so went = let same : at.Bare ≡ next = cc in subst (λ (s : Standing). Stands d (read ++ byte ∷ []) s) same (start_other so e)
  by_kind kind.Quote e at.Bare next so went = cc
  by_kind kind.End e at.Bare next so went = let same : at.Start ≡ next = cc in subst (λ (s : Standing). Stands d (read ++ byte ∷ []) s) same (bare_end so e)
  by_kind kind.Other e at.Bare next so went = let same : at.Bare ≡ next = cc in subst (λ (s : Standing). Stands d (read ++ byte ∷ []) s) same (bare_other so e)
  by_kind kind.Quote e (at.Quoted opened) next so went = let same : at.Closed opened ≡ next = cc in subst (λ (s : Standing). Stands d (read ++ byte ∷ []) s) same (quoted_quote opened so (is_quote d byte e))
  by_kind kind.End e (at.Quoted opened) next so went = let same : at.Quoted opened ≡ next = cc in subst (λ (s : Standing). Stands d (read ++ byte ∷ []) s) same (quoted_other opened so (no_quote d byte (λ bad. let both = sym bad ∙ e in cc)))
  by_kind kind.Other e (at.Quoted opened) next so went = let same : at.Quoted opened ≡ next = cc in subst (λ (s : Standing). Stands d (read ++ byte ∷ []) s) same (quoted_other opened so (no_quote d byte (λ bad. let both = sym bad ∙ e in cc)))
  by_kind kind.Quote e (at.Closed opened) next so went = let same : at.Quoted opened ≡ next = cc in subst (λ (s : Standing). Stands d (read ++ byte ∷ []) s) same (closed_quote opened so (is_quote d byte e))
  by_kind kind.End e (at.Closed opened) next so went = let same : at.Start ≡ next = cc in subst (λ (s : Standing). Stands d (read ++ byte ∷ []) s) same (closed_end opened so e)
  by_kind kind.Other e (at.Closed opened) next so went = cc

  -- a fault
  stray : (later : List ℕ) → IsInBare d read → byte ≡ 34 → IsStray d (read ++ byte ∷ later) (length read)
  stray later so_far quote = record {
    front = so_far.front;
    field = so_far.field;
    later = later;
    is = ap (λ b. read ++ b ∷ later) quote ∙ ap (λ front. front ++ 34 ∷ later) so_far.is;
    fields = so_far.fields;
    bare = so_far.bare;
    some = so_far.some;
    before = ap length so_far.is;
  }

  followed : (later : List ℕ) (opened : ℕ) → IsAfterQuote d read opened → kind_of d byte ≡ kind.Other → IsFollowed d (read ++ byte ∷ later) (length read)
  followed later opened so_far other = record {
    front = so_far.front;
    inside = so_far.inside;
    byte = byte;
    later = later;
    is = ap (λ front. front ++ byte ∷ later) so_far.is;
    fields = so_far.fields;
    other = other;
    before = ap length so_far.is;
  }

  by_fault : (later : List ℕ) (k : Kind) → kind_of d byte ≡ k → (s : Standing) (f : QuoteFault) → Stands d read s → step s k (length read) ≡ Err f → IsMisquoted d (read ++ byte ∷ later) f (length read)
  by_fault later kind.Quote e at.Start f so bad = cc
  by_fault later kind.End e at.Start f so bad = cc
  by_fault later kind.Other e at.Start f so bad = cc
  by_fault later kind.Quote e at.Bare f so bad = let same : fault.Stray ≡ f = cc in subst (λ (g : QuoteFault). IsMisquoted d (read ++ byte ∷ later) g (length read)) same (stray later so (is_quote d byte e))
  by_fault later kind.End e at.Bare f so bad = cc
  by_fault later kind.Other e at.Bare f so bad = cc
  by_fault later kind.Quote e (at.Quoted opened) f so bad = cc
  by_fault later kind.End e (at.Quoted opened) f so bad = cc
  by_fault later kind.Other e (at.Quoted opened) f so bad = cc
  by_fault later kind.Quote e (at.Closed opened) f so bad = cc
  by_fault later kind.End e (at.Closed opened) f so bad = cc
  by_fault later kind.Other e (at.Closed opened) f so bad = let same : fault.Followed ≡ f = cc in subst (λ (g : QuoteFault). IsMisquoted d (read ++ byte ∷ later) g (length read)) same (followed later opened so e)

-- ---- in a text

module _ (d : ℕ) (text : List ℕ) (place : ℕ) (s : Standing) (within : place < length text) (so : Stands d (take place text) s) where
  long : length (take place text) ≡ place
  long = let short : place ≤ length text = omega arith in length-take-le place text short

  pub stands_more : (next : Standing) → step s (kind_of d (get_or text place 0)) place ≡ Ok next → Stands d (take (place + 1) text) next
  stands_more next went = subst (λ read. Stands d read next) (sym (take_more text place 0 within))
      (by_kind d (take place text) (get_or text place 0) (kind_of d (get_or text place 0)) refl s next so (ap (step s (kind_of d (get_or text place 0))) long ∙ went))

  pub misquoted_at : (f : QuoteFault) → step s (kind_of d (get_or text place 0)) place ≡ Err f → IsMisquoted d text f place
  misquoted_at f bad =
      let parted : take place text ++ get_or text place 0 ∷ drop (place + 1) text ≡ text =
      ap (λ later. take place text ++ later) (sym (drop_more text place 0 within)) ∙ take-append-drop place text in
      subst (λ t. IsMisquoted d t f place) parted
      (subst (λ (n : ℕ). IsMisquoted d (take place text ++ get_or text place 0 ∷ drop (place + 1) text) f n) long
      (by_fault d (take place text) (get_or text place 0) (drop (place + 1) text) (kind_of d (get_or text place 0)) refl s f so
      (ap (step s (kind_of d (get_or text place 0))) long ∙ bad)))
