-- Lists with a separator: what is left to read decides what the whole spells.
use Rattle.std.proofs.Common.{◌≡◌, List, [], ◌∷◌, ◌++◌, ◌⊎◌, inl, inr, refl, sym, ap, ◌∙◌, subst, append_assoc, Result, Ok, Err}
use Rattle.std.specs.Prelude.{MatchResult}
use Rattle.cells.specs.declared.token.Token.{Token}
use Rattle.cells.specs.declared.refused.Refused.{Refused}
use Rattle.cells.specs.declared.refused.Refused.TheVariants.{OutOfMemory, QuerySyntax}
use Rattle.query.specs.Grammar.{Separated, last, next}
use Rattle.query.specs.Reading.{BeginsNot, Ends, ReadsPhrase, Starts, Found, Nothing}

-- a fault of the part is one of the whole, where there is no whole without the part
pub part_err : {X Y : Type 0} {S : X → List Token → Type 0} {T : Y → List Token → Type 0} {e : Refused} → (Nothing T → Nothing S) → (e ≡ OutOfMemory) ⊎ ((e ≡ QuerySyntax) × Nothing T) → (e ≡ OutOfMemory) ⊎ ((e ≡ QuerySyntax) × Nothing S)
part_err none (inl memory) = inl memory
part_err none (inr fault) = inr (fault.0, none fault.1)

-- S is T through f, with the same rest
pub record Turns {X Y : Type 0} (S : X → List Token → Type 0) (T : Y → List Token → Type 0) (f : Y → X) : Type 0 where
  pub to : (y : Y) (r : List Token) → T y r → S (f y) r
  pub from : (x : X) (r : List Token) → S x r → (y : Y) × (x ≡ f y) × T y r

module _ {X Y : Type 0} {S : X → List Token → Type 0} {T : Y → List Token → Type 0} {f : Y → X} where
  pub turn_found : {y : Y} {rest : List Token} → Turns S T f → Found T y rest → Found S (f y) rest
  turn_found {y} {rest} turns found = record {
    is = turns.to y rest found.is;
    only = λ x r s.
        let z = turns.from x r s in
        let same = found.only z.0 r z.2 in
        (z.1 ∙ ap f same.0, same.1);
  }

  pub turn_nothing : Turns S T f → Nothing T → Nothing S
  turn_nothing turns nothing = record { none = λ x r s. let z = turns.from x r s in nothing.none z.0 r z.2 }

  pub turn_err : {e : Refused} → Turns S T f → (e ≡ OutOfMemory) ⊎ ((e ≡ QuerySyntax) × Nothing T) → (e ≡ OutOfMemory) ⊎ ((e ≡ QuerySyntax) × Nothing S)
  turn_err turns = part_err (turn_nothing turns)

-- what S has of z: an A, and behind it a B, which make z
pub record Halves {X Y Z : Type 0} (A : X → List Token → Type 0) (B : X → List Token → Y → List Token → Type 0) (join : X → Y → Z) (z : Z) (rest : List Token) : Type 0 where
  pub first : X
  pub behind : List Token
  pub second : Y
  pub is : z ≡ join first second
  pub starts : A first behind
  pub follows : B first behind second rest

-- S is an A, and behind it a B
pub record Splits {X Y Z : Type 0} (S : Z → List Token → Type 0) (A : X → List Token → Type 0) (B : X → List Token → Y → List Token → Type 0) (join : X → Y → Z) : Type 0 where
  pub to : (x : X) (us : List Token) (y : Y) (r : List Token) → A x us → B x us y r → S (join x y) r
  pub from : (z : Z) (r : List Token) → S z r → Halves A B join z r

module _ {X Y Z : Type 0} {S : Z → List Token → Type 0} {A : X → List Token → Type 0} {B : X → List Token → Y → List Token → Type 0} {join : X → Y → Z} (splits : Splits S A B join) where
  -- once the A is found, S is what follows it
  pub split_found : {x : X} {us : List Token} → Found A x us → Turns S (B x us) (join x)
  split_found {x} {us} found = record {
    to = λ y r b. splits.to x us y r found.is b;
    from = λ z r s.
        let h = splits.from z r s in
        let same = found.only h.first h.behind h.starts in
        (h.second, h.is ∙ ap (λ a. join a h.second) same.0, subst (λ v. B x v h.second r) same.1 (subst (λ a. B a h.behind h.second r) same.0 h.follows));
  }

  pub split_nothing : Nothing A → Nothing S
  split_nothing nothing = record { none = λ z r s. let h = splits.from z r s in nothing.none h.first h.behind h.starts }

-- what the reader of the part answers is what the reader of the whole answers, where it hands it on
pub turn_reads : {X Y : Type 0} {S T : X → List Token → Type 0} (view : Y → X × List Token) (r : Result Y Refused) → Turns S T (λ x. x) → ReadsPhrase view T r → ReadsPhrase view S r
turn_reads view (Ok y) turns found = turn_found turns found
turn_reads view (Err e) turns fault = turn_err turns fault

-- what was made beside a value, and joined to it
pub beside_reads : {A B X V : Type 0} {S : X → List Token → Type 0} {T : B → List Token → Type 0} (join : A → B → X) (view : V → B) (value : A) (made : Result V Refused) (r : Result (A × V) Refused)
    → Turns S T (join value) → ReadsPhrase (λ v. (view v, [])) T made → MatchResult r (λ x. (made ≡ Ok x.1) × (x.0 ≡ value)) (λ e. made ≡ Err e) → ReadsPhrase (λ x. (join x.0 (view x.1), [])) S r
beside_reads {S = S} join view value (Ok v) (Ok x) turns found h =
    let same : v ≡ x.1 = cc in
    subst (λ a. Found S (join a (view x.1)) []) (sym h.1) (subst (λ w. Found S (join value (view w)) []) same (turn_found turns found))
beside_reads join view value (Ok v) (Err e) turns found h = absurd cc
beside_reads join view value (Err f) (Ok x) turns fault h = absurd (let bad : Err f ≡ Ok x.1 = h.0 in cc)
beside_reads {S = S} join view value (Err f) (Err e) turns fault h =
    let same : f ≡ e = cc in
    subst (λ g. (g ≡ OutOfMemory) ⊎ ((g ≡ QuerySyntax) × Nothing S)) same (turn_err turns fault)

-- up to a token that ends it
module _ {X : Type 0} {Sp : List Token → X → List Token → Type 0} {Apart : List Token → Type 0} (t : Token) (ts : List Token) (apart : (r : List Token) → Apart (t ∷ r)) where
  pub closed : {x : X} {behind : List Token} → Found (Starts Sp Apart ts) x behind → (rest : List Token) → behind ≡ t ∷ rest → Found (λ y r. Sp ts y (t ∷ r)) x rest
  closed {x} {behind} found rest e = record {
    is = subst (Sp ts x) e (found.is).spells;
    only = λ y r s.
        let same = found.only y (t ∷ r) (record { spells = s; apart = apart r }) in
        (same.0, let both : t ∷ r ≡ t ∷ rest = same.1 ∙ e in cc);
  }

  pub not_closed : {x : X} {behind : List Token} → Found (Starts Sp Apart ts) x behind → BeginsNot t behind → Nothing (λ y r. Sp ts y (t ∷ r))
  not_closed found other = record { none = λ y r s. other r (sym (found.only y (t ∷ r) (record { spells = s; apart = apart r })).1) }

  pub none_closed : Nothing (Starts Sp Apart ts) → Nothing (λ y r. Sp ts y (t ∷ r))
  none_closed nothing = record { none = λ y r s. nothing.none y (t ∷ r) (record { spells = s; apart = apart r }) }

  pub reads_closed : {Y : Type 0} (view : Y → List Token) (x : X) (behind : List Token) (r : Result (X × Y) Refused) → Found (Starts Sp Apart ts) x behind
      → MatchResult r (λ z. (z.0 ≡ x) × (behind ≡ t ∷ view z.1)) (λ e. (e ≡ QuerySyntax) × BeginsNot t behind) → ReadsPhrase (λ z. (z.0, view z.1)) (λ y rest. Sp ts y (t ∷ rest)) r
  reads_closed view x behind (Ok z) found h = subst (λ y. Found (λ w rest. Sp ts w (t ∷ rest)) y (view z.1)) (sym h.0) (closed found (view z.1) h.1)
  reads_closed view x behind (Err e) found h = inr (h.0, not_closed found h.1)

  pub err_closed : {e : Refused} → (e ≡ OutOfMemory) ⊎ ((e ≡ QuerySyntax) × Nothing (Starts Sp Apart ts)) → (e ≡ OutOfMemory) ⊎ ((e ≡ QuerySyntax) × Nothing (λ y r. Sp ts y (t ∷ r)))
  err_closed = part_err none_closed

module _ {X : Type 0} (sep : Token) (Sp : List Token → X → List Token → Type 0) (Apart : List Token → Type 0) (free : (us : List Token) → Apart (sep ∷ us)) where
  -- an element, and a list of them
  abbrev pub One : List Token → X → List Token → Type 0
  One ts = Starts Sp Apart ts

  abbrev pub Some' : List Token → List X → List Token → Type 0
  Some' ts = Starts (Separated sep Sp) (Ends sep Apart) ts

  -- the first element, and then the end, or a separator and the others
  pub record Parts (ts : List Token) (xs : List X) (rest : List Token) : Type 0 where
    pub first : X
    pub behind : List Token
    pub starts : One ts first behind
    pub others : ((xs ≡ first ∷ []) × (behind ≡ rest)) ⊎ ((us : List Token) × (ys : List X) × (behind ≡ sep ∷ us) × (xs ≡ first ∷ ys) × Some' us ys rest)

  parts_of : {ts rest : List Token} {xs : List X} → Separated sep Sp ts xs rest → Ends sep Apart rest → Parts ts xs rest
  parts_of {ts} {rest} (last {x = x} h) ends = record { first = x; behind = rest; starts = record { spells = h; apart = ends.apart }; others = inl (refl, refl) }
  parts_of {ts} {rest} (next {us = us} {x = x} {xs = xs} h more) ends = record {
    first = x;
    behind = sep ∷ us;
    starts = record { spells = h; apart = free us };
    others = inr (us, xs, refl, refl, record { spells = more; apart = ends });
  }

  pub list_none : {ts : List Token} → Nothing (One ts) → Nothing (Some' ts)
  list_none nothing = record { none = λ xs r s. let p = parts_of s.spells s.apart in nothing.none p.first p.behind p.starts }

  pub list_end : {ts : List Token} {x : X} {behind : List Token} → Found (One ts) x behind → BeginsNot sep behind → Found (Some' ts) (x ∷ []) behind
  list_end {ts} {x} {behind} found other = record {
    is = record { spells = last (found.is).spells; apart = record { no_more = other; apart = (found.is).apart } };
    only = λ xs r s.
        let p = parts_of s.spells s.apart in
        let same = found.only p.first p.behind p.starts in
        elim p.others [
          | inl end ↦ (end.0 ∙ ap (λ y. y ∷ []) same.0, sym end.1 ∙ same.1)
          | inr more ↦ absurd (other more.0 (sym same.1 ∙ more.2))
        ];
  }

  pub list_next : {ts : List Token} {x : X} {behind : List Token} → Found (One ts) x behind → (us : List Token) → behind ≡ sep ∷ us → Turns (Some' ts) (Some' us) (λ ys. x ∷ ys)
  list_next {ts} {x} {behind} found us e = record {
    to = λ ys r s. record { spells = next (subst (Sp ts x) e (found.is).spells) s.spells; apart = s.apart };
    from = λ xs r s.
        let p = parts_of s.spells s.apart in
        let same = found.only p.first p.behind p.starts in
        elim p.others [
          | inl end ↦ absurd (s.apart.no_more us (sym end.1 ∙ same.1 ∙ e))
          | inr more ↦
              let both : sep ∷ more.0 ≡ sep ∷ us = sym more.2 ∙ same.1 ∙ e in
              let rests : more.0 ≡ us = cc in
              (more.1, more.3 ∙ ap (λ y. y ∷ more.1) same.0, subst (λ v. Some' v more.1 r) rests more.4)
        ];
  }

  -- what a loop keeps: the whole spells what was found and then what the rest spells
  abbrev pub Kept : List Token → List X → List Token → Type 0
  Kept ts found rest = Turns (Some' ts) (Some' rest) (λ ys. found ++ ys)

  pub kept_first : (ts : List Token) → Kept ts [] ts
  kept_first ts = record { to = λ ys r s. s; from = λ xs r s. (xs, refl, s) }

  module _ (ts rest : List Token) (found : List X) (kept : Kept ts found rest) where
    pub kept_none : Nothing (One rest) → Nothing (Some' ts)
    kept_none nothing = turn_nothing kept (list_none nothing)

    module _ (x : X) (behind : List Token) (new : List X) (read : Found (One rest) x behind) (is : new ≡ found ++ x ∷ []) where
      pub kept_end : BeginsNot sep behind → Found (Some' ts) new behind
      kept_end other = rw is (turn_found kept (list_end read other))

      pub kept_next : (us : List Token) → behind ≡ sep ∷ us → Kept ts new us
      kept_next us e = rw is (record {
        to = λ ys r s. subst (λ l. Some' ts l r) (sym (append_assoc found (x ∷ []) ys)) (kept.to (x ∷ ys) r ((list_next read us e).to ys r s));
        from = λ xs r s.
            let a = kept.from xs r s in
            let b = (list_next read us e).from a.0 r a.2 in
            (b.0, a.1 ∙ ap (λ l. found ++ l) b.1 ∙ sym (append_assoc found (x ∷ []) b.0), b.2);
      })
