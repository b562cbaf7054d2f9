-- The command of a line.
use Rattle.std.proofs.Common.{◌≡◌, ◌≤◌, ℕ, ◌+◌, ◌==◌, Bool, true, false, cond, List, [], ◌∷◌, IsUtf8, Option, Some, None, Result, Ok, length, option_map, refl, ap, inl, inr, arith}
use Rattle.std.proofs.lemmas.Bool.{cases_Bool}
use Rattle.std.proofs.lemmas.List.{length-drop}
use Rattle.std.proofs.lemmas.Str.{IsUtf8-from_is_utf8, is_utf8-from_IsUtf8}
use Rattle.std.specs.Str.{is_utf8}
use Rattle.std.specs.List.{after_first, before_first, position_or_len}
use Rattle.cells.specs.Values.{RowValue, Table}
use Rattle.cells.specs.declared.cell.Cell.{Cell}
use Rattle.loader.specs.Records.{row_of_text}
use Rattle.script.specs.Deeds.{Deed, Loads, Nothing, command_in, command_named, command_of, deed, deed_of, deletes, is_comment, publishes, puts, shapes}
use Rattle.script.specs.Keys.{key_of_text}
use Rattle.script.specs.declared.command.Command.{Command}
use Rattle.script.specs.declared.command.Command.TheVariants as command
use Rattle.script.specs.declared.fault.Fault.{Fault}

pub command_of_text : (line : List ℕ) → IsUtf8 line → command_of line ≡ command_in line
command_of_text line utf8 = rw (is_utf8-from_IsUtf8 line utf8) refl

pub command_of_other : (line : List ℕ) → ¬ (IsUtf8 line) → command_of line ≡ None
command_of_other line other = elim (cases_Bool (is_utf8 line)) [
  | inl text ↦ absurd (other (IsUtf8-from_is_utf8 line text))
  | inr none ↦ rw none refl
]

-- ---- a rest is no longer than its line

some_same : {A : Type 0} (x y : A) → Some x ≡ Some y → x ≡ y
some_same x y e = cc

rest_same : (c d : Command) (xs ys : List ℕ) → ◌≡◌ {A = Command × List ℕ} (c, xs) (d, ys) → xs ≡ ys
rest_same c d xs ys e = ap (λ p. p.1) e

shorter : (p : ℕ → Bool) (xs : List ℕ) → length (after_first p xs) ≤ length xs
shorter p xs = let dropped = length-drop (position_or_len p xs + 1) xs in omega (arith, dropped)

named_rest : (line : List ℕ) (o : Option Command) (c : Command) (rest : List ℕ) →
    option_map {U = Command × List ℕ} (λ named. (named, after_first (λ b. b == 32) line)) o ≡ Some (c, rest) → length rest ≤ length line
named_rest line None c rest e = absurd (cc)
named_rest line (Some d) c rest e =
    let is = rest_same d c (after_first (λ b. b == 32) line) rest (some_same _ _ e) in
    let short = shorter (λ b. b == 32) line in
    omega (arith, short, ap length is)

rest_short : (line : List ℕ) (c : Command) (rest : List ℕ) → command_of line ≡ Some (c, rest) → length rest ≤ length line
rest_short line c rest e = of_text (is_utf8 line) e where
  of_text : (utf8 : Bool) → cond utf8 (command_in line) None ≡ Some (c, rest) → length rest ≤ length line
  of_text true e = named_rest line (command_named (before_first (λ b. b == 32) line)) c rest e
  of_text false e = absurd (cc)

listing_same : (t u : Table) (xs ys : List ℕ) → ◌≡◌ {A = Result Deed Fault} (Ok (Loads t xs)) (Ok (Loads u ys)) → xs ≡ ys
listing_same t u xs ys e = cc

no_put : (o : Option RowValue) (t : Table) (listing : List ℕ) → puts o ≡ Ok (Loads t listing) → ⊥
no_put None t listing e = cc
no_put (Some row) t listing e = cc

no_delete : (o : Option Cell) (t : Table) (listing : List ℕ) → deletes o ≡ Ok (Loads t listing) → ⊥
no_delete None t listing e = cc
no_delete (Some key) t listing e = cc

no_publish : (rest : List ℕ) (t : Table) (listing : List ℕ) → publishes rest ≡ Ok (Loads t listing) → ⊥
no_publish [] t listing e = cc
no_publish (b ∷ rest) t listing e = cc

no_shape : (rest : List ℕ) (t : Table) (listing : List ℕ) → shapes rest ≡ Ok (Loads t listing) → ⊥
no_shape [] t listing e = cc
no_shape (b ∷ rest) t listing e = cc

of_command : (t : Table) (line listing : List ℕ) (o : Option (Command × List ℕ)) → command_of line ≡ o → deed_of (Some t) o ≡ Ok (Loads t listing) → length listing ≤ length line
of_command t line listing None is e = absurd (cc)
of_command t line listing (Some (command.Table, rest)) is e = absurd (cc)
of_command t line listing (Some (command.Load, rest)) is e =
    let short = rest_short line command.Load rest is in
    omega (arith, short, ap length (listing_same t t rest listing e))
of_command t line listing (Some (command.Put, rest)) is e = absurd (no_put (row_of_text t rest) t listing e)
of_command t line listing (Some (command.Delete, rest)) is e = absurd (no_delete (key_of_text t rest) t listing e)
of_command t line listing (Some (command.Publish, rest)) is e = absurd (no_publish rest t listing e)
of_command t line listing (Some (command.Report, rest)) is e = absurd (cc)
of_command t line listing (Some (command.Shape, rest)) is e = absurd (no_shape rest t listing e)

-- what a load lists is no longer than its line
pub listing_short : (t : Table) (line listing : List ℕ) → deed (Some t) line ≡ Ok (Loads t listing) → length listing ≤ length line
listing_short t line listing e = of_line (is_comment line) e where
  of_line : (nothing : Bool) → ◌≡◌ {A = Result Deed Fault} (cond nothing (Ok Nothing) (deed_of (Some t) (command_of line))) (Ok (Loads t listing)) → length listing ≤ length line
  of_line true e = absurd (cc)
  of_line false e = of_command t line listing (command_of line) refl e
