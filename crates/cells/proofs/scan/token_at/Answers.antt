use Rattle.std.proofs.Common.{◌≡◌, ◌==◌, ◌||◌, ◌∙◌, None, false, sym, ap, subst, lit<, slice_index}
use Rattle.std.specs.Char.{is_ascii_digit}
use Rattle.std.proofs.lemmas.Bool.{or_from, true≢false}
use Rattle.std.proofs.lemmas.Str.Pattern.{strip_prefix_char}
use Rattle.cells.specs.Refusals.{Gives}
use Rattle.cells.proofs.TokensLemmas.{token_mark}
use Rattle.cells.proofs.scan.token_at.Goals.{then-begins-2, else-begins-2}
use Rattle.cells.proofs.scan.token_at.Goals as goal

pub returns-in_default : goal.returns-in_default
returns-in_default c =
    let no_word = sym c.begins.ensures ∙ c.if-begins.false in
    let no_number : (is_ascii_digit (slice_index c.args.text.now 0) || slice_index c.args.text.now 0 == 45) ≡ false =
    elim c.if-begins-2.branch [
      | then-begins-2 w ↦ absurd (true≢false (sym w.if-begins-2.true ∙ sym w.value-is ∙ c.if-byte_at-eq45.false))
      | else-begins-2 w ↦ or_from _ _ (sym c.begins-else-begins.ensures ∙ w.if-begins-2.false) (ap (λ v. v == 45) (sym w.byte_at.ensures) ∙ sym w.value-is ∙ c.if-byte_at-eq45.false)
    ] in
    let no_quote = strip_prefix_char 39 c.args.text.now None c.in_default.ensures.cases (lit< tt) in
    subst (λ o. Gives (λ x. (x.0, x.1.now)) o c.mark_at.result) (sym (token_mark c.args.text.now no_word no_number no_quote)) c.mark_at.ensures
