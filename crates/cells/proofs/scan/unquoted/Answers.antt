use Rattle.std.proofs.Common.{◌∙◌, ◌++◌, ◌∷◌, [], Some, None, inr, refl, sym, ap, lit<, rules, string_bytes}
use Rattle.std.proofs.lemmas.Str.Pattern.{split_parts, strip_prefix_char}
use Rattle.cells.specs.Scanning.{after, unquoted}
use Rattle.cells.proofs.QuotesLemmas.{part_ends, part_goes_on, unquoted_none}
use Rattle.cells.proofs.scan.unquoted.Goals as goal

pub returns-in_default-strip_prefix : goal.returns-in_default-strip_prefix
returns-in_default-strip_prefix c =
    let parts = split_parts 39 c.loop-part.rest.now (Some (c.in-Some.part, c.in-Some.behind)) c.in-Some.ensures.cases (lit< tt) in
    let last = strip_prefix_char 39 c.in-Some.behind.now None c.in_default-strip_prefix.ensures.cases (lit< tt) in
    sym c.loop-part.invariant.same
    ∙ part_ends (string_bytes c.loop-part.front) c.in-Some.part.now c.in-Some.behind.now c.loop-part.rest.now parts.0 parts.1 last
    ∙ ap (λ l. Some (l, c.in-Some.behind.now)) (sym c.in_ok-push_str.ensures.bytes)

pub loop-part-preserved : goal.loop-part-preserved
loop-part-preserved c =
    let parts = split_parts 39 c.loop-part.rest.now (Some (c.in-Some.part, c.in-Some.behind)) c.in-Some.ensures.cases (lit< tt) in
    let again = strip_prefix_char 39 c.in-Some.behind.now (Some c.in-Some-strip_prefix.more) c.in-Some-strip_prefix.ensures.cases (lit< tt) in
    record {
      text = search rules;
      same =
          ap (λ l. after l (unquoted c.in-Some-strip_prefix.more.now)) (c.in_ok-push_str-2.ensures.bytes ∙ ap (λ l. l ++ 39 ∷ []) c.in_ok-push_str.ensures.bytes)
          ∙ sym (part_goes_on (string_bytes c.loop-part.front) c.in-Some.part.now c.in-Some.behind.now c.in-Some-strip_prefix.more.now c.loop-part.rest.now parts.0 parts.1 again)
          ∙ c.loop-part.invariant.same;
    }

pub returns : goal.returns
returns c =
    let none = split_parts 39 c.loop-part.rest.now None c.in_default.ensures.cases (lit< tt) in
    inr (refl, sym c.loop-part.invariant.same ∙ ap (after (string_bytes c.loop-part.front)) (unquoted_none c.loop-part.rest.now none))
