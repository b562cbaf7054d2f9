use Rattle.std.proofs.Common.{◌∙◌, ◌++◌, ◌∷◌, [], None, Some, sym, ap, lit<, rules, string_bytes}
use Rattle.std.proofs.lemmas.Str.Pattern.{split_parts}
use Rattle.cells.specs.Spelling.{doubled}
use Rattle.cells.proofs.LiteralsLemmas.{doubled_more, doubled_plain}
use Rattle.cells.proofs.total.quoted.Goals as goal

pub loop-part-preserved : goal.loop-part-preserved
loop-part-preserved c =
    let parts = split_parts 39 c.loop-part.rest.now (Some (c.in-Some.part, c.in-Some.behind)) c.in-Some.ensures.cases (lit< tt) in
    record {
      text = search rules;
      same =
          ap (λ l. l ++ doubled c.in-Some.behind.now) (c.in_ok-push_str-2.ensures.bytes ∙ ap (λ l. l ++ 39 ∷ 39 ∷ []) c.in_ok-push_str.ensures.bytes)
          ∙ doubled_more (string_bytes c.loop-part.literal) c.in-Some.part.now c.in-Some.behind.now c.loop-part.rest.now parts.0 parts.1
          ∙ c.loop-part.invariant.same;
    }

pub returns : goal.returns
returns c =
    let none = split_parts 39 c.loop-part.rest.now None c.in_default.ensures.cases (lit< tt) in
    c.in_ok-push_str-4.ensures.bytes
    ∙ ap (λ l. l ++ 39 ∷ []) (c.in_ok-push_str-3.ensures.bytes
    ∙ ap (λ l. string_bytes c.loop-part.literal ++ l) (sym (doubled_plain c.loop-part.rest.now none))
    ∙ c.loop-part.invariant.same)
