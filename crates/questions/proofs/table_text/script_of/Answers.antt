use Rattle.std.proofs.Common.{◌≡◌, ◌∷◌, ◌++◌, ◌∙◌, [], ap, rules}
use Rattle.questions.specs.Questions.{load_line, one_line, publish_and_report}
use Rattle.questions.proofs.table_text.script_of.Goals as goal

pub returns : goal.returns
returns c =
    let table : c.push.new.self.items ≡ c.args.line.now ++ 10 ∷ [] = search rules in
    let load : c.push_load.new.script.items ≡ c.push.new.self.items ++ load_line c.args.count = search rules in
    let report : c.extend_from_slice.new.self.items ≡ c.push_load.new.script.items ++ publish_and_report = c.in_ok-extend_from_slice.ensures.items in
    let query : c.push_one_line.new.script.items ≡ c.extend_from_slice.new.self.items ++ one_line c.args.query.now = search rules in
    c.in_ok-push-2.ensures.items
    ∙ ap (λ s. s ++ 10 ∷ []) (query ∙ ap (λ s. s ++ one_line c.args.query.now) (report ∙ ap (λ s. s ++ publish_and_report) (load ∙ ap (λ s. s ++ load_line c.args.count) table)))
