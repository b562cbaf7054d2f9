use Rattle.std.proofs.Common.{◌≡◌, ◌++◌, take}
use Rattle.std.specs.List.{flat_map}
use Rattle.forms.specs.Classic.{separator}
use Rattle.forms.proofs.classic.push_headings.Given as goal

abbrev pub invariant-loop-heading : goal.invariant-loop-heading
invariant-loop-heading l = l.text.items ≡ l.fn.text.items ++ flat_map (λ heading. separator ++ heading) (take l.heading-index l.headings)
