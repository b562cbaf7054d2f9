use Rattle.std.proofs.Common.{refl}
use Rattle.trie.specs.Cuts.{cut_below}
use Rattle.trie.specs.Digits.{digits}
use Rattle.trie.proofs.laws.worked_cuts.Goals as goal

pub returns-clause-whole : goal.returns-clause-whole
unfolding digits cut_below
returns-clause-whole c = refl

pub returns-clause-one_digit : goal.returns-clause-one_digit
unfolding digits cut_below
returns-clause-one_digit c = refl

pub returns-clause-two_digits : goal.returns-clause-two_digits
unfolding digits cut_below
returns-clause-two_digits c = refl

pub returns-clause-all_digits : goal.returns-clause-all_digits
unfolding digits cut_below
returns-clause-all_digits c = refl

pub returns-clause-more_than_one : goal.returns-clause-more_than_one
unfolding digits cut_below
returns-clause-more_than_one c = refl

pub returns-clause-more_than_two : goal.returns-clause-more_than_two
unfolding digits cut_below
returns-clause-more_than_two c = refl

pub returns-clause-more_than_three : goal.returns-clause-more_than_three
unfolding digits cut_below
returns-clause-more_than_three c = refl

pub returns-clause-more_than_four : goal.returns-clause-more_than_four
unfolding digits cut_below
returns-clause-more_than_four c = refl
