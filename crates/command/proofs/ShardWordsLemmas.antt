-- The words of shards and of joins, by what `clap` finds in them.
use Rattle.std.proofs.Common.{◌≡◌, ◌<◌, ◌==◌, ℕ, refl, sym, true, List, [], None, Some, Result, Ok, Err, length}
use Rattle.std.proofs.Common.{inl}
use Rattle.std.specs.List.{after_first, before_first, position_or_len}
use Rattle.std.specs.Prelude.{IfErr, IfOk}
use Rattle.clap.specs.Words.{Row, Text, fault_of, is_simple, is_simple_and_free, matches_of}
use Rattle.clap.proofs.OnLiterals.{clap_on_literals}
use Rattle.cells.specs.Integers.{whole_number_of}
use Rattle.command.proofs.NamingLemmas.{below, not_below}
use Rattle.command.specs.ShardWords.{AskForShard, AskToJoin, AsksForShard, AsksToJoin, ExplainsJoinFault, ExplainsShardFault, IsJoinFault, IsShardFault, join_app, shard_app, shard_named, shard_of_numbers}
use Rattle.command.specs.declared.job.WordsFault.{WordsFault}
use Rattle.command.specs.declared.job.WordsFault.TheVariants.{Clap, Naming, NoScript, OutOfRange}
use Rattle.command.specs.declared.shard_words.JoinJob.{JoinJob}
use Rattle.command.specs.declared.shard_words.ShardJob.{ShardJob}

pub shard-is_simple : is_simple shard_app ≡ true
unfolding clap_on_literals
shard-is_simple = refl

pub shard-is_simple_and_free : is_simple_and_free shard_app ≡ true
unfolding clap_on_literals
shard-is_simple_and_free = refl

pub join-is_simple : is_simple join_app ≡ true
unfolding clap_on_literals
join-is_simple = refl

pub join-is_simple_and_free : is_simple_and_free join_app ≡ true
unfolding clap_on_literals
join-is_simple_and_free = refl

-- what was found is what the words ask for
pub asks_for_shard : (words : List Text) (found : List Row) (result : Result ShardJob WordsFault) → fault_of shard_app words ≡ [] → found ≡ matches_of shard_app words →
    IfOk result (AsksForShard found) → IfOk result (AskForShard words)
asks_for_shard words found (Ok job) read same is = record { read = read; found = rw (← same) is }
asks_for_shard words found (Err fault) read same is = tt

pub fault_of_shard : (words : List Text) (found : List Row) (result : Result ShardJob WordsFault) → fault_of shard_app words ≡ [] → found ≡ matches_of shard_app words →
    IfErr result (IsShardFault found) → IfErr result (ExplainsShardFault words)
fault_of_shard words found (Ok job) read same why = tt
fault_of_shard words found (Err (Clap e)) read same why = inl why
fault_of_shard words found (Err (OutOfRange it)) read same why = (read, rw (← same) why)
fault_of_shard words found (Err (Naming fault)) read same why = (read, why)
fault_of_shard words found (Err NoScript) read same why = (read, rw (← same) why)

pub asks_to_join : (words : List Text) (found : List Row) (result : Result JoinJob WordsFault) → fault_of join_app words ≡ [] → found ≡ matches_of join_app words →
    IfOk result (AsksToJoin found) → IfOk result (AskToJoin words)
asks_to_join words found (Ok job) read same is = record { read = read; found = rw (← same) is }
asks_to_join words found (Err fault) read same is = tt

pub fault_of_join : (words : List Text) (found : List Row) (result : Result JoinJob WordsFault) → fault_of join_app words ≡ [] → found ≡ matches_of join_app words →
    IfErr result (IsJoinFault found) → IfErr result (ExplainsJoinFault words)
fault_of_join words found (Ok job) read same why = tt
fault_of_join words found (Err (Clap e)) read same why = inl why
fault_of_join words found (Err (OutOfRange it)) read same why = (read, rw (← same) why)
fault_of_join words found (Err (Naming fault)) read same why = absurd why
fault_of_join words found (Err NoScript) read same why = (read, rw (← same) why)

-- ---- `K/N`

pub no_slash : (word : Text) → position_or_len (λ b. b == 47) word ≡ length word → shard_named word ≡ None
no_slash word e = rw (not_below _ _ e) refl

module _ (word number count : Text) (before : number ≡ before_first (λ b. b == 47) word) (behind : count ≡ after_first (λ b. b == 47) word)
    (within : position_or_len (λ b. b == 47) word < length word) where
  pub no_number : whole_number_of number ≡ None → shard_named word ≡ None
  no_number none = rw (below _ _ within, sym before, none) refl

  pub no_count : (k : ℕ) → whole_number_of number ≡ Some k → whole_number_of count ≡ None → shard_named word ≡ None
  no_count k is none = rw (below _ _ within, sym before, sym behind, is, none) refl

  pub both_numbers : (k n : ℕ) → whole_number_of number ≡ Some k → whole_number_of count ≡ Some n → shard_named word ≡ shard_of_numbers k n
  both_numbers k n is are = rw (below _ _ within, sym before, sym behind, is, are) refl
