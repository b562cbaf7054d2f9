use Rattle.std.proofs.Common.{ℕ, ◌-◌, arith, drop, length, length-drop, take}
use Rattle.std.specs.Char.{is_ascii_digit}
use Rattle.std.proofs.lemmas.List.{length-take}
use Rattle.std.proofs.lemmas.List.Sums.{prefix_len-le-length}
use Rattle.cells.proofs.scan.number_len.Goals as goal

pub overflow_add-result : goal.overflow_add-result
overflow_add-result c =
    let within = prefix_len-le-length is_ascii_digit (take (length c.args.bytes.now - 1) (drop 1 c.args.bytes.now)) in
    omega (arith, length-take {A = ℕ}, length-drop {A = ℕ})
