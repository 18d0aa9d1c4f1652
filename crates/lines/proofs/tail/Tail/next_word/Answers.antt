use Rattle.std.proofs.Common.{◌+◌, arith}
use Rattle.std.proofs.lemmas.List.{take_rest}
use Rattle.std.proofs.lemmas.Bool.Decides.{nat_tests}
use Rattle.lines.proofs.tail.Tail.next_word.Goals as goal

pub returns-then-n-self : goal.returns-then-n-self
returns-then-n-self c =
    let e = take_rest c.args.self.bytes.now (c.length_before-n.result + 1) in
    let w = c.in_ok-word.ensures in
    grind (arith, nat_tests, e, w)
