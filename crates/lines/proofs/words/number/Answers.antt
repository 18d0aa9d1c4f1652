use Rattle.std.proofs.Common.{◌^◌, ◌≤◌, zero-lt-suc, add-one, arith}
use native.Mathlib.Nat.{pow-succ', pow-le-pow_right}
use Rattle.std.proofs.lemmas.List.{at_drop_more, at_drop_all}
use Rattle.std.proofs.lemmas.Bool.Decides.{nat_tests}
use Rattle.grammar.specs.Bytes.{digits_from}
use Rattle.lines.proofs.words.number.Goals as goal

pub returns-then-not-is_digit : goal.returns-then-not-is_digit
returns-then-not-is_digit c =
    let e = at_drop_more (digits_from c.loop-b.value) c.args.piece.now c.loop-b.b-index 0 (omega arith) in
    record { value = grind (arith, nat_tests, e); small = tt }

pub loop-b-preserved : goal.loop-b-preserved
loop-b-preserved c =
    let e = at_drop_more (digits_from c.loop-b.value) c.args.piece.now c.loop-b.b-index 0 (omega arith) in
    (rw (add-one, pow-succ') (grind (arith, nat_tests)), grind (arith, nat_tests, e))

pub returns : goal.returns
returns c =
    let e = at_drop_all (digits_from c.loop-b.value) c.args.piece.now c.loop-b.b-index (omega arith) in
    let few : c.loop-b.b-index ≤ 6 = omega arith in
    let most : 10 ^ c.loop-b.b-index ≤ 10 ^ 6 = pow-le-pow_right (zero-lt-suc 9) few in
    record { value = grind (arith, nat_tests, e); small = omega (arith, most) }
