use Rattle.std.proofs.Common.{◌≡◌, ◌*◌, ◌+◌, ◌/◌, true, length, arith}
use Rattle.std.proofs.lemmas.Bool.Decides.{nat_tests}
use Rattle.tokens.specs.Pieces.{each}
use Rattle.tokens.specs.Hexadecimal.{is_hex_digit, found_bytes}
use Rattle.tokens.proofs.BytesRead.{digit-small, one_byte, all_bytes}
use Rattle.tokens.proofs.hexadecimal.read_bytes.Goals as goal

pub returns-then-not-all_digits-clause-found : goal.returns-then-not-all_digits-clause-found
unfolding found_bytes
returns-then-not-all_digits-clause-found c = grind (arith, nat_tests)

pub returns-then-digits-ne0-clause-found : goal.returns-then-digits-ne0-clause-found
unfolding found_bytes
returns-then-digits-ne0-clause-found c = grind (arith, nat_tests)

pub pair-requires : goal.pair-requires
pair-requires c =
    let all : each is_hex_digit c.args.digits.now ≡ true = grind arith in
    let small = digit-small c.args.digits.now all in
    (small (2 * c.loop-i.i) (omega arith), small (2 * c.loop-i.i + 1) (omega arith))

pub loop-i-preserved : goal.loop-i-preserved
loop-i-preserved c = rw c.keep.ensures (one_byte c.loop-i.invariant c.pair.ensures)

pub returns-clause-found : goal.returns-clause-found
unfolding found_bytes
returns-clause-found c = grind (arith, nat_tests)

pub returns-clause-kept : goal.returns-clause-kept
returns-clause-kept c = all_bytes (length c.args.digits.now / 2) c.loop-i.invariant (grind arith)
