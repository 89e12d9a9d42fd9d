-- Every edge of a line's word, fields, numbers and digits comes out as expected. Assumes nothing.
use mathlib.Core.Path.{refl}
use Rattle.tokens.specs.Pieces.{pieces, piece_length}
use Rattle.tokens.specs.Decimal.{value_from, number_of, numbers_in, found_in}
use Rattle.tokens.specs.Hexadecimal.{hex_digit, found_bytes}
use Rattle.tokens.specs.TokenEdges.{PartsPass, part_edges, FieldsPass, field_edges, NumberedPass, numbered_edges}
use Rattle.tokens.specs.TokenEdges.{DigitsPass, digit_edges, BytesPass}

pub parts-hold : PartsPass part_edges
unfolding part_edges pieces piece_length
parts-hold = record { words = refl; fields = refl; after = refl }

pub fields-hold : FieldsPass field_edges
unfolding field_edges value_from number_of
fields-hold = refl

pub numbered-hold : NumberedPass numbered_edges
unfolding numbered_edges pieces value_from number_of numbers_in found_in
numbered-hold = record { found = refl; numbers = refl }

pub digits-hold : DigitsPass digit_edges
unfolding digit_edges hex_digit found_bytes
digits-hold = refl

pub bytes-hold : BytesPass
unfolding hex_digit
bytes-hold = refl
