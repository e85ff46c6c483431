use Rattle.text.specs.Text.{letter_or_digit}
use Rattle.text.proofs.is_letter_or_digit.Goals as goal

pub returns : goal.returns
unfolding letter_or_digit
returns c = c.is_ascii_alphanumeric.ensures.value
