-- The outcomes of the room's entries are determined.
-- Assumes nothing.
use Rattle.wire.proofs.Outcomes.{Answered, same_answer}
use Rattle.text.proofs.is_blank.Kinds as is-blank
use Rattle.text.proofs.is_blank.Reads as is-blank-reads
use Rattle.text.proofs.is_text_then_spaces.Kinds as is-text-then-spaces
use Rattle.text.proofs.is_text_then_spaces.Reads as is-text-then-spaces-reads
use Rattle.text.proofs.is_spaces_then_text.Kinds as is-spaces-then-text
use Rattle.text.proofs.is_spaces_then_text.Reads as is-spaces-then-text-reads
use Rattle.text.proofs.is_blank_name.Kinds as is-blank-name
use Rattle.text.proofs.is_blank_name.Reads as is-blank-name-reads
use Rattle.text.proofs.is_name_then_spaces.Kinds as is-name-then-spaces
use Rattle.text.proofs.is_name_then_spaces.Reads as is-name-then-spaces-reads
use Rattle.text.proofs.is_spaces_then_name.Kinds as is-spaces-then-name
use Rattle.text.proofs.is_spaces_then_name.Reads as is-spaces-then-name-reads
use Rattle.text.proofs.is_blank_user.Kinds as is-blank-user
use Rattle.text.proofs.is_blank_user.Reads as is-blank-user-reads
use Rattle.text.proofs.is_user_then_spaces.Kinds as is-user-then-spaces
use Rattle.text.proofs.is_user_then_spaces.Reads as is-user-then-spaces-reads

is-blank-is : Answered 1 is-blank.ps is-blank.r is-blank-reads.Post
is-blank-is κs a x y s t = same_answer

is-text-then-spaces-is : Answered 1 is-text-then-spaces.ps is-text-then-spaces.r is-text-then-spaces-reads.Post
is-text-then-spaces-is κs a x y s t = same_answer

is-spaces-then-text-is : Answered 1 is-spaces-then-text.ps is-spaces-then-text.r is-spaces-then-text-reads.Post
is-spaces-then-text-is κs a x y s t = same_answer

is-blank-name-is : Answered 0 is-blank-name.ps is-blank-name.r is-blank-name-reads.Post
is-blank-name-is κs a x y s t = same_answer

is-name-then-spaces-is : Answered 0 is-name-then-spaces.ps is-name-then-spaces.r is-name-then-spaces-reads.Post
is-name-then-spaces-is κs a x y s t = same_answer

is-spaces-then-name-is : Answered 0 is-spaces-then-name.ps is-spaces-then-name.r is-spaces-then-name-reads.Post
is-spaces-then-name-is κs a x y s t = same_answer

is-blank-user-is : Answered 0 is-blank-user.ps is-blank-user.r is-blank-user-reads.Post
is-blank-user-is κs a x y s t = same_answer

is-user-then-spaces-is : Answered 0 is-user-then-spaces.ps is-user-then-spaces.r is-user-then-spaces-reads.Post
is-user-then-spaces-is κs a x y s t = same_answer
