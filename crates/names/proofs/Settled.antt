-- The outcomes of the room's entries are determined.
-- Assumes nothing.
use Prim.Native.Nat.{ℕ}
use mathlib.Core.List.{List}
use Rattle.wire.proofs.Outcomes.{Answered, Determined, same_answer, same_bytes}
use Rattle.names.proofs.get_name.Kinds as get-name
use Rattle.names.proofs.get_name.Reads as get-name-reads
use Rattle.names.proofs.get_user.Kinds as get-user
use Rattle.names.proofs.get_user.Reads as get-user-reads
use Rattle.names.proofs.name_bytes.Kinds as name-bytes
use Rattle.names.proofs.name_bytes.Reads as name-bytes-reads
use Rattle.names.proofs.user_bytes.Kinds as user-bytes
use Rattle.names.proofs.user_bytes.Reads as user-bytes-reads
use Rattle.names.proofs.put_name.Kinds as put-name
use Rattle.names.proofs.put_name.Reads as put-name-reads
use Rattle.names.proofs.put_user.Kinds as put-user
use Rattle.names.proofs.put_user.Reads as put-user-reads

get-name-is : Answered 1 get-name.ps get-name.r get-name-reads.Post
get-name-is κs a x y s t = same_answer

get-user-is : Answered 1 get-user.ps get-user.r get-user-reads.Post
get-user-is κs a x y s t = same_answer

name-bytes-is : Answered 0 name-bytes.ps name-bytes.r name-bytes-reads.Post
name-bytes-is κs a x y s t = same_answer

user-bytes-is : Answered 0 user-bytes.ps user-bytes.r user-bytes-reads.Post
user-bytes-is κs a x y s t = same_answer

put-name-is : Determined 1 put-name.ps put-name.r (List ℕ) (λ κs s. s.0.now) put-name-reads.Post
put-name-is κs a x y s t = same_bytes

put-user-is : Determined 1 put-user.ps put-user.r (List ℕ) (λ κs s. s.0.now) put-user-reads.Post
put-user-is κs a x y s t = same_bytes
