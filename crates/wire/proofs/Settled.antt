-- The outcomes of the room's functions are determined.
-- Assumes nothing.
use Prim.Native.Nat.{ℕ}
use mathlib.Core.List.{List}
use Rattle.wire.proofs.Outcomes.{Answered, Determined, same_answer, same_bytes}
use Rattle.wire.proofs.refusal.Refusal.number.Kinds as number
use Rattle.wire.proofs.refusal.Refusal.number.Reads as number-reads
use Rattle.wire.proofs.told.RefusalTells.told.Kinds as reason-told
use Rattle.wire.proofs.told.RefusalTells.told.Reads as reason-told-reads
use Rattle.wire.proofs.told.RefusalTells.overlong.Kinds as reason-overlong
use Rattle.wire.proofs.told.RefusalTells.overlong.Reads as reason-overlong-reads
use Rattle.wire.proofs.told.U8Tells.told.Kinds as number-told
use Rattle.wire.proofs.told.U8Tells.told.Reads as number-told-reads
use Rattle.wire.proofs.told.U8Tells.overlong.Kinds as number-overlong
use Rattle.wire.proofs.told.U8Tells.overlong.Reads as number-overlong-reads
use Rattle.wire.proofs.fields.get2.Kinds as get2
use Rattle.wire.proofs.fields.get2.Reads as get2-reads
use Rattle.wire.proofs.fields.get4.Kinds as get4
use Rattle.wire.proofs.fields.get4.Reads as get4-reads
use Rattle.wire.proofs.fields.get8.Kinds as get8
use Rattle.wire.proofs.fields.get8.Reads as get8-reads
use Rattle.wire.proofs.fields.put2.Kinds as put2
use Rattle.wire.proofs.fields.put2.Reads as put2-reads
use Rattle.wire.proofs.fields.put4.Kinds as put4
use Rattle.wire.proofs.fields.put4.Reads as put4-reads
use Rattle.wire.proofs.fields.put8.Kinds as put8
use Rattle.wire.proofs.fields.put8.Reads as put8-reads
use Rattle.wire.proofs.output.copy.Kinds as copy
use Rattle.wire.proofs.output.copy.Reads as copy-reads

number-is : Answered 0 number.ps number.r number-reads.Post
number-is κs a x y s t = same_answer

reason-told-is : Answered 0 reason-told.ps reason-told.r reason-told-reads.Post
reason-told-is κs a x y s t = same_answer

reason-overlong-is : Answered 0 reason-overlong.ps reason-overlong.r reason-overlong-reads.Post
reason-overlong-is κs a x y s t = same_answer

number-told-is : Answered 0 number-told.ps number-told.r number-told-reads.Post
number-told-is κs a x y s t = same_answer

number-overlong-is : Answered 0 number-overlong.ps number-overlong.r number-overlong-reads.Post
number-overlong-is κs a x y s t = same_answer

get2-is : Answered 1 get2.ps get2.r get2-reads.Post
get2-is κs a x y s t = same_answer

get4-is : Answered 1 get4.ps get4.r get4-reads.Post
get4-is κs a x y s t = same_answer

get8-is : Answered 1 get8.ps get8.r get8-reads.Post
get8-is κs a x y s t = same_answer

put2-is : Determined 1 put2.ps put2.r (List ℕ) (λ κs s. s.0.now) put2-reads.Post
put2-is κs a x y s t = same_bytes

put4-is : Determined 1 put4.ps put4.r (List ℕ) (λ κs s. s.0.now) put4-reads.Post
put4-is κs a x y s t = same_bytes

put8-is : Determined 1 put8.ps put8.r (List ℕ) (λ κs s. s.0.now) put8-reads.Post
put8-is κs a x y s t = same_bytes

copy_is : Determined 2 copy.ps copy.r (List ℕ) (λ κs s. s.0.now) copy-reads.Post
copy_is κs a x y s t = same_bytes
