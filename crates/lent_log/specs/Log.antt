-- The log: when it hangs together, its messages, and what adding and declaring the end leave.
-- Assumes nothing.
use Rattle.std.specs.Prelude.{ℕ, zero, suc, ◌+◌, ◌-◌, ◌^◌, ◌≡◌, List, [], ◌∷◌, ◌++◌, Bool, true, not, ◌&&◌, length, take, drop}
use Rattle.std.specs.Prelude.{if◌then◌else◌}
use Rattle.wire.specs.Checks.{◌is◌, ◌at_most◌, Verdict, refused, taken, ◌told_by◌, Check, ◌else◌, checked}
use Rattle.wire.specs.declared.refusal.Refusal.TheVariants.{Overlong, Framing, Bound, Room, Broken, AfterEnd}
use Rattle.blocks.specs.Blocks.{frames, there, first, rest, Cut, torn, whole, before, cut, is_whole, messages_of}
use Rattle.lent_log.specs.declared.Log.{Log}

-- the most bytes of a message, so that a packet can carry it
abbrev pub longest : ℕ
longest = 1463

-- no message exceeds that
unfoldable pub small : List (List ℕ) → Bool
small [] = true
small (m ∷ ms) = length m at_most longest && small ms

-- whole blocks whose messages are small
abbrev pub sound : Cut → Bool
sound q = is_whole q && small (messages_of q)

-- the blocks up to the mark, and their messages
abbrev pub blocks_in : Log → List ℕ → Cut
blocks_in l s = cut l.count (take l.used s)

abbrev pub messages_in : Log → List ℕ → List (List ℕ)
messages_in l s = messages_of (blocks_in l s)

-- at most 2^32-2 blocks, which end exactly at the mark inside the slice, and none is too long; Adding shows that a log stays so
unfoldable pub hangs : Log → List ℕ → Bool
hangs l s = l.count at_most 2 ^ 32 - 2 && l.used at_most length s && sound (blocks_in l s)

-- the log afterwards, and every byte lent to it
pub record Kept : Type 0 where
  pub log : Log
  pub bytes : List ℕ

-- the blocks of messages laid after the mark
abbrev pub extended : Log → List ℕ → List (List ℕ) → Kept
extended l s ms = record {
  log = record { count = l.count + length ms; used = l.used + length (frames ms); ended = l.ended };
  bytes = take l.used s ++ (frames ms ++ drop (l.used + length (frames ms)) s);
}

-- a log to which messages and the end may be added
abbrev pub growing : Log → List ℕ → List Check
growing l s = (hangs l s else Broken) ∷ (not l.ended else AfterEnd) ∷ []

-- messages that may be added to it: small, not too many, and with room after the mark
abbrev pub fitting : Log → List ℕ → List (List ℕ) → List Check
fitting l s ms =
    (small ms else Overlong)
    ∷ (l.count + length ms at_most 2 ^ 32 - 2 else Bound)
    ∷ (l.used + length (frames ms) at_most length s else Room)
    ∷ []

-- adding a message; Adding shows that it follows those that were there, Order in which order it is refused
unfoldable pub adding : Log → List ℕ → List ℕ → Verdict Kept
adding l s m = checked (growing l s ++ fitting l s (m ∷ [])) (taken (extended l s (m ∷ [])))

-- fewer than n blocks that end where s ends
unfoldable pub cut_all : ℕ → List ℕ → Cut
cut_all zero s = torn
cut_all (suc n) s =
    if length s is 0 then whole [] else
    if there s then before (first s) (cut_all n (rest s)) else torn

-- blocks to the very end, however many: there are no more of them than bytes; Many shows that framed messages are cut so
abbrev pub to_the_end : List ℕ → Cut
to_the_end s = cut_all (suc (length s)) s

-- adding the messages whose blocks are given, all of them or none; InTurn shows that it is adding each in turn
unfoldable pub adding_many : Log → List ℕ → List ℕ → Verdict Kept
adding_many l s framed =
    let ms = messages_of (to_the_end framed) in
    checked (growing l s ++ ((is_whole (to_the_end framed) else Framing) ∷ fitting l s ms)) (taken (extended l s ms))

-- declaring the end
unfoldable pub declaring : Log → List ℕ → Verdict Kept
declaring l s =
    checked (growing l s) (taken (record { log = record { count = l.count; used = l.used; ended = true }; bytes = s }))

-- how many messages there are, or why they can't be added
abbrev pub tallied : Cut → Verdict ℕ
tallied torn = refused Framing
tallied (whole ms) = if small ms then taken (length ms) else refused Overlong

-- the answer: the refusal, or the log afterwards
abbrev pub logged_of : Verdict Kept → Verdict Log
logged_of v = v told_by (λ k. k.log)

-- every lent byte afterwards
abbrev pub left_of : List ℕ → Verdict Kept → List ℕ
left_of s (refused n) = s
left_of s (taken k) = k.bytes

-- the answer r and the bytes left are those of the verdict
pub record Entered (v : Verdict Kept) (s : List ℕ) (r : Verdict Log) (left : List ℕ) : Type 0 where
  pub answer : r ≡ logged_of v
  pub bytes : left ≡ left_of s v
