-- The laws that finish any writer: a refusal leaves the output, and a packet stored from its start is the reply.
-- Assumes nothing.
use Prim.Native.Nat.{ℕ, ◌+◌, ◌-◌, ◌≤◌, ◌<◌}
use mathlib.Core.Path.{◌≡◌, refl, ◌∙◌, subst}
use mathlib.Core.List.{List, ◌++◌, append-nil, append_assoc}
use native.Mathlib.Nat.{zero-add, add-sub_cancel_left}
use native.Mathlib.Omega.{arith}
use borrow.Author.Tests.{le-leb, lt-leb}
use lib.ListN.{length, take, drop, drop_of_length-le}
use lib.Seq.{sets, sets-eq, drop-drop}
use borrow.Rule.Slice.PartMut.{put_mid}
use Rattle.wire.specs.Checks.{◌at_most◌, Check, checked, Verdict, refused, taken, ◌into◌}
use Rattle.wire.specs.Reply.{Reply, Settled, within, settle}
use Rattle.wire.specs.declared.refusal.Refusal.TheVariants.{Room}
use Rattle.wire.specs.declared.refusal.Refusal.{Refusal}
use Rattle.wire.proofs.Checks.{not-both, taken-same, chosen, through, into-checked}
use Rattle.wire.proofs.Width.{length_part}

-- a refusal
pub refuses : (reply : Reply) (out : List ℕ) (why : Refusal) → reply ≡ refused why → Settled reply out (refused why) out
refuses reply out why e = rw e (record { answer = refl; bytes = refl })

-- what is stored at a place stands between the output's bytes before it and those after it
pub stored_at : (out packet : List ℕ) (at : ℕ) → at + length packet ≤ length out → sets out at packet ≡ take at out
    ++ (packet ++ drop (at + length packet) out)
stored_at out packet at h =
    sets-eq packet out at h ∙ append_assoc (take at out) packet (drop (at + length packet) out)

-- a packet stored from the output's start is followed by the output as it was
pub stored : (packet out : List ℕ) → length packet ≤ length out → sets out 0 packet ≡ packet ++ drop (length packet) out
stored packet out h = rw zero-add at (stored_at out packet 0 (omega arith))

-- a packet
pub writes : (reply : Reply) (out packet left : List ℕ) (n : ℕ) → reply ≡ taken packet → n ≡ length packet → length packet ≤ length out
    → left ≡ sets out 0 packet → Settled reply out (taken n) left
writes reply out packet left n e l h s = rw (e, l) (record { answer = refl; bytes = s ∙ stored packet out h })

-- what is settled by a reply is settled by its equal
pub settled-by : {reply other : Reply} {out left : List ℕ} {r : Verdict ℕ} → reply ≡ other → Settled reply out r left
    → Settled other out r left
settled-by {out = out} {left = left} {r = r} e h = subst (λ (y : Reply). Settled y out r left) e h

-- a packet with too little room, and one with enough
pub no_room : (packet : List ℕ) (room : ℕ) → room < length packet → within room packet ≡ refused Room
no_room packet room h = rw (lt-leb (length packet) room h)

pub enough-room : (packet : List ℕ) (room : ℕ) → length packet ≤ room → within room packet ≡ taken packet
enough-room packet room h = rw (le-leb (length packet) room h)

-- what was taken within a room is the packet
pub within-taken : (room : ℕ) (packet given : List ℕ) → within room packet ≡ taken given → packet ≡ given
within-taken room packet given =
    chosen (length packet at_most room) (taken packet) (refused Room) (taken given)
    (λ _. taken-same packet given)
    (λ _. not-both (refused Room) Room given refl)

-- a packet that the room alone decides on
module _ (reply : Reply) (packet out : List ℕ) (e : reply ≡ within (length out) packet) where
  pub lacks-room : length out < length packet → Settled reply out (refused Room) out
  lacks-room h = refuses reply out Room (e ∙ no_room packet (length out) h)

  pub has_room : (left : List ℕ) (n : ℕ) → n ≡ length packet → length packet ≤ length out → left ≡ sets out 0 packet
      → Settled reply out (taken n) left
  has_room left n l h s = writes reply out packet left n (e ∙ enough-room packet (length out) h) l h s

-- what follows some checks is settled once they are passed
pub settle-checked : {A : Type 0} (cs : List Check) (v : Verdict A) (packet : List ℕ) (room : ℕ)
    → settle (checked cs v) packet room ≡ checked cs (settle v packet room)
settle-checked cs v packet room = through (λ w. settle w packet room) (λ n. refl) cs v

-- and so with more checks after what was taken
pub settle-further : {A : Type 0} (cs more : List Check) (a : A) (packet : List ℕ) (room : ℕ)
    → settle (checked cs (taken a) into (λ b. checked more (taken b))) packet room ≡ checked cs (checked more (within room packet))
settle-further cs more a packet room =
    rw (
      into-checked cs (taken a) (λ b. checked more (taken b)),
      settle-checked cs (checked more (taken a)) packet room,
      settle-checked more
          (taken a) packet room,
    )

-- bytes stored into as many bytes replace them
pub replaced : (packet out : List ℕ) → length packet ≡ length out → sets out 0 packet ≡ packet
replaced packet out h =
    rw (stored packet out (omega arith), drop_of_length-le out {i = length packet} (omega arith), append-nil)

-- a part of src copied over the part of out that begins at the place `at` is stored at that place
pub copied : (out src : List ℕ) (at from len : ℕ) → at + len ≤ length out → from + len ≤ length src → (last : List ℕ)
    → last ≡ take (from + len - from) (drop from src) → put_mid at (at + len - at) out last ≡ sets out at (take len (drop from src))
copied out src at from len h k last e =
    let s = take len (drop from src) in
    let l : length s ≡ len = length_part from len src k in
    rw (e, add-sub_cancel_left from len, add-sub_cancel_left at len, sets-eq s out at (omega arith), l, drop-drop, append_assoc)
